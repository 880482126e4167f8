use Rattle.std.proofs.Common.{◌≡◌, ◌≤◌, ◌∷◌, length, Some, filter, map, sym, ap, subst, ◌∙◌, arith}
use Rattle.im_sqlmodel.specs.Writes.{put_written, marked, guarded, is_guarded}
use Rattle.im_sqlmodel.specs.declared.written.Written.{Written}
use Rattle.im_sql.specs.Writing.{MayBePlaced}
use Rattle.im_sql.proofs.AnswerLemmas.{placed-within}
use Rattle.im_sql.proofs.ShortLemmas.{marked-placed}
use Rattle.im_sql.proofs.placing.placed.Goals as goal

pub ask_since-requires : goal.ask_since-requires
ask_since-requires c =
    let t = c.args.table.now in
    let whole : c.in_ok-written.written.items ≡ marked t c.args.writes =
    c.in_ok-written.ensures ∙ c.in_ok-put.ensures.ok ∙ (λ i. put_written (record { key = c.in_ok-mark_key.ensures i; value = Some (c.new.ensures i) }) c.args.writes) in
    let few : length (marked t c.args.writes) ≤ 1024 = omega (arith, c.len.ensures, c.if-len.false, ap length whole) in
    subst MayBePlaced (sym whole) (marked-placed t c.args.writes c.requires.fine few)

pub returns : goal.returns
returns c =
    let t = c.args.table.now in
    let indexes = c.args.indexes.now in
    let whole : c.in_ok-written.written.items ≡ marked t c.args.writes =
    c.in_ok-written.ensures ∙ c.in_ok-put.ensures.ok ∙ (λ i. put_written (record { key = c.in_ok-mark_key.ensures i; value = Some (c.new.ensures i) }) c.args.writes) in
    let few : length (marked t c.args.writes) ≤ 1024 = omega (arith, c.len.ensures, c.if-len.false, ap length whole) in
    let keys : c.in_ok-keys.keys.items ≡ guarded t indexes c.in_ok-written.written.items =
    c.in_ok-keys.ensures ∙ (λ i. c.in_ok-next.ensures i ∷ filter is_guarded (map (λ (w : Written). w.key) (c.as_slice.ensures.value i))) in
    placed-within c.args.n t indexes c.args.writes c.in_ok-written.written.items c.in_ok-keys.keys.items c.ask_since.result few whole (keys ∙ ap (guarded t indexes) whole) c.ask_since.ensures
