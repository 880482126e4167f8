use Rattle.std.proofs.Common.{◌≡◌, ◌∷◌, ◌∙◌, List, ℕ, [], Ok, ap₂, subst, sym}
use Rattle.im_sqlmodel.specs.Creations.{asked_since}
use Rattle.im_sqlmodel.specs.Keys.{index_key, mark_key}
use Rattle.im_sqlmodel.specs.declared.answers.SqlOut.TheVariants as out
use Rattle.im_sqlmodel.specs.declared.written.Written.{Written}
use Rattle.im_sql.specs.Writing.{Answers, MayBePlaced}
use Rattle.im_sql.proofs.ShortLemmas.{index-placed}
use Rattle.im_sql.proofs.creating.ask_index.Goals as goal

pub ask_since-requires : goal.ask_since-requires
ask_since-requires c = subst MayBePlaced (sym c.in_ok-written.ensures) (index-placed c.args.table.now c.args.index.now c.requires.table c.requires.index)

pub returns : goal.returns
returns c =
    let t = c.args.table.now in
    let i = c.args.index.now in
    let guarded : c.in_ok-keys.keys.items ≡ index_key t.tid i.iid ∷ mark_key t.tid ∷ [] =
    c.in_ok-keys.ensures ∙ ap₂ (λ (first second : List ℕ). first ∷ second ∷ []) c.in_ok-key.ensures c.in_ok-mark.ensures in
    subst (λ (ws : List Written). Answers c.ask_since.result (Ok (out.Write (asked_since c.args.n ws (index_key t.tid i.iid ∷ mark_key t.tid ∷ []))))) c.in_ok-written.ensures
    (subst (λ (ks : List (List ℕ)). Answers c.ask_since.result (Ok (out.Write (asked_since c.args.n c.in_ok-written.written.items ks)))) guarded c.ask_since.ensures)
