use Rattle.std.proofs.Common.{ℕ, List, ◌∷◌, [], take, sym, ap, ap₂, subst, ◌∙◌, inr}
use Rattle.std.proofs.lemmas.List.{length-take-le}
use Rattle.im_sqlmodel.specs.Keys.{table_key}
use Rattle.im_sqlmodel.specs.Tables.{IsTable}
use Rattle.im_sqlmodel.proofs.KeptLemmas.{kept-sound}
use Rattle.im_catalog.proofs.HistoryLemmas.{history-taken}
use Rattle.im_sql.specs.Writing.{table_entries, MayBePlaced}
use Rattle.im_sql.proofs.AnswerLemmas.{create-fault, create-asked}
use Rattle.im_sql.proofs.CountLemmas.{count-few}
use Rattle.im_sql.proofs.CreateLemmas.{table-made}
use Rattle.im_sql.proofs.ShortLemmas.{table-placed}
use Rattle.im_sql.proofs.creating.create_new.Goals as goal

pub count-requires : goal.count-requires
count-requires g c = let r = c.requires.view in (r.0, r.1, r.2, kept-sound (take c.args.n r.0) r.4)

pub table_made-requires-clause-count : goal.table_made-requires-clause-count
table_made-requires-clause-count g c =
    let r = c.requires.view in
    let h = take c.args.n r.0 in
    let sound = kept-sound h r.4 in
    count-few h c.in_ok-count.count (history-taken c.args.n r.0 r.2 r.3) sound (c.in_ok-count.ensures r.0 r.1 r.2 sound)

pub table_written-written-requires : goal.table_written-written-requires
table_written-written-requires g c =
    let r = c.requires.view in
    let h = take c.args.n r.0 in
    let sound = kept-sound h r.4 in
    let low = count-few h c.in_ok-count.count (history-taken c.args.n r.0 r.2 r.3) sound (c.in_ok-count.ensures r.0 r.1 r.2 sound) in
    subst IsTable (sym c.in_ok-table.ensures) (table-made c.in_ok-count.count c.args.create.now low c.requires.formed (sym c.in_ok-fault.ensures ∙ c.in_default.is))

pub ask_since-requires : goal.ask_since-requires
ask_since-requires g c =
    let r = c.requires.view in
    let h = take c.args.n r.0 in
    let sound = kept-sound h r.4 in
    let low = count-few h c.in_ok-count.count (history-taken c.args.n r.0 r.2 r.3) sound (c.in_ok-count.ensures r.0 r.1 r.2 sound) in
    let is = subst IsTable (sym c.in_ok-table.ensures) (table-made c.in_ok-count.count c.args.create.now low c.requires.formed (sym c.in_ok-fault.ensures ∙ c.in_default.is)) in
    subst MayBePlaced (sym c.in_ok-written.ensures) (table-placed c.in_ok-table.table is)

pub returns-in-Some : goal.returns-in-Some
returns-in-Some g c = λ history stands few is kept. inr (create-fault (take c.args.n history) c.args.create.now c.in-Some.fault (sym c.in-Some.is ∙ c.in_ok-fault.ensures))

pub returns : goal.returns
returns g c = λ history stands few is kept.
    let h = take c.args.n history in
    let create = c.args.create.now in
    let count : ℕ = c.in_ok-count.count in
    create-asked h create count c.args.n c.in_ok-written.written.items c.in_ok-keys.keys.items c.ask_since.result
    (sym c.in_default.is ∙ c.in_ok-fault.ensures) (c.in_ok-count.ensures history stands few (kept-sound h kept)) (length-take-le c.args.n history few)
    (c.in_ok-written.ensures ∙ ap table_entries c.in_ok-table.ensures)
    (c.in_ok-keys.ensures ∙ ap₂ (λ (first second : List ℕ). first ∷ second ∷ []) (c.in_ok-first.ensures ∙ c.tables_key.ensures) (c.in_ok-second.ensures ∙ ap table_key c.as_slice.ensures))
    c.ask_since.ensures
