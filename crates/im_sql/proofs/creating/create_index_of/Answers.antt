use Rattle.std.proofs.Common.{◌∷◌, ◌+◌, ◌-◌, ◌<◌, ◌^◌, Bor, ℕ, List, [], length, map, take, Option, Err, sym, ap, ap₂, subst, ◌∙◌, inr, arith}
use Rattle.std.specs.Option.{option_or}
use Rattle.std.proofs.lemmas.List.{length-take-le}
use Rattle.im_sqlmodel.specs.Creations.{column_fault, twice_fault, index_made, index_written}
use Rattle.im_sqlmodel.specs.Keys.{index_key, mark_key}
use Rattle.im_sqlmodel.specs.Tables.{IsTableIndex}
use Rattle.im_sqlmodel.specs.declared.answers.SqlError.{SqlError}
use Rattle.im_sqlmodel.specs.declared.answers.SqlError.TheVariants as error
use Rattle.im_sqlmodel.specs.declared.tables.SqlIndex.{SqlIndex}
use Rattle.im_sqlmodel.proofs.KeptLemmas.{kept-sound}
use Rattle.im_catalog.proofs.HistoryLemmas.{history-taken}
use Rattle.im_catalog.proofs.ThereLemmas.{rows-are, indexes-are}
use Rattle.im_catalog.proofs.OneLemmas.{Answer}
use Rattle.im_sql.proofs.AnswerLemmas.{index-fault, index-told, index-rows, index-asked, or-told}
use Rattle.im_sql.proofs.CountLemmas.{indexes-few}
use Rattle.im_sql.proofs.CreateLemmas.{index-made, index-is}
use Rattle.im_sql.proofs.creating.create_index_of.Goals as goal

-- what is wrong with the columns of a new index
abbrev fault_of : List (List ℕ) → List (List ℕ) → Option SqlError
fault_of columns names = option_or (column_fault columns names) (twice_fault names)

abbrev lent : List (Bor (List ℕ)) → List (List ℕ)
lent names = map (λ (n : Bor (List ℕ)). n.now) names

abbrev has_rows : List ℕ → Answer
has_rows name = Err (error.HasRows name)

pub has_rows-requires : goal.has_rows-requires
has_rows-requires g c = let r = c.requires.view in (r.0, r.1, r.2)

pub indexes-requires : goal.indexes-requires
indexes-requires g c = let r = c.requires.view in (r.0, r.1, r.2, kept-sound (take c.args.n r.0) r.4, r.5)

pub overflow_cast-index : goal.overflow_cast-index
overflow_cast-index g c =
    let r = c.requires.view in
    let h = take c.args.n r.0 in
    let few : length c.in_ok-others.others < 2 ^ 32 - 1 = indexes-few h c.args.table.now c.in_ok-others.others (history-taken c.args.n r.0 r.2 r.3) (c.in_ok-others.ensures r.0 r.1 r.2 (kept-sound h r.4) r.5) in
    omega (arith, few, c.len.ensures)

pub overflow_add-index : goal.overflow_add-index
overflow_add-index g c =
    let r = c.requires.view in
    let h = take c.args.n r.0 in
    let few : length c.in_ok-others.others < 2 ^ 32 - 1 = indexes-few h c.args.table.now c.in_ok-others.others (history-taken c.args.n r.0 r.2 r.3) (c.in_ok-others.ensures r.0 r.1 r.2 (kept-sound h r.4) r.5) in
    omega (arith, few, c.len.ensures)

pub ask_index-answer-requires-clause-table : goal.ask_index-answer-requires-clause-table
ask_index-answer-requires-clause-table g c = c.requires.view.5.0

pub ask_index-answer-requires-clause-index : goal.ask_index-answer-requires-clause-index
ask_index-answer-requires-clause-index g c =
    let r = c.requires.view in
    let h = take c.args.n r.0 in
    let t = c.args.table.now in
    let few : length c.in_ok-others.others < 2 ^ 32 - 1 = indexes-few h t c.in_ok-others.others (history-taken c.args.n r.0 r.2 r.3) (c.in_ok-others.ensures r.0 r.1 r.2 (kept-sound h r.4) r.5) in
    let low : c.len.result < 2 ^ 32 - 1 = omega (arith, few, c.len.ensures) in
    let names = ap lent c.as_slice.ensures.value ∙ c.in_ok-columns.ensures in
    let own = ap lent c.as_slice-3.ensures.value ∙ c.in_ok-columns.ensures in
    let none = sym c.in_default.is ∙ c.in_ok-fault.ensures ∙ ap₂ fault_of names c.as_slice-2.ensures in
    subst (IsTableIndex t) (sym (index-is c.len.result t c.args.create.now (lent c.as_slice-3.result.now) c.as_slice-4.result.now c.in_ok-numbers_of.field-0 own c.as_slice-4.ensures c.in_ok-numbers_of.ensures))
    (index-made c.len.result t c.args.create.now low c.requires.formed (sym none))

pub returns-in-Some : goal.returns-in-Some
returns-in-Some g c = λ history stands few is kept of.
    let names = ap lent c.as_slice.ensures.value ∙ c.in_ok-columns.ensures in
    inr (index-fault (take c.args.n history) c.args.create.now c.args.table.now c.in-Some.fault
    (sym c.in-Some.is ∙ c.in_ok-fault.ensures ∙ ap₂ fault_of names c.as_slice-2.ensures))

pub returns-then-branch : goal.returns-then-branch
returns-then-branch g c = λ history stands few is kept of.
    let h = take c.args.n history in
    let t = c.args.table.now in
    let create = c.args.create.now in
    let rows = rows-are h t (kept-sound h kept) of in
    let found = indexes-are h t (kept-sound h kept) of in
    let names = ap lent c.as_slice.ensures.value ∙ c.in_ok-columns.ensures in
    let none = sym c.in_default.is ∙ c.in_ok-fault.ensures ∙ ap₂ fault_of names c.as_slice-2.ensures in
    inr (index-told h create t rows.0 found.0 _ none rows.1 found.1
    (ap has_rows (c.in_ok-table.ensures ∙ c.as_slice-then-branch.ensures) ∙ index-rows h create t (length found.0) rows.0 (sym c.if-branch.true ∙ c.in_ok-has_rows.ensures history stands few rows.0 rows.1)))

pub returns : goal.returns
returns g c = λ history stands few is kept of.
    let h = take c.args.n history in
    let t = c.args.table.now in
    let create = c.args.create.now in
    let sound = kept-sound h kept in
    let rows = rows-are h t sound of in
    let others = c.in_ok-others.others in
    let numbers = c.in_ok-numbers_of.field-0 in
    let names = ap lent c.as_slice.ensures.value ∙ c.in_ok-columns.ensures in
    let own = ap lent c.as_slice-3.ensures.value ∙ c.in_ok-columns.ensures in
    let none = sym c.in_default.is ∙ c.in_ok-fault.ensures ∙ ap₂ fault_of names c.as_slice-2.ensures in
    let index : SqlIndex = record { iid = c.len.result + 1; unique = create.unique; columns = numbers } in
    let made = index-is c.len.result t create (lent c.as_slice-3.result.now) c.as_slice-4.result.now numbers own c.as_slice-4.ensures c.in_ok-numbers_of.ensures in
    or-told h create t rows.0 others c.ask_index-answer.result none rows.1 (c.in_ok-others.ensures history stands few sound of)
    (index-asked h create t (length others) c.args.n rows.0 (index_written t index) (index_key t.tid index.iid ∷ mark_key t.tid ∷ []) c.ask_index-answer.result
    (sym c.if-branch.false ∙ c.in_ok-has_rows.ensures history stands few rows.0 rows.1) (length-take-le c.args.n history few)
    (ap (index_written t) made ∙ ap (λ (k : ℕ). index_written t (index_made k t create)) c.len.ensures)
    (ap (λ (k : ℕ). index_key t.tid (k + 1) ∷ mark_key t.tid ∷ []) c.len.ensures)
    c.ask_index-answer.ensures)
