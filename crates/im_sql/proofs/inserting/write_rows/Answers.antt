use Rattle.std.proofs.Common.{◌≡◌, ◌≤◌, ◌<◌, ◌∷◌, ◌+◌, inr, ℕ, List, Option, length, map, drop, get_or, refl, sym, ap, subst, take, ◌∙◌, arith}
use Rattle.std.proofs.lemmas.List.{drop_more, drop_all}
use Rattle.im_sqlparse.specs.declared.statements.Literal.{Literal}
use Rattle.im_sqltype.specs.declared.values.Value.{Value}
use Rattle.im_sqlmodel.specs.Writes.{row_given}
use Rattle.im_sqlmodel.specs.declared.answers.SqlError.{SqlError}
use Rattle.im_sqlmodel.specs.declared.tables.Table.{Table}
use Rattle.im_sqlmodel.specs.declared.written.Written.{Written}
use Rattle.im_sqlmodel.proofs.KeptLemmas.{kept-sound}
use Rattle.im_catalog.proofs.ThereLemmas.{rows-are}
use Rattle.im_sql.specs.Working.{IsTaken}
use Rattle.im_sql.proofs.GoingLemmas.{IsGoing, work_of, going-next, going-fault, going-end}
use Rattle.im_sql.proofs.WorkLemmas.{working-first}
use Rattle.im_sql.proofs.inserting.write_rows.Goals as goal

pub take_row-requires-clause-working : goal.take_row-requires-clause-working
take_row-requires-clause-working g c =
    let r = c.requires.view in
    let stood = rows-are (take c.args.n r.0) c.args.table.now (kept-sound (take c.args.n r.0) r.4) r.5 in
    let going = c.loop-i.invariant r.0 r.1 r.2 r.3 r.4 r.5 r.6 stood.0 stood.1 in
    (stood.0, going.0, going.1)

pub loop-i-init : goal.loop-i-init
loop-i-init g c = λ history stands few is kept of are stood all.
    let h = take c.args.n history in
    let t = c.args.table.now in
    let indexes = c.args.indexes.now in
    let given = map (row_given t c.args.insertion.now.columns) c.args.insertion.now.rows in
    subst (λ (ws : List Written). IsGoing h c.args.fresh t indexes given 0 given stood ws) (sym c.new-writes.ensures)
    (stood, working-first h t indexes stood (kept-sound h kept) of are all, refl)

-- the row that is taken is the next one
next-row : (t : Table) (columns names : List (List ℕ)) (rows : List (List Literal)) (literals lent : List Literal) (row taken : List Value) (i : ℕ) → row ≡ row_given t names lent → names ≡ columns → lent ≡ literals → taken ≡ row
    → i < length rows → literals ≡ get_or rows i literals → map (row_given t columns) (drop i rows) ≡ taken ∷ map (row_given t columns) (drop (i + 1) rows)
next-row t columns names rows literals lent row taken i is named same own l at =
    ap (map (row_given t columns)) (drop_more rows i literals l)
    ∙ ap (λ (r : List Value). r ∷ map (row_given t columns) (drop (i + 1) rows))
    (ap (row_given t columns) (sym at ∙ sym same) ∙ ap (λ (cs : List (List ℕ)). row_given t cs lent) (sym named) ∙ sym is ∙ sym own)

pub loop-i-preserved : goal.loop-i-preserved
loop-i-preserved g c = λ history stands few is kept of are stood all.
    let h = take c.args.n history in
    let t = c.args.table.now in
    let indexes = c.args.indexes.now in
    let fresh = c.args.fresh in
    let columns = c.args.insertion.now.columns in
    let rows = c.args.insertion.now.rows in
    let given = map (row_given t columns) rows in
    let i = c.loop-i.i in
    let literals = c.index-rows-i.result in
    let lent = c.as_slice-rows.ensures in
    let l : i < length rows = omega (arith, c.loop-i-test.true, ap length lent) in
    let at : literals ≡ get_or rows i literals = c.index-rows-i.is ∙ ap (λ (rs : List (List Literal)). get_or rs i literals) lent in
    let taken = c.as_slice-in-loop-i-3.result.now in
    let left = map (row_given t columns) (drop (i + 1) rows) in
    let step = next-row t columns (map (λ n. n.now) c.as_slice-in-loop-i.result.now) rows literals c.as_slice-in-loop-i-2.result.now c.in_ok-row.row taken i c.in_ok-row.ensures
    (ap (map (λ n. n.now)) c.as_slice-in-loop-i.ensures.value ∙ c.in_ok-names.ensures ∙ c.as_slice.ensures) c.as_slice-in-loop-i-2.ensures c.as_slice-in-loop-i-3.ensures l at in
    let going = subst (λ (rest : List (List Value)). IsGoing h fresh t indexes given i rest stood c.loop-i.writes) step (c.loop-i.invariant history stands few is kept of are stood all) in
    let told = c.in_ok-fault.ensures history stands few is kept of are stood going.0 all going.1 in
    going-next h fresh t indexes given stood i taken left c.loop-i.writes c.take_row.new.writes going
    (subst (λ (o : Option SqlError). IsTaken h fresh t indexes i taken stood (work_of going.0 c.loop-i.writes) c.take_row.new.writes o) c.in_default.is told)

pub returns-in-Some : goal.returns-in-Some
returns-in-Some g c = λ history stands few is kept of are stood all.
    let h = take c.args.n history in
    let t = c.args.table.now in
    let indexes = c.args.indexes.now in
    let fresh = c.args.fresh in
    let columns = c.args.insertion.now.columns in
    let rows = c.args.insertion.now.rows in
    let given = map (row_given t columns) rows in
    let i = c.loop-i.i in
    let literals = c.index-rows-i.result in
    let lent = c.as_slice-rows.ensures in
    let l : i < length rows = omega (arith, c.loop-i-test.true, ap length lent) in
    let at : literals ≡ get_or rows i literals = c.index-rows-i.is ∙ ap (λ (rs : List (List Literal)). get_or rs i literals) lent in
    let taken = c.as_slice-in-loop-i-3.result.now in
    let left = map (row_given t columns) (drop (i + 1) rows) in
    let step = next-row t columns (map (λ n. n.now) c.as_slice-in-loop-i.result.now) rows literals c.as_slice-in-loop-i-2.result.now c.in_ok-row.row taken i c.in_ok-row.ensures
    (ap (map (λ n. n.now)) c.as_slice-in-loop-i.ensures.value ∙ c.in_ok-names.ensures ∙ c.as_slice.ensures) c.as_slice-in-loop-i-2.ensures c.as_slice-in-loop-i-3.ensures l at in
    let going = subst (λ (rest : List (List Value)). IsGoing h fresh t indexes given i rest stood c.loop-i.writes) step (c.loop-i.invariant history stands few is kept of are stood all) in
    let told = c.in_ok-fault.ensures history stands few is kept of are stood going.0 all going.1 in
    inr (going-fault h fresh t indexes given stood i taken left c.loop-i.writes c.take_row.new.writes c.in-Some.fault going
    (subst (λ (o : Option SqlError). IsTaken h fresh t indexes i taken stood (work_of going.0 c.loop-i.writes) c.take_row.new.writes o) c.in-Some.is told))

pub returns : goal.returns
returns g c = λ history stands few is kept of are rows all.
    let h = take c.args.n history in
    let t = c.args.table.now in
    let indexes = c.args.indexes.now in
    let literals = c.args.insertion.now.rows in
    let given = map (row_given t c.args.insertion.now.columns) literals in
    let past : length literals ≤ c.loop-i.i = omega (arith, c.loop-i-test.false, ap length c.as_slice-rows.ensures) in
    let going = c.loop-i.invariant history stands few is kept of are rows all in
    let ended = subst (λ (left : List (List Literal)). IsGoing h c.args.fresh t indexes given c.loop-i.i (map (row_given t c.args.insertion.now.columns) left) rows c.loop-i.writes)
    (drop_all c.loop-i.i literals past) going in
    inr (going-end h c.args.fresh t indexes given rows c.loop-i.i c.loop-i.writes ended)
