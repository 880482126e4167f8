use Rattle.std.proofs.Common.{◌≡◌, ℕ, List, length, nat_eq, not, take, subst, ap, ◌∙◌}
use Rattle.im_versions.specs.Versions.{IsScan}
use Rattle.im_versions.proofs.VersionLemmas.{scan-unique}
use Rattle.im_sqlmodel.specs.Keys.{rows_prefix}
use Rattle.im_sqlmodel.specs.Rows.{IsStoredRow}
use Rattle.im_plan.proofs.EntryLemmas.{zip-length}
use Rattle.im_sql.proofs.creating.has_rows.Goals as goal

pub returns : goal.returns
returns g c = λ history stands few rows all.
    let h = take c.args.n history in
    let t = c.args.table.now in
    let scan = subst (λ (prefix : List ℕ). IsScan h prefix c.in_ok-shown.shown) (c.as_slice.ensures ∙ c.in_ok-prefix.ensures) (c.in_ok-shown.ensures history stands few) in
    let same : c.in_ok-shown.shown ≡ all.0 = scan-unique h (rows_prefix t.tid) c.in_ok-shown.shown all.0 scan all.1 in
    let long : length c.as_slice-2.result.now ≡ length rows = ap length (c.as_slice-2.ensures ∙ same) ∙ zip-length (IsStoredRow t) all.0 rows all.2 in
    ap not (c.is_empty.ensures ∙ ap (λ (k : ℕ). nat_eq k 0) long)
