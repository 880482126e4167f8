use Rattle.std.proofs.Common.{◌≡◌, List, IfOk, ℕ, ap, subst, ◌∙◌}
use Rattle.std.specs.List.{AllZip}
use Rattle.im_versions.specs.declared.versions.Version.{Version}
use Rattle.im_sqltype.specs.Orders.{octets_cmp}
use Rattle.im_sqlmodel.specs.Rows.{IsRevision}
use Rattle.im_sqlmodel.specs.Sorts.{sorted}
use Rattle.im_catalog.specs.Numbered.{pairs_of}
use Rattle.im_catalog.proofs.RevisionLemmas.{in_order, numbers-of, texts-of}
use Rattle.im_catalog.proofs.histories.revisions_of.Goals as goal

pub rows_of-requires-clause-numbers : goal.rows_of-requires-clause-numbers
rows_of-requires-clause-numbers c =
    let same : pairs_of c.as_slice.result.now ≡ in_order c.args.changes.now =
    ap pairs_of c.as_slice.ensures.value ∙ c.in_ok-sort_by_key.ensures ∙ ap (sorted (λ a b. octets_cmp a.1.key b.1.key)) c.in_ok-numbered.ensures in
    numbers-of c.args.changes.now c.as_slice.result.now c.requires.few same

pub rows_of-requires-clause-texts : goal.rows_of-requires-clause-texts
rows_of-requires-clause-texts c =
    let same : pairs_of c.as_slice.result.now ≡ in_order c.args.changes.now =
    ap pairs_of c.as_slice.ensures.value ∙ c.in_ok-sort_by_key.ensures ∙ ap (sorted (λ a b. octets_cmp a.1.key b.1.key)) c.in_ok-numbered.ensures in
    texts-of c.args.table.now c.args.changes.now c.as_slice.result.now c.requires.texts same

pub returns : goal.returns
returns c =
    let same : pairs_of c.as_slice.result.now ≡ in_order c.args.changes.now =
    ap pairs_of c.as_slice.ensures.value ∙ c.in_ok-sort_by_key.ensures ∙ ap (sorted (λ a b. octets_cmp a.1.key b.1.key)) c.in_ok-numbered.ensures in
    subst (λ (ps : List (ℕ × Version)). IfOk c.rows_of.result (λ rows. AllZip (IsRevision c.args.table.now) ps rows.items)) same c.rows_of.ensures
