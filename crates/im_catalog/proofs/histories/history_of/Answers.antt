use Rattle.std.proofs.Common.{◌<◌, ◌^◌, ◌∙◌, ℕ, List, filter, not, [], take, sym, subst}
use Rattle.std.specs.List.{All, AllZip, count_by}
use Rattle.im_versions.specs.Versions.{is_of}
use Rattle.im_versions.specs.declared.versions.Version.{Version}
use Rattle.im_versions.specs.Changes.{AreChanges}
use Rattle.im_sqltype.specs.Orders.{octets_cmp}
use Rattle.im_sqlmodel.specs.Rows.{IsRevision, numbered}
use Rattle.im_sqlmodel.specs.Sorts.{sorted}
use Rattle.im_catalog.specs.Rows.{IsRowIfLive}
use Rattle.im_catalog.proofs.ChangeLemmas.{changes-few, changes-rows, changes-history}
use Rattle.im_catalog.proofs.HistoryLemmas.{history-taken}
use Rattle.im_catalog.proofs.histories.history_of.Goals as goal

pub changes-requires : goal.changes-requires
changes-requires g c = (c.requires.0, c.requires.1, c.requires.2)

pub revisions_of-requires-clause-few : goal.revisions_of-requires-clause-few
revisions_of-requires-clause-few g c =
    let r = c.requires in
    let are = subst (λ prefix. AreChanges (take c.args.n r.0) prefix c.in_ok-changes.changes) (c.as_slice.ensures ∙ c.in_ok-prefix.ensures) (c.in_ok-changes.ensures r.0 r.1 r.2) in
    subst (λ (vs : List Version). (key : List ℕ) → count_by (is_of key) vs < 2 ^ 63) (sym c.as_slice-2.ensures)
    (changes-few (take c.args.n r.0) c.args.table.now c.in_ok-changes.changes (history-taken c.args.n r.0 r.2 r.3) are)

pub revisions_of-requires-clause-texts : goal.revisions_of-requires-clause-texts
revisions_of-requires-clause-texts g c =
    let r = c.requires in
    let are = subst (λ prefix. AreChanges (take c.args.n r.0) prefix c.in_ok-changes.changes) (c.as_slice.ensures ∙ c.in_ok-prefix.ensures) (c.in_ok-changes.ensures r.0 r.1 r.2) in
    subst (All (IsRowIfLive c.args.table.now)) (sym c.as_slice-2.ensures)
    (changes-rows (take c.args.n r.0) c.args.table.now c.in_ok-changes.changes (history-taken c.args.n r.0 r.2 r.3) r.4 r.5 are)

pub returns : goal.returns
returns g c = λ history stands few is kept of.
    let are = subst (λ prefix. AreChanges (take c.args.n history) prefix c.in_ok-changes.changes) (c.as_slice.ensures ∙ c.in_ok-prefix.ensures) (c.in_ok-changes.ensures history stands few) in
    changes-history (take c.args.n history) c.args.table.now c.in_ok-changes.changes c.in_ok-rows.rows.items are
    (subst (λ (vs : List Version). AllZip (IsRevision c.args.table.now) (sorted (λ a b. octets_cmp a.1.key b.1.key) (filter (λ p. not p.1.deleted) (numbered [] vs))) c.in_ok-rows.rows.items)
    c.as_slice-2.ensures c.in_ok-rows.ensures)
