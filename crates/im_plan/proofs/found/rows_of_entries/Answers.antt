use Rattle.std.proofs.Common.{◌≡◌, ◌+◌, ◌∙◌, ℕ, [], List, Some, false, take, sym, subst}
use Rattle.std.proofs.lemmas.List.{take_all}
use Rattle.std.specs.List.{All, AllZip}
use Rattle.im_versions.specs.Versions.{is_live}
use Rattle.im_versions.specs.declared.versions.Version.{Version}
use Rattle.im_sqltype.specs.Texts.{row_text}
use Rattle.im_sqlmodel.specs.Rows.{columns_of}
use Rattle.im_sqlmodel.specs.declared.rows.StoredRow.{StoredRow}
use Rattle.im_catalog.specs.Rows.{RowAt}
use Rattle.im_catalog.proofs.ZipLemmas.{zip-more}
use Rattle.im_plan.specs.Plans.{HasEntryText, IsKeyOfEntry}
use Rattle.im_plan.proofs.EntryRowLemmas.{Octets8, IsLiveKey, octets_of, entries-there, entry-texts, keys-live, live-key-there, rows-of-entries}
use Rattle.im_plan.proofs.found.rows_of_entries.Goals as goal

pub scan-requires : goal.scan-requires
scan-requires g c = (c.requires.view.0, c.requires.view.1, c.requires.view.2)

pub row_keys-requires-clause-table : goal.row_keys-requires-clause-table
row_keys-requires-clause-table g c = c.requires.view.4.0.0

pub row_keys-requires-clause-index : goal.row_keys-requires-clause-index
row_keys-requires-clause-index g c = c.requires.view.4.1

pub row_keys-requires-clause-texts : goal.row_keys-requires-clause-texts
row_keys-requires-clause-texts g c =
    let r = c.requires.view in
    let history = take c.args.n r.0 in
    subst (All (HasEntryText c.args.table.now c.args.index.now)) (sym c.as_slice.ensures)
    (entry-texts history c.args.table.now c.args.index.now c.in_ok-shown.shown
    (entries-there history c.args.table.now c.args.index.now c.args.front.now c.in_ok-shown.shown r.3 r.4 c.requires.front (c.in_ok-shown.ensures r.0 r.1 r.2)))

pub row_at-requires-clause-view : goal.row_at-requires-clause-view
row_at-requires-clause-view g c = let r = c.requires.view in (r.0, r.1, r.2, r.3, r.4.0)

pub row_at-requires-clause-front : goal.row_at-requires-clause-front
row_at-requires-clause-front g c =
    let r = c.requires.view in
    let t = c.args.table.now in
    let h = take c.args.n r.0 in
    let scan = c.in_ok-shown.ensures r.0 r.1 r.2 in
    let zip = subst (λ (shown : List Version). AllZip (IsKeyOfEntry t c.args.index.now) shown (octets_of c.in_ok-keys.keys.items)) c.as_slice.ensures c.in_ok-keys.ensures in
    let live = subst (All (IsLiveKey h t)) (sym c.deref-key-items.ensures.value)
    (keys-live h t c.args.index.now c.args.front.now c.in_ok-shown.shown c.in_ok-keys.keys.items c.sort.new.self.items r.3 r.4 c.requires.front scan zip c.sort.ensures.permutation) in
    let key = subst (IsLiveKey h t) (sym c.key-item.is) (live c.loop-key.key-index c.key-item.result c.loop-key-test.true) in
    (row_text (columns_of key.0 t.key), c.as_slice-in-loop-key.ensures.value ∙ key.2)

pub unreachable-requires : goal.unreachable-requires
unreachable-requires g c =
    let r = c.requires.view in
    let t = c.args.table.now in
    let h = take c.args.n r.0 in
    let scan = c.in_ok-shown.ensures r.0 r.1 r.2 in
    let zip = subst (λ (shown : List Version). AllZip (IsKeyOfEntry t c.args.index.now) shown (octets_of c.in_ok-keys.keys.items)) c.as_slice.ensures c.in_ok-keys.ensures in
    let live = subst (All (IsLiveKey h t)) (sym c.deref-key-items.ensures.value)
    (keys-live h t c.args.index.now c.args.front.now c.in_ok-shown.shown c.in_ok-keys.keys.items c.sort.new.self.items r.3 r.4 c.requires.front scan zip c.sort.ensures.permutation) in
    let key = subst (IsLiveKey h t) (sym c.key-item.is) (live c.loop-key.key-index c.key-item.result c.loop-key-test.true) in
    live-key-there h t c.key-item.result key
    (subst (λ (k : List ℕ). is_live h k ≡ false) c.as_slice-in-loop-key.ensures.value
    (subst (RowAt h t c.as_slice-in-loop-key.result.now) c.in-None.is (c.in_ok-stored.ensures r.0 r.1 r.2 r.3 r.4.0)))

pub loop-key-init : goal.loop-key-init
loop-key-init g c = λ history stands few sound of.
    subst (λ (found : List StoredRow). AllZip (λ (key : Octets8) (s : StoredRow). RowAt (take c.args.n history) c.args.table.now key.items (Some s)) [] found) (sym c.in_ok-found.ensures.items) tt

pub loop-key-preserved : goal.loop-key-preserved
loop-key-preserved g c = λ history stands few sound of.
    let t = c.args.table.now in
    let h = take c.args.n history in
    let at = subst (λ (k : List ℕ). RowAt h t k (Some c.in-Some.stored)) c.as_slice-in-loop-key.ensures.value
    (subst (RowAt h t c.as_slice-in-loop-key.result.now) c.in-Some.is (c.in_ok-stored.ensures history stands few sound of.0)) in
    subst (λ (found : List StoredRow). AllZip (λ (key : Octets8) (s : StoredRow). RowAt h t key.items (Some s)) (take (c.loop-key.key-index + 1) c.deref-key-items.result.now) found) (sym c.in_ok-add-in-Some.ensures)
    (zip-more (λ (key : Octets8) (s : StoredRow). RowAt h t key.items (Some s)) c.deref-key-items.result.now c.loop-key.found.items c.loop-key.key-index c.key-item.result c.in-Some.stored
    c.loop-key-test.true c.key-item.is (c.loop-key.invariant history stands few sound of) at)

pub returns : goal.returns
returns g c = λ history stands few sound of rows all.
    let t = c.args.table.now in
    let h = take c.args.n history in
    let scan = c.in_ok-shown.ensures history stands few in
    let zip = subst (λ (shown : List Version). AllZip (IsKeyOfEntry t c.args.index.now) shown (octets_of c.in_ok-keys.keys.items)) c.as_slice.ensures c.in_ok-keys.ensures in
    let there = subst (λ (keys : List Octets8). AllZip (λ (key : Octets8) (s : StoredRow). RowAt h t key.items (Some s)) keys c.loop-key.found.items)
    (take_all c.loop-key.key-index c.deref-key-items.result.now c.loop-key-test.false ∙ c.deref-key-items.ensures.value) (c.loop-key.invariant history stands few sound of) in
    rows-of-entries h t c.args.index.now c.args.front.now c.in_ok-shown.shown c.in_ok-keys.keys.items c.sort.new.self.items rows c.loop-key.found.items sound of c.requires.front
    scan zip c.sort.ensures.permutation c.in_ok-sort.ensures.sorted there all
