use Rattle.std.proofs.Common.{◌≡◌, ◌≤◌, ◌∙◌, [], ℕ, List, length, ap, sym, subst, arith}
use mathlib.Core.List.{IsPrefix}
use Rattle.std.specs.List.{All, sum_by}
use Rattle.im_disk.proofs.Leaving.{leaves_weaker}
use Rattle.im_format.specs.Standing.{StandsFrom}
use Rattle.im_journal.specs.Kept.{Kept}
use Rattle.im_table.specs.Histories.{history_of}
use Rattle.im_table.specs.Known.{KnownPass, TableId}
use Rattle.im_table.specs.Passes.{IsPassOf}
use Rattle.im_table.specs.References.{AreLaid, IsLawful}
use Rattle.im_table.specs.Views.{placed_by}
use Rattle.im_model.specs.Counts.{times}
use Rattle.im_table.specs.declared.items.LogItem.{LogItem}
use Rattle.im_table.specs.declared.roles.Roles.{Roles}
use Rattle.im_table.specs.declared.view.Least.{Least}
use Rattle.im_table.proofs.FrontLemmas.{prefix_length, prefix_trans}
use Rattle.im_seated_journal.proofs.ServeLemmas.{stands_more}
use Rattle.im_store.specs.Closing.{failures_told, own_count, AreAll, ClosesStore}
use Rattle.im_store.proofs.CloseLemmas.{gathered_durable, gathered_failed, gathered_faults, gathered_leaves, gathered_linked, gathered_own, gathered_roles, gathered_seen, gathered_weight, sum_none}
use Rattle.im_store.proofs.MomentLemmas.{front_now, whole_now}
use Rattle.im_store.proofs.store.Store.close.Goals as goal

-- each keeper is of the store's tip
pub join-requires-clause-table : goal.join-requires-clause-table
join-requires-clause-table g c = c.into_parts-placed.ensures.pass.0 ∙ sym c.args.self.named

pub join-requires-clause-other : goal.join-requires-clause-other
join-requires-clause-other g c = c.into_parts-journal.ensures.pass.0 ∙ sym c.args.self.named

pub join-requires-2-clause-table : goal.join-requires-2-clause-table
join-requires-2-clause-table g c = c.join.ensures.table ∙ c.into_parts-placed.ensures.pass.0 ∙ sym c.args.self.named

pub join-requires-2-clause-other : goal.join-requires-2-clause-other
join-requires-2-clause-other g c = c.into_parts-indexed.ensures.pass.0 ∙ sym c.args.self.named

pub join-requires-3-clause-table : goal.join-requires-3-clause-table
join-requires-3-clause-table g c = c.join-2.ensures.table ∙ c.join.ensures.table ∙ c.into_parts-placed.ensures.pass.0 ∙ sym c.args.self.named

pub join-requires-3-clause-other : goal.join-requires-3-clause-other
join-requires-3-clause-other g c = c.into_parts-linked.ensures.pass.0 ∙ sym c.args.self.named

-- the four keepers have come together: their holder has all roles
pub take_in-requires-clause-keeper : goal.take_in-requires-clause-keeper
take_in-requires-clause-keeper g c =
    let k = c.into_parts-placed.result.2 in
    let w = c.into_parts-journal.result.1 in
    let i = c.into_parts-indexed.result.1 in
    let t = c.into_parts-linked.result.1 in (
      c.join-3.ensures.table ∙ c.join-2.ensures.table ∙ c.join.ensures.table ∙ c.into_parts-placed.ensures.pass.0 ∙ sym c.args.self.named,
      gathered_roles k w i t c.join.new.pass c.join-2.new.pass c.join-3.new.pass c.into_parts-placed.ensures.pass.1 c.into_parts-journal.ensures.pass.1 c.into_parts-indexed.ensures.pass.1
          c.into_parts-linked.ensures.pass.1 c.join.ensures.view c.join-2.ensures.view c.join-3.ensures.view,
    )

pub take_in-requires-clause-passes : goal.take_in-requires-clause-passes
take_in-requires-clause-passes g c = subst (λ (table : TableId). All (IsPassOf table) c.args.passes.items) (sym c.args.self.named) c.requires.passes

pub close-requires-clause-table : goal.close-requires-clause-table
close-requires-clause-table g c = c.take_in.ensures.keeper.0

pub close-requires-clause-role : goal.close-requires-clause-role
close-requires-clause-role g c = ap (λ (r : Roles). r.book) c.take_in.ensures.keeper.1

-- the list is the book's, what is durable and what has failed is the journal's, and what is linked the tree's
pub returns : goal.returns
returns g c =
    let told = g.D.Disk.told in
    let hash = g.N.TipName.digest in
    let book = c.into_parts-placed.ensures in
    let journal = c.into_parts-journal.ensures in
    let index = c.into_parts-indexed.ensures in
    let tree = c.into_parts-linked.ensures in
    let k = c.into_parts-placed.result.2 in
    let w = c.into_parts-journal.result.1 in
    let i = c.into_parts-indexed.result.1 in
    let t = c.into_parts-linked.result.1 in
    let a = c.join.new.pass in
    let b = c.join-2.new.pass in
    let d = c.join-3.new.pass in
    let va = c.join.ensures.view in
    let vb = c.join-2.ensures.view in
    let vd = c.join-3.ensures.view in
    let kept : Kept g.row.D.Denot = c.into_inner-2.result in
    let size : ℕ = c.into_inner-4.result.size in
    let items : List LogItem = c.into_inner.result in
    let last = c.take_in.new.keeper in
    let here : d.view.seen ≡ items = gathered_seen k w i t a b d book.pass.1 journal.pass.1 index.pass.1 tree.pass.1 va vb vd ∙ book.seen in
    let seen : last.view.seen ≡ items = c.take_in.ensures.same.0 ∙ here in
    let writer : IsPrefix w.view.seen items =
    subst (λ (l : List LogItem). IsPrefix w.view.seen l) here
    (prefix_trans w.view.seen a.view.seen d.view.seen c.join.ensures.theirs (prefix_trans a.view.seen b.view.seen d.view.seen c.join-2.ensures.mine c.join-3.ensures.mine)) in
    let durable : last.view.least.durable ≡ kept.durable =
    ap (λ (l : Least). l.durable) c.take_in.ensures.same.1 ∙ gathered_durable k w i t a b d book.pass.1 journal.pass.1 index.pass.1 tree.pass.1 va vb vd ∙ journal.words.0 in
    let failed : last.view.least.failed ≡ kept.failures =
    ap (λ (l : Least). l.failed) c.take_in.ensures.same.1 ∙ gathered_failed k w i t a b d book.pass.1 journal.pass.1 index.pass.1 tree.pass.1 va vb vd ∙ journal.words.1 in
    let linked : last.view.least.linked ≡ size =
    ap (λ (l : Least). l.linked) c.take_in.ensures.same.1 ∙ gathered_linked k w i t a b d book.pass.1 journal.pass.1 index.pass.1 tree.pass.1 va vb vd ∙ tree.size.0 in
    let none : d.view.weight ≡ 0 = gathered_weight k w i t a b d book.pass.1 journal.pass.1 index.pass.1 tree.pass.1 va vb vd book.pass.2 journal.pass.2 index.pass.2 tree.pass.2 in
    let bare : d.view.leaves ≡ 0 = gathered_leaves k w i t a b d book.pass.1 journal.pass.1 index.pass.1 tree.pass.1 va vb vd book.pass.4 journal.pass.4 index.pass.4 tree.pass.4 in
    let quiet : d.view.faults ≡ 0 = gathered_faults k w i t a b d book.pass.1 journal.pass.1 index.pass.1 tree.pass.1 va vb vd book.pass.5 journal.pass.5 index.pass.5 tree.pass.5 in
    let own = gathered_own k w i t a b d book.pass.1 journal.pass.1 index.pass.1 tree.pass.1 va vb vd book.pass.3 journal.pass.3 index.pass.3 tree.pass.3 in
    let whole : AreAll c.args.passes.items → last.view.weight ≡ 1048576 = λ all. omega (arith, c.take_in.ensures.weight, none, all) in
    let disk : c.into_disk.result ≡ kept.disk = c.into_disk.ensures ∙ ap (λ (j : Kept g.row.D.Denot). j.disk) journal.journal in
    let allows = g.L.Law.allows in
    let meets : IsLawful allows g.N.TipName.logs items = subst (λ (n : ℕ). IsLawful allows n items) c.args.self.logged
    (subst (λ (l : List LogItem). IsLawful allows c.args.self.tip.logs l) seen c.close.ensures.meets) in
    let laid : AreLaid g.N.TipName.logs 1 [] items = meets.laid in
    let counted : AreAll c.args.passes.items → sum_by failures_told c.args.passes.items ≡ kept.failures = λ all.
    (let told : last.view.faults ≡ last.view.least.failed = c.close.ensures.faults (whole all) (ap (λ (r : Roles). r.journal) c.take_in.ensures.keeper.1) in
    omega (arith, told, failed, c.take_in.ensures.faults, quiet)) in
    let quiet_of : AreAll c.args.passes.items → All (λ p. p.view.faults ≡ 0) c.args.passes.items → kept.failures ≡ 0 =
    λ all none. omega (arith, counted all, sum_none failures_told c.args.passes.items none) in
    let closes : ClosesStore g.L.Law.allows told g.D.Disk.faults hash g.N.TipName.logs g.N.TipName.found g.N.TipName.synced g.N.TipName.faults g.N.TipName.time g.N.TipName.given c.args.passes.items kept.disk
    (g.C.Clock.constant c.into_parts-placed.result.1) (g.C.Clock.given c.into_parts-placed.result.1) = record {
      items = items;
      goes_on = book.found;
      history = book.history;
      meets = meets;
      referred = book.referred;
      begins = subst (λ (l : List LogItem). All (λ (p : KnownPass). IsPrefix p.view.seen l) c.args.passes.items) seen c.take_in.ensures.begins;
      durable = kept.durable;
      within = (let le = prefix_length w.view.seen items writer in omega (arith, le, journal.within));
      known = subst (λ (n : ℕ). All (λ (p : KnownPass). p.view.least.durable ≤ n) c.args.passes.items) durable c.take_in.ensures.durable;
      images = front_now hash kept.durable w.view.seen items (told kept.disk) writer journal.images;
      moments = leaves_weaker (StandsFrom hash (length g.N.TipName.found) (history_of w.view.seen)) (StandsFrom hash (length g.N.TipName.found) (history_of items))
          (λ image s. stands_more hash (length g.N.TipName.found) w.view.seen items writer image s) g.N.TipName.synced (told kept.disk) journal.moments;
      failures = kept.failures;
      rose = journal.rose;
      failed = subst (λ (n : ℕ). All (λ (p : KnownPass). p.view.least.failed ≤ n) c.args.passes.items) failed c.take_in.ensures.failed;
      calls = journal.calls g.N.TipName.logs items writer book.found laid;
      counted = counted;
      sound = quiet_of;
      calm = λ all none. journal.calm (quiet_of all none);
      whole = λ sound all. (let le = prefix_length w.view.seen items writer in
          whole_now hash w.view.seen items (told kept.disk) writer (omega (arith, all, journal.within)) (journal.settled sound (omega (arith, le, all))));
      here = λ sound all. journal.here g.N.TipName.logs items writer book.found laid sound (omega (arith, all));
      owned = λ all n. (let sums : sum_by (own_count n) c.args.passes.items ≡ times n last.view.own = omega (arith, c.take_in.ensures.own n, ap (λ (l : List ℕ). times n l) own) in
          sums ∙ c.close.ensures.owned (whole all) n ∙ ap (λ (l : List LogItem). times n (placed_by l)) seen);
      linked = size;
      tree = omega (arith, tree.size.1, c.join-3.ensures.durable.1, gathered_durable k w i t a b d book.pass.1 journal.pass.1 index.pass.1 tree.pass.1 va vb vd, journal.words.0);
      grown = λ all. (let grew = c.close.ensures.leaves (whole all) (ap (λ (r : Roles). r.tree) c.take_in.ensures.keeper.1) in
          omega (arith, grew, c.take_in.ensures.leaves, bare, linked, ap (λ (l : List LogItem). length l) c.args.self.begun));
      raised = subst (λ (n : ℕ). All (λ (p : KnownPass). p.view.least.linked ≤ n) c.args.passes.items) linked c.take_in.ensures.linked;
      timed = book.timed;
    } in
    subst (λ disk. ClosesStore g.L.Law.allows told g.D.Disk.faults hash g.N.TipName.logs g.N.TipName.found g.N.TipName.synced g.N.TipName.faults g.N.TipName.time g.N.TipName.given c.args.passes.items disk
    (g.C.Clock.constant c.into_parts-placed.result.1) (g.C.Clock.given c.into_parts-placed.result.1)) (sym disk) closes
