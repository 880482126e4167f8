use Rattle.std.proofs.Common.{◌≡◌, ◌≤◌, ◌∙◌, ℕ, List, length, take, arith}
use Rattle.std.proofs.lemmas.List.{length-take-le}
use Rattle.im_core.specs.Parts.{IsUp}
use Rattle.im_core.specs.declared.store.OpenStore.{OpenStore}
use Rattle.im_core.proofs.ReadLemmas.{shown-step}
use Rattle.im_core.proofs.UpLemmas.{index-size, not-allowed}
use Rattle.im_digest.specs.Digests.{Hash}
use Rattle.im_index.specs.Indexed.{IsSnapshotOf}
use Rattle.im_machine.specs.Machines.{Machine}
use Rattle.im_machine.specs.declared.events.Event.TheVariants as on
use Rattle.im_model.specs.declared.transactions.Transaction.{Transaction}
use Rattle.im_core.proofs.store.OpenStore.snap.Goals as goal

-- a snapshot of the index, and how many transactions it stands for
taken-front : (hash : Hash) (s : OpenStore) (m : Machine) (number : ℕ) → IsUp hash s m → number ≤ m.indexed → number ≤ length (take number (take m.indexed m.placed))
taken-front hash s m number u within =
    let indexed : m.indexed ≤ m.durable = u.order.indexed_durable in
    let durable : m.durable ≤ length m.placed = u.order.durable_placed in
    let all : length (take m.indexed m.placed) ≡ m.indexed = length-take-le m.indexed m.placed (omega (arith, indexed, durable)) in
    let some : length (take number (take m.indexed m.placed)) ≡ number = length-take-le number (take m.indexed m.placed) (omega (arith, all, within)) in
    omega (arith, some)

pub returns-then-indexed-number : goal.returns-then-indexed-number
returns-then-indexed-number c hash m session u =
    let s : OpenStore = c.args.self.now in
    let indexed : c.taken-indexed.result ≡ m.indexed = c.taken-indexed.ensures ∙ index-size hash s m u in
    not-allowed hash s m (on.Snap session c.args.number c.args.question.now) u (λ a. let within : c.args.number ≤ m.indexed = a.1 in omega (arith, within, indexed, c.if-indexed-number.true))

pub shown_by-requires : goal.shown_by-requires
shown_by-requires c =
    let s : OpenStore = c.args.self.now in
    let hash : Hash = c.requires.0 in
    let m : Machine = c.requires.1 in
    let u : IsUp hash s m = c.requires.2 in
    let within : c.args.number ≤ m.indexed = omega (arith, c.taken-indexed.ensures, index-size hash s m u, c.if-indexed-number.false) in
    let front : List Transaction = take c.args.number (take m.indexed m.placed) in
    let shown : IsSnapshotOf c.in_ok-snapshot.snapshot front = c.in_ok-snapshot.ensures.history (take m.indexed m.placed) u.lists.index_is in
    (front, shown, taken-front hash s m c.args.number u within)

pub returns : goal.returns
returns c hash m session u =
    let s : OpenStore = c.args.self.now in
    let within : c.args.number ≤ m.indexed = omega (arith, c.taken-indexed.ensures, index-size hash s m u, c.if-indexed-number.false) in
    let front : List Transaction = take c.args.number (take m.indexed m.placed) in
    let shown : IsSnapshotOf c.in_ok-snapshot.snapshot front = c.in_ok-snapshot.ensures.history (take m.indexed m.placed) u.lists.index_is in
    shown-step hash s m u session c.args.number c.args.question.now c.in_ok-versions.versions within
    (c.in_ok-versions.ensures front shown (taken-front hash s m c.args.number u within))
