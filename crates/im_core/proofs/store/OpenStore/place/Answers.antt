use Rattle.std.proofs.Common.{◌≡◌, ◌∙◌, ◌+◌, ◌++◌, ◌∷◌, [], List, ℤ, w64, length, sym, ap, subst, arith, ⊎_elim, length-append}
use Rattle.std.proofs.lemmas.Int.{to_z-of_z}
use Rattle.std.proofs.lemmas.Result.{IfOk-weaker}
use Rattle.im_book.specs.Booked.{last_bl, Booked}
use Rattle.im_core.specs.Parts.{Answers, IsUp}
use Rattle.im_core.proofs.PlaceLemmas.{last-within, placed-step, refused-step, tx_of, up-placed}
use Rattle.im_machine.proofs.StepLemmas.{with_tx}
use Rattle.im_core.proofs.UpLemmas.{alhs-count, placed-count, tree-size}
use Rattle.im_core.specs.declared.store.OpenStore.{OpenStore}
use Rattle.im_digest.specs.Digests.{Hash}
use Rattle.im_machine.specs.Machines.{Machine}
use Rattle.im_machine.specs.Steps.{Steps}
use Rattle.im_machine.specs.declared.events.Event.TheVariants as on
use Rattle.im_machine.specs.declared.outputs.Output.{Output}
use Rattle.im_machine.specs.declared.outputs.Output.TheVariants as says
use Rattle.im_model.specs.History.{alhs_of, bl_root_of, header_of}
use Rattle.im_model.specs.declared.transactions.Transaction.{Transaction}
use Rattle.im_tx.specs.Asked.{Asked}
use Rattle.im_versions.specs.Admits.{place_refusal}
use Rattle.im_versions.specs.declared.refusals.PlaceError.TheVariants.{Memory}
use Rattle.std.specs.Prelude.{None, Some}
use Rattle.im_core.proofs.store.OpenStore.place.Goals as goal
use Rattle.im_model.proofs.HistoryLemmas.{root-of-first}

pub place-requires-clause-book : goal.place-requires-clause-book
place-requires-clause-book g c = c.requires.1.lists.book_is

pub place-requires-clause-over : goal.place-requires-clause-over
place-requires-clause-over g c =
    let hash : Hash = g.H.Hash32.digest c.args.hash.now in
    let s : OpenStore = c.args.self.now in
    let m : Machine = c.requires.0 in
    let u : IsUp hash s m = c.requires.1 in
    let bl : c.size-bl.result ≡ m.linked = c.size-bl.ensures ∙ tree-size hash s m u in
    let last = last-within m.linked m.placed u.order.least in
    let same : last_bl s.book.transactions ≡ last_bl m.placed = ap (λ (l : List Transaction). last_bl l) u.lists.placed_is in (
      omega (arith, last, same, bl),
      omega (arith, bl, placed-count hash s m u, u.order.linked_durable, u.order.durable_placed),
    )

pub place-requires-clause-root : goal.place-requires-clause-root
place-requires-clause-root g c =
    let hash : Hash = g.H.Hash32.digest c.args.hash.now in
    let s : OpenStore = c.args.self.now in
    let m : Machine = c.requires.0 in
    let u : IsUp hash s m = c.requires.1 in
    let alhs = alhs_of hash m.placed in
    let bl : c.size-bl.result ≡ m.linked = c.size-bl.ensures ∙ tree-size hash s m u in
    let kept : s.book.alhs ≡ alhs = u.lists.book_is.alhs ∙ ap (alhs_of hash) u.lists.placed_is in
    c.root_of-root.ensures _ u.lists.tree_is
    ∙ root-of-first hash alhs m.linked (omega (arith, alhs-count hash s m u, u.order.linked_durable, u.order.durable_placed))
    ∙ ap (λ l. bl_root_of hash l m.linked) (sym kept) ∙ ap (λ n. bl_root_of hash s.book.alhs n) (sym bl)

pub returns-in-Ok : goal.returns-in-Ok
returns-in-Ok g c m session u =
    let hash : Hash = g.H.Hash32.digest c.args.hash.now in
    let s : OpenStore = c.args.self.now in
    let asked : Asked = c.args.prepared.now in
    let copied : c.in_ok-copy.copy ≡ asked = c.in_ok-copy.ensures in
    let bl : c.size-bl.result ≡ m.linked = c.size-bl.ensures ∙ tree-size hash s m u in
    let tx : Transaction = tx_of m c.args.ts asked in
    let one : List Transaction = tx ∷ [] in
    let ens = c.in-Ok.ensures in
    let grown : c.place.new.self.transactions ≡ s.book.transactions ++ one =
    ens.placed ∙ ap (λ (z : ℤ). s.book.transactions ++ record { ts = z; entries = c.in_ok-copy.copy.entries; bl = c.size-bl.result } ∷ []) (to_z-of_z w64 c.args.ts c.ranges.ts)
    ∙ ap (λ (a : Asked). s.book.transactions ++ record { ts = c.args.ts; entries = a.entries; bl = c.size-bl.result } ∷ []) copied
    ∙ ap (λ n. s.book.transactions ++ record { ts = c.args.ts; entries = asked.entries; bl = n } ∷ []) bl in
    let placed : c.place.new.self.transactions ≡ m.placed ++ one = grown ∙ ap (λ (l : List Transaction). l ++ one) u.lists.placed_is in
    let count : length c.place.new.self.transactions ≡ length m.placed + 1 = ap (λ (l : List Transaction). length l) placed ∙ length-append m.placed one in
    let none : place_refusal m.placed asked.pres ≡ None =
    ap (λ (l : List Transaction). place_refusal l asked.pres) (sym u.lists.placed_is) ∙ ap (λ (a : Asked). place_refusal s.book.transactions a.pres) (sym copied) ∙ ens.admitted in
    let header : c.in-Ok.header ≡ header_of hash (m.placed ++ one) (length m.placed + 1) =
    ens.header ∙ ap (λ (l : List Transaction). header_of hash l (length c.place.new.self.transactions)) placed ∙ ap (λ n. header_of hash (m.placed ++ one) n) count in (
      with_tx m tx,
      placed-step hash m session c.args.ts asked c.in-Ok.header u.up none header,
      up-placed hash s m c.place.new.self tx u ens.book grown (omega arith),
    )

pub returns-in-Err : goal.returns-in-Err
returns-in-Err g c m session u =
    let hash : Hash = g.H.Hash32.digest c.args.hash.now in
    let s : OpenStore = c.args.self.now in
    let asked : Asked = c.args.prepared.now in
    let copied : c.in_ok-copy.copy ≡ asked = c.in_ok-copy.ensures in
    let at : c.len-at.result ≡ length m.placed = c.len-at.ensures ∙ placed-count hash s m u in
    let now : OpenStore = record { book = c.place.new.self; tree = s.tree; index = s.index; journal = s.journal; failures = s.failures; stopped = s.stopped } in
    let same : now ≡ s = ap (λ (b : Booked). record { book = b; tree = s.tree; index = s.index; journal = s.journal; failures = s.failures; stopped = s.stopped }) c.in-Err.ensures.left in
    let told : Output → Type 0 = λ output. Answers hash m (on.Place session c.args.ts asked) output now in
    ⊎_elim
    (λ (is : c.in-Err.why ≡ Memory). IfOk-weaker c.refused.result (λ output. ⊥) told (λ output denied. absurd denied) (c.refused.ensures.memory is))
    (λ (is : place_refusal s.book.transactions c.in_ok-copy.copy.pres ≡ Some c.in-Err.why).
    let why : place_refusal m.placed asked.pres ≡ Some c.in-Err.why =
    ap (λ (l : List Transaction). place_refusal l asked.pres) (sym u.lists.placed_is) ∙ ap (λ (a : Asked). place_refusal s.book.transactions a.pres) (sym copied) ∙ is in
    IfOk-weaker c.refused.result (λ output. output ≡ says.Refused c.in-Err.why c.len-at.result) told
    (λ output tells. (
      m,
      subst (λ (o : Output). Steps hash m (on.Place session c.args.ts asked) o m) (sym tells) (refused-step hash m session c.args.ts asked c.in-Err.why c.len-at.result u.up why at),
      subst (λ (x : OpenStore). IsUp hash x m) (sym same) u,
    ))
    c.refused.ensures.told)
    c.in-Err.ensures.refused
