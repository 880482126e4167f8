-- Placing a transaction.
use Rattle.std.proofs.Common.{◌≡◌, ◌≤◌, ◌<◌, ◌+◌, ◌++◌, ◌∷◌, [], ℤ, List, length, true, refl, sym, subst, arith, Option, Some, None, length-append}
use Rattle.std.specs.Int.{w64}
use Rattle.std.specs.Prelude.{FitsSigned}
use Rattle.im_digest.specs.Digests.{Hash}
use Rattle.im_machine.specs.Machines.{Machine}
use Rattle.im_machine.specs.Steps.{Places}
use Rattle.im_machine.specs.declared.outputs.Output.{Output}
use Rattle.im_machine_laws.proofs.Sound.{IsSound}
use Rattle.im_machine_laws.proofs.SoundLemmas.{sound-placed}
use Rattle.im_model.specs.History.{IsHistory, IsTransaction}
use Rattle.im_model.specs.declared.transactions.Transaction.{Transaction}
use Rattle.im_tx.specs.Asked.{Asked, IsAsked}
use Rattle.im_versions.specs.Admits.{place_refusal}
use Rattle.im_versions.specs.declared.refusals.PlaceError.{PlaceError}
use Rattle.im_model.proofs.HistoryLemmas.{last-least, Follow-behind}
use Rattle.im_versions.proofs.RoomLemmas.{admitted-room}

-- what is placed is a history with it
pub history-more : (hash : Hash) (m : Machine) (ts : ℤ) (asked : Asked) → IsSound hash m → FitsSigned w64 ts → IsAsked asked → place_refusal m.placed asked.pres ≡ None
    → (let tx : Transaction = record { ts = ts; entries = asked.entries; bl = m.linked } in IsHistory (m.placed ++ tx ∷ []))
history-more hash m ts asked s fits is none =
    let tx : Transaction = record { ts = ts; entries = asked.entries; bl = m.linked } in
    let one : List Transaction = tx ∷ [] in
    let room : length m.placed < 1048576 = admitted-room m.placed asked.pres none in
    let linked : m.linked ≤ m.durable = s.order.linked_durable in
    let durable : m.durable ≤ length m.placed = s.order.durable_placed in
    let limits : IsTransaction (0 + length m.placed) tx = record {
      some = is.some;
      few = is.few;
      entries = is.each;
      distinct = is.distinct;
      linked = omega (arith, linked, durable);
      timed = fits;
    } in
    record {
      few = omega (arith, room, length-append m.placed one);
      follow = Follow-behind 0 0 m.placed tx s.history.follow (last-least 0 m.linked m.placed (omega arith) s.order.least) limits;
    }

-- it is placed, or refused
pub sound-place : (hash : Hash) (m next : Machine) (tx : Transaction) (why : Option PlaceError) (output : Output) → IsSound hash m → m.up ≡ true → tx.bl ≤ m.linked
    → (why ≡ None → IsHistory (m.placed ++ tx ∷ [])) → Places hash m tx why output next → IsSound hash next
sound-place hash m next tx None output s up over is does = subst (IsSound hash) (sym does.1) (sound-placed hash m tx s up (is refl) over)
sound-place hash m next tx (Some why) output s up over is does = subst (IsSound hash) (sym does.1) s
