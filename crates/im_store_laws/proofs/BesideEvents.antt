-- What rests goes on resting beside events that don't call its disk.
use Rattle.std.proofs.Common.{◌≡◌, ◌+◌, ◌++◌, ◌∷◌, [], ℕ, List, Option, None, Some, sym, subst, inl, inr}
use Rattle.im_digest.specs.Digests.{Hash}
use Rattle.im_disk.specs.Disk.{Told}
use Rattle.im_format.specs.declared.records.Record.{Record}
use Rattle.im_machine.specs.Machines.{raised, Machine}
use Rattle.im_machine.specs.Steps.{loaded, Does, Places, Steps}
use Rattle.im_machine.specs.declared.events.Event.{Event}
use Rattle.im_machine.specs.declared.events.Event.TheVariants as on
use Rattle.im_machine.specs.declared.outputs.Output.{Output}
use Rattle.im_machine.specs.declared.words.Word.{Word}
use Rattle.im_machine.specs.declared.words.Word.TheVariants.{Placed, Durable, Linked, Indexed, Failed}
use Rattle.im_model.specs.declared.transactions.Transaction.{Transaction}
use Rattle.im_store_laws.specs.DiskEvents.{IsBeside, RestsOn}
use Rattle.im_versions.specs.Admits.{place_refusal}
use Rattle.im_versions.specs.declared.refusals.PlaceError.{PlaceError}

module _ (hash : Hash) (m next : Machine) (output : Output) (batches : List (List Record)) (t : Told) (rests : RestsOn m batches t) where
  -- a machine that has the same disk and batches
  abbrev with_words : List Transaction → ℕ → ℕ → (ℕ → ℕ) → Machine
  with_words placed linked indexed sessions = record m { placed = placed; linked = linked; indexed = indexed; sessions = sessions }

  goes_on : (placed : List Transaction) (linked indexed : ℕ) (sessions : ℕ → ℕ) → next ≡ with_words placed linked indexed sessions → RestsOn next batches t
  goes_on placed linked indexed sessions is = subst (λ (s : Machine). RestsOn s batches t) (sym is)
      (record { going = rests.going; idle = rests.idle; batches_are = rests.batches_are; durable_are = rests.durable_are; disk_is = rests.disk_is })

  same : next ≡ m → RestsOn next batches t
  same is = subst (λ (s : Machine). RestsOn s batches t) (sym is) rests

  placed_on : (tx : Transaction) (why : Option PlaceError) → Places hash m tx why output next → RestsOn next batches t
  placed_on tx None places = goes_on (m.placed ++ tx ∷ []) m.linked m.indexed m.sessions places.1
  placed_on tx (Some why) places = same places.1

  loaded_on : (session : ℕ) (word : Word) → next ≡ loaded m session word → RestsOn next batches t
  loaded_on session Placed is = same is
  loaded_on session Durable is = goes_on m.placed m.linked m.indexed (raised m.sessions session m.durable) is
  loaded_on session Linked is = same is
  loaded_on session Indexed is = same is
  loaded_on session Failed is = same is

  does_on : (event : Event) → IsBeside event → Does hash m event output next → RestsOn next batches t
  does_on (on.Place session ts asked) beside does = placed_on (record { ts = ts; entries = asked.entries; bl = m.linked }) (place_refusal m.placed asked.pres) does
  does_on (on.Stage last fails) beside does = absurd beside
  does_on (on.Seal fails) beside does = absurd beside
  does_on (on.Gate fails) beside does = absurd beside
  does_on (on.Settle fails) beside does = absurd beside
  does_on (on.Ack session number) beside does = same does.1
  does_on on.Fault beside does = absurd beside
  does_on on.Link beside does = goes_on m.placed (m.linked + 1) m.indexed m.sessions does.1
  does_on on.Index beside does = goes_on m.placed m.linked (m.indexed + 1) m.sessions does.1
  does_on (on.Load session word) beside does = loaded_on session word does.1
  does_on (on.Snap session number question) beside does = same does.1
  does_on (on.Prove session question) beside does = same does.1
  does_on (on.Crash image) beside does = absurd beside
  does_on on.Open beside does = absurd beside

pub rest_kept : (hash : Hash) (m next : Machine) (event : Event) (output : Output) (batches : List (List Record)) (t : Told) → IsBeside event → Steps hash m event output next → RestsOn m batches t
    → RestsOn next batches t
rest_kept hash m next event output batches t beside (inl step) rests = does_on hash m next output batches t rests event beside step.1
rest_kept hash m next event output batches t beside (inr none) rests = same hash m next output batches t rests none.2
