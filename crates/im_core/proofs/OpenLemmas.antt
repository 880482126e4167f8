-- Crashes and openings.
use Rattle.std.proofs.Common.{◌≡◌, ◌<◌, ◌+◌, ◌-◌, ◌∙◌, ℕ, List, [], ◌∷◌, length, map, true, false, refl, sym, ap, subst, arith, inl, inr, Option, Some, None}
use Rattle.std.proofs.lemmas.Bool.{true≢false}
use Rattle.im_octet.proofs.Common.{some-is}
use Rattle.im_core.specs.Cores.{Follows, IsCore, IsDown, MayCrash}
use Rattle.im_core.specs.Opened.{IsOpened, IsOver, MayOpen, OpensTo}
use Rattle.im_core.specs.Parts.{tells, IsUp}
use Rattle.im_core.specs.declared.cores.Core.{Core}
use Rattle.im_core.specs.declared.cores.Core.TheVariants as core
use Rattle.im_core.specs.declared.store.OpenStore.{OpenStore}
use Rattle.im_digest.specs.Digests.{Hash}
use Rattle.im_disk.specs.Disk.{after, seen, Files, Images, Told}
use Rattle.im_disk.specs.Recorded.{told_by, Recorded}
use Rattle.im_disk.specs.Records.{files_of, told_of}
use Rattle.im_disk.specs.declared.calls.Call.TheVariants.{Synced}
use Rattle.im_format.specs.Batches.{gate_of, joined}
use Rattle.im_format.specs.Standing.{HasBatches, Stands}
use Rattle.im_format.specs.declared.records.Record.{Record}
use Rattle.im_journal.specs.Kept.{IsAtRest, Kept}
use Rattle.im_machine.specs.Allowed.{Allows}
use Rattle.im_machine.specs.Machines.{blank, disk_opened, opened, start, Machine}
use Rattle.im_machine.specs.Steps.{Steps}
use Rattle.im_machine.specs.declared.events.Event.{Event}
use Rattle.im_machine.specs.declared.events.Event.TheVariants as on
use Rattle.im_machine.specs.declared.outputs.Output.{Output}
use Rattle.im_machine.specs.declared.outputs.Output.TheVariants as says
use Rattle.im_machine.proofs.CutLemmas.{disk_by}
use Rattle.im_machine.proofs.StartLemmas.{stands-none}
use Rattle.im_model.specs.History.{IsHistory}
use Rattle.im_model.specs.declared.transactions.Transaction.{Transaction}
use Rattle.im_model.proofs.HistoryLemmas.{linked-all}
use Rattle.im_opening.specs.Cut.{repaired, IsOpenedBy}

-- where the store isn't open, no event but an opening is allowed
pub down-no : (hash : Hash) (m : Machine) (event : Event) → m.up ≡ false → (event ≡ on.Open → ⊥) → Allows hash m event → ⊥
down-no hash m (on.Place session ts asked) down other a = true≢false (sym a ∙ down)
down-no hash m (on.Stage last fails) down other a = true≢false (sym a.0.up ∙ down)
down-no hash m (on.Seal fails) down other a = true≢false (sym a.0.up ∙ down)
down-no hash m (on.Gate fails) down other a = true≢false (sym a.0.up ∙ down)
down-no hash m (on.Settle fails) down other a = true≢false (sym a.0.up ∙ down)
down-no hash m (on.Ack session number) down other a = true≢false (sym a.0 ∙ down)
down-no hash m on.Fault down other a = true≢false (sym a ∙ down)
down-no hash m on.Link down other a = true≢false (sym a.0 ∙ down)
down-no hash m on.Index down other a = true≢false (sym a.0 ∙ down)
down-no hash m (on.Load session word) down other a = true≢false (sym a ∙ down)
down-no hash m (on.Snap session number question) down other a = true≢false (sym a.0 ∙ down)
down-no hash m (on.Prove session question) down other a = true≢false (sym a.0 ∙ down)
down-no hash m (on.Crash image) down other a = true≢false (sym a.0 ∙ down)
down-no hash m on.Open down other a = other refl

-- and an opening isn't where it is open
pub open-no : (hash : Hash) (m : Machine) → m.up ≡ true → Allows hash m on.Open → ⊥
open-no hash m up a = true≢false (sym up ∙ a.0)

-- files that a crash may not leave
pub crash-no : (hash : Hash) (now : Core) (m : Machine) (image : List (List ℕ)) → IsCore hash now m → (MayCrash now image → ⊥) → Follows hash m (on.Crash image) says.NotAllowed now
crash-no hash (core.Up store) m image u denied =
    (m, inr ((λ a. denied (a.1, subst (λ (t : Told). Images t (files_of image)) (sym u.disk) a.2)), refl, refl), u)
crash-no hash (core.Down files) m image d denied = (m, inr ((λ a. true≢false (sym a.0 ∙ d.down)), refl, refl), d)

-- files that it may leave
pub crash-done : (hash : Hash) (now next : Core) (m : Machine) (image : List (List ℕ)) → IsCore hash now m → MayCrash now image → next ≡ core.Down image
    → Follows hash m (on.Crash image) says.Done next
crash-done hash (core.Up store) next m image u may is =
    let left : Machine = record m { disk = told_of image []; up = false } in
    let down : IsDown image left = record { down = refl; few = omega (arith, may.0); disk = refl } in (
      left,
      inl ((u.up, may.0, subst (λ (t : Told). Images t (files_of image)) u.disk may.1), (refl, refl)),
      subst (λ (x : Core). IsCore hash x left) (sym is) down,
    )
crash-done hash (core.Down files) next m image d may is = absurd may

-- a store is opened
pub opens-some : (hash : Hash) (m : Machine) (store : OpenStore) (now : Core) (output : Output) → MayOpen hash m (Some store) → now ≡ core.Up store
    → output ≡ says.Opened (length store.book.transactions) → Follows hash m on.Open output now
opens-some hash m store now output o is told =
    let found = o.1 in
    let next : Machine = opened m found.0 found.1.batches in (
      next,
      inl ((o.0, (found.0, found.1)), (found.0, found.1, told ∙ ap (λ (n : ℕ). says.Opened n) found.2, refl)),
      subst (λ (x : Core). IsCore hash x next) (sym is) found.3,
    )

-- the parts behind an opening are those of the machine behind it
opened-up : (hash : Hash) (m : Machine) (history : List Transaction) (batches : List (List Record)) (store : OpenStore) → IsHistory history → IsOpened hash m.disk history batches store
    → IsUp hash store (opened m history batches)
opened-up hash m history batches store is o = record {
  up = refl;
  lists = o.lists;
  order = record { least = linked-all history is; linked_durable = omega arith; indexed_durable = omega arith; durable_placed = omega arith };
  disk = o.disk;
  durable = o.durable;
  failures = o.failures;
  stopped = o.stopped;
  going = λ going. record { none = o.none; far = o.rests };
}

-- what is opened of a machine's files
pub opens-down : (hash : Hash) (m : Machine) (files : List (List ℕ)) (store : Option OpenStore) → IsDown files m → OpensTo hash (told_of files []) store → MayOpen hash m store
opens-down hash m files None d denied = λ a. denied a.1.0 (subst (λ (t : Told). Stands hash (seen t) a.1.0) d.disk a.1.1)
opens-down hash m files (Some store) d o =
    let told : OpensTo hash m.disk (Some store) = subst (λ (t : Told). OpensTo hash t (Some store)) (sym d.disk) o in
    let history : List Transaction = told.0 in
    let stands : Stands hash (seen m.disk) history = told.1 in (
      d.down,
      (
        history,
        stands,
        ap (λ (l : List Transaction). length l) told.2.lists.placed_is,
        opened-up hash m history stands.batches store stands.history_is told.2,
      ),
    )

-- a store over the journal of a disk that was opened
pub opens-to : (hash : Hash) (disk : Recorded) (journal : Kept Recorded) (history : List Transaction) (gate : ℕ) (store : Option OpenStore) → IsOver hash journal history store
    → (stands : Stands hash (seen (told_by disk)) history) → IsAtRest tells hash history stands.batches journal → gate ≡ gate_of (length stands.batches)
    → IsOpenedBy gate (told_by disk) (tells journal.disk) → journal.durable ≡ length history → journal.failures ≡ 0 → OpensTo hash (told_by disk) store
opens-to hash disk journal history gate None over stands rests gate_is calls durable none = absurd over
opens-to hash disk journal history gate (Some store) over stands rests gate_is calls durable none =
    let t : Told = told_by disk in
    let same = over.journal_is in
    let now : told_by journal.disk ≡ repaired calls.0 gate (after Synced t) = some-is (told_by journal.disk) (repaired calls.0 gate (after Synced t)) calls.2 in
    let opened_disk : told_by journal.disk ≡ disk_opened (gate_of (length stands.batches)) t =
    now ∙ disk_by t gate calls.0 calls.1 ∙ ap (λ (g : ℕ). disk_opened g t) gate_is in (
      history,
      stands,
      record {
        lists = over.lists;
        disk = ap (λ (k : Kept Recorded). told_by k.disk) same ∙ opened_disk;
        durable = ap (λ (k : Kept Recorded). k.durable) same ∙ durable;
        failures = over.failures;
        stopped = over.stopped;
        none = ap (λ (k : Kept Recorded). k.failures) same ∙ none;
        rests = subst (λ (k : Kept Recorded). IsAtRest tells hash history stands.batches k) (sym same) rests;
      },
    )

-- of empty files no batch counts
no-batches : (image : Files) (batches : List (List Record)) → image 1 ≡ [] → HasBatches image batches → batches ≡ []
no-batches image [] empty there = refl
no-batches image (batch ∷ batches) empty there =
    let whole : gate_of 0 + 25 < length (image 1) = (there.counted 0 (omega arith)).whole in
    absurd (omega (arith, whole, ap (λ (l : List ℕ). length l) empty))

-- the machine begins behind the opening of empty files, and nowhere else
pub begins-start : (hash : Hash) (output : Output) (next : Machine) → Steps hash blank on.Open output next → next ≡ start
begins-start hash output next (inl is) =
    let does = is.1 in
    let stands : Stands hash (seen blank.disk) does.0 = does.1 in
    let none : stands.batches ≡ [] = no-batches (seen blank.disk) stands.batches refl stands.there in
    let empty : does.0 ≡ [] = sym stands.transactions_are ∙ ap (λ (b : List (List Record)). map (λ r. r.tx) (joined b)) none in
    does.3 ∙ ap (λ (h : List Transaction). opened blank h stands.batches) empty ∙ ap (λ (b : List (List Record)). opened blank [] b) none
begins-start hash output next (inr denied) = absurd (denied.0 (refl, ([], stands-none hash)))

-- no files are those of a machine that nothing was ever done with
pub blank-down : (image : List (List ℕ)) → image ≡ [] → IsDown image blank
blank-down image none = record {
  down = refl;
  few = omega (arith, ap (λ (l : List (List ℕ)). length l) none);
  disk = ap (λ (l : List (List ℕ)). told_of l []) (sym none);
}
