-- The changing calls of the disk that make batches of records durable, and which of them were made since it was opened.
use Rattle.std.specs.Prelude.{◌≡◌, ◌⊎◌, ◌+◌, ◌≤◌, ℕ, List, [], ◌∷◌, ◌++◌, length, map, take, drop, All, Option, IfSome}
use Rattle.std.specs.Option.{option_map}
use Rattle.im_digest.specs.Digests.{Hash}
use Rattle.im_disk.specs.Disk.{Files, Told, after, seen}
use Rattle.im_disk.specs.Grown.{after_all}
use Rattle.im_disk.specs.declared.calls.Call.{Call}
use Rattle.im_disk.specs.declared.calls.Call.TheVariants.{Wrote, Synced}
use Rattle.im_format.specs.Batches.{gate_of, joined}
use Rattle.im_format.specs.Places.{ArePut, refs_of}
use Rattle.im_format.specs.Records.{AreRecords}
use Rattle.im_format.specs.Standing.{HasBatches, Stands}
use Rattle.im_format.specs.declared.records.Record.{Record}
use Rattle.im_journal.specs.Holding.{ends_of}
use Rattle.im_journal.specs.Kept.{Kept}
use Rattle.im_journal.specs.Made.{failed_call, writes_of}
use Rattle.im_journal.specs.Pieces.{pieces_of}
use Rattle.im_journal.specs.declared.batches.Step.{Step}
use Rattle.im_journal.specs.declared.batches.Step.TheVariants.{Idle, Staging, Staged, Sealed, Gated}
use Rattle.im_model.specs.declared.transactions.Transaction.{Transaction}

-- those that make one batch of these records durable behind these batches: a write for each of its pieces, in order, a
-- sync, the octet 01 at its gate, and a sync; no records are no batch
abbrev pub calls_of_batch : List (List Record) → List Record → List Call
calls_of_batch batches [] = []
calls_of_batch batches (r ∷ rs) =
    writes_of (pieces_of (ends_of batches) (length (joined batches) + 1) (r ∷ rs))
    ++ Synced ∷ Wrote 1 (gate_of (length batches)) (1 ∷ []) ∷ Synced ∷ []

-- those that make each of these batches durable behind the first ones, one after the other
abbrev pub calls_of_batches : List (List Record) → List (List Record) → List Call
calls_of_batches batches [] = []
calls_of_batches batches (records ∷ more) = calls_of_batch batches records ++ calls_of_batches (batches ++ records ∷ []) more

-- of those of the batch in progress the ones that are left, by how far it is
abbrev pub calls_left : {D : Type 0} → Step → Kept D → List Call
calls_left Idle k = []
calls_left Staging k = writes_of (drop k.batch.written k.batch.pieces) ++ Synced ∷ Wrote 1 k.ends.commits (1 ∷ []) ∷ Synced ∷ []
calls_left Staged k = Synced ∷ Wrote 1 k.ends.commits (1 ∷ []) ∷ Synced ∷ []
calls_left Sealed k = Wrote 1 k.ends.commits (1 ∷ []) ∷ Synced ∷ []
calls_left Gated k = Synced ∷ []

-- the calls as far as they came: a front part of them; or such a part, and then the next one, which failed
abbrev pub MakesPart : List Call → Option Told → Option Told → Type 0
MakesPart calls before now =
    (made : List Call) × (left : List Call) × (calls ≡ made ++ left)
    × ((now ≡ option_map (after_all made) before)
    ⊎ ((call : Call) × (rest : List Call) × (left ≡ call ∷ rest) × (now ≡ option_map (after (failed_call call)) (option_map (after_all made) before))))

-- a batch has at least one record
abbrev pub IsFilled : List Record → Type 0
IsFilled records = 1 ≤ length records

-- The changing calls that were made since a disk was opened, in order, the one that failed, if one did, and no other. Where
-- it told its calls then, what reads gave had the first of these batches, which hold the first n transactions of the
-- history. The further ones are in batches of one or more, their values put over w value logs. The calls of the batches
-- up to the first `durable` transactions were made one after the other, and behind them those of a last batch, as far as
-- they came; none, where it has no records.
pub record MakesBatches (hash : Hash) (w n durable : ℕ) (history : List Transaction) (before now : Option Told) : Type 0 where
  pub first : List (List Record)
  pub more : List (List Record)
  pub last : List Record
  pub held : IfSome before (λ t. HasBatches (seen t) first)
  pub found_are : length (joined first) ≡ n
  pub filled : All IsFilled more
  pub within : durable + length last ≤ length history
  pub durable_are : map (λ r. r.tx) (joined (first ++ more)) ≡ take durable history
  pub last_are : map (λ r. r.tx) last ≡ take (length last) (drop durable history)
  pub records_are : AreRecords hash history 1 (joined (first ++ more) ++ last)
  pub put : ArePut w (n + 1) (refs_of (joined first)) (joined more ++ last)
  pub part : MakesPart (calls_of_batch (first ++ more) last) (option_map (after_all (calls_of_batches first more)) before) now

-- The image stands for the history: behind the batches of its first n transactions are further ones, in which the values are put
-- over w value logs.
pub record StandsPut (hash : Hash) (w n : ℕ) (history : List Transaction) (image : Files) : Type 0 where
  pub stands : Stands hash image history
  pub first : List (List Record)
  pub more : List (List Record)
  pub batches_are : stands.batches ≡ first ++ more
  pub found_are : length (joined first) ≡ n
  pub put : ArePut w (n + 1) (refs_of (joined first)) (joined more)
