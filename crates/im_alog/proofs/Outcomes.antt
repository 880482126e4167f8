-- What a changing call leaves, by what it answers.
use Rattle.std.proofs.Common.{◌≡◌, ℕ, ◌+◌, ◌≤◌, List, length, sym, subst, arith}
use Rattle.std.specs.Prelude.{Option, Some, None, IfSome, Result}
use Rattle.std.specs.Option.{option_map}
use Rattle.im_disk.specs.Disk.{Files, Told, LiesWithin, TornFile, seen, after}
use Rattle.im_disk.specs.Moments.{Leaves, LeavesNow}
use Rattle.im_disk.specs.declared.calls.Call.TheVariants.{Wrote, Tore, Synced, Missed}
use Rattle.im_disk.specs.declared.disk.DiskError.{DiskError}
use Rattle.im_disk.proofs.Leaving.{by_answer, if_told_both, leaves_by_answer}
use Rattle.im_disk.proofs.Tearing.{decide_same, written_torn}
use Rattle.im_disk.specs.Fused.{TellsCall}
use Rattle.im_format.specs.Spans.{Reads}
use Rattle.im_alog.proofs.Torn.{written_reads}

pub if_mapped : (P Q : Told → Type 0) (f : Told → Told) → ((t : Told) → P t → Q (f t)) → (o : Option Told) → IfSome o P → IfSome (option_map f o) Q
if_mapped P Q f step None h = tt
if_mapped P Q f step (Some t) h = step t h

-- with nothing to know of what was told before
pub if_any : (Q : Told → Type 0) (f : Told → Told) → ((t : Told) → Q (f t)) → (o : Option Told) → IfSome (option_map f o) Q
if_any Q f step None = tt
if_any Q f step (Some t) = step t

-- each image of the moments of a write has P, where a torn write keeps it
pub leaves_of_write : {T : Type 0} (P : Files → Type 0) (file at : ℕ) (piece : List ℕ) (o n : Option Told) (r : Result T DiskError)
    → TellsCall (Wrote file at piece) (Tore file at (length piece)) o n r
    → ((old new : Files) → TornFile file at (length piece) old new → P old → P new)
    → LeavesNow P o → Leaves P o n
leaves_of_write P file at piece o n r a keeps before =
    leaves_by_answer P (Wrote file at piece) (Tore file at (length piece)) o n r a.ok a.failed a.memory before
    (if_mapped _ _ (after (Wrote file at piece)) (λ t h image from. keeps from.0 image from.2 (h from.0 from.1)) o before)
    (if_mapped _ _ (after (Tore file at (length piece))) (λ t h image from. keeps from.0 image from.2 (h from.0 from.1)) o before)

-- each image of the moments of a sync has P, where what reads give has it too
pub leaves_of_sync : {T : Type 0} (P : Files → Type 0) (o n : Option Told) (r : Result T DiskError)
    → TellsCall Synced Missed o n r
    → LeavesNow P o → IfSome o (λ t. (image : Files) → ((k : ℕ) → image k ≡ seen t k) → P image) → Leaves P o n
leaves_of_sync P o n r a before here =
    leaves_by_answer P Synced Missed o n r a.ok a.failed a.memory before
    (if_mapped _ _ (after Synced) (λ t h. h) o here)
    (if_mapped _ _ (after Missed) (λ t h. h) o before)

-- what reads give has what a torn write keeps, after a write
pub seen_of_write : {T : Type 0} (P : Files → Type 0) (file at : ℕ) (piece : List ℕ) (o n : Option Told) (r : Result T DiskError)
    → TellsCall (Wrote file at piece) (Tore file at (length piece)) o n r → LiesWithin o file at 0
    → ((old new : Files) → TornFile file at (length piece) old new → P old → P new)
    → IfSome o (λ t. P (seen t)) → IfSome n (λ t. P (seen t))
seen_of_write P file at piece o n r a within keeps here =
    by_answer (λ m. IfSome m (λ t. P (seen t))) (Wrote file at piece) (Tore file at (length piece)) o n r a.ok a.failed a.memory
    (if_mapped _ _ (after (Wrote file at piece)) (λ t h. keeps (seen t) _ (written_torn (seen t) file at piece (omega (arith, h.0))) h.1) o
    (if_told_both _ _ (λ t. (at + 0 ≤ length (seen t file)) × P (seen t)) (λ t x y. (x, y)) o within here))
    (if_mapped _ _ (after (Tore file at (length piece))) (λ t h. h) o here)
    here

-- and what it was, after a sync
pub seen_of_sync : {T : Type 0} (Q : Files → Type 0) (o n : Option Told) (r : Result T DiskError)
    → TellsCall Synced Missed o n r → IfSome o (λ t. Q (seen t)) → IfSome n (λ t. Q (seen t))
seen_of_sync Q o n r a here =
    by_answer (λ m. IfSome m (λ t. Q (seen t))) Synced Missed o n r a.ok a.failed a.memory
    (if_mapped _ _ (after Synced) (λ t h. h) o here)
    (if_mapped _ _ (after Missed) (λ t h. h) o here)
    here

-- what was written reads back
pub reads_of_write : (file at : ℕ) (piece : List ℕ) (o : Option Told) → LiesWithin o file at 0
    → IfSome (option_map (after (Wrote file at piece)) o) (λ t. Reads (seen t) (record { file = file; at = at; octets = piece }))
reads_of_write file at piece o within =
    if_mapped _ _ (after (Wrote file at piece)) (λ t h. written_reads (seen t) file at piece (omega (arith, h))) o within

-- a torn write shortens no file
pub keeps_long : (ends : ℕ → ℕ) (file at n : ℕ) (old new : Files) → TornFile file at n old new
    → ((k : ℕ) → ends k ≤ length (old k)) → (k : ℕ) → ends k ≤ length (new k)
keeps_long ends file at n old new torn long k =
    decide_same k file
    (λ same. subst (λ (j : ℕ). ends j ≤ length (new j)) (sym same) (omega (arith, long file, torn.torn.no_shorter)))
    (λ other. subst (λ (l : List ℕ). ends k ≤ length l) (sym (torn.others k other)) (long k))
