-- A store was opened, and nothing was run over it: what a run says of it.
use Rattle.std.proofs.Common.{◌≡◌, ℕ, List, inr, subst, sym, ◌∙◌, Option, Some}
use Rattle.im_dealing.specs.declared.errors.LineError.{LineError}
use Rattle.im_dealing.specs.declared.errors.LineError.TheVariants as fails
use Rattle.im_digest.specs.Digests.{Hash}
use Rattle.im_disk.specs.Disk.{Told, after, seen}
use Rattle.im_disk.specs.Grown.{Grows}
use Rattle.im_disk.specs.Moments.{Leaves}
use Rattle.im_disk.specs.declared.calls.Call.TheVariants.{Synced}
use Rattle.im_format.specs.Standing.{Stands}
use Rattle.im_format.specs.declared.damages.Damage.{Damage}
use Rattle.im_model.specs.declared.transactions.Transaction.{Transaction}
use Rattle.im_opening.specs.Cut.{SyncsAtMost}
use Rattle.im_sqlmodel.specs.Kept.{IsFirstUnsound}
use Rattle.im_sqlmodel.specs.declared.answers.KeptError.{KeptError}
use Rattle.im_sqlmodel.specs.declared.answers.KeptError.TheVariants as judged
use Rattle.im_store.specs.Names.{Naming}
use Rattle.im_store_opening.specs.Opened.{OpensAs}
use Rattle.im_table.specs.Histories.{history_of}
use Rattle.im_status.specs.Statuses.{EndsWriting, status_for, status_kept}
use Rattle.im_status.specs.declared.status.Status.{Status}
use Rattle.im_status.specs.declared.status.Status.TheVariants as the
use Rattle.im_app.specs.Runs.{FindsUnkept, KeepsFound, LeavesFound}
use Rattle.im_app.proofs.FoundLemmas.{opened-keeps}
use Rattle.im_app.proofs.RunLemmas.{if-told, judged-by, judged-ends, judged-no-fault, judged-no-write, judged-not-done, judged-undamaged, unkept-by}

-- what opening alone leaves
module _ (before : Option Told) (count : ℕ) (n : Naming) (o : OpensAs before count n) where
  abbrev found : List Transaction
  found = history_of n.found

  finds : (tx : ℕ) → IsFirstUnsound found tx → FindsUnkept n.digest before n.synced tx
  finds tx first = record {
    found = found;
    stands = if-told before (λ t. Stands n.digest (seen t) found) o.stands;
    first = first;
    moments = if-told before (λ t. Leaves (λ image. Stands n.digest image found) (Some (after Synced t)) n.synced) o.moments;
    calls = λ t is stands. o.closed t found is stands;
  }

  leaves : LeavesFound n.digest fails.Memory before n.synced
  leaves t other is stands =
      let same : found ≡ other = o.one t other is stands in
      let L : List Transaction → Type 0 = λ h. Leaves (λ image. Stands n.digest image h) (Some (after Synced t)) n.synced in
      (inr (inr (subst L same (o.moments t is))), inr (inr (inr (o.closed t other is stands))))

  keeps : (t : Told) (other : List Transaction) → before ≡ Some t → Stands n.digest (seen t) other → KeepsFound n.digest other t n.synced
  keeps t other is stands = opened-keeps n.digest other t n.synced (leaves t other is stands).0

-- A disk was opened as a store under this hash. Whether its keys are SQL's wasn't known, or they aren't, and the disk came back as it was opened.
pub record LeftUnserved {D : Type 0} (told : D → Option Told) (faults : D → ℕ) (hash : Hash) (before now : D) (status : Status) : Type 0 where
  pub n : Naming
  pub digest_is : n.digest ≡ hash
  pub opens : OpensAs (told before) (faults before) n
  pub error : KeptError
  pub status_is : status ≡ status_kept error
  pub first : (tx : ℕ) → error ≡ judged.NotKept tx → IsFirstUnsound (history_of n.found) tx
  pub synced : n.synced ≡ told now
  pub counted : n.faults ≡ faults now

module _ {D : Type 0} {told : D → Option Told} {faults : D → ℕ} {hash : Hash} {before now : D} {status : Status} (l : LeftUnserved told faults hash before now status) where
  -- how the judgement ended, by the status
  ended : (other : Status) → status ≡ other → status_kept l.error ≡ other
  ended other e = sym l.status_is ∙ e

  -- what is said of the store's own hash, and of the disk as it was opened
  as-left : (P : Hash → Option Told → Type 0) → P l.n.digest l.n.synced → P hash (told now)
  as-left P p = subst (λ (o : Option Told). P hash o) l.synced (subst (λ (h : Hash). P h l.n.synced) l.digest_is p)

  pub left-ends : EndsWriting status
  left-ends = subst EndsWriting (sym l.status_is) (judged-ends l.error)

  pub left-not-done : status ≡ the.Ok → ⊥
  left-not-done e = judged-not-done l.error (ended the.Ok e)

  pub left-no-write : status ≡ the.WriteFault → ⊥
  left-no-write e = judged-no-write l.error (ended the.WriteFault e)

  pub left-no-fault : status ≡ the.DiskFault → ⊥
  left-no-fault e = judged-no-fault l.error (ended the.DiskFault e)

  pub left-undamaged : (damage : Damage) → status ≡ the.Damaged damage → ⊥
  left-undamaged damage e = judged-undamaged l.error damage (ended (the.Damaged damage) e)

  pub left-unkept : (tx : ℕ) → status ≡ the.SqlKept tx → FindsUnkept hash (told before) (told now) tx
  left-unkept tx e =
      as-left (λ h o. FindsUnkept h (told before) o tx)
      (finds (told before) (faults before) l.n l.opens tx (l.first tx (unkept-by l.error tx (ended (the.SqlKept tx) e))))

  pub left-front : (why : LineError) → status ≡ status_for why → LeavesFound hash why (told before) (told now)
  left-front why e =
      let memory : why ≡ fails.Memory = judged-by l.error why (ended (status_for why) e) in
      subst (λ (w : LineError). LeavesFound hash w (told before) (told now)) (sym memory)
      (as-left (λ h o. LeavesFound h fails.Memory (told before) o) (leaves (told before) (faults before) l.n l.opens))

  pub left-keeps : (t : Told) (found : List Transaction) → told before ≡ Some t → Stands hash (seen t) found → KeepsFound hash found t (told now)
  left-keeps t found is there =
      as-left (λ h o. KeepsFound h found t o)
      (keeps (told before) (faults before) l.n l.opens t found is (subst (λ (h : Hash). Stands h (seen t) found) (sym l.digest_is) there))

  pub left-unharmed : (t : Told) → told before ≡ Some t → ((found : List Transaction) → Stands hash (seen t) found → ⊥) → SyncsAtMost t (told now)
  left-unharmed t is none =
      absurd (none (history_of l.n.found) (subst (λ (h : Hash). Stands h (seen t) (history_of l.n.found)) l.digest_is (l.opens.stands t is)))

  pub left-grows : Grows (told before) (told now)
  left-grows = subst (λ (o : Option Told). Grows (told before) o) l.synced l.opens.grows

  pub left-same : faults now ≡ faults before
  left-same = sym l.counted ∙ l.opens.same
