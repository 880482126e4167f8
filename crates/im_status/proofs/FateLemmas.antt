-- What the source and the disk hold decides how a run ends.
use Rattle.std.proofs.Common.{◌≡◌, ◌<◌, ◌≤◌, length, ℕ, ◌+◌, List, arith, ap, subst, Option, Some, None, Err, IfSome, inl, inr, ◌⊎◌, refl}
use Rattle.std.proofs.lemmas.Bool.{cases_order}
use Rattle.im_digest.specs.Digests.{Hash}
use Rattle.im_disk.specs.Disk.{Told, seen}
use Rattle.im_format.specs.Damages.{image_checks}
use Rattle.im_format.specs.Standing.{Stands}
use Rattle.im_format.specs.declared.damages.Damage.{Damage}
use Rattle.im_format.proofs.HeldRecords.{Has32}
use Rattle.im_format.proofs.StandReads.{stands-once}
use Rattle.im_model.specs.declared.transactions.Transaction.{Transaction}
use Rattle.im_mtree.specs.Checks.{first_fail}
use Rattle.im_script.specs.Script.{StopsAfter}
use Rattle.im_script.specs.declared.commands.Line.{Line}
use Rattle.im_script.proofs.Unique.{read-or-stop, one-stop}
use Rattle.im_sqlmodel.specs.Kept.{IsFirstUnsound, IsSqlKept}
use Rattle.im_status.specs.Scripts.{IsGiven}
use Rattle.im_status.specs.Fates.{HasRunFate, IsDamaged, IsUnkept}
use Rattle.im_status.specs.Statuses.{EndsGiven, EndsReading, EndsRun, EndsWriting}
use Rattle.im_status.specs.declared.status.Status.{Status}
use Rattle.im_status.specs.declared.status.Status.TheVariants as the

-- a bad line of a script that isn't too long
abbrev pub IsBad : List ℕ → ℕ → Type 0
IsBad script k = (length script ≤ 67108864) × ((n : ℕ) × (k ≡ n + 1) × StopsAfter script n)

-- what is said of each way to end, where nothing failed
pub record Ends (hash : Hash) (disk : Option Told) (status : Status) (script : List ℕ) : Type 0 where
  pub given : status ≡ the.Ok → (phases : List (List Line)) × IsGiven script phases
  pub opened : (damage : Damage) → status ≡ the.Damaged damage → (phases : List (List Line)) × IsGiven script phases
  pub judged : (tx : ℕ) → status ≡ the.SqlKept tx → (phases : List (List Line)) × IsGiven script phases
  pub ends : EndsRun status
  pub no_usage : status ≡ the.Usage → ⊥
  pub no_read : status ≡ the.ReadFault → ⊥
  pub no_write : status ≡ the.WriteFault → ⊥
  pub no_device : status ≡ the.DiskFault → ⊥
  pub bad : (k : ℕ) → status ≡ the.Script k → IsBad script k
  pub long : status ≡ the.Long → 67108864 < length script
  pub damaged : (damage : Damage) → status ≡ the.Damaged damage → IfSome disk (λ t. first_fail (image_checks hash (seen t)) ≡ Err damage)
  pub whole : status ≡ the.Ok → IfSome disk (λ t. (found : List Transaction) × Stands hash (seen t) found × IsSqlKept found)
  pub first : (tx : ℕ) → status ≡ the.SqlKept tx → IfSome disk (λ t. (found : List Transaction) × Stands hash (seen t) found × IsFirstUnsound found tx)
  pub sound : (damage : Damage) (t : Told) (found : List Transaction) → disk ≡ Some t → Stands hash (seen t) found → status ≡ the.Damaged damage → ⊥

-- the ways that a run of a script may end, where nothing failed
abbrev MayEnd : Hash → Option Told → Status → Type 0
MayEnd hash disk status = (status ≡ the.Ok) ⊎ ((status ≡ the.Memory) ⊎ (IsDamaged hash disk status ⊎ IsUnkept hash disk status))

runs-end : (hash : Hash) (disk : Option Told) (status : Status) (script : List ℕ) → Ends hash disk status script → (phases : List (List Line)) → IsGiven script phases
    → MayEnd hash disk status
runs-end hash disk the.Ok script e lines g = inl refl
runs-end hash disk the.Usage script e lines g = absurd (e.no_usage refl)
runs-end hash disk (the.Script k) script e lines g = absurd (let b = e.bad k refl in read-or-stop script lines b.1.0 g.read b.1.2)
runs-end hash disk the.ReadFault script e lines g = absurd (e.no_read refl)
runs-end hash disk the.WriteFault script e lines g = absurd (e.no_write refl)
runs-end hash disk the.DiskFault script e lines g = absurd (e.no_device refl)
runs-end hash disk (the.Damaged damage) script e lines g = inr (inr (inl (record { damage = damage; is = refl; first = e.damaged damage refl })))
runs-end hash disk the.KeeperFault script e lines g = absurd e.ends
runs-end hash disk the.Refused script e lines g = absurd e.ends
runs-end hash disk the.Forked script e lines g = absurd e.ends
runs-end hash disk the.Memory script e lines g = inr (inl refl)
runs-end hash disk the.Long script e lines g = absurd (let short : length script ≤ 67108864 = g.short in let long : 67108864 < length script = e.long refl in omega arith)
runs-end hash disk (the.Kept k) script e lines g = absurd e.ends
runs-end hash disk (the.SqlKept tx) script e lines g = inr (inr (inr (record { tx = tx; is = refl; first = e.first tx refl })))

-- what is said where a disk tells, of a disk that does
told-of : (disk : Option Told) (P : Told → Type 0) (t : Told) → disk ≡ Some t → IfSome disk P → P t
told-of disk P t told p = subst (λ (o : Option Told). IfSome o P) told p

-- a history that is kept has no first transaction after which it isn't
kept-or-not : (found other : List Transaction) (tx : ℕ) → other ≡ found → IsFirstUnsound other tx → IsSqlKept found → ⊥
kept-or-not found other tx same first kept =
    let here : IsFirstUnsound found tx = subst (λ (h : List Transaction). IsFirstUnsound h tx) same first in
    here.unsound (kept tx here.within)

-- and there is one first
one-first : (history : List Transaction) (a b : ℕ) → IsFirstUnsound history a → IsFirstUnsound history b → a ≡ b
one-first history a b first other = elim (cases_order a b) [
  | inl same ↦ same
  | inr (inl less) ↦ absurd (first.unsound (other.before a less))
  | inr (inr more) ↦ absurd (other.unsound (first.before b more))
]

first-of : (found other : List Transaction) (a b : ℕ) → other ≡ found → IsFirstUnsound other a → IsFirstUnsound found b → a ≡ b
first-of found other a b same first second = one-first found a b (subst (λ (h : List Transaction). IsFirstUnsound h a) same first) second

-- of the ways that a run may end, none is damage where the files stand for a history, nor that its keys aren't SQL's where they are
stands-end : (hash : Hash) (disk : Option Told) (status : Status) (script : List ℕ) → Has32 hash → Ends hash disk status script
    → (t : Told) (found : List Transaction) → disk ≡ Some t → Stands hash (seen t) found → IsSqlKept found → MayEnd hash disk status → (status ≡ the.Ok) ⊎ (status ≡ the.Memory)
stands-end hash disk status script long e t found told stands kept (inl ok) = inl ok
stands-end hash disk status script long e t found told stands kept (inr (inl memory)) = inr memory
stands-end hash disk status script long e t found told stands kept (inr (inr (inl d))) = absurd (e.sound d.damage t found told stands d.is)
stands-end hash disk status script long e t found told stands kept (inr (inr (inr u))) =
    let s = told-of disk (λ t. (found : List Transaction) × Stands hash (seen t) found × IsFirstUnsound found u.tx) t told u.first in
    absurd (kept-or-not found s.0 u.tx (stands-once hash (seen t) s.0 found long s.1 stands) s.2 kept)

-- and where they aren't, the first transaction after which they aren't is told
unkept-end : (hash : Hash) (disk : Option Told) (status : Status) (script : List ℕ) → Has32 hash → Ends hash disk status script
    → (t : Told) (found : List Transaction) → disk ≡ Some t → Stands hash (seen t) found → (tx : ℕ) → IsFirstUnsound found tx → MayEnd hash disk status
    → (status ≡ the.SqlKept tx) ⊎ (status ≡ the.Memory)
unkept-end hash disk status script long e t found told stands tx first (inl ok) =
    let s = told-of disk (λ t. (found : List Transaction) × Stands hash (seen t) found × IsSqlKept found) t told (e.whole ok) in
    absurd (kept-or-not s.0 found tx (stands-once hash (seen t) found s.0 long stands s.1) first s.2)
unkept-end hash disk status script long e t found told stands tx first (inr (inl memory)) = inr memory
unkept-end hash disk status script long e t found told stands tx first (inr (inr (inl d))) = absurd (e.sound d.damage t found told stands d.is)
unkept-end hash disk status script long e t found told stands tx first (inr (inr (inr u))) =
    let s = told-of disk (λ t. (found : List Transaction) × Stands hash (seen t) found × IsFirstUnsound found u.tx) t told u.first in
    let same : u.tx ≡ tx = first-of found s.0 u.tx tx (stands-once hash (seen t) s.0 found long s.1 stands) s.2 first in
    inl (subst (λ (k : ℕ). status ≡ the.SqlKept k) same u.is)

-- none of them is a run that was done, nor keys that aren't SQL's, where the files stand for no history
damaged-end : (hash : Hash) (disk : Option Told) (status : Status) (script : List ℕ) → Ends hash disk status script
    → (t : Told) → disk ≡ Some t → ((found : List Transaction) → Stands hash (seen t) found → ⊥) → MayEnd hash disk status → (status ≡ the.Memory) ⊎ IsDamaged hash disk status
damaged-end hash disk status script e t told none (inl ok) =
    let s = told-of disk (λ t. (found : List Transaction) × Stands hash (seen t) found × IsSqlKept found) t told (e.whole ok) in
    absurd (none s.0 s.1)
damaged-end hash disk status script e t told none (inr (inl memory)) = inl memory
damaged-end hash disk status script e t told none (inr (inr (inl d))) = inr d
damaged-end hash disk status script e t told none (inr (inr (inr u))) =
    let s = told-of disk (λ t. (found : List Transaction) × Stands hash (seen t) found × IsFirstUnsound found u.tx) t told u.first in
    absurd (none s.0 s.1)

stops-end : (hash : Hash) (disk : Option Told) (status : Status) (script : List ℕ) → Ends hash disk status script → (n : ℕ) → length script ≤ 67108864 → StopsAfter script n
    → (status ≡ the.Script (n + 1)) ⊎ (status ≡ the.Memory)
stops-end hash disk the.Ok script e n short s = absurd (let g = e.given refl in read-or-stop script g.0 n g.1.read s)
stops-end hash disk the.Usage script e n short s = absurd (e.no_usage refl)
stops-end hash disk (the.Script k) script e n short s =
    let b = e.bad k refl in
    let same : k ≡ n + 1 = (let one : b.1.0 ≡ n = one-stop script b.1.0 n b.1.2 s in let is : k ≡ b.1.0 + 1 = b.1.1 in omega arith) in
    inl (ap the.Script same)
stops-end hash disk the.ReadFault script e n short s = absurd (e.no_read refl)
stops-end hash disk the.WriteFault script e n short s = absurd (e.no_write refl)
stops-end hash disk the.DiskFault script e n short s = absurd (e.no_device refl)
stops-end hash disk (the.Damaged damage) script e n short s = absurd (let g = e.opened damage refl in read-or-stop script g.0 n g.1.read s)
stops-end hash disk the.KeeperFault script e n short s = absurd e.ends
stops-end hash disk the.Refused script e n short s = absurd e.ends
stops-end hash disk the.Forked script e n short s = absurd e.ends
stops-end hash disk the.Memory script e n short s = inr refl
stops-end hash disk the.Long script e n short s = absurd (let long : 67108864 < length script = e.long refl in omega arith)
stops-end hash disk (the.Kept k) script e n short s = absurd e.ends
stops-end hash disk (the.SqlKept tx) script e n short s = absurd (let g = e.judged tx refl in read-or-stop script g.0 n g.1.read s)

long-end : (hash : Hash) (disk : Option Told) (status : Status) (script : List ℕ) → Ends hash disk status script → 67108864 < length script → (status ≡ the.Long) ⊎ (status ≡ the.Memory)
long-end hash disk the.Ok script e long = absurd (let g = e.given refl in let short : length script ≤ 67108864 = g.1.short in omega arith)
long-end hash disk the.Usage script e long = absurd (e.no_usage refl)
long-end hash disk (the.Script k) script e long = absurd (let b = e.bad k refl in let short : length script ≤ 67108864 = b.0 in omega arith)
long-end hash disk the.ReadFault script e long = absurd (e.no_read refl)
long-end hash disk the.WriteFault script e long = absurd (e.no_write refl)
long-end hash disk the.DiskFault script e long = absurd (e.no_device refl)
long-end hash disk (the.Damaged damage) script e long = absurd (let g = e.opened damage refl in let short : length script ≤ 67108864 = g.1.short in omega arith)
long-end hash disk the.KeeperFault script e long = absurd e.ends
long-end hash disk the.Refused script e long = absurd e.ends
long-end hash disk the.Forked script e long = absurd e.ends
long-end hash disk the.Memory script e long = inr refl
long-end hash disk the.Long script e long = inl refl
long-end hash disk (the.Kept k) script e long = absurd e.ends
long-end hash disk (the.SqlKept tx) script e long = absurd (let g = e.judged tx refl in let short : length script ≤ 67108864 = g.1.short in omega arith)

-- so what the source and the disk hold decides
pub fate : (hash : Hash) (disk : Option Told) (status : Status) (script : List ℕ) → Has32 hash → Ends hash disk status script → HasRunFate hash disk status script
fate hash disk status script long e = record {
  runs = runs-end hash disk status script e;
  stands = λ lines g t found told stands kept. stands-end hash disk status script long e t found told stands kept (runs-end hash disk status script e lines g);
  unkept = λ lines g t found told stands tx first. unkept-end hash disk status script long e t found told stands tx first (runs-end hash disk status script e lines g);
  damaged = λ lines g t told none. damaged-end hash disk status script e t told none (runs-end hash disk status script e lines g);
  stops = stops-end hash disk status script e;
  too_long = long-end hash disk status script e;
}

-- a run whose script was read doesn't end as one whose script wasn't
pub writing-run : (status : Status) → EndsWriting status → EndsRun status
writing-run the.Ok e = tt
writing-run the.Usage e = tt
writing-run (the.Script k) e = tt
writing-run the.ReadFault e = tt
writing-run the.WriteFault e = tt
writing-run the.DiskFault e = tt
writing-run (the.Damaged d) e = tt
writing-run the.KeeperFault e = absurd e
writing-run the.Refused e = absurd e
writing-run the.Forked e = absurd e
writing-run the.Memory e = tt
writing-run the.Long e = tt
writing-run (the.Kept k) e = absurd e
writing-run (the.SqlKept tx) e = tt

pub reading-run : (status : Status) → EndsReading status → EndsRun status
reading-run the.Ok e = tt
reading-run the.Usage e = tt
reading-run (the.Script k) e = tt
reading-run the.ReadFault e = tt
reading-run the.WriteFault e = tt
reading-run the.DiskFault e = tt
reading-run (the.Damaged d) e = tt
reading-run the.KeeperFault e = absurd e
reading-run the.Refused e = absurd e
reading-run the.Forked e = absurd e
reading-run the.Memory e = tt
reading-run the.Long e = tt
reading-run (the.Kept k) e = absurd e
reading-run (the.SqlKept tx) e = tt

-- a script that gave no lines isn't one that was given
pub reading-not-given : (status : Status) → EndsReading status → EndsGiven status → ⊥
reading-not-given the.Ok e given = e
reading-not-given the.Usage e given = e
reading-not-given (the.Script k) e given = given
reading-not-given the.ReadFault e given = given
reading-not-given the.WriteFault e given = e
reading-not-given the.DiskFault e given = e
reading-not-given (the.Damaged d) e given = e
reading-not-given the.KeeperFault e given = e
reading-not-given the.Refused e given = e
reading-not-given the.Forked e given = e
reading-not-given the.Memory e given = given
reading-not-given the.Long e given = given
reading-not-given (the.Kept k) e given = e
reading-not-given (the.SqlKept tx) e given = e

-- an end is none that its kind leaves out
pub ends-other : (P : Status → Type 0) (status other : Status) → P status → status ≡ other → (P other → ⊥) → ⊥
ends-other P status other p e none = none (subst P e p)

-- a script that gave no lines
unread : (hash : Hash) (disk : Option Told) (status : Status) (script : List ℕ) → EndsReading status → (status ≡ the.ReadFault → ⊥)
    → ((k : ℕ) → status ≡ the.Script k → IsBad script k) → (status ≡ the.Long → 67108864 < length script) → Ends hash disk status script
unread hash disk status script ends no_read bad long = record {
  given = λ e. absurd (ends-other EndsReading status the.Ok ends e (λ x. x));
  opened = λ d e. absurd (ends-other EndsReading status (the.Damaged d) ends e (λ x. x));
  judged = λ tx e. absurd (ends-other EndsReading status (the.SqlKept tx) ends e (λ x. x));
  ends = reading-run status ends;
  no_usage = λ e. ends-other EndsReading status the.Usage ends e (λ x. x);
  no_read = no_read;
  no_write = λ e. ends-other EndsReading status the.WriteFault ends e (λ x. x);
  no_device = λ e. ends-other EndsReading status the.DiskFault ends e (λ x. x);
  bad = bad;
  long = long;
  damaged = λ d e. absurd (ends-other EndsReading status (the.Damaged d) ends e (λ x. x));
  whole = λ e. absurd (ends-other EndsReading status the.Ok ends e (λ x. x));
  first = λ tx e. absurd (ends-other EndsReading status (the.SqlKept tx) ends e (λ x. x));
  sound = λ d t found told stands e. ends-other EndsReading status (the.Damaged d) ends e (λ x. x);
}

pub unread-told : (hash : Hash) (disk : Option Told) (status : Status) (left : Option (List ℕ)) → Has32 hash → EndsReading status → (status ≡ the.ReadFault → ⊥)
    → ((k : ℕ) → status ≡ the.Script k → IfSome left (λ script. IsBad script k)) → (status ≡ the.Long → IfSome left (λ script. 67108864 < length script))
    → IfSome left (HasRunFate hash disk status)
unread-told hash disk status None size ends no_read bad long = tt
unread-told hash disk status (Some script) size ends no_read bad long = fate hash disk status script size (unread hash disk status script ends no_read bad long)
