-- How a run goes on from what opening and the sessions answered.
use Rattle.std.proofs.Common.{◌≡◌, ℕ, ℤ, List, [], refl, sym, ◌∙◌, ap, subst, Result, Ok, Err, Option, Some, None, IfSome, inl, inr, ◌⊎◌, arith}
use Rattle.std.proofs.KnownBytes.{Consumes-nil}
use Rattle.im_dealing.specs.declared.errors.LineError.{LineError}
use Rattle.im_dealing.specs.declared.errors.LineError.TheVariants as fails
use Rattle.im_dealing.specs.declared.errors.Stopped.{Stopped}
use Rattle.im_dealing.specs.declared.errors.Stopped.TheVariants as stops
use Rattle.im_edge.specs.Sources.{TakesAtMost}
use Rattle.im_digest.specs.Digests.{Hash}
use Rattle.im_disk.specs.Disk.{Told}
use Rattle.im_format.specs.declared.damages.Damage.{Damage}
use Rattle.im_opening.specs.declared.errors.OpenError.{OpenError}
use Rattle.im_opening.specs.declared.errors.OpenError.TheVariants as opened
use Rattle.im_script.specs.declared.commands.Line.{Line}
use Rattle.im_sqlmodel.specs.declared.answers.KeptError.{KeptError}
use Rattle.im_sqlmodel.specs.declared.answers.KeptError.TheVariants as judged
use Rattle.im_words.specs.declared.Link.{Link}
use Rattle.im_status.specs.Scripts.{IsGiven}
use Rattle.im_status.specs.Statuses.{EndsReading, EndsWriting, status_behind, status_by, status_for, status_kept}
use Rattle.im_status.specs.declared.status.Status.{Status}
use Rattle.im_status.specs.declared.status.Status.TheVariants as the
use Rattle.im_app.specs.Runs.{HasOneSession, LeavesFound, WritesFront, WritesPart, WritesReport, opening_error}

-- a run that was done: all was answered and written
pub done-end : (end : Result Unit Stopped) → status_behind end ≡ the.Ok → end ≡ Ok tt
done-end (Ok x) e = refl
done-end (Err (stops.Line fails.DiskFault)) e = absurd cc
done-end (Err (stops.Line fails.Memory)) e = absurd cc
done-end (Err stops.Write) e = absurd cc

-- a sink that failed behind lines that were all answered
pub write-end : (end : Result Unit Stopped) → status_behind end ≡ the.WriteFault → end ≡ Err stops.Write
write-end (Ok x) e = absurd cc
write-end (Err (stops.Line fails.DiskFault)) e = absurd cc
write-end (Err (stops.Line fails.Memory)) e = absurd cc
write-end (Err stops.Write) e = refl

-- a line without a reply
pub line-end : (why : LineError) (end : Result Unit Stopped) → status_behind end ≡ status_for why → end ≡ Err (stops.Line why)
line-end fails.DiskFault (Ok x) e = absurd cc
line-end fails.Memory (Ok x) e = absurd cc
line-end fails.DiskFault (Err (stops.Line fails.DiskFault)) e = refl
line-end fails.Memory (Err (stops.Line fails.DiskFault)) e = absurd cc
line-end fails.DiskFault (Err (stops.Line fails.Memory)) e = absurd cc
line-end fails.Memory (Err (stops.Line fails.Memory)) e = refl
line-end fails.DiskFault (Err stops.Write) e = absurd cc
line-end fails.Memory (Err stops.Write) e = absurd cc

-- a line without a reply ends a run in one of two ways
pub unstopped : (end : Result Unit Stopped) → (status_behind end ≡ the.DiskFault → ⊥) → (status_behind end ≡ the.Memory → ⊥) → (why : LineError) → end ≡ Err (stops.Line why) → ⊥
unstopped end no_fault no_want fails.DiskFault is = no_fault (ap status_behind is)
unstopped end no_fault no_want fails.Memory is = no_want (ap status_behind is)

-- a run over a store ends so
pub ends-writing : (end : Result Unit Stopped) → EndsWriting (status_behind end)
ends-writing (Ok x) = tt
ends-writing (Err (stops.Line fails.DiskFault)) = tt
ends-writing (Err (stops.Line fails.Memory)) = tt
ends-writing (Err stops.Write) = tt

-- and never with damage
pub undamaged : (end : Result Unit Stopped) (damage : Damage) → status_behind end ≡ the.Damaged damage → ⊥
undamaged (Ok x) damage e = cc
undamaged (Err (stops.Line fails.DiskFault)) damage e = cc
undamaged (Err (stops.Line fails.Memory)) damage e = cc
undamaged (Err stops.Write) damage e = cc

-- nor with keys that aren't SQL's
pub no-unkept : (end : Result Unit Stopped) (tx : ℕ) → status_behind end ≡ the.SqlKept tx → ⊥
no-unkept (Ok x) tx e = cc
no-unkept (Err (stops.Line fails.DiskFault)) tx e = cc
no-unkept (Err (stops.Line fails.Memory)) tx e = cc
no-unkept (Err stops.Write) tx e = cc

-- a judgement that ended a run so ran out of memory
pub judged-by : (error : KeptError) (why : LineError) → status_kept error ≡ status_for why → why ≡ fails.Memory
judged-by judged.Memory fails.DiskFault e = absurd cc
judged-by judged.Memory fails.Memory e = refl
judged-by (judged.NotKept tx) fails.DiskFault e = absurd cc
judged-by (judged.NotKept tx) fails.Memory e = absurd cc

-- the transaction that is told is the one that was judged
pub unkept-by : (error : KeptError) (tx : ℕ) → status_kept error ≡ the.SqlKept tx → error ≡ judged.NotKept tx
unkept-by judged.Memory tx e = absurd cc
unkept-by (judged.NotKept found) tx e = cc

-- a judgement ends a run over a store so
pub judged-ends : (error : KeptError) → EndsWriting (status_kept error)
judged-ends judged.Memory = tt
judged-ends (judged.NotKept tx) = tt

-- and in no other way
pub judged-not-done : (error : KeptError) → status_kept error ≡ the.Ok → ⊥
judged-not-done judged.Memory e = cc
judged-not-done (judged.NotKept tx) e = cc

pub judged-no-write : (error : KeptError) → status_kept error ≡ the.WriteFault → ⊥
judged-no-write judged.Memory e = cc
judged-no-write (judged.NotKept tx) e = cc

pub judged-no-fault : (error : KeptError) → status_kept error ≡ the.DiskFault → ⊥
judged-no-fault judged.Memory e = cc
judged-no-fault (judged.NotKept tx) e = cc

pub judged-undamaged : (error : KeptError) (damage : Damage) → status_kept error ≡ the.Damaged damage → ⊥
judged-undamaged judged.Memory damage e = cc
judged-undamaged (judged.NotKept tx) damage e = cc

-- an opening that ended a run so ended in that error
pub opening-by : (error : OpenError) (why : LineError) → status_by error ≡ status_for why → error ≡ opening_error why
opening-by opened.DiskFault fails.DiskFault e = refl
opening-by opened.DiskFault fails.Memory e = absurd cc
opening-by opened.Memory fails.DiskFault e = absurd cc
opening-by opened.Memory fails.Memory e = refl
opening-by (opened.Damaged damage) fails.DiskFault e = absurd cc
opening-by (opened.Damaged damage) fails.Memory e = absurd cc

-- a script that gave no lines ends a run so only where memory ran out
pub reading-for : (status : Status) (why : LineError) → EndsReading status → status ≡ status_for why → status_for why ≡ the.Memory
reading-for status fails.DiskFault ends e = absurd (subst EndsReading e ends)
reading-for status fails.Memory ends e = refl

-- a disk that a run for want of memory left as it was handed in
pub same-found : (hash : Hash) (why : LineError) (disk : Option Told) → status_for why ≡ the.Memory → LeavesFound hash why disk disk
same-found hash fails.DiskFault disk e = absurd cc
same-found hash fails.Memory disk e = λ t found told stands. (inl told, inl told)

-- words that are at fault end no run
pub usage-found : (hash : Hash) (why : LineError) (disk : Option Told) → the.Usage ≡ status_for why → LeavesFound hash why disk disk
usage-found hash fails.DiskFault disk e = absurd cc
usage-found hash fails.Memory disk e = absurd cc

-- a damage is told as it was found
pub damage-by : (error : OpenError) (damage : Damage) → status_by error ≡ the.Damaged damage → error ≡ opened.Damaged damage
damage-by opened.DiskFault damage e = absurd cc
damage-by (opened.Damaged found) damage e = cc
damage-by opened.Memory damage e = absurd cc

-- what is so where a disk tells
pub if-told : {X : Type 0} (o : Option X) (P : X → Type 0) → ((t : X) → o ≡ Some t → P t) → IfSome o P
if-told None P f = tt
if-told (Some t) P f = f t refl

-- a script of the grammar isn't one that has no phases
pub given-not : (left : Option (List ℕ)) (script : List ℕ) (phases : List (List Line)) (P : Type 0) → IfSome left (λ octets. octets ≡ script) → IsGiven script phases
    → IfSome left (λ octets. ((ps : List (List Line)) → IsGiven octets ps → ⊥) → P)
given-not None script phases P is given = tt
given-not (Some octets) script phases P is given = λ none.
    let G : List ℕ → Type 0 = λ s. IsGiven s phases in
    absurd (none phases (subst G (sym is) given))

-- what is said of the octets that were read is said of what the source had
pub read-told : (left : Option (List ℕ)) (octets : List ℕ) (P : List ℕ → Type 0) → IfSome left (λ xs. xs ≡ octets) → P octets → IfSome left P
read-told None octets P same p = tt
read-told (Some xs) octets P same p = subst P (sym same) p

-- one text for what the source had
pub same-script : (left : Option (List ℕ)) (a b : List ℕ) → IfSome left (λ octets. octets ≡ a) → a ≡ b → IfSome left (λ octets. octets ≡ b)
same-script None a b is e = tt
same-script (Some octets) a b is e = is ∙ e

-- what is said of a script that was given is said of the source that gave it
pub front-told : (hash : Hash) (constant : Option ℤ) (logs : ℕ) (link : Link) (why : LineError) (left : Option (List ℕ)) (script : List ℕ) (before now : Option Told) (times_before times_now : Option (List ℤ)) (sink_before sink_now : Option (List ℕ)) (faults_before faults_now : ℕ)
    → IfSome left (λ octets. octets ≡ script)
    → WritesFront hash constant logs link why (Some script) before now times_before times_now sink_before sink_now faults_before faults_now
    → WritesFront hash constant logs link why left before now times_before times_now sink_before sink_now faults_before faults_now
front-told hash constant logs link why left script before now times_before times_now sink_before sink_now faults_before faults_now is w = record {
  script = w.script;
  script_is = same-script left script w.script is w.script_is;
  report = w.report;
  wrote = w.wrote;
  failed = w.failed;
}

pub whole-told : (hash : Hash) (constant : Option ℤ) (logs : ℕ) (link : Link) (left : Option (List ℕ)) (script : List ℕ) (before now : Option Told) (times_before times_now : Option (List ℤ)) (sink_before sink_now : Option (List ℕ)) (faults_before faults_now : ℕ)
    → IfSome left (λ octets. octets ≡ script)
    → WritesReport hash constant logs link (Some script) before now times_before times_now sink_before sink_now faults_before faults_now
    → WritesReport hash constant logs link left before now times_before times_now sink_before sink_now faults_before faults_now
whole-told hash constant logs link left script before now times_before times_now sink_before sink_now faults_before faults_now is w = record {
  script = w.script;
  script_is = same-script left script w.script is w.script_is;
  report = w.report;
  all = w.all;
  wrote = w.wrote;
  whole = w.whole;
  here = w.here;
}

pub part-told : (hash : Hash) (constant : Option ℤ) (logs : ℕ) (link : Link) (left : Option (List ℕ)) (script : List ℕ) (before now : Option Told) (times_before times_now : Option (List ℤ)) (sink_before sink_now : Option (List ℕ)) (faults_before faults_now : ℕ)
    → IfSome left (λ octets. octets ≡ script)
    → WritesPart hash constant logs link (Some script) before now times_before times_now sink_before sink_now faults_before faults_now
    → WritesPart hash constant logs link left before now times_before times_now sink_before sink_now faults_before faults_now
part-told hash constant logs link left script before now times_before times_now sink_before sink_now faults_before faults_now is w = record {
  script = w.script;
  script_is = same-script left script w.script is w.script_is;
  report = w.report;
  wrote = w.wrote;
  whole = w.whole;
  here = w.here;
}

-- nothing was taken
pub takes-none : (most : ℕ) (left : Option (List ℕ)) → TakesAtMost most left left
takes-none most left = ([], omega arith, Consumes-nil left)

-- a disk that wasn't touched counts what it counted
pub alone-same : (left : Option (List ℕ)) (n : ℕ) → IfSome left (λ script. (phases : List (List Line)) → IsGiven script phases → HasOneSession phases → n ≡ n)
alone-same left n = if-told left (λ script. (phases : List (List Line)) → IsGiven script phases → HasOneSession phases → n ≡ n) (λ script told phases given one. refl)

-- the ways to end of a run whose script was read, where neither the sink nor the disk failed and memory was there
pub by-writing : (status : Status) → EndsWriting status → (status ≡ the.WriteFault → ⊥) → (status ≡ the.DiskFault → ⊥) → (status ≡ the.Memory → ⊥)
    → (status ≡ the.Ok) ⊎ (((damage : Damage) × (status ≡ the.Damaged damage)) ⊎ ((tx : ℕ) × (status ≡ the.SqlKept tx)))
by-writing the.Ok ends no_write no_fault no_want = inl refl
by-writing the.Usage ends no_write no_fault no_want = absurd ends
by-writing (the.Script line) ends no_write no_fault no_want = absurd ends
by-writing the.ReadFault ends no_write no_fault no_want = absurd ends
by-writing the.WriteFault ends no_write no_fault no_want = absurd (no_write refl)
by-writing the.DiskFault ends no_write no_fault no_want = absurd (no_fault refl)
by-writing (the.Damaged damage) ends no_write no_fault no_want = inr (inl (damage, refl))
by-writing the.KeeperFault ends no_write no_fault no_want = absurd ends
by-writing the.Refused ends no_write no_fault no_want = absurd ends
by-writing the.Forked ends no_write no_fault no_want = absurd ends
by-writing the.Memory ends no_write no_fault no_want = absurd (no_want refl)
by-writing the.Long ends no_write no_fault no_want = absurd ends
by-writing (the.Kept line) ends no_write no_fault no_want = absurd ends
by-writing (the.SqlKept tx) ends no_write no_fault no_want = inr (inr (tx, refl))
