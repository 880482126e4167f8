-- How the calls that a step makes follow each other.
use Rattle.std.proofs.Common.{◌≡◌, ℕ, ◌+◌, List, [], ◌∷◌, ◌++◌, drop, refl, sym, ◌∙◌, ap, subst, append_assoc}
use Rattle.std.proofs.lemmas.List.{append-nil}
use Rattle.std.specs.Prelude.{Option, Result, Ok, Err, OnOk, IsErrAnd, IsErrOf}
use Rattle.std.specs.Option.{option_map}
use Rattle.im_octet.proofs.Common.{ok-isnt}
use Rattle.im_disk.specs.Disk.{Told, after}
use Rattle.im_disk.specs.Grown.{after_all}
use Rattle.im_disk.specs.declared.calls.Call.{Call}
use Rattle.im_disk.specs.declared.disk.DiskError.{DiskError}
use Rattle.im_disk.specs.declared.disk.DiskError.TheVariants as Disk
use Rattle.im_disk.proofs.Leaving.{on_ok_after}
use Rattle.im_journal.specs.Kept.{Kept}
use Rattle.im_journal.specs.Made.{MadeUpTo, Makes, calls_to_seal, failed_call, spans_to_stage, writes_of}
use Rattle.im_format.specs.declared.records.Record.{Record}
use Rattle.im_format.specs.declared.spans.Span.{Span}
use Rattle.im_journal.specs.declared.batches.Step.{Step}
use Rattle.im_journal.specs.declared.batches.Step.TheVariants.{Idle, Staging, Staged, Sealed, Gated}
use Rattle.im_journal.specs.declared.errors.JournalError.{JournalError}
use Rattle.im_journal.specs.declared.errors.JournalError.TheVariants.{DiskFault, Memory}
use Rattle.im_disk.proofs.Growing.{told_both, told_none, told_one}

-- nothing is made yet
pub none_made : (calls : List Call) (o : Option Told) → MadeUpTo calls calls o o
none_made calls o = record { made = []; split = refl; told = told_none o }

-- the next one is made
pub next_made : (calls : List Call) (call : Call) (left : List Call) (a b n : Option Told) → MadeUpTo calls (call ∷ left) a b → n ≡ option_map (after_all (call ∷ [])) b → MadeUpTo calls left a n
next_made calls call left a b n m is = record {
  made = m.made ++ call ∷ [];
  split = m.split ∙ sym (append_assoc m.made (call ∷ []) left);
  told = is ∙ ap (λ (o : Option Told). option_map (after_all (call ∷ [])) o) m.told ∙ told_both m.made (call ∷ []) a;
}

-- all are made
pub all_made : (calls : List Call) (a b : Option Told) → MadeUpTo calls [] a b → b ≡ option_map (after_all calls) a
all_made calls a b m = m.told ∙ ap (λ (l : List Call). option_map (after_all l) a) (sym (m.split ∙ append-nil m.made))

-- some of those that are left are made
pub made_both : (calls first rest left : List Call) (o m n : Option Told) → MadeUpTo calls (first ++ left) o m → MadeUpTo first rest m n → MadeUpTo calls (rest ++ left) o n
made_both calls first rest left o m n h g = record {
  made = h.made ++ g.made;
  split = h.split ∙ ap (λ (l : List Call). h.made ++ l) (ap (λ (l : List Call). l ++ left) g.split ∙ append_assoc g.made rest left) ∙ sym (append_assoc h.made g.made (rest ++ left));
  told = g.told ∙ ap (λ (x : Option Told). option_map (after_all g.made) x) h.told ∙ told_both h.made g.made o;
}

-- others before them
longer : (first calls left : List Call) (o m n : Option Told) → m ≡ option_map (after_all first) o → MadeUpTo calls left m n → MadeUpTo (first ++ calls) left o n
longer first calls left o m n is h = record {
  made = first ++ h.made;
  split = ap (λ (l : List Call). first ++ l) h.split ∙ sym (append_assoc first h.made left);
  told = h.told ∙ ap (λ (x : Option Told). option_map (after_all h.made) x) is ∙ told_both first h.made o;
}

-- others behind them
wider : (calls left more : List Call) (o n : Option Told) → MadeUpTo calls left o n → MadeUpTo (calls ++ more) (left ++ more) o n
wider calls left more o n h = record {
  made = h.made;
  split = ap (λ (l : List Call). l ++ more) h.split ∙ append_assoc h.made left more;
  told = h.told;
}

-- a step of one call, by the disk's answer
pub one_makes : {T : Type 0} (call : Call) (o n : Option Told) (r : Result T DiskError)
    → OnOk r (n ≡ option_map (after call) o) → (IsErrOf r Disk.Failed → n ≡ option_map (after (failed_call call)) o) → (IsErrOf r Disk.Memory → n ≡ o)
    → Makes Disk.Failed Disk.Memory (call ∷ []) (call ∷ []) o n r
one_makes call o n r ok failed memory = record {
  ok = on_ok_after (λ x. x ≡ option_map (after_all (call ∷ [])) o) n (option_map (after call) o) r ok (told_one call o);
  failed = λ e. (call, [], o, none_made (call ∷ []) o, failed e);
  ran_out = λ e. subst (λ (x : Option Told). MadeUpTo (call ∷ []) (call ∷ []) o x) (sym (memory e)) (none_made (call ∷ []) o);
}

-- the next step of one call failed
pub stops_makes : (T : Type 0) (calls : List Call) (call : Call) (left : List Call) (o m n : Option Told) (e : DiskError) → MadeUpTo calls (call ∷ left) o m
    → Makes {T = T} Disk.Failed Disk.Memory (call ∷ []) (call ∷ []) m n (Err e) → Makes {T = T} Disk.Failed Disk.Memory calls (call ∷ left) o n (Err e)
stops_makes T calls call left o m n e h one = record {
  ok = tt;
  failed = λ is. let f = one.failed is in (f.0, f.1 ++ left, f.2, made_both calls (call ∷ []) (f.0 ∷ f.1) left o m f.2 h f.3, f.4);
  ran_out = λ is. made_both calls (call ∷ []) (call ∷ []) left o m n h (one.ran_out is);
}

fault_isnt_memory : (T : Type 0) → IsErrOf {T = T} (Err DiskFault) Memory → ⊥
fault_isnt_memory T is = cc

memory_isnt_fault : (T : Type 0) → IsErrOf {T = T} (Err Memory) DiskFault → ⊥
memory_isnt_fault T is = cc

-- the journal's answer to the disk's
abbrev pub answer_of : {T : Type 0} → Result T DiskError → Result T JournalError
answer_of (Ok x) = Ok x
answer_of (Err Disk.Failed) = Err DiskFault
answer_of (Err Disk.Memory) = Err Memory

pub makes_on : {T : Type 0} (calls left : List Call) (o n : Option Told) (r : Result T DiskError) → Makes Disk.Failed Disk.Memory calls left o n r → Makes DiskFault Memory calls left o n (answer_of r)
makes_on {T} calls left o n (Ok x) m = record {
  ok = m.ok;
  failed = λ e. absurd (ok-isnt x DiskFault e);
  ran_out = λ e. absurd (ok-isnt x Memory e);
}
makes_on {T} calls left o n (Err Disk.Failed) m = record {
  ok = tt;
  failed = λ e. m.failed refl;
  ran_out = λ e. absurd (fault_isnt_memory T e);
}
makes_on {T} calls left o n (Err Disk.Memory) m = record {
  ok = tt;
  failed = λ e. absurd (memory_isnt_fault T e);
  ran_out = λ e. m.ran_out refl;
}

on_then : {T E : Type 0} (r : Result T E) (P Q : Type 0) → (P → Q) → OnOk r P → OnOk r Q
on_then (Ok x) P Q f p = f p
on_then (Err e) P Q f p = tt

-- a step behind others
pub makes_then : {T : Type 0} (first calls left : List Call) (o m n : Option Told) (r : Result T JournalError) → m ≡ option_map (after_all first) o
    → Makes DiskFault Memory calls left m n r → Makes DiskFault Memory (first ++ calls) left o n r
makes_then first calls left o m n r is h = record {
  ok = on_then r (n ≡ option_map (after_all calls) m) (n ≡ option_map (after_all (first ++ calls)) o)
      (λ p. p ∙ ap (λ (x : Option Told). option_map (after_all calls) x) is ∙ told_both first calls o) h.ok;
  failed = λ e. let f = h.failed e in (f.0, f.1, f.2, longer first calls (f.0 ∷ f.1) o m f.2 is f.3, f.4);
  ran_out = λ e. longer first calls left o m n is (h.ran_out e);
}

-- a step that stopped before others
pub makes_before : (T : Type 0) (calls left more : List Call) (o n : Option Told) (e : JournalError) → Makes {T = T} DiskFault Memory calls left o n (Err e)
    → Makes {T = T} DiskFault Memory (calls ++ more) (left ++ more) o n (Err e)
makes_before T calls left more o n e h = record {
  ok = tt;
  failed = λ is. let f = h.failed is in (f.0, f.1 ++ more, f.2, wider calls (f.0 ∷ f.1) more o f.2 f.3, f.4);
  ran_out = λ is. wider calls left more o n (h.ran_out is);
}

-- a step with no calls
pub none_makes : {T : Type 0} (x : T) (left : List Call) (o : Option Told) → Makes DiskFault Memory [] left o o (Ok x)
none_makes x left o = record { ok = told_none o; failed = λ e. absurd (ok-isnt x DiskFault e); ran_out = λ e. absurd (ok-isnt x Memory e) }

-- a step that didn't begin
unbegun : (T : Type 0) (calls : List Call) (o : Option Told) → Makes {T = T} DiskFault Memory calls calls o o (Err Memory)
unbegun T calls o = record { ok = tt; failed = λ e. absurd (memory_isnt_fault T e); ran_out = λ e. none_made calls o }

pub unbegun_makes : {T : Type 0} (calls : List Call) (o : Option Told) (r : Result T JournalError) → IsErrAnd r (λ e. e ≡ Memory) → Makes DiskFault Memory calls calls o o r
unbegun_makes {T} calls o (Ok x) memory = absurd memory
unbegun_makes {T} calls o (Err e) memory = subst (λ (x : JournalError). Makes {T = T} DiskFault Memory calls calls o o (Err x)) (sym memory) (unbegun T calls o)

-- the calls that are left, said otherwise
pub left_as : {T : Type 0} (calls left same : List Call) (o n : Option Told) (r : Result T JournalError) → (IsErrOf r Memory → left ≡ same)
    → Makes DiskFault Memory calls left o n r → Makes DiskFault Memory calls same o n r
left_as calls left same o n r is m = record {
  ok = m.ok;
  failed = m.failed;
  ran_out = λ e. subst (λ (l : List Call). MadeUpTo calls l o n) (is e) (m.ran_out e);
}

-- what a journal's call of the disk makes, by what it keeps
pub made_by : {D T : Type 0} (told : D → Option Told) (calls left : Kept D → List Call) (k now : Kept D) → k ≡ now → (n : Option Told) (r : Result T DiskError)
    → Makes Disk.Failed Disk.Memory (calls k) (left k) (told k.disk) n r → Makes DiskFault Memory (calls now) (left now) (told now.disk) n (answer_of r)
made_by {D} {T} told calls left k now is n r m =
    subst (λ (x : Kept D). Makes DiskFault Memory (calls x) (left x) (told x.disk) n (answer_of r)) is (makes_on (calls k) (left k) (told k.disk) n r m)

-- what is left of a batch's pieces is written, up to so many of them
pub put_makes : {D T : Type 0} (told : D → Option Told) (k now : Kept D) → k ≡ now → (ps : List Span) → ps ≡ k.batch.pieces → (written : ℕ) (n : Option Told) (r : Result T DiskError)
    → Makes Disk.Failed Disk.Memory (writes_of (drop k.batch.written ps)) (writes_of (drop written ps)) (told k.disk) n r
    → Makes DiskFault Memory (writes_of (drop now.batch.written now.batch.pieces)) (writes_of (drop written k.batch.pieces)) (told now.disk) n (answer_of r)
put_makes {D} {T} told k now is ps same written n r m =
    made_by told (λ x. writes_of (drop x.batch.written x.batch.pieces)) (λ x. writes_of (drop written k.batch.pieces)) k now is n r
    (subst (λ (l : List Span). Makes Disk.Failed Disk.Memory (writes_of (drop k.batch.written l)) (writes_of (drop written l)) (told k.disk) n r) same m)

-- where a batch is staged, or sealed, nothing is left to be done for that
pub stage_none : {D : Type 0} (s : Step) (k : Kept D) (handed : List Record) → (s ≡ Idle → ⊥) → (s ≡ Staging → ⊥) → spans_to_stage s k handed ≡ []
stage_none Idle k handed idle staging = absurd (idle refl)
stage_none Staging k handed idle staging = absurd (staging refl)
stage_none Staged k handed idle staging = refl
stage_none Sealed k handed idle staging = refl
stage_none Gated k handed idle staging = refl

pub seal_none : (s : Step) → (s ≡ Staged → ⊥) → calls_to_seal s ≡ []
seal_none Idle staged = refl
seal_none Staging staged = refl
seal_none Staged staged = absurd (staged refl)
seal_none Sealed staged = refl
seal_none Gated staged = refl
