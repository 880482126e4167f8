-- The calls of the disk since it was opened, behind a step of a batch.
use Rattle.std.proofs.Common.{◌≡◌, ℕ, ◌+◌, ◌∙◌, List, [], ◌∷◌, ◌++◌, length, refl, sym, ap, subst, inl, inr, append-nil, append_assoc, Result, Ok, Err}
use Rattle.std.specs.Prelude.{Option, IsErrOf, OnErr, OnOk}
use Rattle.std.specs.Option.{option_map}
use Rattle.im_disk.specs.Disk.{Told, after}
use Rattle.im_disk.specs.Grown.{after_all}
use Rattle.im_disk.specs.declared.calls.Call.{Call}
use Rattle.im_disk.specs.declared.calls.Call.TheVariants.{Wrote, Synced}
use Rattle.im_disk.proofs.Growing.{told_none}
use Rattle.im_format.specs.Batches.{gate_of, joined}
use Rattle.im_format.specs.declared.records.Record.{Record}
use Rattle.im_journal.specs.Holding.{ends_of}
use Rattle.im_journal.specs.Kept.{Batch, HasSealed, HasStaged, Kept}
use Rattle.im_journal.specs.Made.{MadeUpTo, Makes, calls_to_seal, calls_to_settle, calls_to_stage, failed_call, spans_to_stage, writes_of}
use Rattle.im_journal.specs.Pieces.{pieces_of}
use Rattle.im_journal.specs.declared.batches.Step.{Step}
use Rattle.im_journal.specs.declared.batches.Step.TheVariants.{Idle, Staging, Staged, Sealed, Gated}
use Rattle.im_journal.specs.declared.ends.Ends.{Ends}
use Rattle.im_journal.specs.declared.errors.JournalError.{JournalError}
use Rattle.im_journal.specs.declared.errors.JournalError.TheVariants.{DiskFault, Memory}
use Rattle.im_journal.proofs.Making.{made_both}
use Rattle.im_journal.proofs.Mids.{err_then, on_both}
use Rattle.im_seated_journal.specs.Calls.{MakesPart, calls_left, calls_of_batch, calls_of_batches}

-- what was made but for what is left was made as far as it came
pub part_of : (calls left : List Call) (a b : Option Told) → MadeUpTo calls left a b → MakesPart calls a b
part_of calls left a b m = (m.made, left, m.split, inl m.told)

-- none of them was made
pub none_part : (a b : Option Told) → b ≡ a → MakesPart [] a b
none_part a b same = ([], [], refl, inl (same ∙ told_none a))

-- the calls of batches, and of one more
pub batches_more : (first more : List (List Record)) (rs : List Record) → calls_of_batches first (more ++ rs ∷ []) ≡ calls_of_batches first more ++ calls_of_batch (first ++ more) rs
batches_more first [] rs = append-nil (calls_of_batch first rs) ∙ ap (λ (b : List (List Record)). calls_of_batch b rs) (sym (append-nil first))
batches_more first (batch ∷ more) rs =
    let own = calls_of_batch first batch in
    ap (λ (l : List Call). own ++ l) (batches_more (first ++ batch ∷ []) more rs
    ∙ ap (λ (b : List (List Record)). calls_of_batches (first ++ batch ∷ []) more ++ calls_of_batch b rs) (append_assoc first (batch ∷ []) more))
    ∙ sym (append_assoc own (calls_of_batches (first ++ batch ∷ []) more) (calls_of_batch (first ++ (batch ∷ more)) rs))

-- those of a batch behind the ends of these batches, which hold so many transactions
pub batch_calls : (batches : List (List Record)) (ends : Ends) (durable : ℕ) (rs : List Record) → (rs ≡ [] → ⊥) → ends ≡ ends_of batches → length (joined batches) ≡ durable
    → calls_of_batch batches rs ≡ writes_of (pieces_of ends (durable + 1) rs) ++ Synced ∷ Wrote 1 ends.commits (1 ∷ []) ∷ Synced ∷ []
batch_calls batches ends durable [] some at number = absurd (some refl)
batch_calls batches ends durable (r ∷ rs) some at number =
    ap (λ (n : ℕ). writes_of (pieces_of (ends_of batches) (n + 1) (r ∷ rs)) ++ Synced ∷ Wrote 1 (gate_of (length batches)) (1 ∷ []) ∷ Synced ∷ []) number
    ∙ ap (λ (e : Ends). writes_of (pieces_of e (durable + 1) (r ∷ rs)) ++ Synced ∷ Wrote 1 e.commits (1 ∷ []) ∷ Synced ∷ []) (sym at)

-- what a step makes of calls of which those that the batch had left were left
pub record StepMakes {D T : Type 0} (told : D → Option Told) (calls : List Call) (o : Option Told) (next : Kept D) (r : Result T JournalError) : Type 0 where
  pub ok : OnOk r (MadeUpTo calls (calls_left next.batch.step next) o (told next.disk))
  pub again : IsErrOf r Memory → MadeUpTo calls (calls_left next.batch.step next) o (told next.disk)
  pub failed : IsErrOf r DiskFault → MakesPart calls o (told next.disk)

on_any : {T : Type 0} (r : Result T JournalError) (P : Type 0) → P → OnOk r P
on_any (Ok x) P p = p
on_any (Err e) P p = tt

-- the calls that are left behind a step, told by what the step says
left_by : {D : Type 0} (told : D → Option Told) (calls left : List Call) (o : Option Told) (s : Step) (next : Kept D) → left ≡ calls_left s next → next.batch.step ≡ s
    → MadeUpTo calls left o (told next.disk) → MadeUpTo calls (calls_left next.batch.step next) o (told next.disk)
left_by told calls left o s next is at m =
    subst (λ (x : Step). MadeUpTo calls (calls_left x next) o (told next.disk)) (sym at) (subst (λ (l : List Call). MadeUpTo calls l o (told next.disk)) is m)

-- a step that is to make the first of the calls that are left
module _ {T : Type 0} (calls first rest tail : List Call) (o m n : Option Told) (r : Result T JournalError) (h : MadeUpTo calls (first ++ tail) o m) (makes : Makes DiskFault Memory first rest m n r) where
  all_ok : (r : Result T JournalError) → OnOk r (n ≡ option_map (after_all first) m) → OnOk r (MadeUpTo calls tail o n)
  all_ok (Ok x) is = made_both calls first [] tail o m n h (record { made = first; split = sym (append-nil first); told = is })
  all_ok (Err e) is = tt

  made_ok : OnOk r (MadeUpTo calls tail o n)
  made_ok = all_ok r makes.ok

  made_again : IsErrOf r Memory → MadeUpTo calls (rest ++ tail) o n
  made_again e = made_both calls first rest tail o m n h (makes.ran_out e)

  made_failed : IsErrOf r DiskFault → MakesPart calls o n
  made_failed e =
      let f = makes.failed e in
      let u = made_both calls first (f.0 ∷ f.1) tail o m f.2 h f.3 in
      (u.made, f.0 ∷ (f.1 ++ tail), u.split, inr (f.0, f.1 ++ tail, refl, f.4 ∙ ap (λ (x : Option Told). option_map (after (failed_call f.0)) x) u.told))

module _ {D T : Type 0} (told : D → Option Told) (k next : Kept D) (r : Result T JournalError) (calls : List Call) (o : Option Told) where
  -- nothing was done
  stays_makes : next ≡ k → MadeUpTo calls (calls_left k.batch.step k) o (told k.disk) → StepMakes told calls o next r
  stays_makes same h =
      let now = subst (λ (x : Kept D). MadeUpTo calls (calls_left x.batch.step x) o (told x.disk)) (sym same) h in
      record { ok = on_any r (MadeUpTo calls (calls_left next.batch.step next) o (told next.disk)) now; again = λ e. now; failed = λ e. part_of calls (calls_left next.batch.step next) o (told next.disk) now }

  -- the pieces that are left are written
  pub stage_makes : (k.batch.step ≡ Idle → ⊥) → Makes DiskFault Memory (calls_to_stage k []) (calls_to_stage next []) (told k.disk) (told next.disk) r → next.ends ≡ k.ends
      → ((HasStaged k.batch.step → ⊥) → OnOk r (next.batch.step ≡ Staged)) → (HasStaged k.batch.step → next ≡ k) → (IsErrOf r Memory → next.batch.step ≡ Staging)
      → MadeUpTo calls (calls_left k.batch.step k) o (told k.disk) → StepMakes told calls o next r
  stage_makes busy makes ends step nothing again h = by k.batch.step refl makes h
    where
      same : calls_left Staged k ≡ calls_left Staged next
      same = ap (λ (e : Ends). Synced ∷ Wrote 1 e.commits (1 ∷ []) ∷ Synced ∷ []) (sym ends)

      rest : (s : Step) → s ≡ Staging → writes_of (spans_to_stage s next []) ++ calls_left Staged k ≡ calls_left Staging next
      rest s is =
          subst (λ (x : Step). writes_of (spans_to_stage x next []) ++ calls_left Staged k ≡ calls_left Staging next) (sym is)
          (ap (λ (l : List Call). writes_of (spans_to_stage Staging next []) ++ l) same)

      by : (s : Step) → k.batch.step ≡ s → Makes DiskFault Memory (writes_of (spans_to_stage s k [])) (calls_to_stage next []) (told k.disk) (told next.disk) r
          → MadeUpTo calls (calls_left s k) o (told k.disk) → StepMakes told calls o next r
      by Idle is makes h = absurd (busy is)
      by Staging is makes h =
          let first = writes_of (spans_to_stage Staging k []) in
          let left = calls_to_stage next [] in
          let tail = calls_left Staged k in
          record {
            ok = on_both r (MadeUpTo calls tail o (told next.disk)) (next.batch.step ≡ Staged) (MadeUpTo calls (calls_left next.batch.step next) o (told next.disk))
                (made_ok calls first left tail o (told k.disk) (told next.disk) r h makes) (step (λ has. subst HasStaged is has)) (λ m at. left_by told calls tail o Staged next same at m);
            again = λ e. left_by told calls (left ++ tail) o Staging next (rest next.batch.step (again e)) (again e) (made_again calls first left tail o (told k.disk) (told next.disk) r h makes e);
            failed = made_failed calls first left tail o (told k.disk) (told next.disk) r h makes;
          }
      by Staged is makes h = stays_makes (nothing (subst HasStaged (sym is) tt)) (subst (λ (s : Step). MadeUpTo calls (calls_left s k) o (told k.disk)) (sym is) h)
      by Sealed is makes h = stays_makes (nothing (subst HasStaged (sym is) tt)) (subst (λ (s : Step). MadeUpTo calls (calls_left s k) o (told k.disk)) (sym is) h)
      by Gated is makes h = stays_makes (nothing (subst HasStaged (sym is) tt)) (subst (λ (s : Step). MadeUpTo calls (calls_left s k) o (told k.disk)) (sym is) h)

  -- and made durable
  pub seal_makes : HasStaged k.batch.step → Makes DiskFault Memory (calls_to_seal k.batch.step) (calls_to_seal next.batch.step) (told k.disk) (told next.disk) r → next.ends ≡ k.ends
      → (k.batch.step ≡ Staged → OnOk r (next.batch.step ≡ Sealed)) → (HasSealed k.batch.step → next ≡ k) → OnErr r (next.batch ≡ k.batch)
      → MadeUpTo calls (calls_left k.batch.step k) o (told k.disk) → StepMakes told calls o next r
  seal_makes has makes ends step nothing batch h = by k.batch.step refl has makes h
    where
      same : calls_left Sealed k ≡ calls_left Sealed next
      same = ap (λ (e : Ends). Wrote 1 e.commits (1 ∷ []) ∷ Synced ∷ []) (sym ends)

      rest : (s : Step) → s ≡ Staged → calls_to_seal s ++ calls_left Sealed k ≡ calls_left Staged next
      rest s is = subst (λ (x : Step). calls_to_seal x ++ calls_left Sealed k ≡ calls_left Staged next) (sym is) (ap (λ (l : List Call). Synced ∷ l) same)

      by : (s : Step) → k.batch.step ≡ s → HasStaged s → Makes DiskFault Memory (calls_to_seal s) (calls_to_seal next.batch.step) (told k.disk) (told next.disk) r
          → MadeUpTo calls (calls_left s k) o (told k.disk) → StepMakes told calls o next r
      by Idle is has makes h = absurd has
      by Staging is has makes h = absurd has
      by Staged is has makes h =
          let left = calls_to_seal next.batch.step in
          let tail = calls_left Sealed k in
          let at : IsErrOf r Memory → next.batch.step ≡ Staged = λ e. ap (λ (b : Batch). b.step) (err_then r Memory (next.batch ≡ k.batch) batch e) ∙ is in
          record {
            ok = on_both r (MadeUpTo calls tail o (told next.disk)) (next.batch.step ≡ Sealed) (MadeUpTo calls (calls_left next.batch.step next) o (told next.disk))
                (made_ok calls (Synced ∷ []) left tail o (told k.disk) (told next.disk) r h makes) (step is) (λ m at. left_by told calls tail o Sealed next same at m);
            again = λ e. left_by told calls (left ++ tail) o Staged next (rest next.batch.step (at e)) (at e) (made_again calls (Synced ∷ []) left tail o (told k.disk) (told next.disk) r h makes e);
            failed = made_failed calls (Synced ∷ []) left tail o (told k.disk) (told next.disk) r h makes;
          }
      by Sealed is has makes h = stays_makes (nothing (subst HasSealed (sym is) tt)) (subst (λ (s : Step). MadeUpTo calls (calls_left s k) o (told k.disk)) (sym is) h)
      by Gated is has makes h = stays_makes (nothing (subst HasSealed (sym is) tt)) (subst (λ (s : Step). MadeUpTo calls (calls_left s k) o (told k.disk)) (sym is) h)

  -- and its gate opened
  pub settle_makes : HasSealed k.batch.step
      → Makes DiskFault Memory (calls_to_settle k.batch.step k.ends.commits) (calls_to_settle next.batch.step next.ends.commits) (told k.disk) (told next.disk) r
      → OnOk r (next.batch.step ≡ Idle) → (IsErrOf r Memory → HasSealed next.batch.step)
      → MadeUpTo calls (calls_left k.batch.step k) o (told k.disk) → StepMakes told calls o next r
  settle_makes has makes step again h =
      let first = calls_to_settle k.batch.step k.ends.commits in
      let left = calls_to_settle next.batch.step next.ends.commits in
      let before = subst (λ (l : List Call). MadeUpTo calls l o (told k.disk)) (sym (whole k.batch.step k has)) h in
      record {
        ok = on_both r (MadeUpTo calls [] o (told next.disk)) (next.batch.step ≡ Idle) (MadeUpTo calls (calls_left next.batch.step next) o (told next.disk))
            (made_ok calls first left [] o (told k.disk) (told next.disk) r before makes) step (λ m at. left_by told calls [] o Idle next refl at m);
        again = λ e. subst (λ (l : List Call). MadeUpTo calls l o (told next.disk)) (whole next.batch.step next (again e)) (made_again calls first left [] o (told k.disk) (told next.disk) r before makes e);
        failed = made_failed calls first left [] o (told k.disk) (told next.disk) r before makes;
      }
    where
      whole : (s : Step) (x : Kept D) → HasSealed s → calls_to_settle s x.ends.commits ++ [] ≡ calls_left s x
      whole Idle x has = absurd has
      whole Staging x has = absurd has
      whole Staged x has = absurd has
      whole Sealed x has = refl
      whole Gated x has = refl
