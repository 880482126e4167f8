-- What images stand for at rest and while a batch is in progress.
use Rattle.std.proofs.Common.{◌≡◌, ℕ, ◌+◌, ◌^◌, ◌<◌, List, [], ◌∷◌, ◌++◌, length, take, drop, refl, sym, ◌∙◌, ap, subst, arith, inl, inr}
use Rattle.std.specs.Prelude.{All, Option, IfSome, IsErrOf, OnErr, OnOk, Result, Ok, Err}
use Rattle.im_digest.specs.Digests.{Hash}
use Rattle.im_disk.specs.Disk.{Files, Told}
use Rattle.im_disk.specs.Moments.{Leaves, LeavesNow}
use Rattle.im_disk.proofs.Leaving.{if_told, leaves_nothing, leaves_weaker}
use Rattle.im_model.specs.declared.transactions.Transaction.{Transaction}
use Rattle.im_format.specs.Batches.{gate_of, spans_of}
use Rattle.im_format.specs.Standing.{Stands}
use Rattle.im_format.specs.declared.records.Record.{Record}
use Rattle.im_format.specs.declared.spans.Span.{Span}
use Rattle.im_journal.specs.Holding.{AreFirst, AreNext, IsResting, ends_of}
use Rattle.im_journal.specs.Kept.{CanStage, HasSealed, HasStaged, IsAtStep, IsAtRest, IsInBatch, Kept, StandsBy}
use Rattle.im_journal.specs.Phases.{FitsDisk, IsDone, IsEither, IsGated, HasOpenGate, IsSafe, IsSealed, IsStaging}
use Rattle.im_journal.specs.Pieces.{end_of, ends_after, pieces_of}
use Rattle.im_journal.specs.declared.batches.Step.{Step}
use Rattle.im_journal.specs.declared.batches.Step.TheVariants.{Idle, Staging, Staged, Sealed, Gated}
use Rattle.im_journal.specs.declared.errors.JournalError.{JournalError}
use Rattle.im_journal.specs.declared.ends.Ends.{Ends}
use Rattle.im_record.specs.Writing.{IsWhole}
use Rattle.im_journal.proofs.Calls.{safe_front}
use Rattle.im_journal.proofs.Clear.{all_pieces}
use Rattle.im_journal.proofs.Limits.{all_whole, ends_room, next_small}
use Rattle.im_journal.proofs.Turns.{begins, first_more, rests, stands}
use Rattle.im_journal.proofs.Whole.{batch_safe, ends_more}

-- the ends are those of the batches
pub first_at : (hash : Hash) (history : List Transaction) (batches : List (List Record)) (durable : ℕ) (ends : Ends) → AreFirst hash history batches durable ends → AreFirst hash history batches durable (ends_of batches)
first_at hash history batches durable ends first = subst (λ (e : Ends). AreFirst hash history batches durable e) first.ends_are first

pub safe_stands : (hash : Hash) (history : List Transaction) (batches : List (List Record)) (durable : ℕ) (ends : Ends) → AreFirst hash history batches durable ends
    → (image : Files) → IsSafe (end_of ends) (spans_of batches) (gate_of (length batches)) image → Stands hash image (take durable history)
safe_stands hash history batches durable ends first image safe =
    stands hash history batches durable (first_at hash history batches durable ends first) image
    (subst (λ (e : Ends). IsSafe (end_of e) (spans_of batches) (gate_of (length batches)) image) first.ends_are safe)

module _ {D : Type 0} (told : D → Option Told) (hash : Hash) (history : List Transaction) (batches : List (List Record)) (k : Kept D) (rest : IsAtRest told hash history batches k) where
  -- at rest each image stands for what is durable
  pub rest_stands : LeavesNow (λ image. Stands hash image (take k.durable history)) (told k.disk)
  rest_stands = if_told (IsResting batches k.ends) (λ t. _) (λ t h image now. safe_stands hash history batches k.durable k.ends rest.first image (h.safe image now)) (told k.disk) rest.resting

  -- a batch begins
  pub begun : (rs : List Record) → IfSome (told k.disk) (IsStaging (end_of k.ends) (spans_of batches) (gate_of (length batches)) [] (pieces_of k.ends (k.durable + 1) rs))
  begun rs = subst (λ (e : Ends). IfSome (told k.disk) (IsStaging (end_of e) (spans_of batches) (gate_of (length batches)) [] (pieces_of e (k.durable + 1) rs))) (sym rest.first.ends_are)
      (if_told (IsResting batches (ends_of batches)) (IsStaging (end_of (ends_of batches)) (spans_of batches) (gate_of (length batches)) [] (pieces_of (ends_of batches) (k.durable + 1) rs))
      (begins hash history batches k.durable (first_at hash history batches k.durable k.ends rest.first) rs) (told k.disk)
      (subst (λ (e : Ends). IfSome (told k.disk) (IsResting batches e)) rest.first.ends_are rest.resting))

  pub rest_whole : (rs : List Record) → AreNext hash history batches k.durable rs → All IsWhole rs
  rest_whole rs next = all_whole hash history (k.durable + 1) rs next.records_are (next_small hash history batches k.durable rs rest.first.history_is next)

  pub rest_room : (n : ℕ) → end_of k.ends n < 2 ^ 61
  rest_room = ends_room hash history batches k.durable k.ends rest.first

-- pieces behind ends that aren't great fit a disk
pub pieces_fit : (ends : Ends) (id : ℕ) (rs : List Record) → ((n : ℕ) → end_of ends n < 2 ^ 61) → All FitsDisk (pieces_of ends id rs)
pieces_fit ends id rs room = all_pieces ends id rs FitsDisk
    (λ number octets two six. record { file = omega (arith, six); place = omega (arith, room number) })
    (record { file = omega arith; place = omega (arith, room 0) })
    (record { file = omega arith; place = omega (arith, room 1) })

module _ {D : Type 0} (told : D → Option Told) (hash : Hash) (history : List Transaction) (batches : List (List Record)) (rs : List Record) (k : Kept D) (mid : IsInBatch told hash history batches rs k) where
  mid_first : AreFirst hash history batches k.durable (ends_of batches)
  mid_first = first_at hash history batches k.durable k.ends mid.first

  pieces_are : k.batch.pieces ≡ pieces_of (ends_of batches) (k.durable + 1) rs
  pieces_are = mid.pieces ∙ ap (λ (e : Ends). pieces_of e (k.durable + 1) rs) mid.first.ends_are

  mid_safe : (image : Files) → IsSafe (end_of k.ends) (spans_of batches) (gate_of (length batches)) image → Stands hash image (take k.durable history)
  mid_safe = safe_stands hash history batches k.durable k.ends mid.first

  mid_opened : (image : Files) → HasOpenGate (end_of k.ends) (spans_of batches ++ k.batch.pieces) (gate_of (length batches)) image → Stands hash image (take (k.durable + length rs) history)
  mid_opened image opened =
      stands hash history (batches ++ rs ∷ []) (k.durable + length rs) (first_more hash history batches k.durable mid_first rs mid.next) image
      (batch_safe hash history batches k.durable rs mid_first mid.next image
      (subst (λ (e : Ends). HasOpenGate (end_of e) (spans_of batches ++ pieces_of (ends_of batches) (k.durable + 1) rs) (gate_of (length batches)) image) mid.first.ends_are
      (subst (λ (ps : List Span). HasOpenGate (end_of k.ends) (spans_of batches ++ ps) (gate_of (length batches)) image) pieces_are opened)))

  mid_either : (image : Files) → IsEither (end_of k.ends) (spans_of batches) (gate_of (length batches)) k.batch.pieces image → StandsBy Gated hash history k.durable (length rs) image
  mid_either image (inl safe) = inl (mid_safe image safe)
  mid_either image (inr opened) = inr (mid_opened image opened)

  pub leaves_safe : (a b : Option Told) → Leaves (IsSafe (end_of k.ends) (spans_of batches) (gate_of (length batches))) a b → Leaves (λ image. Stands hash image (take k.durable history)) a b
  leaves_safe a b l = leaves_weaker (IsSafe (end_of k.ends) (spans_of batches) (gate_of (length batches))) (λ image. Stands hash image (take k.durable history)) mid_safe a b l

  pub leaves_either : (a b : Option Told) → Leaves (IsEither (end_of k.ends) (spans_of batches) (gate_of (length batches)) k.batch.pieces) a b → Leaves (StandsBy Gated hash history k.durable (length rs)) a b
  leaves_either a b l = leaves_weaker (IsEither (end_of k.ends) (spans_of batches) (gate_of (length batches)) k.batch.pieces) (StandsBy Gated hash history k.durable (length rs)) mid_either a b l

  pub at_step : (s : Step) → k.batch.step ≡ s → IsAtStep s (told k.disk) (end_of k.ends) (spans_of batches) (gate_of (length batches)) k.batch.pieces k.batch.written
  at_step s is = subst (λ s. IsAtStep s (told k.disk) (end_of k.ends) (spans_of batches) (gate_of (length batches)) k.batch.pieces k.batch.written) is mid.at

  stands_at : (s : Step) → IsAtStep s (told k.disk) (end_of k.ends) (spans_of batches) (gate_of (length batches)) k.batch.pieces k.batch.written → LeavesNow (StandsBy s hash history k.durable (length rs)) (told k.disk)
  stands_at Idle at = absurd at
  stands_at Staging at = if_told (IsStaging (end_of k.ends) (spans_of batches) (gate_of (length batches)) (take k.batch.written k.batch.pieces) (drop k.batch.written k.batch.pieces)) (λ t. _) (λ t h image now. mid_safe image (h.safe image now)) (told k.disk) at
  stands_at Staged at = if_told (IsStaging (end_of k.ends) (spans_of batches) (gate_of (length batches)) k.batch.pieces []) (λ t. _) (λ t h image now. mid_safe image (h.safe image now)) (told k.disk) at
  stands_at Sealed at = if_told (IsSealed (end_of k.ends) (spans_of batches) (gate_of (length batches)) k.batch.pieces) (λ t. _) (λ t h image now. mid_safe image (safe_front (end_of k.ends) (spans_of batches) k.batch.pieces (gate_of (length batches)) image (h.safe image now))) (told k.disk) at
  stands_at Gated at = if_told (IsGated (end_of k.ends) (spans_of batches) (gate_of (length batches)) k.batch.pieces) (λ t. _) (λ t h image now. mid_either image (h.either image now)) (told k.disk) at

  -- what each image stands for now
  pub mid_stands : LeavesNow (StandsBy k.batch.step hash history k.durable (length rs)) (told k.disk)
  mid_stands = stands_at k.batch.step mid.at

  -- the gate's place, and that each file has room
  pub gate_is : k.ends.commits ≡ gate_of (length batches)
  gate_is = ap (λ (e : Ends). e.commits) mid.first.ends_are

  pub mid_room : (n : ℕ) → end_of k.ends n < 2 ^ 61
  mid_room = ends_room hash history batches k.durable k.ends mid.first

  -- the batch is durable
  pub done_rests : (o : Option Told) → IfSome o (IsDone (end_of k.ends) (spans_of batches) (gate_of (length batches)) k.batch.pieces) → IfSome o (IsResting (batches ++ rs ∷ []) k.batch.ends)
  done_rests o done =
      let after : k.batch.ends ≡ ends_of (batches ++ rs ∷ []) = mid.ends ∙ ap (λ (e : Ends). ends_after e (k.durable + 1) rs) mid.first.ends_are ∙ ends_more hash history batches k.durable rs mid_first mid.next in
      subst (λ (e : Ends). IfSome o (IsResting (batches ++ rs ∷ []) e)) (sym after)
      (if_told (IsDone (end_of (ends_of batches)) (spans_of batches) (gate_of (length batches)) (pieces_of (ends_of batches) (k.durable + 1) rs)) (IsResting (batches ++ rs ∷ []) (ends_of (batches ++ rs ∷ [])))
      (λ t d. rests hash history batches k.durable mid_first rs t mid.next d) o
      (subst (λ (e : Ends). IfSome o (IsDone (end_of e) (spans_of batches) (gate_of (length batches)) (pieces_of (ends_of batches) (k.durable + 1) rs))) mid.first.ends_are
      (subst (λ (ps : List Span). IfSome o (IsDone (end_of k.ends) (spans_of batches) (gate_of (length batches)) ps)) pieces_are done)))

  pub done_first : AreFirst hash history (batches ++ rs ∷ []) (k.durable + k.batch.count) k.batch.ends
  done_first =
      let after : k.batch.ends ≡ ends_of (batches ++ rs ∷ []) = mid.ends ∙ ap (λ (e : Ends). ends_after e (k.durable + 1) rs) mid.first.ends_are ∙ ends_more hash history batches k.durable rs mid_first mid.next in
      subst (λ (n : ℕ). AreFirst hash history (batches ++ rs ∷ []) (k.durable + n) k.batch.ends) (sym mid.count)
      (subst (λ (e : Ends). AreFirst hash history (batches ++ rs ∷ []) (k.durable + length rs) e) (sym after) (first_more hash history batches k.durable mid_first rs mid.next))

-- what the call that writes the pieces leaves
pub put_leaves : {D : Type 0} (told : D → Option Told) (hash : Hash) (history : List Transaction) (batches : List (List Record)) (rs : List Record) (k now : Kept D) (is : k ≡ now)
    → IsInBatch told hash history batches rs now → now.batch.step ≡ Staging → (ps : List Span) → ps ≡ k.batch.pieces → (b : Option Told)
    → (IfSome (told k.disk) (IsStaging (end_of k.ends) (spans_of batches) (gate_of (length batches)) (take k.batch.written ps) (drop k.batch.written ps))
    → Leaves (IsSafe (end_of k.ends) (spans_of batches) (gate_of (length batches))) (told k.disk) b)
    → Leaves (λ image. Stands hash image (take now.durable history)) (told now.disk) b
put_leaves {D} told hash history batches rs k now is mid staging ps same b call =
    let m = subst (λ (x : Kept D). IsInBatch told hash history batches rs x) (sym is) mid in
    let at = at_step told hash history batches rs k m Staging (ap (λ (x : Kept D). x.batch.step) is ∙ staging) in
    subst (λ (x : Kept D). Leaves (λ image. Stands hash image (take x.durable history)) (told x.disk) b) is
    (leaves_safe told hash history batches rs k m (told k.disk) b
    (call (subst (λ (l : List Span). IfSome (told k.disk) (IsStaging (end_of k.ends) (spans_of batches) (gate_of (length batches)) (take k.batch.written l) (drop k.batch.written l))) (sym same) at)))

-- and the one that makes them durable
pub seal_leaves : {D : Type 0} (told : D → Option Told) (hash : Hash) (history : List Transaction) (batches : List (List Record)) (rs : List Record) (k now : Kept D) (is : k ≡ now)
    → IsInBatch told hash history batches rs now → now.batch.step ≡ Staged → (b : Option Told)
    → (IfSome (told k.disk) (IsStaging (end_of k.ends) (spans_of batches) (gate_of (length batches)) k.batch.pieces [])
    → Leaves (IsSafe (end_of k.ends) (spans_of batches) (gate_of (length batches))) (told k.disk) b)
    → Leaves (λ image. Stands hash image (take now.durable history)) (told now.disk) b
seal_leaves {D} told hash history batches rs k now is mid staged b call =
    let m = subst (λ (x : Kept D). IsInBatch told hash history batches rs x) (sym is) mid in
    subst (λ (x : Kept D). Leaves (λ image. Stands hash image (take x.durable history)) (told x.disk) b) is
    (leaves_safe told hash history batches rs k m (told k.disk) b (call (at_step told hash history batches rs k m Staged (ap (λ (x : Kept D). x.batch.step) is ∙ staged))))

-- and the one that opens the gate
pub open_leaves : {D : Type 0} (told : D → Option Told) (hash : Hash) (history : List Transaction) (batches : List (List Record)) (rs : List Record) (k now : Kept D) (is : k ≡ now)
    → IsInBatch told hash history batches rs now → now.batch.step ≡ Sealed → (b : Option Told)
    → (IfSome (told k.disk) (IsSealed (end_of k.ends) (spans_of batches) k.ends.commits k.batch.pieces)
    → Leaves (IsEither (end_of k.ends) (spans_of batches) k.ends.commits k.batch.pieces) (told k.disk) b)
    → Leaves (StandsBy Gated hash history now.durable (length rs)) (told now.disk) b
open_leaves {D} told hash history batches rs k now is mid sealed b call =
    let m = subst (λ (x : Kept D). IsInBatch told hash history batches rs x) (sym is) mid in
    let gate = gate_is told hash history batches rs k m in
    let at = at_step told hash history batches rs k m Sealed (ap (λ (x : Kept D). x.batch.step) is ∙ sealed) in
    subst (λ (x : Kept D). Leaves (StandsBy Gated hash history x.durable (length rs)) (told x.disk) b) is
    (leaves_either told hash history batches rs k m (told k.disk) b
    (subst (λ (n : ℕ). Leaves (IsEither (end_of k.ends) (spans_of batches) n k.batch.pieces) (told k.disk) b) gate
    (call (subst (λ (n : ℕ). IfSome (told k.disk) (IsSealed (end_of k.ends) (spans_of batches) n k.batch.pieces)) (sym gate) at))))

-- and the one that makes it durable
pub settle_leaves : {D : Type 0} (told : D → Option Told) (hash : Hash) (history : List Transaction) (batches : List (List Record)) (rs : List Record) (k now : Kept D) (is : k ≡ now)
    → IsInBatch told hash history batches rs now → now.batch.step ≡ Gated → (b : Option Told)
    → (IfSome (told k.disk) (IsGated (end_of k.ends) (spans_of batches) (gate_of (length batches)) k.batch.pieces)
    → Leaves (IsEither (end_of k.ends) (spans_of batches) (gate_of (length batches)) k.batch.pieces) (told k.disk) b)
    → Leaves (StandsBy Gated hash history now.durable (length rs)) (told now.disk) b
settle_leaves {D} told hash history batches rs k now is mid gated b call =
    let m = subst (λ (x : Kept D). IsInBatch told hash history batches rs x) (sym is) mid in
    subst (λ (x : Kept D). Leaves (StandsBy Gated hash history x.durable (length rs)) (told x.disk) b) is
    (leaves_either told hash history batches rs k m (told k.disk) b (call (at_step told hash history batches rs k m Gated (ap (λ (x : Kept D). x.batch.step) is ∙ gated))))

-- what is left of the states by the step
pub rest_of : {D : Type 0} (told : D → Option Told) (hash : Hash) (history : List Transaction) (batches : List (List Record)) (rs handed : List Record) (k : Kept D)
    → CanStage told hash history batches rs handed k → k.batch.step ≡ Idle → IsAtRest told hash history batches k × AreNext hash history batches k.durable handed × (handed ≡ rs)
rest_of told hash history batches rs handed k (inl rest) idle = (rest.0, subst (λ (l : List Record). AreNext hash history batches k.durable l) (sym rest.2) rest.1, rest.2)
rest_of told hash history batches rs handed k (inr mid) idle = absurd (at_step told hash history batches rs k mid Idle idle)

pub mid_of : {D : Type 0} (told : D → Option Told) (hash : Hash) (history : List Transaction) (batches : List (List Record)) (rs handed : List Record) (k : Kept D)
    → CanStage told hash history batches rs handed k → (k.batch.step ≡ Idle → ⊥) → IsInBatch told hash history batches rs k
mid_of told hash history batches rs handed k (inl rest) some = absurd (some rest.0.idle)
mid_of told hash history batches rs handed k (inr mid) some = mid

-- where nothing is done, what each image stands for stays
pub stays : {D : Type 0} (told : D → Option Told) (hash : Hash) (history : List Transaction) (batches : List (List Record)) (rs : List Record) (k : Kept D)
    → IsInBatch told hash history batches rs k → Leaves (StandsBy k.batch.step hash history k.durable (length rs)) (told k.disk) (told k.disk)
stays told hash history batches rs k mid = (leaves_nothing (StandsBy k.batch.step hash history k.durable (length rs)) (told k.disk), mid_stands told hash history batches rs k mid)

pub can_stay : {D : Type 0} (told : D → Option Told) (hash : Hash) (history : List Transaction) (batches : List (List Record)) (rs handed : List Record) (k : Kept D)
    → CanStage told hash history batches rs handed k → Leaves (StandsBy k.batch.step hash history k.durable (length rs)) (told k.disk) (told k.disk)
can_stay told hash history batches rs handed k (inl rest) =
    subst (λ (s : Step). Leaves (StandsBy s hash history k.durable (length rs)) (told k.disk) (told k.disk)) (sym rest.0.idle)
    (leaves_nothing (StandsBy Idle hash history k.durable (length rs)) (told k.disk), rest_stands told hash history batches k rest.0)
can_stay told hash history batches rs handed k (inr mid) = stays told hash history batches rs k mid

-- at each step an image stands for what it may stand for at last
pub gated_at_last : (s : Step) (hash : Hash) (history : List Transaction) (durable count : ℕ) (image : Files) → StandsBy s hash history durable count image → StandsBy Gated hash history durable count image
gated_at_last Idle hash history durable count image h = inl h
gated_at_last Staging hash history durable count image h = inl h
gated_at_last Staged hash history durable count image h = inl h
gated_at_last Sealed hash history durable count image h = inl h
gated_at_last Gated hash history durable count image h = h

pub stays_at_last : {D : Type 0} (told : D → Option Told) (hash : Hash) (history : List Transaction) (batches : List (List Record)) (rs : List Record) (k : Kept D)
    → IsInBatch told hash history batches rs k → Leaves (StandsBy Gated hash history k.durable (length rs)) (told k.disk) (told k.disk)
stays_at_last told hash history batches rs k mid =
    leaves_weaker (StandsBy k.batch.step hash history k.durable (length rs)) (StandsBy Gated hash history k.durable (length rs)) (gated_at_last k.batch.step hash history k.durable (length rs)) (told k.disk) (told k.disk)
    (stays told hash history batches rs k mid)

-- the steps that are left
pub staged_left : (s : Step) → (s ≡ Idle → ⊥) → (s ≡ Staging → ⊥) → HasStaged s
staged_left Idle idle staging = idle refl
staged_left Staging idle staging = staging refl
staged_left Staged idle staging = tt
staged_left Sealed idle staging = tt
staged_left Gated idle staging = tt

pub sealed_left : (s : Step) → HasStaged s → (s ≡ Staged → ⊥) → HasSealed s
sealed_left Idle has staged = has
sealed_left Staging has staged = has
sealed_left Staged has staged = staged refl
sealed_left Sealed has staged = tt
sealed_left Gated has staged = tt

pub gated_left : (s : Step) → HasSealed s → (s ≡ Sealed → ⊥) → s ≡ Gated
gated_left Idle has sealed = absurd has
gated_left Staging has sealed = absurd has
gated_left Staged has sealed = absurd has
gated_left Sealed has sealed = absurd (sealed refl)
gated_left Gated has sealed = refl

pub ok_isnt : {T : Type 0} (x : T) (error : JournalError) → IsErrOf {T = T} {E = JournalError} (Ok x) error → ⊥
ok_isnt x error is = cc

-- what holds after an error holds after this one
pub err_then : {T : Type 0} (r : Result T JournalError) (error : JournalError) (P : Type 0) → OnErr r P → IsErrOf r error → P
err_then (Ok x) error P h is = absurd (ok_isnt x error is)
err_then (Err e) error P h is = h

pub on_both : {T : Type 0} (r : Result T JournalError) (P Q R : Type 0) → OnOk r P → OnOk r Q → (P → Q → R) → OnOk r R
on_both (Ok x) P Q R p q f = f p q
on_both (Err e) P Q R p q f = tt

pub on_err : {T : Type 0} (r : Result T JournalError) (P Q : Type 0) → OnErr r P → (P → Q) → OnErr r Q
on_err (Ok x) P Q p f = tt
on_err (Err e) P Q p f = f p

-- the gate is durable: the batch is the last one
pub settled_now : {D T : Type 0} (told : D → Option Told) (hash : Hash) (history : List Transaction) (batches : List (List Record)) (rs : List Record) (k now : Kept D) (r : Result T JournalError)
    → k.batch.count ≡ length rs → OnOk r (IsAtRest told hash history (batches ++ rs ∷ []) now) → OnOk r ((now.durable ≡ k.durable + k.batch.count) × (now.ends ≡ k.batch.ends))
    → OnOk r (IsAtRest told hash history (batches ++ rs ∷ []) now × (now.durable ≡ k.durable + length rs))
settled_now told hash history batches rs k now r count rest moved =
    on_both r (IsAtRest told hash history (batches ++ rs ∷ []) now) ((now.durable ≡ k.durable + k.batch.count) × (now.ends ≡ k.batch.ends)) (IsAtRest told hash history (batches ++ rs ∷ []) now × (now.durable ≡ k.durable + length rs)) rest moved
    (λ p q. (p, q.0 ∙ ap (λ (n : ℕ). k.durable + n) count))

pub durable_now : {D T : Type 0} (told : D → Option Told) (hash : Hash) (history : List Transaction) (batches : List (List Record)) (now : Kept D) (r : Result T JournalError)
    → OnOk r (IsAtRest told hash history batches now) → OnOk r (LeavesNow (λ image. Stands hash image (take now.durable history)) (told now.disk))
durable_now told hash history batches now r rest =
    on_both r (IsAtRest told hash history batches now) (IsAtRest told hash history batches now) (LeavesNow (λ image. Stands hash image (take now.durable history)) (told now.disk)) rest rest
    (λ p q. rest_stands told hash history batches now p)
