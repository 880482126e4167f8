-- Calls that failed change nothing that reads give.
use Rattle.std.proofs.Common.{◌≡◌, ℕ, List, [], ◌∷◌, ◌++◌, ◌∙◌, refl, sym, subst}
use Rattle.std.proofs.lemmas.List.Elements.{All-head, All-tail}
use Rattle.std.specs.Prelude.{All, IsTrue, Option, Some, None, IfSome, reverse}
use Rattle.std.specs.Option.{option_map}
use Rattle.im_disk.specs.declared.calls.Call.{Call}
use Rattle.im_disk.specs.declared.calls.Call.TheVariants.{Wrote, Tore, Synced, Missed}
use Rattle.im_disk.specs.Disk.{Files, Told, seen, seen_after}
use Rattle.im_disk.specs.Recorded.{is_failure}
use Rattle.im_disk.specs.Fused.{with_calls}

one_failure : (first : Files) (call : Call) (calls : List Call) → IsTrue (is_failure call) → (k : ℕ) → seen_after first (call ∷ calls) k ≡ seen_after first calls k
one_failure first (Wrote file at piece) calls failed k = cc
one_failure first (Tore file at n) calls failed k = refl
one_failure first Synced calls failed k = refl
one_failure first Missed calls failed k = refl

failures_unseen : (first : Files) (more calls : List Call) → All (λ call. IsTrue (is_failure call)) more → (k : ℕ) → seen_after first (more ++ calls) k ≡ seen_after first calls k
failures_unseen first [] calls failed k = refl
failures_unseen first (call ∷ more) calls failed k =
    one_failure first call (more ++ calls) (All-head (λ c. IsTrue (is_failure c)) call more failed) k
    ∙ failures_unseen first more calls (All-tail (λ c. IsTrue (is_failure c)) call more failed) k

-- what holds of what reads of the disk within give holds of what reads through the fuse give
pub seen_through : (Q : List ℕ → Type 0) (failed : List Call) (o : Option Told) (k : ℕ) → All (λ call. IsTrue (is_failure call)) (reverse failed)
    → IfSome o (λ t. Q (seen t k)) → IfSome (option_map (with_calls failed) o) (λ t. Q (seen t k))
seen_through Q failed None k failures h = tt
seen_through Q failed (Some t) k failures h = subst Q (sym (failures_unseen t.first (reverse failed) t.calls failures k)) h

-- and the other way
pub seen_within : (Q : List ℕ → Type 0) (failed : List Call) (o : Option Told) (k : ℕ) → All (λ call. IsTrue (is_failure call)) (reverse failed)
    → IfSome (option_map (with_calls failed) o) (λ t. Q (seen t k)) → IfSome o (λ t. Q (seen t k))
seen_within Q failed None k failures h = tt
seen_within Q failed (Some t) k failures h = subst Q (failures_unseen t.first (reverse failed) t.calls failures k) h
