-- What two numbers are refused.
use Rattle.std.proofs.Common.{◌≡◌, ◌<◌, ◌≤◌, ◌==◌, ◌||◌, ℕ, List, Bool, true, false, if◌then◌else◌, length, nat_lt, ap, sym, ◌∙◌, arith}
use Rattle.std.proofs.lemmas.Bool.{eqb-false, le-ltb, lt-ltb, ltb-false, ne_eqb, or_parts, true_from_ne_false}
use Rattle.im_dealing.specs.Shown.{IsRefusedBetween}
use Rattle.im_report.proofs.ShownLemmas.{above, beyond-closed, order-closed}
use Rattle.im_report.proofs.PlacedLemmas.{beyond-not-placed, order-not-placed}
use Rattle.im_report.specs.Replies.{beyond_reply, order_reply}
use Rattle.im_report.specs.Report.{tells_tx}
use Rattle.im_wire.specs.Lines.{is_open}

pub not_zero : (k : ℕ) → 1 ≤ k → (k == 0) ≡ false
not_zero k some = ne_eqb k 0 (λ e. let no : ⊥ = omega (arith, some, e) in no)

-- two numbers that aren't in order
unordered : (s t : ℕ) → (1 ≤ s → s ≤ t → ⊥) → (s == 0 || nat_lt t s) ≡ true
unordered s t apart =
    true_from_ne_false (s == 0 || nat_lt t s) (λ e. (let parts = or_parts (s == 0) (nat_lt t s) e in
    apart (above s (eqb-false s 0 parts.0)) (ltb-false t s parts.1)))

pub order_between : (n s t : ℕ) (reply : List ℕ) → (1 ≤ s → s ≤ t → ⊥) → reply ≡ order_reply s t → IsRefusedBetween n s t reply
order_between n s t reply apart e = record {
  says = λ history other size. e ∙ sym (ap (λ (b : Bool). if b then order_reply s t else (if nat_lt (length history) t then beyond_reply (length history) else other)) (unordered s t apart));
  closed = ap is_open e ∙ order-closed s t;
  unplaced = ap (λ (r : List ℕ). tells_tx r n) e ∙ order-not-placed s t n;
}

-- two that are, of which the second is beyond the first n transactions
pub beyond_between : (n s t : ℕ) (reply : List ℕ) → 1 ≤ s → s ≤ t → n < t → reply ≡ beyond_reply n → IsRefusedBetween n s t reply
beyond_between n s t reply some order beyond e =
    let ordered : (s == 0 || nat_lt t s) ≡ false = ap (λ (b : Bool). b || nat_lt t s) (not_zero s some) ∙ le-ltb t s order in
    record {
      says = λ history other size. e ∙ ap beyond_reply (sym size)
          ∙ sym (ap (λ (b : Bool). if b then beyond_reply (length history) else other) (lt-ltb (length history) t (omega (arith, size, beyond))))
          ∙ sym (ap (λ (b : Bool). if b then order_reply s t else (if nat_lt (length history) t then beyond_reply (length history) else other)) ordered);
      closed = ap is_open e ∙ beyond-closed n;
      unplaced = ap (λ (r : List ℕ). tells_tx r n) e ∙ beyond-not-placed n n;
    }
