-- The keys of the empty history are SQL's.
use Rattle.std.proofs.Common.{◌≡◌, ◌≤◌, ℕ, zero, suc, List, [], ◌∷◌, length, take, is_some, Some, refl, sym, ap, subst, inl, true≢false, arith}
use Rattle.std.proofs.lemmas.List.{take_all, take-take, length-take-le}
use Rattle.im_model.specs.declared.transactions.Transaction.{Transaction}
use Rattle.im_versions.specs.Versions.{last_version}
use Rattle.im_versions.specs.declared.versions.Version.{Version}
use Rattle.im_sqlmodel.specs.Keys.{table_key}
use Rattle.im_sqlmodel.specs.Tables.{table_text}
use Rattle.im_sqlmodel.specs.Rows.{IsLiveAs}
use Rattle.im_sqlmodel.specs.Kept.{IsSqlSound, IsSqlKept}

no_version : (key : List ℕ) (v : Version) → last_version [] key ≡ Some v → ⊥
no_version key v is = true≢false (sym (ap is_some is))

no_value : (key value : List ℕ) → IsLiveAs [] key value → ⊥
no_value key value h = no_version key h.0 h.1

abbrev no_transactions : List Transaction
no_transactions = []

none_taken : (n : ℕ) → take n no_transactions ≡ no_transactions
none_taken zero = refl
none_taken (suc n) = refl

nothing_is_sound : IsSqlSound []
nothing_is_sound = record {
  texts = λ rest value h. absurd (no_value (0 ∷ rest) value h);
  count = 0;
  counted = inl (refl, refl);
  numbered = λ t is. absurd (no_value (table_key t.name) (table_text t) is.1);
  filled = λ tid some few. absurd (omega (arith, some, few));
  once = λ t u is other same. absurd (no_value (table_key t.name) (table_text t) is.1);
  gapless = λ t i iid is some few. absurd (no_value (table_key t.name) (table_text t) is.0.1);
  marks = λ t row is. absurd (no_value (table_key t.name) (table_text t) is.0.1);
  entries = λ t i row value is row_is given. absurd (no_value (table_key t.name) (table_text t) is.0.1);
  settled = λ n key v prefix last live. absurd (no_version key v (subst (λ (h : List Transaction). last_version h key ≡ Some v) (none_taken n) last));
}

pub nothing_kept : IsSqlKept []
nothing_kept n within = subst IsSqlSound (sym (none_taken n)) nothing_is_sound

-- where they are SQL's after each transaction they are after all, and after each of the first
pub kept-sound : (history : List Transaction) → IsSqlKept history → IsSqlSound history
kept-sound history kept =
    let within : length history ≤ length history = omega arith in
    subst IsSqlSound (take_all (length history) history within) (kept (length history) within)

pub kept-at : (m n : ℕ) (history : List Transaction) → m ≤ n → n ≤ length history → IsSqlKept (take n history) → IsSqlSound (take m history)
kept-at m n history h within kept =
    subst IsSqlSound (take-take m n history h) (kept m (let few : length (take n history) ≡ n = length-take-le n history within in omega (arith, few, h)))

-- and so after each of fewer
pub kept-up : (m n : ℕ) (history : List Transaction) → m ≤ n → n ≤ length history → IsSqlKept (take n history) → IsSqlKept (take m history)
kept-up m n history h within kept k few =
    let long : length (take m history) ≡ m = length-take-le m history (omega (arith, h, within)) in
    subst IsSqlSound (sym (take-take k m history (omega (arith, few, long)))) (kept-at k n history (omega (arith, few, long, h)) within kept)
