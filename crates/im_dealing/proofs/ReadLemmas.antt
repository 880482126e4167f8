-- What is read behind the first transactions, and beyond the last.
use Rattle.std.proofs.Common.{◌≡◌, ◌<◌, ◌≤◌, ◌∙◌, ℕ, List, length, take, arith, ap, subst, sym, inl, inr, unwrap_or, IfNone, IfOk, IfSome, Option, None, Some, Result, Ok, Err}
use Rattle.std.proofs.lemmas.List.{take_all}
use Rattle.std.specs.Prelude.{MatchResult}
use Rattle.im_model.specs.declared.transactions.Transaction.{Transaction}
use Rattle.im_report.specs.Reads.{IsReadAt}
use Rattle.im_report.specs.Replies.{beyond_reply}

-- what is said of a value that is given
pub some-said : {T : Type 0} (P : T → Type 0) (given : Option T) (value : T) → given ≡ Some value → IfSome given P → P value
some-said {T} P given value is said =
    let Q : Option T → Type 0 = λ o. IfSome o P in
    subst Q is said

-- and of none
pub none-said : {T : Type 0} (P : Type 0) (given : Option T) → given ≡ None → IfNone given P → P
none-said {T} P given is said =
    let Q : Option T → Type 0 = λ o. IfNone o P in
    subst Q is said

-- a number beyond the last transaction is refused
pub read-beyond : (history : List Transaction) (at : Option ℕ) (shows : List Transaction → List ℕ → Type 0) (reply : List ℕ) (count n : ℕ)
    → count ≡ length history → at ≡ Some n → count < n → reply ≡ beyond_reply count → IsReadAt history at shows reply
read-beyond history at shows reply count n size named beyond e =
    let P : Option ℕ → Type 0 = λ a. IsReadAt history a shows reply in
    subst P (sym named) (inl (omega arith, e ∙ ap beyond_reply size))

-- and of one that isn't, what stands behind it
pub read-within : (history : List Transaction) (at : Option ℕ) (shows : List Transaction → List ℕ → Type 0) (reply : List ℕ) (count n : ℕ)
    → count ≡ length history → n ≡ unwrap_or at count → n ≤ count → shows (take n history) reply → IsReadAt history at shows reply
read-within history None shows reply count n size named within says =
    let all : n ≡ count = named in
    subst (λ (h : List Transaction). shows h reply) (take_all n history (omega (arith, size, all))) says
read-within history (Some m) shows reply count n size named within says =
    let same : n ≡ m = named in
    inr (omega (arith, size, same, within), subst (λ (k : ℕ). shows (take k history) reply) same says)

-- what is said of a value that was given, where any that was is this one, and no error was
pub still-given : {T E : Type 0} (given : Result T E) (value : T) (P S : T → Type 0) (F : E → Type 0)
    → MatchResult given S F → ((x : T) → S x → x ≡ value) → ((e : E) → F e → ⊥) → IfOk given P → P value
still-given {T} {E} (Ok x) value P S F is one none said = subst P (one x is) said
still-given {T} {E} (Err e) value P S F is one none said = absurd (none e is)
