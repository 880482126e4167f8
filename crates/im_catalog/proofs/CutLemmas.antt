-- Of what stands at the front of a text: it is one thing alone, also of several in a row.
use Rattle.std.proofs.Common.{◌≡◌, ◌<◌, ◌+◌, ℕ, List, [], ◌∷◌, ◌++◌, length, take, drop, refl, sym, ap, ap₂, ◌∙◌, append_assoc, arith}
use Rattle.std.proofs.Math.Seq.{take-append_seam, drop-append_seam}
use Rattle.std.proofs.lemmas.List.{append-nil, length_push}
use Rattle.std.proofs.lemmas.List.Elements.{All-push, recursion_from_All}
use Rattle.std.proofs.lemmas.Grind.{flat_map-append}
use Rattle.std.specs.List.{flat_map, AllByRecursion}
use Rattle.im_catalog.specs.Fronts.{StandsFirst, NoneStandsFirst, AreMany}

-- two such ones that stand at the front of one text are one, and so is what is behind them
abbrev pub Cuts : {T : Type 0} → (T → Type 0) → (T → List ℕ) → Type 0
Cuts {T} Is text_of = (x y : T) (a b : List ℕ) → Is x → Is y → text_of x ++ a ≡ text_of y ++ b → (x ≡ y) × (a ≡ b)

-- two fronts of one length
pub same-fronts : (x y a b : List ℕ) → length x ≡ length y → x ++ a ≡ y ++ b → (x ≡ y) × (a ≡ b)
same-fronts x y a b same e = (
  sym (take-append_seam x a) ∙ ap (λ s. take (length x) s) e ∙ ap (λ n. take n (y ++ b)) same ∙ take-append_seam y b,
  sym (drop-append_seam x a) ∙ ap (λ s. drop (length x) s) e ∙ ap (λ n. drop n (y ++ b)) same ∙ drop-append_seam y b,
)

-- ---- many of them, one behind the other

behind-first : {T : Type 0} (Is : T → Type 0) (text_of : T → List ℕ) → Cuts Is text_of → (x y : T) (xs ys : List T) (a b : List ℕ)
    → Is x → Is y → flat_map text_of (x ∷ xs) ++ a ≡ flat_map text_of (y ∷ ys) ++ b → (x ≡ y) × (flat_map text_of xs ++ a ≡ flat_map text_of ys ++ b)
behind-first Is text_of cuts x y xs ys a b p q e =
    cuts x y (flat_map text_of xs ++ a) (flat_map text_of ys ++ b) p q
    (sym (append_assoc (text_of x) (flat_map text_of xs) a) ∙ e ∙ append_assoc (text_of y) (flat_map text_of ys) b)

same-many : {T : Type 0} (Is : T → Type 0) (text_of : T → List ℕ) → Cuts Is text_of → (xs ys : List T) (a b : List ℕ) → length xs ≡ length ys
    → AllByRecursion Is xs → AllByRecursion Is ys → flat_map text_of xs ++ a ≡ flat_map text_of ys ++ b → (xs ≡ ys) × (a ≡ b)
same-many Is text_of cuts [] [] a b same p q e = (refl, e)
same-many Is text_of cuts [] (y ∷ ys) a b same p q e = absurd (let no : ⊥ = omega (arith, same) in no)
same-many Is text_of cuts (x ∷ xs) [] a b same p q e = absurd (let no : ⊥ = omega (arith, same) in no)
same-many Is text_of cuts (x ∷ xs) (y ∷ ys) a b same p q e =
    let first = behind-first Is text_of cuts x y xs ys a b p.0 q.0 e in
    let others = same-many Is text_of cuts xs ys a b (let shorter : length xs ≡ length ys = omega (arith, same) in shorter) p.1 q.1 first.1 in
    (ap₂ (λ z zs. z ∷ zs) first.0 others.0, others.1)

-- lists of one length
pub many-cut : {T : Type 0} (Is : T → Type 0) (text_of : T → List ℕ) (count : ℕ) → Cuts Is text_of → Cuts (AreMany Is count) (λ xs. flat_map text_of xs)
many-cut Is text_of count cuts xs ys a b p q e =
    same-many Is text_of cuts xs ys a b (p.0 ∙ sym q.0) (recursion_from_All Is xs p.1) (recursion_from_All Is ys q.1) e

-- a longer list isn't there where the next one isn't
none-longer : {T : Type 0} (Is : T → Type 0) (text_of : T → List ℕ) → Cuts Is text_of → (xs ys : List T) (left rest : List ℕ) → length xs < length ys
    → AllByRecursion Is xs → AllByRecursion Is ys → NoneStandsFirst Is text_of left → flat_map text_of xs ++ left ≡ flat_map text_of ys ++ rest → ⊥
none-longer Is text_of cuts xs [] left rest fewer p q absent e = omega (arith, fewer)
none-longer Is text_of cuts [] (y ∷ ys) left rest fewer p q absent e =
    absent.none y (flat_map text_of ys ++ rest) q.0 (e ∙ append_assoc (text_of y) (flat_map text_of ys) rest)
none-longer Is text_of cuts (x ∷ xs) (y ∷ ys) left rest fewer p q absent e =
    none-longer Is text_of cuts xs ys left rest (let less : length xs < length ys = omega (arith, fewer) in less) p.1 q.1 absent
    (behind-first Is text_of cuts x y xs ys left rest p.0 q.0 e).1

pub many-none : {T : Type 0} (Is : T → Type 0) (text_of : T → List ℕ) → Cuts Is text_of → (text left : List ℕ) (xs : List T) (at count : ℕ) → at < count
    → StandsFirst (AreMany Is at) (λ ys. flat_map text_of ys) text xs left → NoneStandsFirst Is text_of left
    → NoneStandsFirst (AreMany Is count) (λ ys. flat_map text_of ys) text
many-none Is text_of cuts text left xs at count less stands absent = record {
  none = λ ys rest p e.
      none-longer Is text_of cuts xs ys left rest
      (let fewer : length xs < length ys = omega (arith, less, stands.is.0, p.0) in fewer)
      (recursion_from_All Is xs stands.is.1) (recursion_from_All Is ys p.1) absent (sym stands.split ∙ e);
}

-- one more
pub many-more : {T : Type 0} (Is : T → Type 0) (text_of : T → List ℕ) (text left rest : List ℕ) (xs : List T) (x : T) (at : ℕ)
    → StandsFirst (AreMany Is at) (λ ys. flat_map text_of ys) text xs left → StandsFirst Is text_of left x rest
    → StandsFirst (AreMany Is (at + 1)) (λ ys. flat_map text_of ys) text (xs ++ x ∷ []) rest
many-more Is text_of text left rest xs x at so here = record {
  is = (length_push xs x ∙ ap (λ n. n + 1) so.is.0, All-push Is xs x so.is.1 here.is);
  split =
      so.split ∙ ap (λ s. flat_map text_of xs ++ s) here.split ∙ sym (append_assoc (flat_map text_of xs) (text_of x) rest)
      ∙ ap (λ s. s ++ rest) (ap (λ s. flat_map text_of xs ++ s) (sym (append-nil (text_of x))) ∙ sym (flat_map-append text_of xs (x ∷ [])));
}
