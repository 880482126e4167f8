-- Keys that differ: one by one as they are read, and pair by pair.
use Rattle.std.proofs.Common.{◌≡◌, ◌≢◌, ◌+◌, suc, zero, ℕ, List, [], ◌∷◌, ◌++◌, length, refl, ap, ◌∙◌, arith, true, false, if◌then◌else◌, All, AllPairs, inl, inr}
use Rattle.std.specs.Prelude.{bytes_eq}
use Rattle.std.proofs.lemmas.Bool.{cases_Bool}
use Rattle.std.proofs.lemmas.Slice.Eq.{bytes_eq-Decides}
use Rattle.im_model.specs.declared.entries.Entry.{Entry}
use Rattle.im_format.specs.Damages.{index_of}
use Rattle.im_octet.proofs.Common.{bytes-same, bytes-other}

-- the key is none of these
abbrev pub IsFresh : List ℕ → List (List ℕ) → Type 0
IsFresh key [] = Unit {0}
IsFresh key (other ∷ others) = (other ≢ key) × IsFresh key others

-- the keys of entries are none of these, and differ
abbrev pub AreApart : List (List ℕ) → List Entry → Type 0
AreApart keys [] = Unit {0}
AreApart keys (entry ∷ entries) = IsFresh entry.key keys × AreApart (keys ++ entry.key ∷ []) entries

pub same-bytes : (a b : List ℕ) → bytes_eq a b ≡ true → a ≡ b
same-bytes a b e = (bytes_eq-Decides a b).0 e

-- a key that is none of these has no number among them
pub fresh-index : (key : List ℕ) (keys : List (List ℕ)) → IsFresh key keys → index_of key keys ≡ length keys
fresh-index key [] h = refl
fresh-index key (other ∷ others) h =
    let rest : index_of key others ≡ length others = fresh-index key others h.1 in
    ap (λ b. if b then 0 else index_of key others + 1) (bytes-other other key h.0) ∙ omega arith

index-step : (key other : List ℕ) (others : List (List ℕ)) → bytes_eq other key ≡ false → index_of key (other ∷ others) ≡ index_of key others + 1
index-step key other others e = ap (λ b. if b then 0 else index_of key others + 1) e

index-found : (key other : List ℕ) (others : List (List ℕ)) → bytes_eq other key ≡ true → index_of key (other ∷ others) ≡ 0
index-found key other others e = ap (λ b. if b then 0 else index_of key others + 1) e

-- and one with no number among them is none of these
pub index-fresh : (key : List ℕ) (keys : List (List ℕ)) → index_of key keys ≡ length keys → IsFresh key keys
index-fresh key [] e = tt
index-fresh key (other ∷ others) e = elim (cases_Bool (bytes_eq other key)) [
  | inl same ↦ absurd (let none : index_of key (other ∷ others) ≡ 0 = index-found key other others same in omega arith)
  | inr differ ↦ (
      let step : index_of key (other ∷ others) ≡ index_of key others + 1 = index-step key other others differ in
      let rest : index_of key others ≡ length others = omega arith in
      (λ same. absurd (let yes : bytes_eq other key ≡ true = bytes-same other key same in cc), index-fresh key others rest))
]

-- fresh among some and one more
fresh-more : (key : List ℕ) (keys : List (List ℕ)) (last : List ℕ) → IsFresh key keys → last ≢ key → IsFresh key (keys ++ last ∷ [])
fresh-more key [] last h ne = (ne, tt)
fresh-more key (other ∷ others) last h ne = (h.0, fresh-more key others last h.1 ne)

fresh-less : (key : List ℕ) (keys : List (List ℕ)) (last : List ℕ) → IsFresh key (keys ++ last ∷ []) → IsFresh key keys × (last ≢ key)
fresh-less key [] last h = (tt, h.0)
fresh-less key (other ∷ others) last h =
    let rest = fresh-less key others last h.1 in
    ((h.0, rest.0), rest.1)

-- entries whose keys are all fresh
abbrev AllFresh : List (List ℕ) → List Entry → Type 0
AllFresh keys [] = Unit {0}
AllFresh keys (entry ∷ entries) = IsFresh entry.key keys × AllFresh keys entries

all-fresh-more : (keys : List (List ℕ)) (key : List ℕ) (entries : List Entry) → AllFresh keys entries → All (λ e. key ≢ e.key) entries → AllFresh (keys ++ key ∷ []) entries
all-fresh-more keys key [] h ne = tt
all-fresh-more keys key (entry ∷ entries) h ne =
    (fresh-more entry.key keys key h.0 (ne 0 entry (omega arith)), all-fresh-more keys key entries h.1 (λ i d l. ne (suc i) d (omega arith)))

all-first : (key : List ℕ) (entry : Entry) (entries : List Entry) → key ≢ entry.key → All (λ e. key ≢ e.key) entries → All (λ e. key ≢ e.key) (entry ∷ entries)
all-first key entry entries ne h zero d l = ne
all-first key entry entries ne h (suc i) d l = h i d (omega arith)

all-fresh-less : (keys : List (List ℕ)) (key : List ℕ) (entries : List Entry) → AllFresh (keys ++ key ∷ []) entries → AllFresh keys entries × All (λ e. key ≢ e.key) entries
all-fresh-less keys key [] h = (tt, λ i d l. absurd (omega arith))
all-fresh-less keys key (entry ∷ entries) h =
    let here = fresh-less entry.key keys key h.0 in
    let rest = all-fresh-less keys key entries h.1 in
    ((here.0, rest.0), all-first key entry entries here.1 rest.1)

pairs-apart : (keys : List (List ℕ)) (entries : List Entry) → AllFresh keys entries → AllPairs (λ a b. a.key ≢ b.key) entries → AreApart keys entries
pairs-apart keys [] h pairs = tt
pairs-apart keys (entry ∷ entries) h pairs = (
  h.0,
  pairs-apart (keys ++ entry.key ∷ []) entries
      (all-fresh-more keys entry.key entries h.1 (λ i d l. pairs 0 (suc i) d (omega arith) (omega arith)))
      (λ i j d l m. pairs (suc i) (suc j) d (omega arith) (omega arith)),
)

none-before : (entries : List Entry) → AllFresh [] entries
none-before [] = tt
none-before (entry ∷ entries) = (tt, none-before entries)

-- entries whose keys differ pair by pair
pub distinct-apart : (entries : List Entry) → AllPairs (λ a b. a.key ≢ b.key) entries → AreApart [] entries
distinct-apart entries pairs = pairs-apart [] entries (none-before entries) pairs

pairs-first : (entry : Entry) (entries : List Entry) → All (λ e. entry.key ≢ e.key) entries → AllPairs (λ a b. a.key ≢ b.key) entries → AllPairs (λ a b. a.key ≢ b.key) (entry ∷ entries)
pairs-first entry entries first pairs i zero d l m = absurd (omega arith)
pairs-first entry entries first pairs zero (suc j) d l m = first j d (omega arith)
pairs-first entry entries first pairs (suc i) (suc j) d l m = pairs i j d (omega arith) (omega arith)

apart-pairs : (keys : List (List ℕ)) (entries : List Entry) → AreApart keys entries → AllFresh keys entries × AllPairs (λ a b. a.key ≢ b.key) entries
apart-pairs keys [] h = (tt, λ i j d l m. absurd (omega arith))
apart-pairs keys (entry ∷ entries) h =
    let rest = apart-pairs (keys ++ entry.key ∷ []) entries h.1 in
    let less = all-fresh-less keys entry.key entries rest.0 in
    ((h.0, less.0), pairs-first entry entries less.1 rest.1)

pub apart-distinct : (entries : List Entry) → AreApart [] entries → AllPairs (λ a b. a.key ≢ b.key) entries
apart-distinct entries h = (apart-pairs [] entries h).1
