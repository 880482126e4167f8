-- Between two transactions that write keys of SQL's they stay as they are.
use Rattle.std.proofs.Common.{◌≡◌, ◌≤◌, ◌<◌, ◌+◌, ◌||◌, ◌⊎◌, inl, inr, ℕ, zero, suc, Bool, true, false, cond, if◌then◌else◌, min, List, [], ◌∷◌, length, take, filter, get_or, nat_le, AllPairs, Some, None, refl, sym, ap, ◌∙◌, subst, arith}
use Rattle.std.proofs.lemmas.Bool.{cases_Bool, cases_lt, cases_order, le-leb, lt-leb, leb-true}
use Rattle.std.proofs.lemmas.List.{length-take, length-take-le, take-take, take_all, get_or-take}
use Rattle.std.proofs.lemmas.List.Elements.{All-from_recursion, All-take, recursion_from_All}
use Rattle.std.proofs.lemmas.Slice.Eq.{bytes_eq-Decides}
use Rattle.std.specs.Cmp.{nat_cmp_is}
use Rattle.std.specs.List.{AllByRecursion, IsAmong, last_or}
use Rattle.std.specs.Ordering.{is_lt, nat_cmp}
use Rattle.std.specs.declared.cmp.Ordering.{Ordering}
use Rattle.std.specs.declared.cmp.Ordering.TheVariants.{Less, Equal, Greater}
use Rattle.im_octet.proofs.Common.{filter-swap}
use Rattle.im_model.specs.declared.transactions.Transaction.{Transaction}
use Rattle.im_versions.specs.Versions.{last_version, versions_in, versions_from, all_versions, versions_of, is_of, begins_with}
use Rattle.im_versions.specs.declared.versions.Version.{Version}
use Rattle.im_versions.proofs.ListLemmas.{All-among, among-filter}
use Rattle.im_versions.proofs.VersionLemmas.{versions-upto, versions-within, versions_in-number, versions_from-within}
use Rattle.im_versions.specs.Changes.{AreChanges}
use Rattle.im_sqlmodel.specs.Keys.{table_prefix, indexes_prefix}
use Rattle.im_sqlmodel.specs.Kept.{IsSqlSound, IsSqlKept, IsFirstUnsound}
use Rattle.im_sqlmodel.specs.Sorts.{put_sorted, sorted}
use Rattle.im_sqlmodel.proofs.SortLemmas.{sorted-all}
use Rattle.im_catalog.proofs.FrontLemmas.{among-kept, begins-from}
use Rattle.im_sqlsound.specs.Sounding.{AreByNumber}
use Rattle.im_sqlmodel.proofs.CarriedLemmas.{SameLast, carried, begins-zero}
use Rattle.im_sqlsound.proofs.GroupLemmas.{apart-both}
use Rattle.im_sql.proofs.NextLemmas.{Apart, all-of, all-put, all-kept, kept-apart, pairs-from}

-- ---- filters

dropped-one : {A : Type 0} (p : A → Bool) (b : Bool) (x : A) (ys : List A) → p x ≡ false → filter p (cond b (x ∷ ys) ys) ≡ filter p ys
dropped-one p true x ys fails = ap (λ (c : Bool). cond c (x ∷ filter p ys) (filter p ys)) fails
dropped-one p false x ys fails = refl

-- two tests that agree on what passes a third
filter-alike : {A : Type 0} (p q r : A → Bool) (xs : List A) → AllByRecursion (λ x. p x ≡ true → q x ≡ r x) xs → filter p (filter q xs) ≡ filter p (filter r xs)
filter-alike p q r [] all = refl
filter-alike {A} p q r (x ∷ xs) all = elim (cases_Bool (p x)) [
  | inr fails ↦ dropped-one p (q x) x (filter q xs) fails ∙ filter-alike p q r xs all.1 ∙ sym (dropped-one p (r x) x (filter r xs) fails)
  | inl passes ↦
      ap (λ (b : Bool). filter p (cond b (x ∷ filter q xs) (filter q xs))) (all.0 passes)
      ∙ (elim (r x) as (λ (b : Bool). filter p (cond b (x ∷ filter q xs) (filter q xs)) ≡ filter p (cond b (x ∷ filter r xs) (filter r xs))) [
        | true ↦ ap (λ (ys : List A). cond (p x) (x ∷ ys) ys) (filter-alike p q r xs all.1)
        | false ↦ filter-alike p q r xs all.1
      ])
]

-- ---- no key of SQL's is written by transactions k + 1 to m

abbrev zero_front : List ℕ
zero_front = 0 ∷ []

abbrev pub IsQuiet : List Transaction → ℕ → ℕ → Type 0
IsQuiet history k m = (v : Version) → IsAmong (all_versions history) v → begins_with zero_front v.key ≡ true → (v.tx ≤ k) ⊎ (m < v.tx)

quiet-below : (history : List Transaction) (k n m : ℕ) → n ≤ m → IsQuiet history k m → IsQuiet history k n
quiet-below history k n m low quiet v a begins = elim (quiet v a begins) [
  | inl before ↦ inl before
  | inr behind ↦ inr (omega (arith, low, behind))
]

quiet-versions : (history : List Transaction) (k m : ℕ) (key : List ℕ) → k ≤ m → IsQuiet history k m → begins_with zero_front key ≡ true → versions_of (take m history) key ≡ versions_of (take k history) key
quiet-versions history k m key up quiet begins =
    ap (filter (is_of key)) (versions-upto history m)
    ∙ filter-alike (is_of key) (λ (v : Version). nat_le v.tx m) (λ (v : Version). nat_le v.tx k) (all_versions history)
    (all-of (λ (v : Version). is_of key v ≡ true → nat_le v.tx m ≡ nat_le v.tx k) (all_versions history) (λ v a own.
    elim (quiet v a (ap (begins_with zero_front) ((bytes_eq-Decides v.key key).0 own) ∙ begins)) [
      | inl before ↦ le-leb v.tx m (omega (arith, before, up)) ∙ sym (le-leb v.tx k before)
      | inr behind ↦ lt-leb v.tx m behind ∙ sym (lt-leb v.tx k (omega (arith, behind, up)))
    ]))
    ∙ sym (ap (filter (is_of key)) (versions-upto history k))

quiet-same : (history : List Transaction) (k m : ℕ) → k ≤ m → IsQuiet history k m → SameLast (take k history) (take m history)
quiet-same history k m up quiet rest =
    ap (λ (vs : List Version). last_or None vs) (quiet-versions history k m (0 ∷ rest) up quiet (begins-from zero_front rest (0 ∷ rest) refl))

quiet-grows : (history : List Transaction) (k m : ℕ) → k ≤ m → (key : List ℕ) (v : Version) → IsAmong (versions_of (take k history) key) v → IsAmong (versions_of (take m history) key) v
quiet-grows history k m up key v a =
    let own = among-filter (is_of key) (all_versions (take k history)) v a in
    let low = among-filter (λ (w : Version). nat_le w.tx k) (all_versions history) v (subst (λ (vs : List Version). IsAmong vs v) (versions-upto history k) own.1) in
    let few : v.tx ≤ k = leb-true v.tx k low.0 in
    among-kept (is_of key) (all_versions (take m history)) v
    (subst (λ (vs : List Version). IsAmong vs v) (sym (versions-upto history m)) (among-kept (λ (w : Version). nat_le w.tx m) (all_versions history) v low.1 (le-leb v.tx m (omega (arith, few, up)))))
    own.0

quiet-settled : (history : List Transaction) (k m : ℕ) → k ≤ m → m ≤ length history → IsQuiet history k m → IsSqlSound (take k history) → (n : ℕ) (key : List ℕ) (v : Version)
    → (begins_with table_prefix key || begins_with indexes_prefix key) ≡ true → last_version (take n (take m history)) key ≡ Some v → v.deleted ≡ false → last_version (take m history) key ≡ Some v
quiet-settled history k m up within quiet sound n key v begins last alive = elim (cases_lt k n) [
  | inr low ↦ (
      let one : take n (take m history) ≡ take n history = take-take n m history (omega (arith, low, up)) in
      let other : take n (take k history) ≡ take n history = take-take n k history low in
      let before : last_version (take k history) key ≡ Some v = sound.settled n key v begins (ap (λ (h : List Transaction). last_version h key) (other ∙ sym one) ∙ last) alive in
      at-key m up quiet ∙ before)
  | inl less ↦ elim (cases_lt m n) [
    | inr within_m ↦ (
        let one : take n (take m history) ≡ take n history = take-take n m history within_m in
        let there : last_version (take n history) key ≡ Some v = ap (λ (h : List Transaction). last_version h key) (sym one) ∙ last in
        at-key m up quiet ∙ sym (at-key n (omega (arith, less)) (quiet-below history k n m within_m quiet)) ∙ there)
    | inl beyond ↦ (
        let long : length (take m history) ≡ m = length-take-le m history within in
        sym (ap (λ (h : List Transaction). last_version h key) (take_all n (take m history) (omega (arith, long, beyond)))) ∙ last)
  ]
]
  where
    at-key : (m : ℕ) → k ≤ m → IsQuiet history k m → last_version (take m history) key ≡ last_version (take k history) key
    at-key m up quiet =
        let front = begins-zero key begins in
        ap (last_version (take m history)) front.1 ∙ quiet-same history k m up quiet front.0 ∙ sym (ap (last_version (take k history)) front.1)

-- what is SQL's stays so
pub quiet-sound : (history : List Transaction) (k m : ℕ) → k ≤ m → m ≤ length history → IsQuiet history k m → IsSqlSound (take k history) → IsSqlSound (take m history)
quiet-sound history k m up within quiet sound =
    carried (take k history) (take m history) (quiet-same history k m up quiet) (quiet-grows history k m up) (quiet-settled history k m up within quiet sound) sound

-- ---- versions by rising number

abbrev pub by_tx : Version → Version → Ordering
by_tx a b = nat_cmp a.tx b.tx

abbrev pub Rises : Version → Version → Type 0
Rises a b = a.tx ≤ b.tx

rises-each : (a b : Version) (vs : List Version) → Rises a b → AllByRecursion (Rises b) vs → AllByRecursion (Rises a) vs
rises-each a b [] up all = tt
rises-each a b (v ∷ vs) up all = (let next : b.tx ≤ v.tx = all.0 in (omega (arith, up, next), rises-each a b vs up all.1))

not-less : (m n : ℕ) → n ≤ m → is_lt (nat_cmp m n) ≡ false
not-less m n up = elim (cases_order m n) [
  | inl same ↦ ap is_lt (sym (nat_cmp_is m n Equal same))
  | inr (inl less) ↦ absurd (let no : ⊥ = omega (arith, less, up) in no)
  | inr (inr more) ↦ ap is_lt (sym (nat_cmp_is m n Greater more))
]

put-rises : (x : Version) (ys : List Version) → Apart Rises ys → Apart Rises (put_sorted by_tx x ys)
put-rises x [] h = (tt, tt)
put-rises x (y ∷ ys) h = elim (cases_lt y.tx x.tx) [
  | inl less ↦
      subst (λ (o : Ordering). Apart Rises (if is_lt o then y ∷ put_sorted by_tx x ys else x ∷ y ∷ ys)) (nat_cmp_is y.tx x.tx Less less)
      (all-put by_tx (Rises y) x ys (omega (arith, less)) h.0, put-rises x ys h.1)
  | inr up ↦
      subst (λ (b : Bool). Apart Rises (if b then y ∷ put_sorted by_tx x ys else x ∷ y ∷ ys)) (sym (not-less y.tx x.tx up))
      ((up, rises-each x y ys up h.0), h)
]

sorted-apart : (vs : List Version) → Apart Rises (sorted by_tx vs)
sorted-apart [] = tt
sorted-apart (v ∷ vs) = put-rises v (sorted by_tx vs) (sorted-apart vs)

pub sorted-rises : (vs : List Version) → AllPairs (λ a b. a.tx ≤ b.tx) (sorted by_tx vs)
sorted-rises vs = pairs-from Rises (sorted by_tx vs) (sorted-apart vs)

-- a list that rises is in order
put-first : (x : Version) (ys : List Version) → AllByRecursion (Rises x) ys → put_sorted by_tx x ys ≡ x ∷ ys
put-first x [] all = refl
put-first x (y ∷ ys) all = ap (λ (b : Bool). if b then y ∷ put_sorted by_tx x ys else x ∷ y ∷ ys) (not-less y.tx x.tx all.0)

rising-sorted : (vs : List Version) → Apart Rises vs → sorted by_tx vs ≡ vs
rising-sorted [] h = refl
rising-sorted (v ∷ vs) h = ap (put_sorted by_tx v) (rising-sorted vs h.1) ∙ put-first v vs h.0

-- a filter of what is in order is what it keeps, in order
filter-put : (p : Version → Bool) (x : Version) (ys : List Version) → Apart Rises ys → filter p (put_sorted by_tx x ys) ≡ cond (p x) (put_sorted by_tx x (filter p ys)) (filter p ys)
filter-put p x [] h = refl
filter-put p x (y ∷ ys) h = elim (cases_lt y.tx x.tx) [
  | inl less ↦ (
      let here : is_lt (by_tx y x) ≡ true = ap is_lt (sym (nat_cmp_is y.tx x.tx Less less)) in
      ap (λ (b : Bool). filter p (if b then y ∷ put_sorted by_tx x ys else x ∷ y ∷ ys)) here
      ∙ ap (λ (zs : List Version). cond (p y) (y ∷ zs) zs) (filter-put p x ys h.1)
      ∙ by-tests (p x) (p y) here)
  | inr up ↦
      ap (λ (b : Bool). filter p (if b then y ∷ put_sorted by_tx x ys else x ∷ y ∷ ys)) (not-less y.tx x.tx up)
      ∙ ap (λ (zs : List Version). cond (p x) zs (filter p (y ∷ ys))) (sym (put-first x (filter p (y ∷ ys)) (all-kept (Rises x) p (y ∷ ys) (up, rises-each x y ys up h.0))))
]
  where
    by-tests : (a b : Bool) → is_lt (by_tx y x) ≡ true
        → cond b (y ∷ cond a (put_sorted by_tx x (filter p ys)) (filter p ys)) (cond a (put_sorted by_tx x (filter p ys)) (filter p ys))
        ≡ cond a (put_sorted by_tx x (cond b (y ∷ filter p ys) (filter p ys))) (cond b (y ∷ filter p ys) (filter p ys))
    by-tests true true here = sym (ap (λ (c : Bool). if c then y ∷ put_sorted by_tx x (filter p ys) else x ∷ y ∷ filter p ys) here)
    by-tests true false here = refl
    by-tests false true here = refl
    by-tests false false here = refl

filter-sorted : (p : Version → Bool) (vs : List Version) → filter p (sorted by_tx vs) ≡ sorted by_tx (filter p vs)
filter-sorted p [] = refl
filter-sorted p (v ∷ vs) =
    filter-put p v (sorted by_tx vs) (sorted-apart vs) ∙ ap (λ (zs : List Version). cond (p v) (put_sorted by_tx v zs) zs) (filter-sorted p vs) ∙ by-test (p v)
  where
    by-test : (b : Bool) → cond b (put_sorted by_tx v (sorted by_tx (filter p vs))) (sorted by_tx (filter p vs)) ≡ sorted by_tx (cond b (v ∷ filter p vs) (filter p vs))
    by-test true = refl
    by-test false = refl

-- versions of a history rise
in-rises : (k : ℕ) (vs : List Version) → AllByRecursion (λ (v : Version). v.tx ≡ k) vs → Apart Rises vs
in-rises k [] all = tt
in-rises k (v ∷ vs) all = (each vs all.1, in-rises k vs all.1)
  where
    each : (ws : List Version) → AllByRecursion (λ (w : Version). w.tx ≡ k) ws → AllByRecursion (Rises v) ws
    each [] same = tt
    each (w ∷ ws) same = (let own : v.tx ≡ k = all.0 in let other : w.tx ≡ k = same.0 in (omega (arith, own, other), each ws same.1))

pub from-rises : (k : ℕ) (txs : List Transaction) → Apart Rises (versions_from k txs)
from-rises k [] = tt
from-rises k (tx ∷ txs) =
    let own : List Version = versions_in k tx.entries in
    let rest : List Version = versions_from (k + 1) txs in
    let number = recursion_from_All (λ (v : Version). v.tx ≡ k) own (versions_in-number k tx.entries) in
    apart-both Rises own rest (in-rises k own number) (from-rises (k + 1) txs)
    (all-of (λ (v : Version). AllByRecursion (Rises v) rest) own (λ v m. all-of (Rises v) rest (λ w n.
    let here : v.tx ≡ k = All-among (λ (u : Version). u.tx ≡ k) own v (versions_in-number k tx.entries) m in
    let above : k + 1 ≤ w.tx = (All-among (λ (u : Version). (k + 1 ≤ u.tx) × (u.tx < k + 1 + length txs)) rest w (versions_from-within (k + 1) txs) n).0 in
    omega (arith, here, above))))

-- changes by rising number are still the versions of each key
pub changes-sorted : (history : List Transaction) (changes : List Version) → AreChanges history zero_front changes → AreByNumber history (sorted by_tx changes)
changes-sorted history changes are = (
  record {
    each = λ key begins.
        filter-sorted (is_of key) changes ∙ ap (sorted by_tx) (are.each key begins)
        ∙ rising-sorted (versions_of history key) (kept-apart Rises (is_of key) (all_versions history) (from-rises 1 history));
    begin = All-from_recursion (λ (v : Version). begins_with zero_front v.key ≡ true) (sorted by_tx changes)
        (sorted-all by_tx (λ (v : Version). begins_with zero_front v.key ≡ true) changes (recursion_from_All (λ (v : Version). begins_with zero_front v.key ≡ true) changes are.begin));
  },
  sorted-rises changes,
)

-- ---- those up to a transaction

pub take-filter : (p : Version → Bool) (vs : List Version) (e : ℕ) → ((j : ℕ) (d : Version) → j < e → j < length vs → p (get_or vs j d) ≡ true) → ((j : ℕ) (d : Version) → e ≤ j → j < length vs → p (get_or vs j d) ≡ false)
    → take e vs ≡ filter p vs
take-filter p [] zero low high = refl
take-filter p [] (suc e) low high = refl
take-filter p (v ∷ vs) zero low high =
    take-filter p vs zero (λ j d l m. absurd (let no : ⊥ = omega (arith, l) in no)) (λ j d l m. high (suc j) d (omega arith) (omega (arith, m)))
    ∙ sym (ap (λ (b : Bool). cond b (v ∷ filter p vs) (filter p vs)) (high 0 v (omega arith) (omega arith)))
take-filter p (v ∷ vs) (suc e) low high =
    ap (λ (ws : List Version). v ∷ ws)
    (take-filter p vs e (λ j d l m. low (suc j) d (omega (arith, l)) (omega (arith, m))) (λ j d l m. high (suc j) d (omega (arith, l)) (omega (arith, m))))
    ∙ sym (ap (λ (b : Bool). cond b (v ∷ filter p vs) (filter p vs)) (low 0 v (omega arith) (omega arith)))

module _ (history : List Transaction) (n : ℕ) (within : n ≤ length history) (all : List Version) (by : AreByNumber (take n history) all) where
  -- one of them is a version of the history
  all-version : (v : Version) → IsAmong all v → IsAmong (all_versions (take n history)) v × (begins_with zero_front v.key ≡ true)
  all-version v m =
      let begins : begins_with zero_front v.key ≡ true = All-among (λ (w : Version). begins_with zero_front w.key ≡ true) all v by.0.begin m in
      let kept : IsAmong (filter (is_of v.key) all) v = among-kept (is_of v.key) all v m ((bytes_eq-Decides v.key v.key).1 refl) in
      let stands = subst (λ (vs : List Version). IsAmong vs v) (by.0.each v.key begins) kept in
      ((among-filter (is_of v.key) (all_versions (take n history)) v stands).1, begins)

  pub all-within : (v : Version) → IsAmong all v → (1 ≤ v.tx) × (v.tx ≤ n)
  all-within v m =
      let is = All-among (λ (w : Version). (1 ≤ w.tx) × (w.tx ≤ length (take n history))) (all_versions (take n history)) v (versions-within (take n history)) (all-version v m).0 in
      (is.0, subst (λ (k : ℕ). v.tx ≤ k) (length-take-le n history within) is.1)

  -- and each version under such a key up to n is one of them
  version-among : (v : Version) → IsAmong (all_versions history) v → begins_with zero_front v.key ≡ true → v.tx ≤ n → IsAmong all v
  version-among v m begins low =
      let there : IsAmong (all_versions (take n history)) v =
      subst (λ (vs : List Version). IsAmong vs v) (sym (versions-upto history n)) (among-kept (λ (w : Version). nat_le w.tx n) (all_versions history) v m (le-leb v.tx n low)) in
      let kept : IsAmong (versions_of (take n history) v.key) v = among-kept (is_of v.key) (all_versions (take n history)) v there ((bytes_eq-Decides v.key v.key).1 refl) in
      (among-filter (is_of v.key) all v (subst (λ (vs : List Version). IsAmong vs v) (sym (by.0.each v.key begins)) kept)).1

  -- where those before a place have numbers up to k, and those from it on above m, nothing was written between
  pub quiet-between : (at k m : ℕ) → m ≤ n → ((j : ℕ) (d : Version) → j < at → (get_or all j d).tx ≤ k) → ((j : ℕ) (d : Version) → at ≤ j → j < length all → m < (get_or all j d).tx) → IsQuiet history k m
  quiet-between at k m low before behind v a begins = elim (cases_lt n v.tx) [
    | inl beyond ↦ inr (omega (arith, beyond, low))
    | inr few ↦ (
        let place = version-among v a begins few in
        elim (cases_lt place.0 at) [
          | inl first ↦ inl (subst (λ (w : Version). w.tx ≤ k) (sym place.1.1) (before place.0 v first))
          | inr later ↦ inr (subst (λ (w : Version). m < w.tx) (sym place.1.1) (behind place.0 v later place.1.0))
        ])
  ]

  -- those up to a transaction are its history's
  pub upto-changes : (t e : ℕ) → t ≤ n → ((j : ℕ) (d : Version) → j < e → j < length all → (get_or all j d).tx ≤ t) → ((j : ℕ) (d : Version) → e ≤ j → j < length all → t < (get_or all j d).tx)
      → AreByNumber (take t history) (take e all)
  upto-changes t e low before behind =
      let upto : Version → Bool = λ v. nat_le v.tx t in
      let same : take e all ≡ filter upto all =
      take-filter upto all e (λ j d l m. le-leb (get_or all j d).tx t (before j d l m)) (λ j d l m. lt-leb (get_or all j d).tx t (behind j d l m)) in
      let histories : take t (take n history) ≡ take t history = take-take t n history low in (
        record {
          each = λ key begins.
              ap (filter (is_of key)) same ∙ filter-swap (is_of key) upto all ∙ ap (filter upto) (by.0.each key begins)
              ∙ filter-swap upto (is_of key) (all_versions (take n history)) ∙ ap (filter (is_of key)) (sym (versions-upto (take n history) t))
              ∙ ap (λ (h : List Transaction). versions_of h key) histories;
          begin = All-take (λ (v : Version). begins_with zero_front v.key ≡ true) e all by.0.begin;
        },
        pairs-taken e,
      )
    where
      pairs-taken : (e : ℕ) → AllPairs (λ (a b : Version). a.tx ≤ b.tx) (take e all)
      pairs-taken e = λ i j d less l.
          let long : length (take e all) ≡ min e (length all) = length-take e all in
          let most : j < length all = omega (arith, l, long) in
          let few : j < e = omega (arith, l, long) in
          subst (λ (a : Version). a.tx ≤ (get_or (take e all) j d).tx) (sym (get_or-take e all i d (omega (arith, less, few))))
          (subst (λ (b : Version). (get_or all i d).tx ≤ b.tx) (sym (get_or-take e all j d few)) (by.1 i j d less most))

-- ---- what holds behind each transaction so far

-- those between are as the last one
pub sound-between : (history : List Transaction) (k m : ℕ) → m ≤ length history → IsQuiet history k m → ((j : ℕ) → j ≤ k → IsSqlSound (take j history)) → (j : ℕ) → j ≤ m → IsSqlSound (take j history)
sound-between history k m within quiet sound j low = elim (cases_lt k j) [
  | inl beyond ↦ quiet-sound history k j (omega (arith, beyond)) (omega (arith, low, within)) (quiet-below history k j m low quiet) (sound k (omega arith))
  | inr few ↦ sound j few
]

-- the transaction itself is judged
pub sound-next : (history : List Transaction) (k m : ℕ) → m < length history → IsQuiet history k m → ((j : ℕ) → j ≤ k → IsSqlSound (take j history)) → IsSqlSound (take (m + 1) history)
    → (j : ℕ) → j ≤ m + 1 → IsSqlSound (take j history)
sound-next history k m within quiet sound next j low = elim (cases_lt m j) [
  | inl last ↦ (let same : m + 1 ≡ j = omega (arith, last, low) in subst (λ (i : ℕ). IsSqlSound (take i history)) same next)
  | inr few ↦ sound-between history k m (omega (arith, within)) quiet sound j few
]

pub kept-whole : (history : List Transaction) (k n : ℕ) → n ≤ length history → IsQuiet history k n → ((j : ℕ) → j ≤ k → IsSqlSound (take j history)) → IsSqlKept (take n history)
kept-whole history k n within quiet sound j low =
    let long : length (take n history) ≡ n = length-take-le n history within in
    let few : j ≤ n = omega (arith, low, long) in
    subst IsSqlSound (sym (take-take j n history few)) (sound-between history k n within quiet sound j few)

pub first-unsound : (history : List Transaction) (k m n : ℕ) → n ≤ length history → m < n → IsQuiet history k m → ((j : ℕ) → j ≤ k → IsSqlSound (take j history)) → (IsSqlSound (take (m + 1) history) → ⊥)
    → IsFirstUnsound (take n history) (m + 1)
first-unsound history k m n within less quiet sound unsound =
    let long : length (take n history) ≡ n = length-take-le n history within in
    record {
      some = omega arith;
      within = omega (arith, long, less);
      before = λ j low. subst IsSqlSound (sym (take-take j n history (omega (arith, low, less)))) (sound-between history k m (omega (arith, less, within)) quiet sound j (omega (arith, low)));
      unsound = λ is. unsound (subst IsSqlSound (take-take (m + 1) n history (omega (arith, less))) is);
    }
