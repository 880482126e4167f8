-- How what live keys say hangs together, one table, mark or entry after the other.
use Rattle.std.proofs.Common.{◌≡◌, ◌≢◌, ◌≤◌, ◌<◌, ◌+◌, ◌-◌, ◌↔◌, inl, inr, ℕ, zero, suc, Bool, true, false, min, List, [], ◌∷◌, ◌++◌, length, map, flat_map, sum_by, take, drop, get_or, nat_eq, nat_le, nat_lt, ◌^◌, All, AllPairs, refl, sym, ap, ◌∙◌, subst, append_assoc, length-append, arith}
use Rattle.std.proofs.lemmas.Bool.{true≢false, false_from_ne_true, cases_lt, cases_order, eq-eqb, eqb-true, ltb-true, ltb-false, leb-true, leb-false, le-leb, lt-ltb}
use Rattle.std.proofs.lemmas.List.{get_or-take, get_or-drop, length-take, length-drop, length-map, map-append, take_more, take_all, take_at, drop_at, take-append-drop, flat_map_more}
use Rattle.std.proofs.lemmas.List.Sums.{sum_by_push, sum_by-take-le}
use Rattle.std.specs.List.{IsAmong}
use Rattle.std.specs.List.Sorted.{IsPartitionPoint, IsPartitionedBy}
use Rattle.std.specs.Ordering.{is_lt}
use Rattle.im_octet.specs.Fields.{field4}
use Rattle.im_octet.proofs.Common.{heads-are}
use Rattle.im_versions.specs.Versions.{IsBelow}
use Rattle.im_versions.specs.declared.versions.Version.{Version}
use Rattle.im_versions.proofs.VersionLemmas.{below-strict}
use Rattle.im_sqltype.specs.Orders.{octets_cmp}
use Rattle.im_sqlmodel.specs.Keys.{tables_key}
use Rattle.im_sqlmodel.specs.declared.tables.SqlIndex.{SqlIndex}
use Rattle.im_sqlmodel.specs.declared.written.Written.{Written}
use Rattle.im_plan.proofs.BestLemmas.{at-any}
use Rattle.im_sqlsound.specs.Sounding.{under, IsCountShown, AreGapless, AreUpTo, said_by}
use Rattle.im_sqlsound.specs.declared.found.TableFound.{TableFound}
use Rattle.im_sqlsound.proofs.TestLemmas.{all-step}
use Rattle.im_sqlsound.proofs.UnderLemmas.{is_before, is-less}

-- ---- a version among those of rising keys

not-before : (key : List ℕ) → is_lt (octets_cmp key key) ≡ false
not-before key = false_from_ne_true (is_lt (octets_cmp key key)) (λ e. below-strict key key (is-less (octets_cmp key key) e) (is-less (octets_cmp key key) e))

module _ (shown : List Version) (rising : AllPairs (λ a b. IsBelow a.key b.key) shown) (v : Version) (at : ℕ)
    (point : IsPartitionPoint (λ w. is_before v.key w ≡ true) (λ w. is_before v.key w ≡ false) shown at) where
  -- it stands at the place up to which keys are below its own
  pub among-at : IsAmong shown v → (at < length shown) × (get_or shown at v ≡ v)
  among-at m = elim (cases_order m.0 at) [
    | inl same ↦ (
        let l : m.0 < length shown = m.1.0 in
        (omega (arith, same, l), ap (λ (k : ℕ). get_or shown k v) (sym same) ∙ sym m.1.1))
    | inr (inl low) ↦ absurd (true≢false (sym (point.0 m.0 v (omega arith) low) ∙ ap (λ (w : Version). is_before v.key w) (sym m.1.1) ∙ not-before v.key))
    | inr (inr high) ↦ (
        let below : IsBelow (get_or shown at v).key v.key = subst (λ (w : Version). IsBelow (get_or shown at v).key w.key) (sym m.1.1) (rising at m.0 v high m.1.0) in
        absurd (true≢false (sym (ap is_lt below) ∙ point.1 at v (omega arith) (let l : m.0 < length shown = m.1.0 in omega (arith, high, l)))))
  ]

pub at-among : {A : Type 0} (xs : List A) (i : ℕ) (x : A) → i < length xs → x ≡ get_or xs i x → IsAmong xs x
at-among xs i x l is = (i, (l, is))

-- ---- the number of tables

pub count-none : (shown : List Version) (count : ℕ) → under tables_key shown ≡ [] → (nat_eq count 0 ≡ true) ↔ IsCountShown shown count
count-none shown count none = (λ e. inl (none, eqb-true count 0 e), by-shown)
  where
    by-shown : IsCountShown shown count → nat_eq count 0 ≡ true
    by-shown (inl is) = eq-eqb count 0 is.1
    by-shown (inr is) = absurd (let zero_one : 0 ≡ 1 = ap length (sym none ∙ is.1) in let no : ⊥ = omega (arith, zero_one) in no)

-- there is one version of it at most
pub count-long : (shown : List Version) (count : ℕ) → IsCountShown shown count → length (under tables_key shown) ≤ 1
count-long shown count (inl is) = (let long : length (under tables_key shown) ≡ 0 = ap length is.0 in omega (arith, long))
count-long shown count (inr is) = (let long : length (under tables_key shown) ≡ 1 = ap length is.1 in omega (arith, long))

pub count-one : (shown : List Version) (count : ℕ) (v : Version) (r : Bool) → under tables_key shown ≡ v ∷ [] → (r ≡ true) ↔ ((v.key ≡ tables_key) × ((count < 2 ^ 32) × (v.value ≡ field4 count)))
    → (r ≡ true) ↔ IsCountShown shown count
count-one shown count v r one says = (λ e. (let is = says.0 e in inr (v, one, is.0, is.1.0, is.1.1)), by-shown)
  where
    by-shown : IsCountShown shown count → r ≡ true
    by-shown (inl is) = absurd (let one_zero : 1 ≡ 0 = ap length (sym one ∙ is.0) in let no : ⊥ = omega (arith, one_zero) in no)
    by-shown (inr is) =
        let same : is.0 ≡ v = heads-are is.0 v [] [] (sym is.1 ∙ one) in
        says.1 (ap (λ (w : Version). w.key) (sym same) ∙ is.2, (is.3, ap (λ (w : Version). w.value) (sym same) ∙ is.4))

-- a list of none
pub nothing-of : {A : Type 0} (xs : List A) → nat_eq (length xs) 0 ≡ true → xs ≡ []
nothing-of [] e = refl
nothing-of (x ∷ xs) e = absurd (let no : ⊥ = (let long : length (x ∷ xs) ≡ 0 = eqb-true (length (x ∷ xs)) 0 e in omega (arith, long)) in no)

pub some-of : {A : Type 0} (xs : List A) → nat_eq (length xs) 0 ≡ false → 1 ≤ length xs
some-of [] e = absurd (true≢false e)
some-of (x ∷ xs) e = omega arith

-- a list of one
pub only-one : (vs : List Version) (v : Version) → length vs ≡ 1 → v ≡ get_or vs 0 v → vs ≡ v ∷ []
only-one [] v long is = absurd (let no : ⊥ = omega (arith, long) in no)
only-one (w ∷ []) v long is = ap (λ (u : Version). u ∷ []) (sym is)
only-one (w ∷ x ∷ ws) v long is = absurd (let no : ⊥ = omega (arith, long) in no)

-- ---- numbers of tables

pairs-step : {A : Type 0} (R : A → A → Type 0) (xs : List A) (i : ℕ) (x : A) → i < length xs → x ≡ get_or xs i x → All (λ a. R a x) (take i xs) → AllPairs R (take i xs) → AllPairs R (take (i + 1) xs)
pairs-step {A} R xs i x l is all pairs = λ j k d less m.
    let long : length (take (i + 1) xs) ≡ min (i + 1) (length xs) = length-take (i + 1) xs in
    let front : length (take i xs) ≡ min i (length xs) = length-take i xs in
    let below : k < i + 1 = omega (arith, m, long) in
    let first : get_or (take (i + 1) xs) j d ≡ get_or (take i xs) j d = get_or-take (i + 1) xs j d (omega (arith, less, below)) ∙ sym (get_or-take i xs j d (omega (arith, less, below))) in
    subst (λ (a : A). R a (get_or (take (i + 1) xs) k d)) (sym first)
    (elim (cases_lt k i) [
      | inl inner ↦ subst (λ (b : A). R (get_or (take i xs) j d) b) (get_or-take i xs k d inner ∙ sym (get_or-take (i + 1) xs k d below)) (pairs j k d less (omega (arith, inner, front, l)))
      | inr last ↦ (
          let same : i ≡ k = omega (arith, last, below) in
          let own : x ≡ get_or (take (i + 1) xs) k d = is ∙ at-any xs i x d l ∙ ap (λ (n : ℕ). get_or xs n d) same ∙ sym (get_or-take (i + 1) xs k d below) in
          subst (λ (b : A). R (get_or (take i xs) j d) b) own (all j d (omega (arith, less, same, front, l))))
    ])

abbrev pub Apart_from : ℕ → TableFound → Type 0
Apart_from tid f = f.table.tid ≢ tid

abbrev pub IsNumbered : List TableFound → ℕ → ℕ → Type 0
IsNumbered before tid count = ((1 ≤ tid) × (tid ≤ count)) × All (Apart_from tid) before

pub told-step : (fs : List TableFound) (count i : ℕ) (f : TableFound) → i < length fs → f ≡ get_or fs i f → IsNumbered (take i fs) f.table.tid count → AreUpTo count (take i fs) → AreUpTo count (take (i + 1) fs)
told-step fs count i f l is numbered told = (
  all-step (λ (g : TableFound). (1 ≤ g.table.tid) × (g.table.tid ≤ count)) fs i f l is numbered.0 told.0,
  pairs-step (λ (a b : TableFound). a.table.tid ≢ b.table.tid) fs i f l is numbered.1 told.1,
)

pub told-fails : (fs : List TableFound) (count i : ℕ) (f : TableFound) → i < length fs → f ≡ get_or fs i f → (IsNumbered (take i fs) f.table.tid count → ⊥) → AreUpTo count fs → ⊥
told-fails fs count i f l is none told =
    none (
      subst (λ (g : TableFound). (1 ≤ g.table.tid) × (g.table.tid ≤ count)) (sym is) (told.0 i f l),
      λ j d m same.
          let front : length (take i fs) ≡ min i (length fs) = length-take i fs in
          let less : j < i = omega (arith, m, front, l) in
          told.1 j i d less l
          (ap (λ (g : TableFound). g.table.tid) (sym (get_or-take i fs j d less)) ∙ same ∙ ap (λ (g : TableFound). g.table.tid) (is ∙ at-any fs i f d l)),
    )

pub told-end : (fs : List TableFound) (count i : ℕ) → length fs ≤ i → AreUpTo count (take i fs) → AreUpTo count fs
told-end fs count i past told = subst (AreUpTo count) (take_all i fs past) told

-- ---- numbers of indexes

pub gapless-step : (xs : List SqlIndex) (i : ℕ) (x : SqlIndex) → i < length xs → x ≡ get_or xs i x → x.iid ≡ i + 1 → AreGapless (take i xs) → AreGapless (take (i + 1) xs)
gapless-step xs i x l is number before = λ k d m.
    let long : length (take (i + 1) xs) ≡ min (i + 1) (length xs) = length-take (i + 1) xs in
    let front : length (take i xs) ≡ min i (length xs) = length-take i xs in
    let below : k < i + 1 = omega (arith, m, long) in
    ap (λ (y : SqlIndex). y.iid) (get_or-take (i + 1) xs k d below)
    ∙ (elim (cases_lt k i) [
      | inl inner ↦ ap (λ (y : SqlIndex). y.iid) (sym (get_or-take i xs k d inner)) ∙ before k d (omega (arith, inner, front, l))
      | inr last ↦ (
          let same : i ≡ k = omega (arith, last, below) in
          ap (λ (y : SqlIndex). y.iid) (sym (is ∙ at-any xs i x d l ∙ ap (λ (n : ℕ). get_or xs n d) same)) ∙ number ∙ ap (λ (n : ℕ). n + 1) same)
    ])

pub gapless-fails : (xs : List SqlIndex) (i : ℕ) (x : SqlIndex) → i < length xs → x ≡ get_or xs i x → (x.iid ≡ i + 1 → ⊥) → AreGapless xs → ⊥
gapless-fails xs i x l is none all = none (ap (λ (y : SqlIndex). y.iid) is ∙ all i x l)

pub gapless-end : (xs : List SqlIndex) (i : ℕ) → length xs ≤ i → AreGapless (take i xs) → AreGapless xs
gapless-end xs i past before = subst AreGapless (take_all i xs past) before

-- ---- the versions of one transaction

module _ (tx : ℕ) where
  abbrev pub is_earlier : Version → Bool
  is_earlier v = nat_lt v.tx tx

  abbrev pub is_upto : Version → Bool
  is_upto v = nat_le v.tx tx

  pub parted-earlier : (vs : List Version) → AllPairs (λ a b. a.tx ≤ b.tx) vs → IsPartitionedBy is_earlier vs
  parted-earlier vs rising i j d up l passes = elim (cases_order i j) [
    | inl same ↦ subst (λ (k : ℕ). is_earlier (get_or vs k d) ≡ true) (sym same) passes
    | inr (inl less) ↦ (
        let low : (get_or vs j d).tx < tx = ltb-true (get_or vs j d).tx tx passes in
        let rise : (get_or vs i d).tx ≤ (get_or vs j d).tx = rising i j d less l in
        lt-ltb (get_or vs i d).tx tx (omega (arith, low, rise)))
    | inr (inr more) ↦ absurd (let no : ⊥ = omega (arith, more, up) in no)
  ]

  pub parted-upto : (vs : List Version) → AllPairs (λ a b. a.tx ≤ b.tx) vs → IsPartitionedBy is_upto vs
  parted-upto vs rising i j d up l passes = elim (cases_order i j) [
    | inl same ↦ subst (λ (k : ℕ). is_upto (get_or vs k d) ≡ true) (sym same) passes
    | inr (inl less) ↦ (
        let low : (get_or vs j d).tx ≤ tx = leb-true (get_or vs j d).tx tx passes in
        let rise : (get_or vs i d).tx ≤ (get_or vs j d).tx = rising i j d less l in
        le-leb (get_or vs i d).tx tx (omega (arith, low, rise)))
    | inr (inr more) ↦ absurd (let no : ⊥ = omega (arith, more, up) in no)
  ]

  pub rises-behind : (vs : List Version) (from : ℕ) → AllPairs (λ a b. a.tx ≤ b.tx) vs → AllPairs (λ a b. a.tx ≤ b.tx) (drop from vs)
  rises-behind vs from rising = λ i j d less l.
      let long : length (drop from vs) ≡ length vs - from = length-drop from vs in
      subst (λ (a : Version). a.tx ≤ (get_or (drop from vs) j d).tx) (sym (get_or-drop from vs i d))
      (subst (λ (b : Version). (get_or vs (from + i) d).tx ≤ b.tx) (sym (get_or-drop from vs j d)) (rising (from + i) (from + j) d (omega (arith, less)) (omega (arith, l, long))))

  module _ (vs : List Version) (from count : ℕ) (few : count ≤ length (drop from vs)) (point : IsPartitionPoint (λ v. is_earlier v ≡ true) (λ v. is_earlier v ≡ false) vs from)
      (inner : IsPartitionPoint (λ v. is_upto v ≡ true) (λ v. is_upto v ≡ false) (drop from vs) count) where
    pub number-among : (v : Version) → IsAmong (take count (drop from vs)) v → IsAmong vs v × (v.tx ≡ tx)
    number-among v m =
        let k : ℕ = m.0 in
        let long : length (take count (drop from vs)) ≡ min count (length (drop from vs)) = length-take count (drop from vs) in
        let rest : length (drop from vs) ≡ length vs - from = length-drop from vs in
        let l : k < length (take count (drop from vs)) = m.1.0 in
        let low : k < count = omega (arith, l, long) in
        let at : v ≡ get_or vs (from + k) v = m.1.1 ∙ get_or-take count (drop from vs) k v low ∙ get_or-drop from vs k v in
        let within : from + k < length vs = omega (arith, l, long, rest) in
        let high : nat_lt (get_or vs (from + k) v).tx tx ≡ false = point.1 (from + k) v (omega arith) within in
        let upto : nat_le (get_or (drop from vs) k v).tx tx ≡ true = inner.0 k v (omega arith) low in
        let above : tx ≤ (get_or vs (from + k) v).tx = ltb-false (get_or vs (from + k) v).tx tx high in
        let below : (get_or (drop from vs) k v).tx ≤ tx = leb-true (get_or (drop from vs) k v).tx tx upto in
        let same : (get_or (drop from vs) k v).tx ≡ (get_or vs (from + k) v).tx = ap (λ (w : Version). w.tx) (get_or-drop from vs k v) in
        let own : v.tx ≡ (get_or vs (from + k) v).tx = ap (λ (w : Version). w.tx) at in
        ((from + k, (within, at)), omega (arith, above, below, same, own))

    pub among-number : (v : Version) → IsAmong vs v → v.tx ≡ tx → IsAmong (take count (drop from vs)) v
    among-number v m number = elim (cases_lt m.0 from) [
      | inl before ↦ absurd (
          let early : (get_or vs m.0 v).tx < tx = ltb-true (get_or vs m.0 v).tx tx (point.0 m.0 v (omega arith) before) in
          let own : v.tx ≡ (get_or vs m.0 v).tx = ap (λ (w : Version). w.tx) m.1.1 in
          let no : ⊥ = omega (arith, early, own, number) in no)
      | inr behind ↦ (
          let k : ℕ = m.0 - from in
          let place : from + k ≡ m.0 = omega (arith, behind) in
          let l : m.0 < length vs = m.1.0 in
          let rest : length (drop from vs) ≡ length vs - from = length-drop from vs in
          let there : k < length (drop from vs) = omega (arith, rest, l, behind) in
          let at : v ≡ get_or (drop from vs) k v = m.1.1 ∙ ap (λ (n : ℕ). get_or vs n v) (sym place) ∙ sym (get_or-drop from vs k v) in
          elim (cases_lt k count) [
            | inl low ↦ (
                let long : length (take count (drop from vs)) ≡ min count (length (drop from vs)) = length-take count (drop from vs) in
                (k, (omega (arith, low, long, few), at ∙ sym (get_or-take count (drop from vs) k v low))))
            | inr past ↦ absurd (
                let late : tx < (get_or (drop from vs) k v).tx = leb-false (get_or (drop from vs) k v).tx tx (inner.1 k v past there) in
                let own : v.tx ≡ (get_or (drop from vs) k v).tx = ap (λ (w : Version). w.tx) at in
                let no : ⊥ = omega (arith, late, own, number) in no)
          ])
    ]

  -- as a slice from the first place gives what is behind it
  pub number-rest : (vs rest : List Version) (from count : ℕ) → rest ≡ drop from vs → AllPairs (λ a b. a.tx ≤ b.tx) vs → IsPartitionPoint (λ v. is_earlier v ≡ true) (λ v. is_earlier v ≡ false) vs from
      → count ≤ length rest → (IsPartitionedBy is_upto rest → IsPartitionPoint (λ v. is_upto v ≡ true) (λ v. is_upto v ≡ false) rest count)
      → (v : Version) → IsAmong (take count rest) v ↔ (IsAmong vs v × (v.tx ≡ tx))
  number-rest vs rest from count same rising point =
      subst (λ (us : List Version). count ≤ length us → (IsPartitionedBy is_upto us → IsPartitionPoint (λ v. is_upto v ≡ true) (λ v. is_upto v ≡ false) us count)
      → (v : Version) → IsAmong (take count us) v ↔ (IsAmong vs v × (v.tx ≡ tx)))
      (sym same) (λ few turn v.
      let inner = turn (parted-upto (drop from vs) (rises-behind vs from rising)) in
      (λ m. number-among vs from count few point inner v m, λ m. among-number vs from count few point inner v m.0 m.1))

-- ---- what is put behind

pub flat-step : {A B : Type 0} (f : A → List B) (xs : List A) (i : ℕ) (x : A) (old now new : List B) → i < length xs → x ≡ get_or xs i x → now ≡ old ++ flat_map f (take i xs) → new ≡ now ++ f x
    → new ≡ old ++ flat_map f (take (i + 1) xs)
flat-step {A} {B} f xs i x old now new l is before after =
    after ∙ ap (λ (ys : List B). ys ++ f x) before ∙ append_assoc old (flat_map f (take i xs)) (f x)
    ∙ ap (λ (ys : List B). old ++ ys)
    (ap (λ (y : A). flat_map f (take i xs) ++ f y) is ∙ flat_map_more f [] (take i xs) (get_or xs i x) ∙ ap (flat_map f) (sym (take_more xs i x l)))

-- ---- versions that are entries

pub said-step : (vs : List Version) (ws : List Written) (i : ℕ) (v : Version) (w : Written) → i < length vs → i < length ws → v ≡ get_or vs i v → w ≡ get_or ws i w → said_by v ≡ w
    → map said_by (take i vs) ≡ take i ws → map said_by (take (i + 1) vs) ≡ take (i + 1) ws
said-step vs ws i v w l m is own same before =
    ap (map said_by) (take_more vs i v l) ∙ map-append said_by (take i vs) (get_or vs i v ∷ [])
    ∙ (λ j. before j ++ (ap said_by (sym is) ∙ same ∙ own) j ∷ [])
    ∙ sym (take_more ws i w m)

pub said-fails : (vs : List Version) (ws : List Written) (i : ℕ) (v : Version) (w : Written) → i < length vs → i < length ws → v ≡ get_or vs i v → w ≡ get_or ws i w → (said_by v ≡ w → ⊥) → map said_by vs ≡ ws → ⊥
said-fails vs ws i v w l m is own none same =
    none (ap said_by is ∙ mapped vs i v l ∙ at-any (map said_by vs) i (said_by v) w (let long : length (map said_by vs) ≡ length vs = length-map vs said_by in omega (arith, l, long))
    ∙ ap (λ (es : List Written). get_or es i w) same ∙ sym own)
  where
    mapped : (us : List Version) (k : ℕ) (d : Version) → k < length us → said_by (get_or us k d) ≡ get_or (map said_by us) k (said_by d)
    mapped [] k d q = absurd (let no : ⊥ = omega (arith, q) in no)
    mapped (u ∷ us) zero d q = refl
    mapped (u ∷ us) (suc k) d q = mapped us k d (omega (arith, q))

pub said-end : (vs : List Version) (ws : List Written) (i : ℕ) → length vs ≤ i → length ws ≤ i → map said_by (take i vs) ≡ take i ws → map said_by vs ≡ ws
said-end vs ws i past beyond before = ap (map said_by) (sym (take_all i vs past)) ∙ before ∙ take_all i ws beyond

pub said-long : (vs : List Version) (ws : List Written) → map said_by vs ≡ ws → length vs ≡ length ws
said-long vs ws same = sym (length-map vs said_by) ∙ ap length same

-- two lists of versions, one behind the other
pub both-said : (us vs : List Version) (ws : List Written) → map said_by us ≡ take (length us) ws → map said_by vs ≡ drop (length us) ws → map said_by (us ++ vs) ≡ ws
both-said us vs ws first rest = map-append said_by us vs ∙ (λ j. first j ++ rest j) ∙ take-append-drop (length us) ws

pub said-both : (us vs : List Version) (ws : List Written) → map said_by (us ++ vs) ≡ ws
    → (length us ≤ length ws) × ((map said_by us ≡ take (length us) ws) × (map said_by vs ≡ drop (length us) ws))
said-both us vs ws same =
    let whole : map said_by us ++ map said_by vs ≡ ws = sym (map-append said_by us vs) ∙ same in
    let long : length (map said_by us) ≡ length us = length-map us said_by in
    let sum : length (map said_by us ++ map said_by vs) ≡ length (map said_by us) + length (map said_by vs) = length-append (map said_by us) (map said_by vs) in
    let all : length (map said_by us ++ map said_by vs) ≡ length ws = ap length whole in (
      omega (arith, long, sum, all),
      (
        sym (take_at (map said_by us) (map said_by vs) (length us) long) ∙ ap (take (length us)) whole,
        sym (drop_at (map said_by us) (map said_by vs) (length us) long) ∙ ap (drop (length us)) whole,
      ),
    )

-- ---- one equation for another

pub iff-same : {A : Type 0} (r : Bool) (a b c d : A) → a ≡ c → b ≡ d → (r ≡ true) ↔ (a ≡ b) → (r ≡ true) ↔ (c ≡ d)
iff-same r a b c d p q is = ((λ e. sym p ∙ is.0 e ∙ q), (λ e. is.1 (p ∙ e ∙ sym q)))

-- ---- sums of counts

pub sum-step : {A : Type 0} (f : A → ℕ) (xs : List A) (i : ℕ) (x : A) → i < length xs → x ≡ get_or xs i x → sum_by f (take (i + 1) xs) ≡ sum_by f (take i xs) + f x
sum-step {A} f xs i x l is = ap (sum_by f) (take_more xs i x l) ∙ sum_by_push f (take i xs) (get_or xs i x) ∙ ap (λ (y : A). sum_by f (take i xs) + f y) (sym is)

-- those up to an item are no more than all
pub sum-upto : {A : Type 0} (f : A → ℕ) (xs : List A) (i : ℕ) (x : A) → i < length xs → x ≡ get_or xs i x → sum_by f (take i xs) + f x ≤ sum_by f xs
sum-upto f xs i x l is =
    let step : sum_by f (take (i + 1) xs) ≡ sum_by f (take i xs) + f x = sum-step f xs i x l is in
    let most : sum_by f (take (i + 1) xs) ≤ sum_by f xs = sum_by-take-le f xs (i + 1) in
    omega (arith, step, most)

pub sum-end : {A : Type 0} (f : A → ℕ) (xs : List A) (i : ℕ) → length xs ≤ i → sum_by f (take i xs) ≡ sum_by f xs
sum-end f xs i past = ap (sum_by f) (take_all i xs past)
