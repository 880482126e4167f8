-- Each live key is in one group of keys alone: how many keys there are is the sum of the groups' counts.
use Rattle.std.proofs.Common.{◌≡◌, ◌≢◌, ◌≤◌, ◌<◌, ◌+◌, ◌^◌, ◌⊎◌, inl, inr, ℕ, Bool, true, false, cond, List, [], ◌∷◌, ◌++◌, length, map, filter, drop, get_or, refl, sym, ap, ◌∙◌, subst, arith}
use Rattle.std.proofs.lemmas.Bool.{cases_Bool}
use Rattle.std.specs.List.{AllByRecursion, IsAmong}
use Rattle.im_octet.specs.Fields.{field4}
use Rattle.im_versions.specs.Versions.{begins_with}
use Rattle.im_versions.specs.declared.versions.Version.{Version}
use Rattle.im_versions.proofs.ListLemmas.{among-cons, among-first, among-rest}
use Rattle.im_catalog.proofs.FoundLemmas.{begins-is}
use Rattle.im_catalog.proofs.TableLemmas.{tid-cut}
use Rattle.im_sqlsound.specs.declared.found.TableFound.{TableFound}
use Rattle.im_sql.proofs.NextLemmas.{Apart, all-of}
use Rattle.im_catalog.proofs.NumberLemmas.{unit_of}

-- how many tests an item passes
abbrev pub hits : {A : Type 0} → List (A → Bool) → A → ℕ
hits [] x = 0
hits (p ∷ ps) x = unit_of (p x) + hits ps x

-- how many pass each test, added up
abbrev pub sizes : {A : Type 0} → List (A → Bool) → List A → ℕ
sizes [] xs = 0
sizes (p ∷ ps) xs = length (filter p xs) + sizes ps xs

abbrev all_hits : {A : Type 0} → List (A → Bool) → List A → ℕ
all_hits ps [] = 0
all_hits ps (x ∷ xs) = hits ps x + all_hits ps xs

no-hits : {A : Type 0} (xs : List A) → all_hits {A = A} [] xs ≡ 0
no-hits [] = refl
no-hits {A} (x ∷ xs) = (let rest : all_hits {A = A} [] xs ≡ 0 = no-hits xs in omega (arith, rest))

hits-more : {A : Type 0} (p : A → Bool) (ps : List (A → Bool)) (xs : List A) → all_hits (p ∷ ps) xs ≡ length (filter p xs) + all_hits ps xs
hits-more p ps [] = refl
hits-more p ps (x ∷ xs) =
    let rest : all_hits (p ∷ ps) xs ≡ length (filter p xs) + all_hits ps xs = hits-more p ps xs in
    elim (p x) as (λ (b : Bool). (unit_of b + hits ps x) + all_hits (p ∷ ps) xs ≡ length (cond b (x ∷ filter p xs) (filter p xs)) + (hits ps x + all_hits ps xs)) [
      | true ↦ omega (arith, rest)
      | false ↦ omega (arith, rest)
    ]

sizes-hits : {A : Type 0} (ps : List (A → Bool)) (xs : List A) → sizes ps xs ≡ all_hits ps xs
sizes-hits [] xs = sym (no-hits xs)
sizes-hits (p ∷ ps) xs =
    let rest : sizes ps xs ≡ all_hits ps xs = sizes-hits ps xs in
    let more : all_hits (p ∷ ps) xs ≡ length (filter p xs) + all_hits ps xs = hits-more p ps xs in
    omega (arith, rest, more)

few-hits : {A : Type 0} (ps : List (A → Bool)) (xs : List A) → AllByRecursion (λ x. hits ps x ≤ 1) xs → all_hits ps xs ≤ length xs
few-hits ps [] all = omega arith
few-hits ps (x ∷ xs) all =
    let here : hits ps x ≤ 1 = all.0 in
    let rest : all_hits ps xs ≤ length xs = few-hits ps xs all.1 in
    omega (arith, here, rest)

-- where there are as many hits as items, and at most one of each, there is one of each
one-hit : {A : Type 0} (ps : List (A → Bool)) (xs : List A) (x : A) → AllByRecursion (λ y. hits ps y ≤ 1) xs → all_hits ps xs ≡ length xs → IsAmong xs x → hits ps x ≡ 1
one-hit ps [] x all e m = absurd (let no : ⊥ = (let few : m.0 < 0 = m.1.0 in omega (arith, few)) in no)
one-hit {A} ps (y ∷ ys) x all e m =
    let here : hits ps y ≤ 1 = all.0 in
    let few : all_hits ps ys ≤ length ys = few-hits ps ys all.1 in
    elim (among-cons y ys x m) [
      | inl same ↦ (let own : hits ps y ≡ 1 = omega (arith, here, few, e) in ap (hits ps) same ∙ own)
      | inr rest ↦ one-hit ps ys x all.1 (omega (arith, here, few, e)) rest
    ]

pub sizes-one : {A : Type 0} (ps : List (A → Bool)) (xs : List A) → ((x : A) → IsAmong xs x → hits ps x ≤ 1) → sizes ps xs ≡ length xs → (x : A) → IsAmong xs x → hits ps x ≡ 1
sizes-one ps xs few e x m = one-hit ps xs x (all-of (λ y. hits ps y ≤ 1) xs few) (sym (sizes-hits ps xs) ∙ e) m

each-hit : {A : Type 0} (ps : List (A → Bool)) (xs : List A) → AllByRecursion (λ x. hits ps x ≡ 1) xs → all_hits ps xs ≡ length xs
each-hit ps [] all = refl
each-hit ps (x ∷ xs) all =
    let here : hits ps x ≡ 1 = all.0 in
    let rest : all_hits ps xs ≡ length xs = each-hit ps xs all.1 in
    omega (arith, here, rest)

pub one-sizes : {A : Type 0} (ps : List (A → Bool)) (xs : List A) → ((x : A) → IsAmong xs x → hits ps x ≡ 1) → sizes ps xs ≡ length xs
one-sizes ps xs each = sizes-hits ps xs ∙ each-hit ps xs (all-of (λ x. hits ps x ≡ 1) xs each)

-- ---- tests of which an item passes at most one

abbrev pub Clash : {A : Type 0} → A → (A → Bool) → (A → Bool) → Type 0
Clash x p q = p x ≡ true → q x ≡ true → ⊥

no-hit : {A : Type 0} (p : A → Bool) (ps : List (A → Bool)) (x : A) → p x ≡ true → AllByRecursion (Clash x p) ps → hits ps x ≡ 0
no-hit p [] x e all = refl
no-hit p (q ∷ qs) x e all = elim (cases_Bool (q x)) [
  | inl passes ↦ absurd (all.0 e passes)
  | inr fails ↦ (
      let here : unit_of (q x) ≡ 0 = ap unit_of fails in
      let rest : hits qs x ≡ 0 = no-hit p qs x e all.1 in
      omega (arith, here, rest))
]

pub few-hit : {A : Type 0} (ps : List (A → Bool)) (x : A) → Apart (Clash x) ps → hits ps x ≤ 1
few-hit [] x h = omega arith
few-hit (p ∷ ps) x h = elim (cases_Bool (p x)) [
  | inl passes ↦ (
      let here : unit_of (p x) ≡ 1 = ap unit_of passes in
      let none : hits ps x ≡ 0 = no-hit p ps x passes h.0 in
      omega (arith, here, none))
  | inr fails ↦ (
      let here : unit_of (p x) ≡ 0 = ap unit_of fails in
      let rest : hits ps x ≤ 1 = few-hit ps x h.1 in
      omega (arith, here, rest))
]

-- one that it passes is the first or one of the rest
pub first-hit : {A : Type 0} (p : A → Bool) (ps : List (A → Bool)) (x : A) → 1 ≤ hits (p ∷ ps) x → (p x ≡ true) ⊎ (1 ≤ hits ps x)
first-hit p ps x some = elim (cases_Bool (p x)) [
  | inl passes ↦ inl passes
  | inr fails ↦ (let here : unit_of (p x) ≡ 0 = ap unit_of fails in inr (omega (arith, here, some)))
]

pub hit-first : {A : Type 0} (p : A → Bool) (ps : List (A → Bool)) (x : A) → p x ≡ true → 1 ≤ hits (p ∷ ps) x
hit-first p ps x passes = (let here : unit_of (p x) ≡ 1 = ap unit_of passes in omega (arith, here))

pub hit-rest : {A : Type 0} (p : A → Bool) (ps : List (A → Bool)) (x : A) → 1 ≤ hits ps x → 1 ≤ hits (p ∷ ps) x
hit-rest p ps x some = omega (arith, some)

pub hit-left : {A : Type 0} (ps qs : List (A → Bool)) (x : A) → 1 ≤ hits ps x → 1 ≤ hits (ps ++ qs) x
hit-left [] qs x some = absurd (let no : ⊥ = omega (arith, some) in no)
hit-left (p ∷ ps) qs x some = elim (first-hit p ps x some) [
  | inl passes ↦ hit-first p (ps ++ qs) x passes
  | inr rest ↦ hit-rest p (ps ++ qs) x (hit-left ps qs x rest)
]

pub hit-right : {A : Type 0} (ps qs : List (A → Bool)) (x : A) → 1 ≤ hits qs x → 1 ≤ hits (ps ++ qs) x
hit-right [] qs x some = some
hit-right (p ∷ ps) qs x some = hit-rest p (ps ++ qs) x (hit-right ps qs x some)

pub hit-either : {A : Type 0} (ps qs : List (A → Bool)) (x : A) → 1 ≤ hits (ps ++ qs) x → (1 ≤ hits ps x) ⊎ (1 ≤ hits qs x)
hit-either [] qs x some = inr some
hit-either (p ∷ ps) qs x some = elim (first-hit p (ps ++ qs) x some) [
  | inl passes ↦ inl (hit-first p ps x passes)
  | inr rest ↦ elim (hit-either ps qs x rest) [
    | inl front ↦ inl (hit-rest p ps x front)
    | inr behind ↦ inr behind
  ]
]

pub sizes-append : {A : Type 0} (ps qs : List (A → Bool)) (xs : List A) → sizes (ps ++ qs) xs ≡ sizes ps xs + sizes qs xs
sizes-append [] qs xs = omega arith
sizes-append (p ∷ ps) qs xs = (let rest : sizes (ps ++ qs) xs ≡ sizes ps xs + sizes qs xs = sizes-append ps qs xs in omega (arith, rest))

pub all-both : {A : Type 0} (P : A → Type 0) (xs ys : List A) → AllByRecursion P xs → AllByRecursion P ys → AllByRecursion P (xs ++ ys)
all-both P [] ys a b = b
all-both P (x ∷ xs) ys a b = (a.0, all-both P xs ys a.1 b)

pub apart-both : {A : Type 0} (R : A → A → Type 0) (xs ys : List A) → Apart R xs → Apart R ys → AllByRecursion (λ x. AllByRecursion (R x) ys) xs → Apart R (xs ++ ys)
apart-both R [] ys a b cross = b
apart-both R (x ∷ xs) ys a b cross = (all-both (R x) xs ys a.0 cross.0, apart-both R xs ys a.1 b cross.1)

-- ---- the groups of keys by their second octet

abbrev Test : Type 0
Test = Version → Bool

-- keys with a front
abbrev pub fronted : List ℕ → Test
fronted front v = begins_with front v.key

abbrev front_of : ℕ → TableFound → List ℕ
front_of n f = 0 ∷ n ∷ field4 f.table.tid

-- those of each table, behind a second octet
abbrev pub fronts : ℕ → List TableFound → List Test
fronts n fs = map (λ (f : TableFound). fronted (front_of n f)) fs

abbrev lasts : List TableFound → List Test
lasts fs = fronts 2 fs ++ fronts 4 fs

abbrev from_six : List TableFound → List Test
from_six fs = fronted (0 ∷ 6 ∷ []) ∷ lasts fs

abbrev from_five : List TableFound → List Test
from_five fs = fronted (0 ∷ 5 ∷ []) ∷ from_six fs

abbrev from_three : List TableFound → List Test
from_three fs = fronted (0 ∷ 3 ∷ []) ∷ from_five fs

abbrev from_one : List TableFound → List Test
from_one fs = fronted (0 ∷ 1 ∷ []) ∷ from_three fs

abbrev pub groups : List TableFound → List Test
groups fs = fronted (0 ∷ 0 ∷ []) ∷ from_one fs

-- what passes a test has this second octet
abbrev IsOf : Version → ℕ → Test → Type 0
IsOf v n p = p v ≡ true → get_or v.key 1 0 ≡ n

of-front : (v : Version) (n : ℕ) (rest : List ℕ) → IsOf v n (fronted (0 ∷ n ∷ rest))
of-front v n rest begins = ap (λ (k : List ℕ). get_or k 1 0) (begins-is (0 ∷ n ∷ rest) v.key begins)

of-fronts : (v : Version) (n : ℕ) (fs : List TableFound) → AllByRecursion (IsOf v n) (fronts n fs)
of-fronts v n [] = tt
of-fronts v n (f ∷ fs) = (of-front v n (field4 f.table.tid), of-fronts v n fs)

-- tests of two octets clash
of-apart : (v : Version) (m n : ℕ) (p : Test) (qs : List Test) → m ≢ n → IsOf v m p → AllByRecursion (IsOf v n) qs → AllByRecursion (Clash v p) qs
of-apart v m n p [] apart of all = tt
of-apart v m n p (q ∷ qs) apart of all = ((λ a b. apart (sym (of a) ∙ all.0 b)), of-apart v m n p qs apart of all.1)

clash : (v : Version) (m n : ℕ) (rest other : List ℕ) → m ≢ n → Clash v (fronted (0 ∷ m ∷ rest)) (fronted (0 ∷ n ∷ other))
clash v m n rest other apart a b = apart (sym (of-front v m rest a) ∙ of-front v n other b)

-- tables of distinct numbers have distinct fronts
abbrev pub AreTold : List TableFound → Type 0
AreTold fs = Apart (λ (a b : TableFound). a.table.tid ≢ b.table.tid) fs × AllByRecursion (λ (f : TableFound). f.table.tid < 2 ^ 32) fs

fronts-clash : (v : Version) (n : ℕ) (f : TableFound) (fs : List TableFound) → f.table.tid < 2 ^ 32 → AllByRecursion (λ (g : TableFound). f.table.tid ≢ g.table.tid) fs
    → AllByRecursion (λ (g : TableFound). g.table.tid < 2 ^ 32) fs → AllByRecursion (Clash v (fronted (front_of n f))) (fronts n fs)
fronts-clash v n f [] fits apart all = tt
fronts-clash v n f (g ∷ gs) fits apart all = (
  (λ a b. apart.0 (tid-cut f.table.tid g.table.tid (drop (length (front_of n f)) v.key) (drop (length (front_of n g)) v.key) fits all.0
      (ap (λ (k : List ℕ). drop 2 k) (sym (begins-is (front_of n f) v.key a) ∙ begins-is (front_of n g) v.key b))).0),
  fronts-clash v n f gs fits apart.1 all.1,
)

fronts-apart : (v : Version) (n : ℕ) (fs : List TableFound) → AreTold fs → Apart (Clash v) (fronts n fs)
fronts-apart v n [] told = tt
fronts-apart v n (f ∷ fs) told = (fronts-clash v n f fs told.1.0 told.0.0 told.1.1, fronts-apart v n fs (told.0.1, told.1.1))

fronts-cross : (v : Version) (m n : ℕ) (fs gs : List TableFound) → m ≢ n → AllByRecursion (λ (p : Test). AllByRecursion (Clash v p) (fronts n gs)) (fronts m fs)
fronts-cross v m n [] gs apart = tt
fronts-cross v m n (f ∷ fs) gs apart = (
  of-apart v m n (fronted (front_of m f)) (fronts n gs) apart (of-front v m (field4 f.table.tid)) (of-fronts v n gs),
  fronts-cross v m n fs gs apart,
)

apart-front : (v : Version) (m : ℕ) (fs : List TableFound) → m ≢ 2 → m ≢ 4 → AllByRecursion (Clash v (fronted (0 ∷ m ∷ []))) (fronts 2 fs ++ fronts 4 fs)
apart-front v m fs two four =
    all-both (Clash v (fronted (0 ∷ m ∷ []))) (fronts 2 fs) (fronts 4 fs)
    (of-apart v m 2 (fronted (0 ∷ m ∷ [])) (fronts 2 fs) two (of-front v m []) (of-fronts v 2 fs))
    (of-apart v m 4 (fronted (0 ∷ m ∷ [])) (fronts 4 fs) four (of-front v m []) (of-fronts v 4 fs))

groups-apart : (v : Version) (fs : List TableFound) → AreTold fs → Apart (Clash v) (groups fs)
groups-apart v fs told = (
  (
    clash v 0 1 [] [] (λ e. omega (arith, e)),
    (
      clash v 0 3 [] [] (λ e. omega (arith, e)),
      (
        clash v 0 5 [] [] (λ e. omega (arith, e)),
        (
          clash v 0 6 [] [] (λ e. omega (arith, e)),
          apart-front v 0 fs (λ e. omega (arith, e)) (λ e. omega (arith, e)),
        ),
      ),
    ),
  ),
  (
    (
      clash v 1 3 [] [] (λ e. omega (arith, e)),
      (
        clash v 1 5 [] [] (λ e. omega (arith, e)),
        (
          clash v 1 6 [] [] (λ e. omega (arith, e)),
          apart-front v 1 fs (λ e. omega (arith, e)) (λ e. omega (arith, e)),
        ),
      ),
    ),
    (
      (clash v 3 5 [] [] (λ e. omega (arith, e)), (clash v 3 6 [] [] (λ e. omega (arith, e)), apart-front v 3 fs (λ e. omega (arith, e)) (λ e. omega (arith, e)))),
      (
        (clash v 5 6 [] [] (λ e. omega (arith, e)), apart-front v 5 fs (λ e. omega (arith, e)) (λ e. omega (arith, e))),
        (
          apart-front v 6 fs (λ e. omega (arith, e)) (λ e. omega (arith, e)),
          apart-both (Clash v) (fronts 2 fs) (fronts 4 fs) (fronts-apart v 2 fs told) (fronts-apart v 4 fs told) (fronts-cross v 2 4 fs fs (λ e. omega (arith, e))),
        ),
      ),
    ),
  ),
)

pub groups-few : (v : Version) (fs : List TableFound) → AreTold fs → hits (groups fs) v ≤ 1
groups-few v fs told = few-hit (groups fs) v (groups-apart v fs told)

-- ---- which group it is

pub fronts-hit : (n : ℕ) (fs : List TableFound) (v : Version) → 1 ≤ hits (fronts n fs) v → (f : TableFound) × IsAmong fs f × (begins_with (front_of n f) v.key ≡ true)
fronts-hit n [] v some = absurd (let no : ⊥ = omega (arith, some) in no)
fronts-hit n (f ∷ fs) v some = elim (first-hit (fronted (front_of n f)) (fronts n fs) v some) [
  | inl begins ↦ (f, among-first f fs, begins)
  | inr rest ↦ (let found = fronts-hit n fs v rest in (found.0, among-rest f fs found.0 found.1, found.2))
]

pub hit-fronts : (n : ℕ) (fs : List TableFound) (v : Version) (f : TableFound) → IsAmong fs f → begins_with (front_of n f) v.key ≡ true → 1 ≤ hits (fronts n fs) v
hit-fronts n [] v f m begins = absurd (let no : ⊥ = (let few : m.0 < 0 = m.1.0 in omega (arith, few)) in no)
hit-fronts n (g ∷ gs) v f m begins = elim (among-cons g gs f m) [
  | inl same ↦ hit-first (fronted (front_of n g)) (fronts n gs) v (subst (λ (h : TableFound). begins_with (front_of n h) v.key ≡ true) same begins)
  | inr rest ↦ hit-rest (fronted (front_of n g)) (fronts n gs) v (hit-fronts n gs v f rest begins)
]

abbrev pub Begins : List ℕ → Version → Type 0
Begins front v = begins_with front v.key ≡ true

abbrev pub InFronts : ℕ → List TableFound → Version → Type 0
InFronts n fs v = (f : TableFound) × IsAmong fs f × Begins (front_of n f) v

-- the group that a key is in
abbrev pub InGroup : List TableFound → Version → Type 0
InGroup fs v =
    Begins (0 ∷ 0 ∷ []) v ⊎ Begins (0 ∷ 1 ∷ []) v ⊎ InFronts 2 fs v ⊎ Begins (0 ∷ 3 ∷ []) v ⊎ InFronts 4 fs v ⊎ (Begins (0 ∷ 5 ∷ []) v ⊎ Begins (0 ∷ 6 ∷ []) v)

pub groups-hit : (fs : List TableFound) (v : Version) → hits (groups fs) v ≡ 1 → InGroup fs v
groups-hit fs v one = elim (first-hit (fronted (0 ∷ 0 ∷ [])) (from_one fs) v (let some : 1 ≤ hits (groups fs) v = omega (arith, one) in some)) [
  | inl zero_is ↦ inl zero_is
  | inr r ↦ elim (first-hit (fronted (0 ∷ 1 ∷ [])) (from_three fs) v r) [
    | inl one_is ↦ inr (inl one_is)
    | inr s ↦ elim (first-hit (fronted (0 ∷ 3 ∷ [])) (from_five fs) v s) [
      | inl three ↦ inr (inr (inr (inl three)))
      | inr t ↦ elim (first-hit (fronted (0 ∷ 5 ∷ [])) (from_six fs) v t) [
        | inl five ↦ inr (inr (inr (inr (inr (inl five)))))
        | inr u ↦ elim (first-hit (fronted (0 ∷ 6 ∷ [])) (lasts fs) v u) [
          | inl six ↦ inr (inr (inr (inr (inr (inr six)))))
          | inr w ↦ elim (hit-either (fronts 2 fs) (fronts 4 fs) v w) [
            | inl two ↦ inr (inr (inl (fronts-hit 2 fs v two)))
            | inr four ↦ inr (inr (inr (inr (inl (fronts-hit 4 fs v four)))))
          ]
        ]
      ]
    ]
  ]
]

hit-one : (fs : List TableFound) (v : Version) → 1 ≤ hits (from_one fs) v → 1 ≤ hits (groups fs) v
hit-one fs v some = hit-rest (fronted (0 ∷ 0 ∷ [])) (from_one fs) v some

hit-three : (fs : List TableFound) (v : Version) → 1 ≤ hits (from_three fs) v → 1 ≤ hits (groups fs) v
hit-three fs v some = hit-one fs v (hit-rest (fronted (0 ∷ 1 ∷ [])) (from_three fs) v some)

hit-five : (fs : List TableFound) (v : Version) → 1 ≤ hits (from_five fs) v → 1 ≤ hits (groups fs) v
hit-five fs v some = hit-three fs v (hit-rest (fronted (0 ∷ 3 ∷ [])) (from_five fs) v some)

hit-six : (fs : List TableFound) (v : Version) → 1 ≤ hits (from_six fs) v → 1 ≤ hits (groups fs) v
hit-six fs v some = hit-five fs v (hit-rest (fronted (0 ∷ 5 ∷ [])) (from_six fs) v some)

hit-last : (fs : List TableFound) (v : Version) → 1 ≤ hits (lasts fs) v → 1 ≤ hits (groups fs) v
hit-last fs v some = hit-six fs v (hit-rest (fronted (0 ∷ 6 ∷ [])) (lasts fs) v some)

pub hit-groups : (fs : List TableFound) (v : Version) → InGroup fs v → 1 ≤ hits (groups fs) v
hit-groups fs v (inl zero_is) = hit-first (fronted (0 ∷ 0 ∷ [])) (from_one fs) v zero_is
hit-groups fs v (inr (inl one_is)) = hit-one fs v (hit-first (fronted (0 ∷ 1 ∷ [])) (from_three fs) v one_is)
hit-groups fs v (inr (inr (inl two))) = hit-last fs v (hit-left (fronts 2 fs) (fronts 4 fs) v (hit-fronts 2 fs v two.0 two.1 two.2))
hit-groups fs v (inr (inr (inr (inl three)))) = hit-three fs v (hit-first (fronted (0 ∷ 3 ∷ [])) (from_five fs) v three)
hit-groups fs v (inr (inr (inr (inr (inl four))))) = hit-last fs v (hit-right (fronts 2 fs) (fronts 4 fs) v (hit-fronts 4 fs v four.0 four.1 four.2))
hit-groups fs v (inr (inr (inr (inr (inr (inl five)))))) = hit-five fs v (hit-first (fronted (0 ∷ 5 ∷ [])) (from_six fs) v five)
hit-groups fs v (inr (inr (inr (inr (inr (inr six)))))) = hit-six fs v (hit-first (fronted (0 ∷ 6 ∷ [])) (lasts fs) v six)
