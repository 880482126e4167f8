-- The versions of a key up to a number: read off one run by a place in it, and off all runs.
use Rattle.std.proofs.Common.{◌≡◌, ◌≤◌, ◌+◌, ◌-◌, ◌*◌, ℕ, Bool, true, false, ◌&&◌, cond, List, [], ◌∷◌, ◌++◌, length, get_or, take, drop, nat_le, refl, arith, ap, sym, subst, ◌∙◌, inl, inr, Option, Some, None}
use Rattle.std.proofs.lemmas.Bool.{and_from, and_parts, and_right, both_ways, cases_Bool, cases_lt, cond-false, false_from_ne_true, false≢true, true≢false}
use Rattle.std.proofs.lemmas.Cmp.{nat_list_cmp_total, tied_itself}
use Rattle.std.proofs.lemmas.List.{append-nil, get_or-drop, get_or_at, get_or_read, length-append, length-drop, nil_from_length, take-append-drop, take_more}
use Rattle.std.proofs.lemmas.List.Elements.{filter-append}
use Rattle.std.proofs.lemmas.Slice.Eq.{bytes_eq-Decides}
use Rattle.std.specs.Cmp.Lexicographic.{slice_cmp}
use Rattle.std.specs.List.{All, filter, last_or}
use Rattle.std.specs.List.Sorted.{IsPartitionPoint, IsSorted}
use Rattle.std.specs.Ordering.{is_lt, nat_cmp, ordering_then}
use Rattle.std.specs.declared.cmp.Ordering.{Ordering}
use Rattle.std.specs.declared.cmp.Ordering.TheVariants.{Less, Equal, Greater}
use Rattle.im_model.specs.declared.transactions.Transaction.{Transaction}
use Rattle.im_versions.specs.Versions.{all_versions, is_of, last_version, versions_of}
use Rattle.im_versions.specs.declared.versions.Version.{Version}
use Rattle.im_versions.proofs.ListLemmas.{filter-none}
use Rattle.im_octet.proofs.Common.{and-true, last-push, all-left, filter-swap}
use Rattle.im_versions.proofs.ScanLemmas.{same-key}
use Rattle.im_versions.proofs.VersionLemmas.{versions-upto}
use Rattle.im_index.specs.Marks.{found, is_upto, numbered, upto_by}
use Rattle.im_index.specs.Indexed.{AreRunsOf}
use Rattle.im_index.specs.Runs.{HasDigits}
use Rattle.im_index.proofs.HoldLemmas.{held-same, joined, joined-push}
use Rattle.im_index.proofs.OrderLemmas.{no-lower}

-- two filters are one of both tests
pub filter-both : {X : Type 0} (p q : X → Bool) (xs : List X) → filter p (filter q xs) ≡ filter (λ x. p x && q x) xs
filter-both p q [] = refl
filter-both {X} p q (x ∷ xs) =
    let rest : List X = filter (λ (y : X). p y && q y) xs in
    elim (cases_Bool (q x)) [
      | inl met ↦ (
          ap (λ b. filter p (cond b (x ∷ filter q xs) (filter q xs))) met
          ∙ ap (λ zs. cond (p x) (x ∷ zs) zs) (filter-both p q xs)
          ∙ ap (λ b. cond b (x ∷ rest) rest) (sym (and-true (p x)) ∙ ap (λ t. p x && t) (sym met)))
      | inr unmet ↦ (
          ap (λ b. filter p (cond b (x ∷ filter q xs) (filter q xs))) unmet
          ∙ filter-both p q xs
          ∙ sym (cond-false (p x && q x) (x ∷ rest) rest (and_right (p x) (q x) unmet)))
    ]

-- it is a version of the key, and its number is at most n
abbrev pub is_found : List ℕ → ℕ → Version → Bool
is_found key n v = is_of key v && nat_le v.tx n

pub found-is : (key : List ℕ) (n : ℕ) (versions : List Version) → found key n versions ≡ filter (is_found key n) versions
found-is key n versions = filter-both (is_of key) (λ (v : Version). nat_le v.tx n) versions

pub found-append : (key : List ℕ) (n : ℕ) (xs ys : List Version) → found key n (xs ++ ys) ≡ found key n xs ++ found key n ys
found-append key n xs ys =
    ap (filter (is_of key)) (filter-append (λ (v : Version). nat_le v.tx n) xs ys)
    ∙ filter-append (is_of key) (filter (λ (v : Version). nat_le v.tx n) xs) (filter (λ (v : Version). nat_le v.tx n) ys)

-- those of a history are its versions of the key after the first n transactions
pub found-versions : (history : List Transaction) (key : List ℕ) (n : ℕ) → found key n (all_versions history) ≡ versions_of (take n history) key
found-versions history key n = ap (filter (is_of key)) (sym (versions-upto history n))

-- and so are those of its runs
pub found-held : (runs : List (List Version)) (history : List Transaction) (key : List ℕ) (n : ℕ) → AreRunsOf runs history
    → found key n (joined runs) ≡ versions_of (take n history) key
found-held runs history key n are =
    let p : Version → Bool = λ v. nat_le v.tx n in
    filter-swap (is_of key) p (joined runs)
    ∙ ap (filter p) (held-same runs (all_versions history) key are.holds)
    ∙ filter-swap p (is_of key) (all_versions history)
    ∙ found-versions history key n

-- the last of them is the key's last version
pub found-last : (runs : List (List Version)) (history : List Transaction) (key : List ℕ) (n : ℕ) → AreRunsOf runs history
    → last_or None (found key n (joined runs)) ≡ last_version (take n history) key
found-last runs history key n are = ap (last_or None) (found-held runs history key n are)

-- of the key itself the number decides
pub upto-same : (key : List ℕ) (n : ℕ) (v : Version) → v.key ≡ key → nat_le v.tx n ≡ true → is_upto key n v ≡ true
upto-same key n v same within = go (slice_cmp nat_cmp v.key key) refl
  where
    go : (o : Ordering) → slice_cmp nat_cmp v.key key ≡ o → upto_by o (nat_le v.tx n) ≡ true
    go Less e = refl
    go Equal e = within
    go Greater e = absurd (let tied : slice_cmp nat_cmp v.key key ≡ Equal = ap (λ k. slice_cmp nat_cmp v.key k) (sym same) ∙ tied_itself nat_list_cmp_total v.key in let odd : Greater ≡ Equal = sym e ∙ tied in cc)

-- what isn't at most at a key and number isn't found
pub behind-not-found : (key : List ℕ) (n : ℕ) (v : Version) → is_upto key n v ≡ false → is_found key n v ≡ false
behind-not-found key n v behind = false_from_ne_true (is_found key n v) (λ is.
    let both : (is_of key v ≡ true) × (nat_le v.tx n ≡ true) = and_parts (is_of key v) (nat_le v.tx n) is in
    let same : v.key ≡ key = (bytes_eq-Decides v.key key).0 both.0 in
    both_ways (is_upto key n v) behind (upto-same key n v same both.1))

-- a version of the key that stands at most at the number is found
pub upto-number : (key : List ℕ) (n : ℕ) (v : Version) → v.key ≡ key → is_upto key n v ≡ true → nat_le v.tx n ≡ true
upto-number key n v same up =
    let tied : slice_cmp nat_cmp v.key key ≡ Equal = ap (λ k. slice_cmp nat_cmp v.key k) (sym same) ∙ tied_itself nat_list_cmp_total v.key in
    ap (λ o. upto_by o (nat_le v.tx n)) (sym tied) ∙ up

-- a version at most at a key, behind a version of that key, is of that key
pub between-key : (key : List ℕ) (n : ℕ) (v w : Version) → is_lt (numbered w v) ≡ false → is_upto key n w ≡ true → v.key ≡ key → w.key ≡ key
between-key key n v w low up same = go (slice_cmp nat_cmp w.key key) refl up (ap (λ k. is_lt (ordering_then (slice_cmp nat_cmp w.key k) (nat_cmp w.tx v.tx))) (sym same) ∙ low)
  where
    go : (o : Ordering) → slice_cmp nat_cmp w.key key ≡ o → upto_by o (nat_le w.tx n) ≡ true → is_lt (ordering_then o (nat_cmp w.tx v.tx)) ≡ false → w.key ≡ key
    go Less e u l = absurd (true≢false l)
    go Equal e u l = same-key w.key key (sym e)
    go Greater e u l = absurd (false≢true u)

-- where i versions of a sorted run stand at most at a key and number
abbrev pub IsPlace : List ℕ → ℕ → List Version → ℕ → Type 0
IsPlace key n run i = IsPartitionPoint (λ (v : Version). is_upto key n v ≡ true) (λ (v : Version). is_upto key n v ≡ false) run i

-- and the last of them isn't of the key, none is found
pub found-none : (key : List ℕ) (n : ℕ) (run : List Version) (i : ℕ) → IsSorted numbered run → i ≤ length run → IsPlace key n run i
    → ((j : ℕ) (d : Version) → i ≡ j + 1 → is_of key (get_or run j d) ≡ false) → found key n run ≡ []
found-none key n run i sorted h point last =
    found-is key n run ∙ filter-none (is_found key n) run (λ k d l. elim (cases_lt k i) [
      | inr behind ↦ behind-not-found key n (get_or run k d) (point.1 k d behind l)
      | inl front ↦ (
          let j : ℕ = i - 1 in
          let same : i ≡ j + 1 = omega arith in
          let other : is_of key (get_or run j d) ≡ false = last j d same in
          let up : is_upto key n (get_or run j d) ≡ true = point.0 j d (omega arith) (omega arith) in
          let low : is_lt (numbered (get_or run j d) (get_or run k d)) ≡ false = no-lower run k j d sorted (omega arith) (omega arith) in
          false_from_ne_true (is_found key n (get_or run k d)) (λ is.
          let both : (is_of key (get_or run k d) ≡ true) × (nat_le (get_or run k d).tx n ≡ true) =
          and_parts (is_of key (get_or run k d)) (nat_le (get_or run k d).tx n) is in
          let mine : (get_or run k d).key ≡ key = (bytes_eq-Decides (get_or run k d).key key).0 both.0 in
          let its : (get_or run j d).key ≡ key = between-key key n (get_or run k d) (get_or run j d) low up mine in
          both_ways (is_of key (get_or run j d)) other ((bytes_eq-Decides (get_or run j d).key key).1 its)))
    ])

-- nothing stands at most there
pub found-nowhere : (key : List ℕ) (n : ℕ) (run : List Version) (i : ℕ) → IsSorted numbered run → i ≤ length run → IsPlace key n run i → i ≡ 0
    → found key n run ≡ []
found-nowhere key n run i sorted h point none = found-none key n run i sorted h point (λ j d next. absurd (omega arith))

-- what stands last there is of another key
pub found-other : (key : List ℕ) (n : ℕ) (run : List Version) (i at : ℕ) (v : Version) → IsSorted numbered run → i ≤ length run → IsPlace key n run i
    → i ≡ at + 1 → v ≡ get_or run at v → is_of key v ≡ false → found key n run ≡ []
found-other key n run i at v sorted h point next is other = found-none key n run i sorted h point (λ j d same.
    let one : at ≡ j = omega arith in
    subst (λ (m : ℕ). is_of key (get_or run m d) ≡ false) one
    (subst (λ (w : Version). is_of key w ≡ false) (get_or_read run at v (omega arith) is d) other))

-- and else it is the last that is found
pub found-some : (key : List ℕ) (n : ℕ) (run : List Version) (i j : ℕ) (v : Version) → i ≤ length run → IsPlace key n run i
    → i ≡ j + 1 → v ≡ get_or run j v → is_of key v ≡ true → last_or None (found key n run) ≡ Some v
found-some key n run i j v h point next at is =
    let up : is_upto key n v ≡ true = subst (λ (w : Version). is_upto key n w ≡ true) (sym at) (point.0 j v (omega arith) (omega arith)) in
    let within : nat_le v.tx n ≡ true = upto-number key n v ((bytes_eq-Decides v.key key).0 is) up in
    let p : Version → Bool = is_found key n in
    let front : filter p (take i run) ≡ filter p (take j run) ++ v ∷ [] =
    ap (λ m. filter p (take m run)) next
    ∙ ap (filter p) (take_more run j v (omega arith))
    ∙ filter-append p (take j run) (get_or run j v ∷ [])
    ∙ ap (λ w. filter p (take j run) ++ filter p (w ∷ [])) (sym at)
    ∙ ap (λ b. filter p (take j run) ++ cond b (v ∷ []) []) (and_from (is_of key v) (nat_le v.tx n) is within) in
    let behind : filter p (drop i run) ≡ [] = filter-none p (drop i run) (λ k d l.
    behind-not-found key n (get_or (drop i run) k d)
    (subst (λ (w : Version). is_upto key n w ≡ false) (sym (get_or-drop i run k d)) (point.1 (i + k) d (omega arith) (omega (arith, length-drop i run))))) in
    ap (last_or None) (found-is key n run
    ∙ ap (filter p) (sym (take-append-drop i run))
    ∙ filter-append p (take i run) (drop i run)
    ∙ ap (λ vs. vs ++ filter p (drop i run)) front
    ∙ ap (λ vs. (filter p (take j run) ++ v ∷ []) ++ vs) behind
    ∙ append-nil (filter p (take j run) ++ v ∷ []))
    ∙ last-push None (filter p (take j run)) v

none-empty : {X : Type 0} (x : X) (xs : List X) → last_or (Some x) xs ≡ None → ⊥
none-empty x [] none = cc
none-empty x (y ∷ ys) none = none-empty y ys none

-- a list without a last item has none
pub last-none : {X : Type 0} (xs : List X) → last_or None xs ≡ None → xs ≡ []
last-none [] none = refl
last-none (x ∷ xs) none = absurd (none-empty x xs none)

-- the last of two lists is that of the second, where it has one
pub last-behind : {X : Type 0} (o : Option X) (xs ys : List X) (v : X) → last_or None ys ≡ Some v → last_or o (xs ++ ys) ≡ Some v
last-behind o [] [] v last = absurd (cc)
last-behind o [] (y ∷ ys) v last = last
last-behind o (x ∷ xs) ys v last = last-behind (Some x) xs ys v last

-- a version that is found in the newest run is the last of all
pub found-newest : (key : List ℕ) (n : ℕ) (runs before : List (List Version)) (run : List Version) (v : Version) → runs ≡ before ++ run ∷ []
    → last_or None (found key n run) ≡ Some v → last_or None (found key n (joined runs)) ≡ Some v
found-newest key n runs before run v whole last =
    ap (λ rs. last_or None (found key n (joined rs))) whole
    ∙ ap (λ vs. last_or None (found key n vs)) (joined-push before run)
    ∙ ap (last_or None) (found-append key n (joined before) run)
    ∙ last-behind None (found key n (joined before)) (found key n run) v last

-- where none is found in it, the older runs decide
pub found-older : (key : List ℕ) (n : ℕ) (runs before : List (List Version)) (run : List Version) → runs ≡ before ++ run ∷ []
    → last_or None (found key n run) ≡ None → last_or None (found key n (joined runs)) ≡ last_or None (found key n (joined before))
found-older key n runs before run whole none =
    ap (λ rs. last_or None (found key n (joined rs))) whole
    ∙ ap (λ vs. last_or None (found key n vs)) (joined-push before run)
    ∙ ap (last_or None) (found-append key n (joined before) run
    ∙ ap (λ vs. found key n (joined before) ++ vs) (last-none (found key n run) none)
    ∙ append-nil (found key n (joined before)))

-- what a look from the newest run on has found in those behind the older ones: nothing
pub record IsLooked (runs older : List (List Version)) (key : List ℕ) (n old steps : ℕ) : Type 0 where
  pub sorted : All (IsSorted numbered) older
  pub last : last_or None (found key n (joined runs)) ≡ last_or None (found key n (joined older))
  pub cost : (b : ℕ) → All (λ run. HasDigits b (length run)) runs
      → All (λ run. HasDigits b (length run)) older × (steps + length older * (b + 1) ≤ old + length runs * (b + 1))

pub looked-first : (runs : List (List Version)) (key : List ℕ) (n old : ℕ) → All (IsSorted numbered) runs → IsLooked runs runs key n old old
looked-first runs key n old sorted = record { sorted = sorted; last = refl; cost = λ b all. (all, omega arith) }

-- and of the last
pub all-last : {X : Type 0} (P : X → Type 0) (xs : List X) (x : X) → All P (xs ++ x ∷ []) → P x
all-last P xs x all = subst P (get_or_at xs x [] x (length xs) refl) (all (length xs) x (omega (arith, length-append xs (x ∷ []))))

-- the run that is looked at is sorted
pub looked-sorted : (runs older before : List (List Version)) (run : List Version) (key : List ℕ) (n old steps : ℕ) → IsLooked runs older key n old steps
    → older ≡ before ++ run ∷ [] → IsSorted numbered run
looked-sorted runs older before run key n old steps so split =
    all-last (IsSorted numbered) before run (subst (λ (rs : List (List Version)). All (IsSorted numbered) rs) split so.sorted)

-- a step in it adds to the cost
looked-cost : (runs older before : List (List Version)) (run : List Version) (key : List ℕ) (n old steps more : ℕ) → IsLooked runs older key n old steps
    → older ≡ before ++ run ∷ [] → ((b : ℕ) → HasDigits b (length run) → more ≤ steps + (b + 1))
    → (b : ℕ) → All (λ run. HasDigits b (length run)) runs
    → All (λ run. HasDigits b (length run)) before × (more + length before * (b + 1) ≤ old + length runs * (b + 1))
looked-cost runs older before run key n old steps more so split step b fits =
    let P : List Version → Type 0 = λ r. HasDigits b (length r) in
    let now : All P older × (steps + length older * (b + 1) ≤ old + length runs * (b + 1)) = so.cost b fits in
    let all : All P (before ++ run ∷ []) = subst (λ (rs : List (List Version)). All P rs) split now.0 in
    let here : more ≤ steps + (b + 1) = step b (all-last P before run all) in
    let long : length older ≡ length before + 1 = ap length split ∙ length-append before (run ∷ []) in
    (all-left P before (run ∷ []) all, omega (arith, now.1, here, ap (λ (m : ℕ). m * (b + 1)) long))

-- none was found in it
pub looked-next : (runs older before : List (List Version)) (run : List Version) (key : List ℕ) (n old steps more : ℕ) → IsLooked runs older key n old steps
    → older ≡ before ++ run ∷ [] → last_or None (found key n run) ≡ None → ((b : ℕ) → HasDigits b (length run) → more ≤ steps + (b + 1))
    → IsLooked runs before key n old more
looked-next runs older before run key n old steps more so split none step = record {
  sorted = all-left (IsSorted numbered) before (run ∷ []) (subst (λ (rs : List (List Version)). All (IsSorted numbered) rs) split so.sorted);
  last = so.last ∙ found-older key n older before run split none;
  cost = looked-cost runs older before run key n old steps more so split step;
}

-- one was
pub looked-some : (runs older before : List (List Version)) (run : List Version) (key : List ℕ) (n old steps : ℕ) (v : Version) → IsLooked runs older key n old steps
    → older ≡ before ++ run ∷ [] → last_or None (found key n run) ≡ Some v → Some v ≡ last_or None (found key n (joined runs))
looked-some runs older before run key n old steps v so split some = sym (so.last ∙ found-newest key n older before run v split some)

-- with so many steps
pub looked-steps : (runs older before : List (List Version)) (run : List Version) (key : List ℕ) (n old steps more : ℕ) → IsLooked runs older key n old steps
    → older ≡ before ++ run ∷ [] → ((b : ℕ) → HasDigits b (length run) → more ≤ steps + (b + 1))
    → (b : ℕ) → All (λ run. HasDigits b (length run)) runs → more ≤ old + length runs * (b + 1)
looked-steps runs older before run key n old steps more so split step b fits =
    let both : All (λ run. HasDigits b (length run)) before × (more + length before * (b + 1) ≤ old + length runs * (b + 1)) =
    looked-cost runs older before run key n old steps more so split step b fits in
    omega (arith, both.1)

-- there is no run left
pub looked-end : (runs older : List (List Version)) (key : List ℕ) (n old steps : ℕ) → IsLooked runs older key n old steps → length older ≡ 0
    → None ≡ last_or None (found key n (joined runs))
looked-end runs older key n old steps so none =
    sym (so.last ∙ ap (λ rs. last_or None (found key n (joined rs))) (nil_from_length older none))
