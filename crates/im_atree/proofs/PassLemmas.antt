-- What is built of a tree's leaves passes its checks.
use Rattle.std.proofs.Common.{◌≡◌, ◌<◌, ◌≤◌, ℕ, suc, zero, ◌+◌, ◌-◌, true, false, List, [], ◌∷◌, length, take, drop, reverse, refl, arith, ap, subst, ◌∙◌, sym, nat_lt, if◌then◌else◌, inl, inr, get_or, length-drop, take-take, take_all, Ok, ◌&&◌}
use Rattle.std.specs.Prelude.{nat_eq, bytes_eq}
use Rattle.std.proofs.lemmas.Bool.{cases_lt, cases_eq, eq-eqb, ne_eqb, lt-ltb, le-ltb}
use Rattle.std.proofs.lemmas.List.{length-take-le, length-reverse, reverse-reverse, drop-take, get_or-take}
use Rattle.im_digest.specs.Digests.{Hash}
use Rattle.im_model.specs.Trees.{node, split_of, root}
use Rattle.im_model.specs.Paths.{path_length, up}
use Rattle.im_model.specs.Growth.{IsGrowth, IsConsistency, older, newer, older_root, newer_root, consistency_length}
use Rattle.im_model.specs.History.{no_digest}
use Rattle.im_model.proofs.TreeLemmas.{split-within, split-same, root-split}
use Rattle.im_model.proofs.Lengths.{consistency-fits}
use Rattle.im_model.proofs.Steps.{older-first, newer-first, older-left, older-right, newer-left, newer-right}
use Rattle.im_mtree.specs.Checks.{first_fail}
use Rattle.im_mtree.specs.Inclusion.{inclusion}
use Rattle.im_mtree.proofs.InclusionLemmas.{inclusion-exact, inclusion-leads}
use Rattle.im_proof.specs.Built.{path_of, growth_first, growth_rest, consistency}
use Rattle.im_proof.specs.TreeChecks.{inclusion_checks, consistency_checks, last_checks, bl_checks}
use Rattle.im_proof.specs.declared.faults.DualFault.TheVariants.{ConsistencyLength, ConsistencyOld, ConsistencyNew, BlAlh}
use Rattle.im_octet.proofs.Common.{bytes-same}
use Rattle.im_mtree.proofs.CheckLemmas.{one-holds, two-hold, three-hold, when-true, when-false}
use Rattle.im_levels.proofs.GrowthLemmas.{less, Steps, low-steps, high-steps, whole-list, list_whole, list_grown}

-- a first term and those behind it fit the sizes, and give both roots
pub record Grows (hash : Hash) (leaves : List (List ℕ)) (m n : ℕ) (first : List ℕ) (rest : List (List ℕ)) : Type 0 where
  pub long : IsGrowth m n rest
  pub old : older hash m n first rest ≡ root hash (take m leaves)
  pub new : newer hash m n first rest ≡ root hash leaves

grows-whole : (hash : Hash) (leaves : List (List ℕ)) (m : ℕ) → 0 < m → m ≡ length leaves
    → Grows hash leaves m (length leaves) (growth_first hash leaves m) (growth_rest hash leaves m)
grows-whole hash leaves m o e =
    let n : ℕ = length leaves in
    let whole : (growth_first hash leaves m ≡ root hash leaves) × (growth_rest hash leaves m ≡ []) = whole-list hash leaves m o e in
    let all : take m leaves ≡ leaves = take_all m leaves (omega arith) in
    subst (λ (f : List ℕ). Grows hash leaves m n f (growth_rest hash leaves m)) (sym whole.0)
    (subst (λ rs. Grows hash leaves m n (root hash leaves) rs) (sym whole.1)
    (record { long = e; old = older-first hash m n (root hash leaves) ∙ ap (λ xs. root hash xs) (sym all); new = newer-first hash m n (root hash leaves) }))

-- one step up, where the older tree ends in the left part
grows-low : (hash : Hash) (leaves : List (List ℕ)) (m : ℕ) (f : List ℕ) (t : List (List ℕ)) → 0 < m → m < length leaves → m ≤ split_of (length leaves)
    → Grows hash (take (split_of (length leaves)) leaves) m (split_of (length leaves)) f t
    → Grows hash leaves m (length leaves) f (root hash (drop (split_of (length leaves)) leaves) ∷ t)
grows-low hash leaves m f t o l side g =
    let n : ℕ = length leaves in
    let k : ℕ = split_of n in
    record {
      long = (l, inl (side, g.long));
      old = older-left hash m n f (root hash (drop k leaves)) t side ∙ g.old ∙ ap (λ xs. root hash xs) (take-take m k leaves side);
      new = newer-left hash m n f (root hash (drop k leaves)) t side ∙ ap (λ w. node hash w (root hash (drop k leaves))) g.new ∙ sym (root-split hash leaves k (omega arith) refl);
    }

-- one step up, where the older tree has the whole left part
grows-high : (hash : Hash) (leaves : List (List ℕ)) (m : ℕ) (f : List ℕ) (t : List (List ℕ)) → 0 < m → m < length leaves → split_of (length leaves) < m
    → Grows hash (drop (split_of (length leaves)) leaves) (m - split_of (length leaves)) (length leaves - split_of (length leaves)) f t
    → Grows hash leaves m (length leaves) f (root hash (take (split_of (length leaves)) leaves) ∷ t)
grows-high hash leaves m f t o l past g =
    let n : ℕ = length leaves in
    let k : ℕ = split_of n in
    let left : List (List ℕ) = take k leaves in
    let right : List (List ℕ) = drop k leaves in
    let inside : (0 < k) × (k < n) = split-within n (omega arith) in
    let size : length (take m leaves) ≡ m = length-take-le m leaves (omega arith) in
    let split : k ≡ split_of (length (take m leaves)) = sym (ap (λ j. split_of j) size ∙ split-same m n (omega arith) (omega arith) past) in
    let sum : k + (m - k) ≡ m = omega arith in
    let dropped : drop k (take m leaves) ≡ take (m - k) right = ap (λ j. drop k (take j leaves)) (sym sum) ∙ drop-take k (m - k) leaves in
    let whole : root hash (take m leaves) ≡ node hash (root hash left) (root hash (take (m - k) right)) =
    root-split hash (take m leaves) k (omega arith) split
    ∙ ap (λ xs. node hash (root hash xs) (root hash (drop k (take m leaves)))) (take-take k m leaves (omega arith))
    ∙ ap (λ xs. node hash (root hash left) (root hash xs)) dropped in
    record {
      long = (l, inr (past, g.long));
      old = older-right hash m n f (root hash left) t past ∙ ap (λ o. node hash (root hash left) o) g.old ∙ sym whole;
      new = newer-right hash m n f (root hash left) t past ∙ ap (λ w. node hash (root hash left) w) g.new ∙ sym (root-split hash leaves k (omega arith) refl);
    }

grows-within : (room : ℕ) (hash : Hash) (leaves : List (List ℕ)) (m : ℕ) → length leaves ≤ room → 0 < m → m ≤ length leaves
    → Grows hash leaves m (length leaves) (growth_first hash leaves m) (growth_rest hash leaves m)
grows-within zero hash leaves m r o l = absurd (omega arith)
grows-within (suc room) hash leaves m r o l = elim (cases_eq m (length leaves)) [
  | inl e ↦ grows-whole hash leaves m o e
  | inr ne ↦ (
      let n : ℕ = length leaves in
      let k : ℕ = split_of n in
      let below : m < n = less m n l ne in
      let inside : (0 < k) × (k < n) = split-within n (omega arith) in
      let left : length (take k leaves) ≡ k = length-take-le k leaves (omega arith) in
      let right : length (drop k leaves) ≡ n - k = length-drop k leaves in
      elim (cases_lt k m) [
        | inl over ↦ (
            let s : Steps hash leaves m (drop k leaves) (take k leaves) (m - k) = high-steps hash leaves m o below over in
            let f : List ℕ = growth_first hash (drop k leaves) (m - k) in
            let t : List (List ℕ) = growth_rest hash (drop k leaves) (m - k) in
            let g : Grows hash (drop k leaves) (m - k) (n - k) f t =
            subst (λ j. Grows hash (drop k leaves) (m - k) j f t) right (grows-within room hash (drop k leaves) (m - k) (omega arith) (omega arith) (omega arith)) in
            subst (λ (x : List ℕ). Grows hash leaves m n x (growth_rest hash leaves m)) (sym s.0)
            (subst (λ rs. Grows hash leaves m n f rs) (sym s.1) (grows-high hash leaves m f t o below over g)))
        | inr under ↦ (
            let s : Steps hash leaves m (take k leaves) (drop k leaves) m = low-steps hash leaves m o below under in
            let f : List ℕ = growth_first hash (take k leaves) m in
            let t : List (List ℕ) = growth_rest hash (take k leaves) m in
            let g : Grows hash (take k leaves) m k f t =
            subst (λ j. Grows hash (take k leaves) m j f t) left (grows-within room hash (take k leaves) m (omega arith) o (omega arith)) in
            subst (λ (x : List ℕ). Grows hash leaves m n x (growth_rest hash leaves m)) (sym s.0)
            (subst (λ rs. Grows hash leaves m n f rs) (sym s.1) (grows-low hash leaves m f t o below under g)))
      ])
]

-- a list fits the sizes, and gives both roots where the older one is known
pub record Leads (hash : Hash) (leaves : List (List ℕ)) (m : ℕ) (list : List (List ℕ)) : Type 0 where
  pub exact : length list ≡ consistency_length m (length leaves)
  pub old : older_root hash m (length leaves) (root hash (take m leaves)) list ≡ root hash (take m leaves)
  pub new : newer_root hash m (length leaves) (root hash (take m leaves)) list ≡ root hash leaves

-- so does the one that is built
pub built-leads : (hash : Hash) (leaves : List (List ℕ)) (m : ℕ) → 0 < m → m ≤ length leaves → Leads hash leaves m (consistency hash leaves m)
built-leads hash leaves m o l = elim (cases_eq m (length leaves)) [
  | inl e ↦ (
      let none : List (List ℕ) = [] in
      subst (λ x. Leads hash leaves m x) (sym (list_whole hash leaves m e)) (record {
        exact = (consistency-fits m (length leaves) none o l).0 e;
        old = refl;
        new = ap (λ x. root hash x) (take_all m leaves (omega arith));
      }))
  | inr ne ↦ (
      let n : ℕ = length leaves in
      let first : List ℕ = growth_first hash leaves m in
      let rest : List (List ℕ) = growth_rest hash leaves m in
      let g : Grows hash leaves m n first rest = grows-within n hash leaves m (omega arith) o l in
      let turned : reverse (reverse rest) ≡ rest = reverse-reverse rest in
      let fits : IsConsistency m n (first ∷ reverse rest) = (less m n l ne, subst (λ x. IsGrowth m n x) (sym turned) g.long) in
      subst (λ x. Leads hash leaves m x) (sym (list_grown hash leaves m ne)) (record {
        exact = (consistency-fits m n (first ∷ reverse rest) o l).0 fits;
        old = ap (λ x. older hash m n first x) turned ∙ g.old;
        new = ap (λ x. newer hash m n first x) turned ∙ g.new;
      }))
]

-- in the tree of the first n: the exact length
pub list_exact : (hash : Hash) (alhs : List (List ℕ)) (m n : ℕ) (list : List (List ℕ)) → 1 ≤ m → m ≤ n → n ≤ length alhs → list ≡ consistency hash (take n alhs) m
    → length list ≡ consistency_length m n
list_exact hash alhs m n list o l w built =
    let long : length (take n alhs) ≡ n = length-take-le n alhs w in
    ap length built ∙ (built-leads hash (take n alhs) m (omega arith) (omega arith)).exact ∙ ap (λ j. consistency_length m j) long

-- and both roots
leads-in : (hash : Hash) (alhs : List (List ℕ)) (m n : ℕ) → 1 ≤ m → m ≤ n → n ≤ length alhs
    → (older_root hash m n (root hash (take m alhs)) (consistency hash (take n alhs) m) ≡ root hash (take m alhs))
    × (newer_root hash m n (root hash (take m alhs)) (consistency hash (take n alhs) m) ≡ root hash (take n alhs))
leads-in hash alhs m n o l w =
    let leaves : List (List ℕ) = take n alhs in
    let list : List (List ℕ) = consistency hash leaves m in
    let long : length leaves ≡ n = length-take-le n alhs w in
    let front : take m leaves ≡ take m alhs = take-take m n alhs l in
    let g : Leads hash leaves m list = built-leads hash leaves m (omega arith) (omega arith) in
    let P : ℕ → List (List ℕ) → Type 0 = λ j xs. (older_root hash m j (root hash xs) list ≡ root hash xs) × (newer_root hash m j (root hash xs) list ≡ root hash leaves) in
    subst (λ j. P j (take m alhs)) long (subst (λ xs. P (length leaves) xs) front (g.old, g.new))

-- a built consistency list passes its check
pub list_passes : (hash : Hash) (alhs : List (List ℕ)) (m n : ℕ) (list : List (List ℕ)) → 1 ≤ m → m ≤ n → n ≤ length alhs → list ≡ consistency hash (take n alhs) m
    → first_fail (consistency_checks hash m n (root hash (take m alhs)) (root hash (take n alhs)) list) ≡ Ok tt
list_passes hash alhs m n list o l w built =
    let a : List ℕ = root hash (take m alhs) in
    let b : List ℕ = root hash (take n alhs) in
    let some : nat_lt 0 m ≡ true = lt-ltb 0 m (omega arith) in
    elim (cases_lt m n) [
      | inl below ↦ (
          let due : (nat_lt 0 m && nat_lt m n) ≡ true = ap (λ t. t && nat_lt m n) some ∙ lt-ltb m n below in
          let exact : length list ≡ consistency_length m n = list_exact hash alhs m n list o l w built in
          let both = leads-in hash alhs m n o l w in
          ap (λ t. first_fail (if t
          then (nat_eq (length list) (consistency_length m n), ConsistencyLength (consistency_length m n) (length list))
          ∷ (bytes_eq (older_root hash m n a list) a, ConsistencyOld a (older_root hash m n a list))
          ∷ (bytes_eq (newer_root hash m n a list) b, ConsistencyNew b (newer_root hash m n a list)) ∷ []
          else (nat_eq (length list) 0, ConsistencyLength 0 (length list))
          ∷ (if nat_lt 0 m then (bytes_eq a b, ConsistencyNew b a) ∷ [] else []))) due
          ∙ three-hold _ _ _ _ _ _ (eq-eqb (length list) (consistency_length m n) exact)
          (bytes-same (older_root hash m n a list) a (ap (λ x. older_root hash m n a x) built ∙ both.0))
          (bytes-same (newer_root hash m n a list) b (ap (λ x. newer_root hash m n a x) built ∙ both.1)))
      | inr whole ↦ (
          let same : m ≡ n = omega arith in
          let due : (nat_lt 0 m && nat_lt m n) ≡ false = ap (λ t. t && nat_lt m n) some ∙ le-ltb m n whole in
          let long : length (take n alhs) ≡ n = length-take-le n alhs w in
          let none : length list ≡ 0 = ap length (built ∙ list_whole hash (take n alhs) m (omega arith)) in
          ap (λ t. first_fail (if t
          then (nat_eq (length list) (consistency_length m n), ConsistencyLength (consistency_length m n) (length list))
          ∷ (bytes_eq (older_root hash m n a list) a, ConsistencyOld a (older_root hash m n a list))
          ∷ (bytes_eq (newer_root hash m n a list) b, ConsistencyNew b (newer_root hash m n a list)) ∷ []
          else (nat_eq (length list) 0, ConsistencyLength 0 (length list))
          ∷ (if nat_lt 0 m then (bytes_eq a b, ConsistencyNew b a) ∷ [] else []))) due
          ∙ ap (λ t. first_fail ((nat_eq (length list) 0, ConsistencyLength 0 (length list)) ∷ (if t then (bytes_eq a b, ConsistencyNew b a) ∷ [] else []))) some
          ∙ two-hold _ _ _ _ (eq-eqb (length list) 0 none) (bytes-same a b (ap (λ j. root hash (take j alhs)) same)))
    ]

-- the path of leaf i in the tree of the first n has the exact length, and leads to the root
pub path-in_front : (hash : Hash) (alhs : List (List ℕ)) (i n : ℕ) → i < n → n ≤ length alhs
    → (length (path_of hash (take n alhs) i) ≡ path_length n i) × (up hash n i (get_or alhs i []) (reverse (path_of hash (take n alhs) i)) ≡ root hash (take n alhs))
path-in_front hash alhs i n l w =
    let leaves : List (List ℕ) = take n alhs in
    let long : length leaves ≡ n = length-take-le n alhs w in
    let leaf : get_or leaves i [] ≡ get_or alhs i [] = get_or-take n alhs i [] l in
    let path : List (List ℕ) = inclusion hash leaves i in (
      length-reverse path ∙ inclusion-exact hash leaves i (omega arith) ∙ ap (λ j. path_length j i) long,
      ap (λ p. up hash n i (get_or alhs i []) p) (reverse-reverse path)
          ∙ ap (λ j. up hash j i (get_or alhs i []) path) (sym long)
          ∙ ap (λ d. up hash (length leaves) i d path) (sym leaf)
          ∙ inclusion-leads hash leaves i (omega arith),
    )

-- a built inclusion path passes its check, where it is due and where it is not
pub inclusion-passes : (hash : Hash) (alhs : List (List ℕ)) (s n : ℕ) (top : List ℕ) → 1 ≤ s → n ≤ length alhs → (0 < n → top ≡ root hash (take n alhs))
    → first_fail (inclusion_checks hash s n top (get_or alhs (s - 1) []) (if nat_lt s n then path_of hash (take n alhs) (s - 1) else [])) ≡ Ok tt
inclusion-passes hash alhs s n top o w tree =
    let alh : List ℕ = get_or alhs (s - 1) [] in
    let path : List (List ℕ) = path_of hash (take n alhs) (s - 1) in
    elim (cases_lt s n) [
      | inl below ↦ (
          let front = path-in_front hash alhs (s - 1) n (omega arith) w in
          let is : top ≡ root hash (take n alhs) = tree (omega arith) in
          ap (λ t. first_fail (inclusion_checks hash s n top alh (if t then path else []))) (lt-ltb s n below)
          ∙ when-true (nat_lt s n) _ _ (lt-ltb s n below)
          (two-hold _ _ _ _ (eq-eqb (length path) (path_length n (s - 1)) front.0) (bytes-same (up hash n (s - 1) alh (reverse path)) top (front.1 ∙ sym is))))
      | inr beyond ↦ ap (λ t. first_fail (inclusion_checks hash s n top alh (if t then path else []))) (le-ltb s n beyond)
          ∙ when-false (nat_lt s n) _ _ (le-ltb s n beyond) refl
    ]

-- a number above 0 isn't found to be 0
pub not-none : (n : ℕ) → 0 < n → nat_eq n 0 ≡ false
not-none n h = ne_eqb n 0 (λ e. absurd (omega arith))

-- a built consistency list passes its check, where it is due and where it is not
pub consistency-passes : (hash : Hash) (alhs : List (List ℕ)) (m n : ℕ) (older newer : List ℕ) → m ≤ n → n ≤ length alhs
    → (0 < m → older ≡ root hash (take m alhs)) → (0 < n → newer ≡ root hash (take n alhs))
    → first_fail (consistency_checks hash m n older newer (if nat_eq m 0 then [] else consistency hash (take n alhs) m)) ≡ Ok tt
consistency-passes hash alhs zero n older newer l w old new = refl
consistency-passes hash alhs (suc m) n older newer l w old new =
    let list : List (List ℕ) = consistency hash (take n alhs) (suc m) in
    let a : older ≡ root hash (take (suc m) alhs) = old (omega arith) in
    let b : newer ≡ root hash (take n alhs) = new (omega arith) in
    ap (λ t. first_fail (consistency_checks hash (suc m) n older newer (if t then [] else list))) (not-none (suc m) (omega arith))
    ∙ ap (λ x. first_fail (consistency_checks hash (suc m) n x newer list)) a
    ∙ ap (λ x. first_fail (consistency_checks hash (suc m) n (root hash (take (suc m) alhs)) x list)) b
    ∙ list_passes hash alhs (suc m) n list (omega arith) l w refl

-- a built path of the last leaf passes its check, where there is one and where there is none
pub last-passes : (hash : Hash) (alhs : List (List ℕ)) (n : ℕ) (top none : List ℕ) → n ≤ length alhs → (0 < n → top ≡ root hash (take n alhs))
    → first_fail (last_checks hash n top (if nat_eq n 0 then none else get_or alhs (n - 1) []) (if nat_eq n 0 then [] else path_of hash (take n alhs) (n - 1))) ≡ Ok tt
last-passes hash alhs zero top none w tree = refl
last-passes hash alhs (suc n) top none w tree =
    let size : ℕ = suc n in
    let front = path-in_front hash alhs (size - 1) size (omega arith) w in
    let is : top ≡ root hash (take size alhs) = tree (omega arith) in
    let alh : List ℕ = get_or alhs (size - 1) [] in
    let path : List (List ℕ) = path_of hash (take size alhs) (size - 1) in
    ap (λ t. first_fail (last_checks hash size top (if t then none else alh) (if t then [] else path))) (not-none size (omega arith))
    ∙ when-true (nat_lt 0 size) _ _ (lt-ltb 0 size (omega arith))
    (two-hold _ _ _ _ (eq-eqb (length path) (path_length size (size - 1)) front.0) (bytes-same (up hash size (size - 1) alh (reverse path)) top (front.1 ∙ sym is)))

-- what is told as the last Alh passes its check
pub bl-passes : (s n : ℕ) (alhs : List (List ℕ)) → first_fail (bl_checks s n (get_or alhs (s - 1) []) (if nat_eq n 0 then no_digest else get_or alhs (n - 1) [])) ≡ Ok tt
bl-passes s zero alhs = one-holds (bytes_eq no_digest no_digest) (BlAlh no_digest no_digest) (bytes-same no_digest no_digest refl)
bl-passes s (suc n) alhs =
    let size : ℕ = suc n in
    let alh : List ℕ = get_or alhs (s - 1) [] in
    let told : List ℕ = get_or alhs (size - 1) [] in
    ap (λ t. first_fail (bl_checks s size alh (if t then no_digest else told))) (not-none size (omega arith))
    ∙ when-false (nat_eq size 0) ((bytes_eq told no_digest, BlAlh no_digest told) ∷ []) _ (not-none size (omega arith))
    (elim (cases_eq s size) [
      | inl e ↦ when-true (nat_eq s size) ((bytes_eq told alh, BlAlh alh told) ∷ []) [] (eq-eqb s size e) (one-holds (bytes_eq told alh) (BlAlh alh told) (bytes-same told alh (ap (λ j. get_or alhs (j - 1) []) (sym e))))
      | inr ne ↦ when-false (nat_eq s size) ((bytes_eq told alh, BlAlh alh told) ∷ []) [] (ne_eqb s size ne) refl
    ])
