-- The turns of a walk from the root down along a path and a consistency list.
use Rattle.std.proofs.Common.{◌≡◌, ◌<◌, ◌≤◌, length, ℕ, ◌-◌, List, [], ◌∷◌, ◌++◌, reverse, refl, arith, ap, subst, ◌∙◌, sym, Contains, inl, inr}
use Rattle.std.proofs.lemmas.List.Elements.{All-head, All-tail, Contains-append_left, Contains-append_right}
use Rattle.im_digest.specs.Digests.{Hash, GivesDigests}
use Rattle.im_model.specs.Trees.{node, node_string, split_of}
use Rattle.im_model.specs.Paths.{IsPath, up_string, up, up_strings}
use Rattle.im_model.specs.Growth.{IsGrowth, older, newer, grow_strings}
use Rattle.im_model.proofs.TreeLemmas.{split-same}
use Rattle.im_model.proofs.Steps.{older-first, newer-first, older-left, older-right, newer-left, newer-right, grows-left, grows-right}
use Rattle.im_model.proofs.Reversed.{reverse-last}
use Rattle.im_pairs.specs.Pairs.{AreAmong, IsPair}
use Rattle.im_pairs.specs.Leads.{Leads}
use Rattle.im_pairs.proofs.PairLemmas.{node_parts, AreAmong-head, AreAmong-tail, AreAmong-both, IsPair-more}
use Rattle.im_pairs.proofs.UpLemmas.{AtLeft, AtRight, at-node, top-among, Leads-more}
use Rattle.im_pathmove.specs.Carried.{IsCarried, extended}
use Rattle.im_pathmove.specs.Walked.{HaveShape, IsWalked}
use Rattle.im_pathmove.specs.declared.carried.Carried.{Carried}
use Rattle.im_pathmove.specs.declared.carried.Carried.TheVariants.{Path, Pair}
use Rattle.im_pathmove.specs.declared.walks.Walked.{Walked}
use Rattle.im_pathmove.proofs.CarryLemmas.{newer-digest, extend-left, extend-right}

-- beside the older tree the shape is that of the left part
pub shape-left : (m n i k : ℕ) (path : List (List ℕ)) (first term : List ℕ) (rest : List (List ℕ)) → HaveShape m n i path first (term ∷ rest) → k ≡ split_of n → m ≤ k → HaveShape m k i path first rest
shape-left m n i k path first term rest s same side = record {
  some = s.some;
  within = s.within;
  path_long = s.path_long;
  path_digests = s.path_digests;
  first_digest = s.first_digest;
  terms_long = elim s.terms_long.1 [
    | inl l ↦ subst (λ j. IsGrowth m j rest) (sym same) l.1
    | inr r ↦ absurd (let past : split_of n < m = r.0 in omega arith)
  ];
  terms_digests = All-tail (λ u. length u ≡ 32) term rest s.terms_digests;
}

-- the split of the newer size is that of the older one too, where it reaches past it
split-past : (m n i k : ℕ) (path : List (List ℕ)) (first term : List ℕ) (rest : List (List ℕ)) → HaveShape m n i path first (term ∷ rest) → k ≡ split_of n → k < m → split_of m ≡ k
split-past m n i k path first term rest s same side =
    let over : split_of n < m = omega arith in
    let less : m < n = s.terms_long.0 in
    let some : 0 < m = s.some in
    split-same m n (omega arith) (omega arith) over ∙ sym same

-- past the split the shape is that of the right parts, where the leaf is in them
pub shape-right : (m n i k : ℕ) (top : List ℕ) (under : List (List ℕ)) (first term : List ℕ) (rest : List (List ℕ)) → HaveShape m n i (top ∷ under) first (term ∷ rest) → k ≡ split_of n → k < m → k ≤ i
    → HaveShape (m - k) (n - k) (i - k) under first rest
shape-right m n i k top under first term rest s same side right = record {
  some = omega arith;
  within = (let within : i < m = s.within in omega arith);
  path_long = elim s.path_long.1 [
    | inl l ↦ absurd (let here : split_of m ≡ k = split-past m n i k (top ∷ under) first term rest s same side in let other : i < split_of m = l.0 in omega arith)
    | inr r ↦ subst (λ j. IsPath (m - j) (i - j) under) (split-past m n i k (top ∷ under) first term rest s same side) r.1
  ];
  path_digests = All-tail (λ u. length u ≡ 32) top under s.path_digests;
  first_digest = s.first_digest;
  terms_long = elim s.terms_long.1 [
    | inl l ↦ absurd (let below : m ≤ split_of n = l.0 in omega arith)
    | inr r ↦ subst (λ j. IsGrowth (m - j) (n - j) rest) (sym same) r.1
  ];
  terms_digests = All-tail (λ u. length u ≡ 32) term rest s.terms_digests;
}

-- the strings of the list's left part
strings-left : (hash : Hash) (m n k : ℕ) (first term : List ℕ) (rest : List (List ℕ)) → k ≡ split_of n → m ≤ k
    → AreAmong (grow_strings hash m k first rest) (grow_strings hash m n first (term ∷ rest)) × Contains (grow_strings hash m n first (term ∷ rest)) (node_string (newer hash m k first rest) term)
strings-left hash m n k first term rest same side =
    subst (λ j. m ≤ j → AreAmong (grow_strings hash m j first rest) (grow_strings hash m n first (term ∷ rest)) × Contains (grow_strings hash m n first (term ∷ rest)) (node_string (newer hash m j first rest) term)) (sym same)
    (λ h. let whole : AreAmong (node_string (newer hash m (split_of n) first rest) term ∷ grow_strings hash m (split_of n) first rest) (grow_strings hash m n first (term ∷ rest)) =
    subst (λ xs. AreAmong xs (grow_strings hash m n first (term ∷ rest))) (grows-left hash m n first term rest h) (λ x c. c) in
    (AreAmong-tail _ _ (grow_strings hash m n first (term ∷ rest)) whole, AreAmong-head _ _ (grow_strings hash m n first (term ∷ rest)) whole)) side

-- the strings of the list's right parts
strings-right : (hash : Hash) (m n k : ℕ) (first term : List ℕ) (rest : List (List ℕ)) → k ≡ split_of n → k < m
    → AreAmong (node_string term (older hash (m - k) (n - k) first rest) ∷ node_string term (newer hash (m - k) (n - k) first rest) ∷ grow_strings hash (m - k) (n - k) first rest) (grow_strings hash m n first (term ∷ rest))
strings-right hash m n k first term rest same side =
    subst (λ j. j < m → AreAmong (node_string term (older hash (m - j) (n - j) first rest) ∷ node_string term (newer hash (m - j) (n - j) first rest) ∷ grow_strings hash (m - j) (n - j) first rest) (grow_strings hash m n first (term ∷ rest))) (sym same)
    (λ h. subst (λ xs. AreAmong xs (grow_strings hash m n first (term ∷ rest))) (grows-right hash m n first term rest h) (λ x c. c)) side

-- the roots of the turn to the left
newer-left-at : (hash : Hash) (m n k : ℕ) (first term : List ℕ) (rest : List (List ℕ)) → k ≡ split_of n → m ≤ k → newer hash m n first (term ∷ rest) ≡ node hash (newer hash m k first rest) term
newer-left-at hash m n k first term rest same side =
    newer-left hash m n first term rest (omega arith) ∙ ap (λ j. node hash (newer hash m j first rest) term) (sym same)

older-left-at : (hash : Hash) (m n k : ℕ) (first term : List ℕ) (rest : List (List ℕ)) → k ≡ split_of n → m ≤ k → older hash m n first (term ∷ rest) ≡ older hash m k first rest
older-left-at hash m n k first term rest same side =
    older-left hash m n first term rest (omega arith) ∙ ap (λ j. older hash m j first rest) (sym same)

-- the roots of the turn to the right
pub newer-right-at : (hash : Hash) (m n k : ℕ) (first term : List ℕ) (rest : List (List ℕ)) → k ≡ split_of n → k < m → newer hash m n first (term ∷ rest) ≡ node hash term (newer hash (m - k) (n - k) first rest)
newer-right-at hash m n k first term rest same side =
    newer-right hash m n first term rest (omega arith) ∙ ap (λ j. node hash term (newer hash (m - j) (n - j) first rest)) (sym same)

pub older-right-at : (hash : Hash) (m n k : ℕ) (first term : List ℕ) (rest : List (List ℕ)) → k ≡ split_of n → k < m → older hash m n first (term ∷ rest) ≡ node hash term (older hash (m - k) (n - k) first rest)
older-right-at hash m n k first term rest same side =
    older-right hash m n first term rest (omega arith) ∙ ap (λ j. node hash term (older hash (m - j) (n - j) first rest)) (sym same)

-- no term is left of the list
pub walked-whole : (hash : Hash) (m n i : ℕ) (leaf : List ℕ) (path : List (List ℕ)) (first : List ℕ) (terms : List (List ℕ)) → length terms ≡ 0 → HaveShape m n i (reverse path) first terms
    → IsWalked hash m n i leaf (reverse path) first terms (record { root = up hash m i leaf (reverse path); older = first; newer = first; carried = Path path })
walked-whole hash m n i leaf path first [] none s =
    let ups : List (List ℕ) = up_strings hash m i leaf (reverse path) in
    let same : m ≡ n = s.terms_long in
    record {
      root = refl;
      old_root = sym (older-first hash m n first);
      new_root = sym (newer-first hash m n first);
      carried = λ e. subst (λ j. Leads hash j i leaf (reverse path) (newer hash m n first []) (ups ++ grow_strings hash m n first [])) same
          (record {
            within = s.within;
            long = s.path_long;
            digests = s.path_digests;
            gives = e ∙ older-first hash m n first ∙ sym (newer-first hash m n first);
            among = λ x c. Contains-append_left ups (grow_strings hash m n first []) x c;
          });
    }
walked-whole hash m n i leaf path first (term ∷ rest) none s = absurd (omega arith)

extend-left-at : (hash : Hash) (n i : ℕ) (leaf root term : List ℕ) (path : List (List ℕ)) (strings : List (List ℕ)) (k : ℕ) → k ≡ split_of n → 1 < n → i < k → length term ≡ 32
    → Leads hash k i leaf path root strings → Contains strings (node_string root term) → Leads hash n i leaf (term ∷ path) (hash (node_string root term)) strings
extend-left-at hash n i leaf root term path strings k same many side long lead c =
    extend-left hash n i leaf root term path strings many (omega arith) long (subst (λ j. Leads hash j i leaf path root strings) same lead) c

extend-right-at : (hash : Hash) (n i : ℕ) (leaf root term : List ℕ) (path : List (List ℕ)) (strings : List (List ℕ)) (k : ℕ) → k ≡ split_of n → 1 < n → k ≤ i → length term ≡ 32
    → Leads hash (n - k) (i - k) leaf path root strings → Contains strings (node_string term root) → Leads hash n i leaf (term ∷ path) (hash (node_string term root)) strings
extend-right-at hash n i leaf root term path strings k same many side long lead c =
    extend-right hash n i leaf root term path strings many (omega arith) long (subst (λ j. Leads hash (n - j) (i - j) leaf path root strings) same lead) c

-- a path with one term more, read from the root down
pub carried-last : (hash : Hash) (n i : ℕ) (leaf root term : List ℕ) (path strings : List (List ℕ)) → Leads hash n i leaf (term ∷ reverse path) root strings → IsCarried hash n i leaf root strings (Path (path ++ term ∷ []))
carried-last hash n i leaf root term path strings l =
    subst (λ ps. Leads hash n i leaf ps root strings) (sym (reverse-last (path ++ term ∷ []) path term refl)) l

-- what is carried in the left part is carried in the whole
carried-left : (hash : Hash) (m n i k : ℕ) (leaf : List ℕ) (path : List (List ℕ)) (first term : List ℕ) (rest : List (List ℕ)) (x : Carried)
    → HaveShape m n i path first (term ∷ rest) → k ≡ split_of n → m ≤ k
    → IsCarried hash k i leaf (newer hash m k first rest) (up_strings hash m i leaf path ++ grow_strings hash m k first rest) x
    → IsCarried hash n i leaf (newer hash m n first (term ∷ rest)) (up_strings hash m i leaf path ++ grow_strings hash m n first (term ∷ rest)) (extended x term)
carried-left hash m n i k leaf path first term rest (Path p) s same side l =
    let ups : List (List ℕ) = up_strings hash m i leaf path in
    let grow : List (List ℕ) = grow_strings hash m n first (term ∷ rest) in
    let root : List ℕ = newer hash m k first rest in
    let st = strings-left hash m n k first term rest same side in
    let more : AreAmong (ups ++ grow_strings hash m k first rest) (ups ++ grow) = AreAmong-both ups (grow_strings hash m k first rest) ups grow (λ x c. c) st.0 in
    let within : i < m = s.within in
    let less : m < n = s.terms_long.0 in
    carried-last hash n i leaf (newer hash m n first (term ∷ rest)) term p (ups ++ grow)
    (subst (λ (r : List ℕ). Leads hash n i leaf (term ∷ reverse p) r (ups ++ grow)) (sym (newer-left-at hash m n k first term rest same side))
    (extend-left-at hash n i leaf root term (reverse p) (ups ++ grow) k same (omega arith) (omega arith) (All-head (λ u. length u ≡ 32) term rest s.terms_digests)
    (Leads-more hash k i leaf (reverse p) root (ups ++ grow_strings hash m k first rest) (ups ++ grow) more l)
    (Contains-append_right ups grow (node_string root term) st.1)))
carried-left hash m n i k leaf path first term rest (Pair a b) s same side l =
    let ups : List (List ℕ) = up_strings hash m i leaf path in
    IsPair-more hash a b (ups ++ grow_strings hash m k first rest) (ups ++ grow_strings hash m n first (term ∷ rest))
    (AreAmong-both ups (grow_strings hash m k first rest) ups (grow_strings hash m n first (term ∷ rest)) (λ x c. c) (strings-left hash m n k first term rest same side).0) l

-- the turn to the left
walked-left : (hash : Hash) (m n i k : ℕ) (leaf : List ℕ) (path : List (List ℕ)) (first term : List ℕ) (rest : List (List ℕ)) (v : Walked)
    → HaveShape m n i path first (term ∷ rest) → k ≡ split_of n → m ≤ k → IsWalked hash m k i leaf path first rest v
    → IsWalked hash m n i leaf path first (term ∷ rest) (record { root = v.root; older = v.older; newer = node hash v.newer term; carried = extended v.carried term })
walked-left hash m n i k leaf path first term rest v s same side w = record {
  root = w.root;
  old_root = w.old_root ∙ sym (older-left-at hash m n k first term rest same side);
  new_root = ap (λ r. node hash r term) w.new_root ∙ sym (newer-left-at hash m n k first term rest same side);
  carried = λ e. carried-left hash m n i k leaf path first term rest v.carried s same side (w.carried (e ∙ older-left-at hash m n k first term rest same side));
}

-- the same of a list as it is cut at its last term
pub walked-beside : (hash : Hash) (m n i k : ℕ) (leaf : List ℕ) (path : List (List ℕ)) (first : List ℕ) (others front : List (List ℕ)) (term : List ℕ) (v : Walked)
    → others ≡ front ++ term ∷ [] → HaveShape m n i path first (reverse others) → k ≡ split_of n → m ≤ k → IsWalked hash m k i leaf path first (reverse front) v
    → IsWalked hash m n i leaf path first (reverse others) (record { root = v.root; older = v.older; newer = node hash v.newer term; carried = extended v.carried term })
walked-beside hash m n i k leaf path first others front term v cut s same side w =
    let is : reverse others ≡ term ∷ reverse front = reverse-last others front term cut in
    subst (λ ts. IsWalked hash m n i leaf path first ts (record { root = v.root; older = v.older; newer = node hash v.newer term; carried = extended v.carried term })) (sym is)
    (walked-left hash m n i k leaf path first term (reverse front) v (subst (λ ts. HaveShape m n i path first ts) is s) same side w)

-- the string at the path's root, where the leaf is left of the split
pub top-left : (hash : Hash) (m n i k : ℕ) (leaf top : List ℕ) (under : List (List ℕ)) (first term : List ℕ) (rest : List (List ℕ)) → HaveShape m n i (top ∷ under) first (term ∷ rest) → k ≡ split_of n → k < m → i < k
    → AtLeft hash k i leaf top under (up_string hash m i leaf (top ∷ under)) (up_strings hash m i leaf (top ∷ under))
top-left hash m n i k leaf top under first term rest s same side left =
    elim (at-node hash m i leaf top under (up_strings hash m i leaf (top ∷ under)) k (split-past m n i k (top ∷ under) first term rest s same side) s.path_long (λ x c. c)) [
      | inl l ↦ l
      | inr r ↦ absurd (let other : k ≤ i = r.side in omega arith)
    ]

-- and where it is right of it
pub top-right : (hash : Hash) (m n i k : ℕ) (leaf top : List ℕ) (under : List (List ℕ)) (first term : List ℕ) (rest : List (List ℕ)) → HaveShape m n i (top ∷ under) first (term ∷ rest) → k ≡ split_of n → k < m → k ≤ i
    → AtRight hash m k i leaf top under (up_string hash m i leaf (top ∷ under)) (up_strings hash m i leaf (top ∷ under))
top-right hash m n i k leaf top under first term rest s same side right =
    elim (at-node hash m i leaf top under (up_strings hash m i leaf (top ∷ under)) k (split-past m n i k (top ∷ under) first term rest s same side) s.path_long (λ x c. c)) [
      | inl l ↦ absurd (let other : i < k = l.side in omega arith)
      | inr r ↦ r
    ]

-- the two nodes differ
pub pair-past : (hash : Hash) (m n i k : ℕ) (leaf top : List ℕ) (under : List (List ℕ)) (first term : List ℕ) (rest : List (List ℕ)) (a b : List ℕ)
    → HaveShape m n i (top ∷ under) first (term ∷ rest) → k ≡ split_of n → k < m → up hash m i leaf (top ∷ under) ≡ older hash m n first (term ∷ rest)
    → length a ≡ 32 → up_string hash m i leaf (top ∷ under) ≡ node_string a b → ((a ≡ term) × (b ≡ older hash (m - k) (n - k) first rest) → ⊥)
    → IsPair hash (node_string a b) (node_string term (older hash (m - k) (n - k) first rest)) (up_strings hash m i leaf (top ∷ under) ++ grow_strings hash m n first (term ∷ rest))
pair-past hash m n i k leaf top under first term rest a b s same side e long is differ =
    let ups : List (List ℕ) = up_strings hash m i leaf (top ∷ under) in
    let grow : List (List ℕ) = grow_strings hash m n first (term ∷ rest) in
    let o : List ℕ = older hash (m - k) (n - k) first rest in
    let r : List ℕ = newer hash (m - k) (n - k) first rest in
    record {
      unequal = λ whole. differ (node_parts a b term o long (All-head (λ u. length u ≡ 32) term rest s.terms_digests) whole);
      same = ap hash (sym is) ∙ e ∙ older-right-at hash m n k first term rest same side;
      left = Contains-append_left ups grow (node_string a b) (subst (λ (x : List ℕ). Contains ups x) is (top-among hash m i leaf (top ∷ under) ups (λ x c. c)));
      right = Contains-append_right ups grow (node_string term o)
          (AreAmong-head (node_string term o) (node_string term r ∷ grow_strings hash (m - k) (n - k) first rest) grow (strings-right hash m n k first term rest same side));
    }

-- both nodes have the same children, and the leaf is left: the newer right part takes the place of the older
pub path-past : (hash : Hash) → GivesDigests hash → (m n i k : ℕ) (leaf top : List ℕ) (under : List (List ℕ)) (first term : List ℕ) (rest : List (List ℕ))
    → HaveShape m n i (top ∷ under) first (term ∷ rest) → k ≡ split_of n → k < m → i < k → up hash k i leaf under ≡ term
    → Leads hash n i leaf (newer hash (m - k) (n - k) first rest ∷ under) (newer hash m n first (term ∷ rest)) (up_strings hash m i leaf (top ∷ under) ++ grow_strings hash m n first (term ∷ rest))
path-past hash size m n i k leaf top under first term rest s same side left is =
    let ups : List (List ℕ) = up_strings hash m i leaf (top ∷ under) in
    let grow : List (List ℕ) = grow_strings hash m n first (term ∷ rest) in
    let o : List ℕ = older hash (m - k) (n - k) first rest in
    let r : List ℕ = newer hash (m - k) (n - k) first rest in
    let deep : List (List ℕ) = grow_strings hash (m - k) (n - k) first rest in
    let at = top-left hash m n i k leaf top under first term rest s same side left in
    let less : m < n = s.terms_long.0 in
    let on : Contains (ups ++ grow) (node_string term r) =
    Contains-append_right ups grow (node_string term r)
    (AreAmong-head (node_string term r) deep grow (AreAmong-tail (node_string term o) (node_string term r ∷ deep) grow (strings-right hash m n k first term rest same side))) in
    subst (λ (x : List ℕ). Leads hash n i leaf (r ∷ under) x (ups ++ grow)) (sym (newer-right-at hash m n k first term rest same side))
    (extend-left-at hash n i leaf term r under (ups ++ grow) k same (omega arith) left (newer-digest hash size (m - k) (n - k) first rest s.first_digest)
    (record {
      within = left;
      long = at.long;
      digests = All-tail (λ u. length u ≡ 32) top under s.path_digests;
      gives = is;
      among = λ x c. Contains-append_left ups grow x (at.among x c);
    }) on)

-- what is carried in the right part is carried in the whole
pub carried-right : (hash : Hash) (m n i k : ℕ) (leaf top : List ℕ) (under : List (List ℕ)) (first term : List ℕ) (rest : List (List ℕ)) (x : Carried)
    → HaveShape m n i (top ∷ under) first (term ∷ rest) → k ≡ split_of n → k < m → k ≤ i
    → IsCarried hash (n - k) (i - k) leaf (newer hash (m - k) (n - k) first rest) (up_strings hash (m - k) (i - k) leaf under ++ grow_strings hash (m - k) (n - k) first rest) x
    → IsCarried hash n i leaf (newer hash m n first (term ∷ rest)) (up_strings hash m i leaf (top ∷ under) ++ grow_strings hash m n first (term ∷ rest)) (extended x term)
carried-right hash m n i k leaf top under first term rest x s same side right l =
    let ups : List (List ℕ) = up_strings hash m i leaf (top ∷ under) in
    let grow : List (List ℕ) = grow_strings hash m n first (term ∷ rest) in
    let deep : List (List ℕ) = grow_strings hash (m - k) (n - k) first rest in
    let o : List ℕ = older hash (m - k) (n - k) first rest in
    let r : List ℕ = newer hash (m - k) (n - k) first rest in
    let tail : AreAmong (node_string term r ∷ deep) grow = AreAmong-tail (node_string term o) (node_string term r ∷ deep) grow (strings-right hash m n k first term rest same side) in
    let at = top-right hash m n i k leaf top under first term rest s same side right in
    let more : AreAmong (up_strings hash (m - k) (i - k) leaf under ++ deep) (ups ++ grow) =
    AreAmong-both (up_strings hash (m - k) (i - k) leaf under) deep ups grow at.among (AreAmong-tail (node_string term r) deep grow tail) in
    both x more (Contains-append_right ups grow (node_string term r) (AreAmong-head (node_string term r) deep grow tail)) l
  where
    both : (x : Carried) → AreAmong (up_strings hash (m - k) (i - k) leaf under ++ grow_strings hash (m - k) (n - k) first rest) (up_strings hash m i leaf (top ∷ under) ++ grow_strings hash m n first (term ∷ rest))
        → Contains (up_strings hash m i leaf (top ∷ under) ++ grow_strings hash m n first (term ∷ rest)) (node_string term (newer hash (m - k) (n - k) first rest))
        → IsCarried hash (n - k) (i - k) leaf (newer hash (m - k) (n - k) first rest) (up_strings hash (m - k) (i - k) leaf under ++ grow_strings hash (m - k) (n - k) first rest) x
        → IsCarried hash n i leaf (newer hash m n first (term ∷ rest)) (up_strings hash m i leaf (top ∷ under) ++ grow_strings hash m n first (term ∷ rest)) (extended x term)
    both (Path q) more on l =
        let all : List (List ℕ) = up_strings hash m i leaf (top ∷ under) ++ grow_strings hash m n first (term ∷ rest) in
        let less : m < n = s.terms_long.0 in
        carried-last hash n i leaf (newer hash m n first (term ∷ rest)) term q all
        (subst (λ (r : List ℕ). Leads hash n i leaf (term ∷ reverse q) r all) (sym (newer-right-at hash m n k first term rest same side))
        (extend-right-at hash n i leaf (newer hash (m - k) (n - k) first rest) term (reverse q) all k same (omega arith) right (All-head (λ u. length u ≡ 32) term rest s.terms_digests)
        (Leads-more hash (n - k) (i - k) leaf (reverse q) (newer hash (m - k) (n - k) first rest) (up_strings hash (m - k) (i - k) leaf under ++ grow_strings hash (m - k) (n - k) first rest) all more l) on))
    both (Pair a b) more on l = IsPair-more hash a b _ _ more l
