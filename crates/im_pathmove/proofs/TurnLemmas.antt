-- The turns of a walk past the split, as its code makes them, and what the walk begins with.
use Rattle.std.proofs.Common.{◌≡◌, ◌<◌, ◌≤◌, length, ℕ, suc, ◌-◌, List, [], ◌∷◌, ◌++◌, reverse, refl, arith, ap, subst, ◌∙◌, sym, inl, inr, IfOk, Result, get_or}
use Rattle.std.proofs.lemmas.Result.{IfOk-weaker}
use Rattle.std.proofs.lemmas.List.{length-reverse}
use Rattle.std.proofs.lemmas.List.Elements.{All-head, Contains-append_left}
use Rattle.im_digest.specs.Digests.{Hash, GivesDigests}
use Rattle.im_model.specs.Trees.{node, node_string, split_of}
use Rattle.im_model.specs.Paths.{path_length, up, up_strings}
use Rattle.im_model.specs.Growth.{IsConsistency, consistency_length, older, newer, grow_strings, older_root, newer_root, consistency_strings}
use Rattle.im_model.proofs.Lengths.{path-fits, consistency-fits}
use Rattle.im_model.proofs.Reversed.{reverse-last}
use Rattle.im_pairs.specs.Leads.{Leads}
use Rattle.im_pathmove.specs.Carried.{IsCarried, extended}
use Rattle.im_pathmove.specs.Walked.{HaveShape, IsWalked, IsJoined, Picks}
use Rattle.im_pathmove.specs.declared.carried.Carried.{Carried}
use Rattle.im_pathmove.specs.declared.carried.Carried.TheVariants.{Path, Pair}
use Rattle.im_pathmove.specs.declared.walks.Walked.{Walked}
use Rattle.im_pathmove.proofs.WalkLemmas.{shape-left, shape-right, older-right-at, newer-right-at, carried-last, top-left, top-right, pair-past, path-past, carried-right}
use Rattle.im_pairs.proofs.PairLemmas.{digests-reversed}

-- what was picked, where either choice has a property
picked : (Holds : Type 0) (kept other x : Carried) (P : Carried → Type 0) → Picks Holds kept other x → (Holds → P kept) → ((Holds → ⊥) → P other) → P x
picked Holds kept other x P picks held differ = elim picks [
  | inl h ↦ subst P (sym h.1) (held h.0)
  | inr d ↦ subst P (sym d.1) (differ d.0)
]

-- the leaf is left of the split
walked-left_of : (hash : Hash) → GivesDigests hash → (m n i k : ℕ) (leaf top : List ℕ) (under : List (List ℕ)) (first term : List ℕ) (rest : List (List ℕ)) (left o r : List ℕ) (w : Walked)
    → HaveShape m n i (top ∷ reverse under) first (term ∷ rest) → k ≡ split_of n → k < m → i < k
    → left ≡ up hash k i leaf (reverse under) → o ≡ older hash (m - k) (n - k) first rest → r ≡ newer hash (m - k) (n - k) first rest
    → IsJoined hash left top term o r (Path (under ++ r ∷ [])) w
    → IsWalked hash m n i leaf (top ∷ reverse under) first (term ∷ rest) w
walked-left_of hash size m n i k leaf top under first term rest left o r w s same side side2 is old new j =
    let at = top-left hash m n i k leaf top (reverse under) first term rest s same side side2 in
    let whole = at.is in
    record {
      root = j.root ∙ ap (λ x. node hash x top) is ∙ ap hash (sym whole);
      old_root = j.old_root ∙ ap (λ x. node hash term x) old ∙ sym (older-right-at hash m n k first term rest same side);
      new_root = j.new_root ∙ ap (λ x. node hash term x) new ∙ sym (newer-right-at hash m n k first term rest same side);
      carried = λ e. picked ((left ≡ term) × (top ≡ o)) (Path (under ++ r ∷ [])) (Pair (node_string left top) (node_string term o)) w.carried
          (IsCarried hash n i leaf (newer hash m n first (term ∷ rest)) (up_strings hash m i leaf (top ∷ reverse under) ++ grow_strings hash m n first (term ∷ rest))) j.carried
          (λ held. carried-last hash n i leaf _ r under _
          (subst (λ (x : List ℕ). Leads hash n i leaf (x ∷ reverse under) (newer hash m n first (term ∷ rest)) (up_strings hash m i leaf (top ∷ reverse under) ++ grow_strings hash m n first (term ∷ rest))) (sym new)
          (path-past hash size m n i k leaf top (reverse under) first term rest s same side side2 (sym is ∙ held.0))))
          (λ differ. subst (λ (x : List ℕ). IsCarried hash n i leaf (newer hash m n first (term ∷ rest)) (up_strings hash m i leaf (top ∷ reverse under) ++ grow_strings hash m n first (term ∷ rest)) (Pair (node_string left top) (node_string term x))) (sym old)
          (pair-past hash m n i k leaf top (reverse under) first term rest left top s same side e (ap length is ∙ size _) (whole ∙ ap (λ x. node_string x top) (sym is)) (λ p. differ (p.0, p.1 ∙ sym old))));
    }

-- the leaf is right of it
walked-right_of : (hash : Hash) (m n i k : ℕ) (leaf top : List ℕ) (under : List (List ℕ)) (first term : List ℕ) (rest : List (List ℕ)) (v w : Walked)
    → HaveShape m n i (top ∷ under) first (term ∷ rest) → k ≡ split_of n → k < m → k ≤ i
    → IsWalked hash (m - k) (n - k) (i - k) leaf under first rest v → IsJoined hash top v.root term v.older v.newer (extended v.carried term) w
    → IsWalked hash m n i leaf (top ∷ under) first (term ∷ rest) w
walked-right_of hash m n i k leaf top under first term rest v w s same side side2 below j =
    let at = top-right hash m n i k leaf top under first term rest s same side side2 in
    let whole = at.is in
    record {
      root = j.root ∙ ap (λ x. node hash top x) below.root ∙ ap hash (sym whole);
      old_root = j.old_root ∙ ap (λ x. node hash term x) below.old_root ∙ sym (older-right-at hash m n k first term rest same side);
      new_root = j.new_root ∙ ap (λ x. node hash term x) below.new_root ∙ sym (newer-right-at hash m n k first term rest same side);
      carried = λ e. picked ((top ≡ term) × (v.root ≡ v.older)) (extended v.carried term) (Pair (node_string top v.root) (node_string term v.older)) w.carried
          (IsCarried hash n i leaf (newer hash m n first (term ∷ rest)) (up_strings hash m i leaf (top ∷ under) ++ grow_strings hash m n first (term ∷ rest))) j.carried
          (λ held. carried-right hash m n i k leaf top under first term rest v.carried s same side side2 (below.carried (sym below.root ∙ held.1 ∙ below.old_root)))
          (λ differ. subst (λ (x : List ℕ). IsCarried hash n i leaf (newer hash m n first (term ∷ rest)) (up_strings hash m i leaf (top ∷ under) ++ grow_strings hash m n first (term ∷ rest)) (Pair (node_string top v.root) (node_string term x))) (sym below.old_root)
          (pair-past hash m n i k leaf top under first term rest top v.root s same side e (All-head (λ u. length u ≡ 32) top under s.path_digests) (whole ∙ ap (λ x. node_string top x) (sym below.root)) (λ p. differ (p.0, p.1 ∙ sym below.old_root))));
    }

-- the same of a path and a list as they are cut at their last terms
pub walked-across : (hash : Hash) → GivesDigests hash → (m n i k : ℕ) (leaf : List ℕ) (path under : List (List ℕ)) (top first : List ℕ) (others front : List (List ℕ)) (term left o r : List ℕ) (w : Walked)
    → path ≡ under ++ top ∷ [] → others ≡ front ++ term ∷ [] → HaveShape m n i (reverse path) first (reverse others) → k ≡ split_of n → k < m → i < k
    → left ≡ up hash k i leaf (reverse under) → o ≡ older hash (m - k) (n - k) first (reverse front) → r ≡ newer hash (m - k) (n - k) first (reverse front)
    → IsJoined hash left top term o r (Path (under ++ r ∷ [])) w
    → IsWalked hash m n i leaf (reverse path) first (reverse others) w
walked-across hash size m n i k leaf path under top first others front term left o r w cut cut2 s same side side2 is old new j =
    let p : reverse path ≡ top ∷ reverse under = reverse-last path under top cut in
    let q : reverse others ≡ term ∷ reverse front = reverse-last others front term cut2 in
    subst (λ ps. IsWalked hash m n i leaf ps first (reverse others) w) (sym p)
    (subst (λ ts. IsWalked hash m n i leaf (top ∷ reverse under) first ts w) (sym q)
    (walked-left_of hash size m n i k leaf top under first term (reverse front) left o r w
    (subst (λ ts. HaveShape m n i (top ∷ reverse under) first ts) q (subst (λ ps. HaveShape m n i ps first (reverse others)) p s)) same side side2 is old new j))

-- and where the leaf is right
pub walked-below : (hash : Hash) (m n i k : ℕ) (leaf : List ℕ) (path under : List (List ℕ)) (top first : List ℕ) (others front : List (List ℕ)) (term : List ℕ) (v w : Walked)
    → path ≡ under ++ top ∷ [] → others ≡ front ++ term ∷ [] → HaveShape m n i (reverse path) first (reverse others) → k ≡ split_of n → k < m → k ≤ i
    → IsWalked hash (m - k) (n - k) (i - k) leaf (reverse under) first (reverse front) v → IsJoined hash top v.root term v.older v.newer (extended v.carried term) w
    → IsWalked hash m n i leaf (reverse path) first (reverse others) w
walked-below hash m n i k leaf path under top first others front term v w cut cut2 s same side side2 below j =
    let p : reverse path ≡ top ∷ reverse under = reverse-last path under top cut in
    let q : reverse others ≡ term ∷ reverse front = reverse-last others front term cut2 in
    subst (λ ps. IsWalked hash m n i leaf ps first (reverse others) w) (sym p)
    (subst (λ ts. IsWalked hash m n i leaf (top ∷ reverse under) first ts w) (sym q)
    (walked-right_of hash m n i k leaf top (reverse under) first term (reverse front) v w
    (subst (λ ts. HaveShape m n i (top ∷ reverse under) first ts) q (subst (λ ps. HaveShape m n i ps first (reverse others)) p s)) same side side2 below j))

-- the shape of the right parts, of a path and a list as they are cut
pub shape-below : (m n i k : ℕ) (path under : List (List ℕ)) (top first : List ℕ) (others front : List (List ℕ)) (term : List ℕ)
    → path ≡ under ++ top ∷ [] → others ≡ front ++ term ∷ [] → HaveShape m n i (reverse path) first (reverse others) → k ≡ split_of n → k < m → k ≤ i
    → HaveShape (m - k) (n - k) (i - k) (reverse under) first (reverse front)
shape-below m n i k path under top first others front term cut cut2 s same side side2 =
    let p : reverse path ≡ top ∷ reverse under = reverse-last path under top cut in
    let q : reverse others ≡ term ∷ reverse front = reverse-last others front term cut2 in
    shape-right m n i k top (reverse under) first term (reverse front)
    (subst (λ ts. HaveShape m n i (top ∷ reverse under) first ts) q (subst (λ ps. HaveShape m n i ps first (reverse others)) p s)) same side side2

-- of the left part
pub shape-beside : (m n i k : ℕ) (path : List (List ℕ)) (first : List ℕ) (others front : List (List ℕ)) (term : List ℕ)
    → others ≡ front ++ term ∷ [] → HaveShape m n i path first (reverse others) → k ≡ split_of n → m ≤ k → HaveShape m k i path first (reverse front)
shape-beside m n i k path first others front term cut s same side =
    shape-left m n i k path first term (reverse front) (subst (λ ts. HaveShape m n i path first ts) (reverse-last others front term cut) s) same side

-- a result that is this one
pub IfOk-is : {T E : Type 0} (r : Result T E) (y : T) (P : T → Type 0) → P y → IfOk r (λ x. x ≡ y) → IfOk r P
IfOk-is {T} r y P h e = IfOk-weaker r (λ x. x ≡ y) P (λ x s. subst P (sym s) h) e

-- what the walk begins with
pub shape-ready : (m n i : ℕ) (path consistency others : List (List ℕ)) (first : List ℕ)
    → ((j : ℕ) → j < length path → length (get_or path j []) ≡ 32) → ((j : ℕ) → j < length consistency → length (get_or consistency j []) ≡ 32)
    → consistency ≡ first ∷ others → i < m → m ≤ n → length path ≡ path_length m i → length consistency ≡ consistency_length m n
    → HaveShape m n i (reverse path) first (reverse others)
shape-ready m n i path consistency others first told-path told-list e within grows long long2 =
    let told : (j : ℕ) → j < length (first ∷ others) → length (get_or (first ∷ others) j []) ≡ 32 = subst (λ xs. (j : ℕ) → j < length xs → length (get_or xs j []) ≡ 32) e told-list in
    let list : IsConsistency m n consistency = (consistency-fits m n consistency (omega arith) grows).1 long2 in
    let size : length (reverse path) ≡ path_length m i = length-reverse path ∙ long in
    record {
      some = omega arith;
      within = within;
      path_long = (path-fits m i (reverse path) within).1 size;
      path_digests = digests-reversed path told-path;
      first_digest = told 0 (omega arith);
      terms_long = (subst (λ xs. IsConsistency m n xs) e list).1;
      terms_digests = digests-reversed others (λ j h. told (suc j) (omega arith));
    }

-- what was walked is what is carried
pub carried-walked : (hash : Hash) (m n i : ℕ) (leaf : List ℕ) (path consistency others : List (List ℕ)) (first : List ℕ) (w : Walked)
    → consistency ≡ first ∷ others → IsWalked hash m n i leaf (reverse path) first (reverse others) w
    → older_root hash m n (up hash m i leaf (reverse path)) consistency ≡ up hash m i leaf (reverse path)
    → IsCarried hash n i leaf (newer_root hash m n (up hash m i leaf (reverse path)) consistency) (up_strings hash m i leaf (reverse path) ++ consistency_strings hash m n consistency) w.carried
carried-walked hash m n i leaf path consistency others first w e walked one =
    let root : List ℕ = up hash m i leaf (reverse path) in
    subst (λ xs. older_root hash m n root xs ≡ root → IsCarried hash n i leaf (newer_root hash m n root xs) (up_strings hash m i leaf (reverse path) ++ consistency_strings hash m n xs) w.carried) (sym e)
    (λ same. walked.carried (sym same)) one

-- from a size to itself the path stays
pub carried-whole : (hash : Hash) (m n i : ℕ) (leaf : List ℕ) (path consistency : List (List ℕ))
    → ((j : ℕ) → j < length path → length (get_or path j []) ≡ 32) → length consistency ≡ 0 → i < m → m ≤ n → length path ≡ path_length m i → length consistency ≡ consistency_length m n
    → IsCarried hash n i leaf (newer_root hash m n (up hash m i leaf (reverse path)) consistency) (up_strings hash m i leaf (reverse path) ++ consistency_strings hash m n consistency) (Path path)
carried-whole hash m n i leaf path [] told none within grows long long2 =
    let same : m ≡ n = (consistency-fits m n [] (omega arith) grows).1 long2 in
    let ups : List (List ℕ) = up_strings hash m i leaf (reverse path) in
    subst (λ j. Leads hash j i leaf (reverse path) (up hash m i leaf (reverse path)) (ups ++ [])) same
    (record {
      within = within;
      long = (path-fits m i (reverse path) within).1 (length-reverse path ∙ long);
      digests = digests-reversed path told;
      gives = refl;
      among = λ x c. Contains-append_left ups [] x c;
    })
carried-whole hash m n i leaf path (first ∷ others) told none within grows long long2 = absurd (omega arith)
