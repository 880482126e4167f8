-- A path carried over a consistency list. Both are read from the root down.
use Rattle.std.proofs.Common.{◌≡◌, ◌<◌, ◌≤◌, length, ℕ, ◌-◌, List, [], ◌∷◌, refl, arith, ap, subst, ◌∙◌, sym, Contains, inl, inr}
use Rattle.std.proofs.lemmas.Bool.{cases_lt}
use Rattle.std.proofs.lemmas.List.Elements.{All-cons, All-head, All-tail}
use Rattle.im_digest.specs.Digests.{Hash, GivesDigests}
use Rattle.im_model.specs.Trees.{node_string, split_of}
use Rattle.im_model.specs.Paths.{IsPath, up_string, up, up_strings}
use Rattle.im_model.specs.Growth.{IsGrowth, older, newer, grow_strings}
use Rattle.im_model.proofs.TreeLemmas.{split-within, split-same}
use Rattle.im_model.proofs.Steps.{up-left, up-right, ups-left, ups-right, older-first, newer-first, older-left, older-right, newer-left, newer-right, grows-left, grows-right}
use Rattle.im_pairs.specs.Pairs.{AreDigests, AreAmong}
use Rattle.im_pairs.specs.Leads.{Leads, Ends}
use Rattle.im_pairs.proofs.PairLemmas.{same_node, AreAmong-head, AreAmong-tail, AreAmong-cons}
use Rattle.im_pairs.proofs.UpLemmas.{at-node, top-among}

-- a newer root is a digest
pub newer-digest : (hash : Hash) → GivesDigests hash → (m n : ℕ) (b : List ℕ) (terms : List (List ℕ)) → length b ≡ 32 → length (newer hash m n b terms) ≡ 32
newer-digest hash size m n b [] l = ap length (newer-first hash m n b) ∙ l
newer-digest hash size m n b (term ∷ rest) l = elim (cases_lt (split_of n) m) [
  | inl h ↦ ap length (newer-right hash m n b term rest h) ∙ size _
  | inr h ↦ ap length (newer-left hash m n b term rest h) ∙ size _
]

-- a path of the left part, and the right part beside it
pub extend-left : (hash : Hash) (n i : ℕ) (digest w term : List ℕ) (path : List (List ℕ)) (strings : List (List ℕ)) → 1 < n → i < split_of n → length term ≡ 32
    → Leads hash (split_of n) i digest path w strings → Contains strings (node_string w term) → Leads hash n i digest (term ∷ path) (hash (node_string w term)) strings
extend-left hash n i digest w term path strings many side long lead c =
    let top : up_string hash n i digest (term ∷ path) ≡ node_string w term = up-left hash n i digest term path side ∙ ap (λ q. node_string q term) lead.gives in
    record {
      within = (let inside : (0 < split_of n) × (split_of n < n) = split-within n many in omega arith);
      long = (many, inl (side, lead.long));
      digests = All-cons (λ t. length t ≡ 32) term path long lead.digests;
      gives = ap hash top;
      among = subst (λ xs. AreAmong xs strings) (sym (ups-left hash n i digest term path side))
          (AreAmong-cons (up_string hash n i digest (term ∷ path)) (up_strings hash (split_of n) i digest path) strings (subst (λ (s : List ℕ). Contains strings s) (sym top) c) lead.among);
    }

-- a path of the right part, and the left part beside it
pub extend-right : (hash : Hash) (n i : ℕ) (digest w term : List ℕ) (path : List (List ℕ)) (strings : List (List ℕ)) → 1 < n → split_of n ≤ i → length term ≡ 32
    → Leads hash (n - split_of n) (i - split_of n) digest path w strings → Contains strings (node_string term w) → Leads hash n i digest (term ∷ path) (hash (node_string term w)) strings
extend-right hash n i digest w term path strings many side long lead c =
    let top : up_string hash n i digest (term ∷ path) ≡ node_string term w = up-right hash n i digest term path side ∙ ap (λ q. node_string term q) lead.gives in
    record {
      within = (let inner : i - split_of n < n - split_of n = lead.within in omega arith);
      long = (many, inr (side, lead.long));
      digests = All-cons (λ t. length t ≡ 32) term path long lead.digests;
      gives = ap hash top;
      among = subst (λ xs. AreAmong xs strings) (sym (ups-right hash n i digest term path side))
          (AreAmong-cons (up_string hash n i digest (term ∷ path)) (up_strings hash (n - split_of n) (i - split_of n) digest path) strings (subst (λ (s : List ℕ). Contains strings s) (sym top) c) lead.among);
    }

-- the step where the older size reaches past the split, given what `more` says of the right parts
carry-right : (hash : Hash) → GivesDigests hash → (m n i : ℕ) (digest term o w : List ℕ) (path : List (List ℕ)) (strings : List (List ℕ))
    → m ≤ n → split_of n < m → i < m → 1 < n → IsPath m i path → AreDigests path → length term ≡ 32 → length w ≡ 32
    → up hash m i digest path ≡ hash (node_string term o) → AreAmong (up_strings hash m i digest path) strings
    → Contains strings (node_string term o) → Contains strings (node_string term w)
    → ((j : ℕ) (ps : List (List ℕ)) → j < m - split_of n → IsPath (m - split_of n) j ps → AreDigests ps → up hash (m - split_of n) j digest ps ≡ o → AreAmong (up_strings hash (m - split_of n) j digest ps) strings → Ends hash (n - split_of n) j digest w strings)
    → Ends hash n i digest (hash (node_string term w)) strings
carry-right hash size m n i digest term o w [] strings c h b many p ds lz lw e a x y more =
    absurd (let inside : (0 < split_of n) × (split_of n < n) = split-within n many in let one : m ≡ 1 = p in omega arith)
carry-right hash size m n i digest term o w (t ∷ path) strings c h b many p ds lz lw e a x y more =
    let top = top-among hash m i digest (t ∷ path) strings a in
    elim (at-node hash m i digest t path strings (split_of n) (split-same m n many c h) p a) [
      | inl l ↦ (
          let q : List ℕ = up hash (split_of n) i digest path in
          let on : Contains strings (node_string q t) = subst (λ (s : List ℕ). Contains strings s) l.is top in
          elim (same_node hash q t term o strings (size _) lz (ap hash (sym l.is) ∙ e) on x) [
            | inl same ↦ inl (
              w ∷ path,
              subst (λ (s : List ℕ). Leads hash n i digest (w ∷ path) (hash (node_string s w)) strings) same.0
                  (extend-left hash n i digest q w path strings many l.side lw
                  (record { within = l.side; long = l.long; digests = All-tail (λ u. length u ≡ 32) t path ds; gives = refl; among = l.among })
                  (subst (λ (s : List ℕ). Contains strings (node_string s w)) (sym same.0) y)),
            )
            | inr pair ↦ inr pair
          ])
      | inr r ↦ (
          let q : List ℕ = up hash (m - split_of n) (i - split_of n) digest path in
          let on : Contains strings (node_string t q) = subst (λ (s : List ℕ). Contains strings s) r.is top in
          elim (same_node hash t q term o strings (All-head (λ u. length u ≡ 32) t path ds) lz (ap hash (sym r.is) ∙ e) on x) [
            | inl same ↦ elim (more (i - split_of n) path (let side : split_of n ≤ i = r.side in omega arith) r.long (All-tail (λ u. length u ≡ 32) t path ds) same.1 r.among) [
              | inl found ↦ inl (term ∷ found.0, extend-right hash n i digest w term found.0 strings many r.side lz found.1 y)
              | inr pair ↦ inr pair
            ]
            | inr pair ↦ inr pair
          ])
    ]

-- a path is carried over a consistency list, or there is a pair
pub carry : (hash : Hash) → GivesDigests hash → (digest first : List ℕ) (strings : List (List ℕ)) → length first ≡ 32
    → (m n : ℕ) (terms : List (List ℕ)) → 0 < m → IsGrowth m n terms → AreDigests terms → AreAmong (grow_strings hash m n first terms) strings
    → (i : ℕ) (path : List (List ℕ)) → i < m → IsPath m i path → AreDigests path → up hash m i digest path ≡ older hash m n first terms → AreAmong (up_strings hash m i digest path) strings
    → Ends hash n i digest (newer hash m n first terms) strings
carry hash size digest first strings lf m n [] pos g ts gs i path b p ds e a =
    inl (
      path,
      subst (λ j. Leads hash j i digest path (newer hash m n first []) strings) g
          (record { within = b; long = p; digests = ds; gives = e ∙ older-first hash m n first ∙ sym (newer-first hash m n first); among = a }),
    )
carry hash size digest first strings lf m n (term ∷ rest) pos g ts gs i path b p ds e a =
    let lz : length term ≡ 32 = All-head (λ u. length u ≡ 32) term rest ts in
    let tail : AreDigests rest = All-tail (λ u. length u ≡ 32) term rest ts in
    elim g.1 [
      | inl l ↦ (
          let side : m ≤ split_of n = l.0 in
          let more : AreAmong (node_string (newer hash m (split_of n) first rest) term ∷ grow_strings hash m (split_of n) first rest) strings = subst (λ xs. AreAmong xs strings) (grows-left hash m n first term rest side) gs in
          elim (carry hash size digest first strings lf m (split_of n) rest pos l.1 tail (AreAmong-tail _ _ strings more) i path b p ds (e ∙ older-left hash m n first term rest side) a) [
            | inl found ↦ inl (
              term ∷ found.0,
              subst (λ (r : List ℕ). Leads hash n i digest (term ∷ found.0) r strings) (sym (newer-left hash m n first term rest side))
                  (extend-left hash n i digest (newer hash m (split_of n) first rest) term found.0 strings (omega (arith, g.0)) (omega arith) lz found.1 (AreAmong-head _ _ strings more)),
            )
            | inr pair ↦ inr pair
          ])
      | inr r ↦ (
          let side : split_of n < m = r.0 in
          let o : List ℕ = older hash (m - split_of n) (n - split_of n) first rest in
          let w : List ℕ = newer hash (m - split_of n) (n - split_of n) first rest in
          let deep : List (List ℕ) = grow_strings hash (m - split_of n) (n - split_of n) first rest in
          let more : AreAmong (node_string term o ∷ node_string term w ∷ deep) strings = subst (λ xs. AreAmong xs strings) (grows-right hash m n first term rest side) gs in
          let under : AreAmong (node_string term w ∷ deep) strings = AreAmong-tail (node_string term o) (node_string term w ∷ deep) strings more in
          let below : m < n = g.0 in
          subst (λ (r : List ℕ). Ends hash n i digest r strings) (sym (newer-right hash m n first term rest side))
          (carry-right hash size m n i digest term o w path strings (omega arith) side b (omega arith) p ds lz (newer-digest hash size (m - split_of n) (n - split_of n) first rest lf)
          (e ∙ older-right hash m n first term rest side) a (AreAmong-head (node_string term o) (node_string term w ∷ deep) strings more) (AreAmong-head (node_string term w) deep strings under)
          (λ j ps bj pj dj ej aj. carry hash size digest first strings lf (m - split_of n) (n - split_of n) rest (omega arith) r.1 tail (AreAmong-tail (node_string term w) deep strings under) j ps bj pj dj ej aj)))
    ]
