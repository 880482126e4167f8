-- The last version of a key.
use Rattle.std.proofs.Common.{◌≡◌, ◌<◌, ◌≤◌, length, ℕ, ◌+◌, List, [], ◌∷◌, ◌++◌, take, refl, arith, ap, ◌∙◌, sym, inl, inr, get_or, reverse, Option, Some, None, Bool, false, cond, map, option_map, find, ◌&&◌, ◌-◌}
use Rattle.std.proofs.lemmas.Bool.{cases_Bool}
use Rattle.std.proofs.lemmas.List.{length-take-le, reverse-append, take_more}
use Rattle.im_model.specs.declared.entries.Entry.{Entry}
use Rattle.im_book.specs.Lasts.{is_version_of}
use Rattle.std.specs.List.{filter, last_or}
use Rattle.std.specs.Str.{bytes_eq}
use Rattle.std.proofs.lemmas.List.Elements.{filter-append}
use Rattle.im_model.specs.declared.transactions.Transaction.{Transaction}
use Rattle.im_versions.specs.Versions.{all_versions, is_of, is_shown, last_version, version_of, versions_in, versions_of}
use Rattle.im_versions.specs.declared.versions.Version.{Version}
use Rattle.im_versions.proofs.VersionLemmas.{versions-push}

-- the last of two lists is that of the second, behind that of the first
pub last_or-append : {A : Type 0} (o : Option A) (xs ys : List A) → last_or o (xs ++ ys) ≡ last_or (last_or o xs) ys
last_or-append o [] ys = refl
last_or-append o (x ∷ xs) ys = last_or-append (Some x) xs ys

-- the last version of a key behind one transaction more is the last of its entries, behind the one before
pub last-push : (history : List Transaction) (tx : Transaction) (key : List ℕ)
    → last_version (history ++ tx ∷ []) key ≡ last_or (last_version history key) (filter (is_of key) (versions_in (length history + 1) tx.entries))
last-push history tx key =
    ap (λ vs. last_or None (filter (is_of key) vs)) (versions-push history tx)
    ∙ ap (λ vs. last_or None vs) (filter-append (is_of key) (all_versions history) (versions_in (length history + 1) tx.entries))
    ∙ last_or-append None (versions_of history key) (filter (is_of key) (versions_in (length history + 1) tx.entries))

-- the first that there is of two
abbrev pub before : {A : Type 0} → Option A → Option A → Option A
before None o = o
before (Some x) o = Some x

find-behind : {A : Type 0} (p : A → Bool) (xs ys : List A) → find p (xs ++ ys) ≡ before (find p xs) (find p ys)
find-behind p [] ys = refl
find-behind p (x ∷ xs) ys = elim (cases_Bool (p x)) [
  | inl passes ↦ ap (λ b. cond b (Some x) (find p (xs ++ ys))) passes ∙ sym (ap (λ b. before (cond b (Some x) (find p xs)) (find p ys)) passes)
  | inr fails ↦ ap (λ b. cond b (Some x) (find p (xs ++ ys))) fails ∙ find-behind p xs ys ∙ sym (ap (λ b. before (cond b (Some x) (find p xs)) (find p ys)) fails)
]

map-before : {A B : Type 0} (f : A → B) (a b : Option A) → option_map f (before a b) ≡ before (option_map f a) (option_map f b)
map-before f None b = refl
map-before f (Some x) b = refl

before-assoc : {A : Type 0} (a b c : Option A) → before (before a b) c ≡ before a (before b c)
before-assoc None b c = refl
before-assoc (Some x) b c = refl

-- the search from the end, with an entry before the others
back-cons : (k : ℕ) (key : List ℕ) (o : Option Version) (e : Entry) (es : List Entry)
    → before (option_map (version_of k) (find (λ e. is_version_of e key) (reverse (e ∷ es)))) o
    ≡ before (option_map (version_of k) (find (λ e. is_version_of e key) (reverse es))) (before (option_map (version_of k) (cond (is_version_of e key) (Some e) None)) o)
back-cons k key o e es =
    let p : Entry → Bool = λ x. is_version_of x key in
    let own : Option Entry = cond (is_version_of e key) (Some e) None in
    let seam : find p (reverse (e ∷ es)) ≡ before (find p (reverse es)) own =
    ap (λ l. find p l) (reverse-append (e ∷ []) es) ∙ find-behind p (reverse es) (e ∷ []) in
    ap (λ x. before (option_map (version_of k) x) o) seam
    ∙ ap (λ x. before x o) (map-before (version_of k) (find p (reverse es)) own)
    ∙ before-assoc (option_map (version_of k) (find p (reverse es))) (option_map (version_of k) own) o

-- the last version of a key in the entries of a transaction is what the search from their end finds
pub last-in : (k : ℕ) (key : List ℕ) (o : Option Version) (entries : List Entry)
    → last_or o (filter (is_of key) (versions_in k entries)) ≡ before (option_map (version_of k) (find (λ e. is_version_of e key) (reverse entries))) o
last-in k key o [] = refl
last-in k key o (e ∷ es) =
    let shown_rest : List Entry = filter is_shown es in
    let rest : List Version = filter (is_of key) (versions_in k es) in
    let found : Option Version = option_map (version_of k) (find (λ (x : Entry). is_version_of x key) (reverse es)) in
    elim (cases_Bool (is_shown e)) [
      | inl shown ↦ (
          let inner : last_or o (filter (is_of key) (versions_in k (e ∷ es))) ≡ last_or o (cond (bytes_eq e.key key) (version_of k e ∷ rest) rest) =
          ap (λ b. last_or o (filter (is_of key) (map (version_of k) (cond b (e ∷ shown_rest) shown_rest)))) shown in
          let test : is_version_of e key ≡ bytes_eq e.key key = ap (λ b. b && bytes_eq e.key key) shown in
          elim (cases_Bool (bytes_eq e.key key)) [
            | inl own ↦ inner ∙ ap (λ b. last_or o (cond b (version_of k e ∷ rest) rest)) own ∙ last-in k key (Some (version_of k e)) es
                ∙ sym (ap (λ b. before found (before (option_map (version_of k) (cond b (Some e) None)) o)) (test ∙ own)) ∙ sym (back-cons k key o e es)
            | inr other ↦ inner ∙ ap (λ b. last_or o (cond b (version_of k e ∷ rest) rest)) other ∙ last-in k key o es
                ∙ sym (ap (λ b. before found (before (option_map (version_of k) (cond b (Some e) None)) o)) (test ∙ other)) ∙ sym (back-cons k key o e es)
          ])
      | inr hidden ↦ (
          let test : is_version_of e key ≡ false = ap (λ b. b && bytes_eq e.key key) hidden in
          ap (λ b. last_or o (filter (is_of key) (map (version_of k) (cond b (e ∷ shown_rest) shown_rest)))) hidden ∙ last-in k key o es
          ∙ sym (ap (λ b. before found (before (option_map (version_of k) (cond b (Some e) None)) o)) test) ∙ sym (back-cons k key o e es))
    ]

-- the last version of a key in the first k transactions is that of the last of them, behind those before it
pub last-step : (history : List Transaction) (key : List ℕ) (k : ℕ) (tx : Transaction) → 0 < k → k ≤ length history → tx ≡ get_or history (k - 1) tx
    → last_version (take k history) key ≡ before (option_map (version_of k) (find (λ e. is_version_of e key) (reverse tx.entries))) (last_version (take (k - 1) history) key)
last-step history key k tx some within is =
    let front : List Transaction = take (k - 1) history in
    let back : k - 1 + 1 ≡ k = omega arith in
    let size : length front + 1 ≡ k = omega (arith, length-take-le (k - 1) history (omega arith)) in
    let grown : take k history ≡ front ++ tx ∷ [] =
    ap (λ n. take n history) (sym back) ∙ take_more history (k - 1) tx (omega arith) ∙ ap (λ (t : Transaction). front ++ t ∷ []) (sym is) in
    ap (λ h. last_version h key) grown ∙ last-push front tx key
    ∙ ap (λ n. last_or (last_version front key) (filter (is_of key) (versions_in n tx.entries))) size
    ∙ last-in k key (last_version front key) tx.entries

-- where the last of them has a version of the key, that is the last
pub last-found : (history : List Transaction) (key : List ℕ) (k : ℕ) (tx : Transaction) (entries : List Entry) (entry : Entry) → last_version history key ≡ last_version (take k history) key
    → 0 < k → k ≤ length history → tx ≡ get_or history (k - 1) tx → entries ≡ (get_or history (k - 1) tx).entries → Some entry ≡ find (λ e. is_version_of e key) (reverse entries)
    → last_version history key ≡ Some (version_of k entry)
last-found history key k tx entries entry kept some within is own found =
    let p : Entry → Bool = λ e. is_version_of e key in
    let inside : Some entry ≡ find p (reverse tx.entries) = found ∙ ap (λ es. find p (reverse es)) (own ∙ ap (λ (t : Transaction). t.entries) (sym is)) in
    kept ∙ last-step history key k tx some within is
    ∙ ap (λ o. before (option_map (version_of k) o) (last_version (take (k - 1) history) key)) (sym inside)

-- where it has none, those before it have the last
pub last-missed : (history : List Transaction) (key : List ℕ) (k : ℕ) (tx : Transaction) (entries : List Entry) → last_version history key ≡ last_version (take k history) key
    → 0 < k → k ≤ length history → tx ≡ get_or history (k - 1) tx → entries ≡ (get_or history (k - 1) tx).entries → None ≡ find (λ e. is_version_of e key) (reverse entries)
    → last_version history key ≡ last_version (take (k - 1) history) key
last-missed history key k tx entries kept some within is own missed =
    let p : Entry → Bool = λ e. is_version_of e key in
    let inside : None ≡ find p (reverse tx.entries) = missed ∙ ap (λ es. find p (reverse es)) (own ∙ ap (λ (t : Transaction). t.entries) (sym is)) in
    kept ∙ last-step history key k tx some within is
    ∙ ap (λ o. before (option_map (version_of k) o) (last_version (take (k - 1) history) key)) (sym inside)
