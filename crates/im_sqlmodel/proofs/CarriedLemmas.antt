-- Keys that begin with 00 are SQL's still where none of them is written.
use Rattle.std.proofs.Common.{◌≡◌, ◌≢◌, ◌≤◌, ◌+◌, ◌||◌, inl, inr, ℕ, zero, suc, Bool, true, false, if◌then◌else◌, List, [], ◌∷◌, ◌++◌, length, take, drop, filter, get_or, bytes_eq, Some, None, refl, sym, ap, ◌∙◌, subst, length-append, arith}
use Rattle.std.proofs.lemmas.Bool.{cases_Bool, cases_lt}
use Rattle.std.proofs.lemmas.Bool.Decides.{Decides-eqb}
use Rattle.std.proofs.lemmas.List.{append-nil, take_all}
use Rattle.std.proofs.lemmas.List.Elements.{All-map, All-filter, filter-append}
use Rattle.std.proofs.lemmas.Slice.Eq.{starts_is, bytes_eq-Decides}
use Rattle.std.specs.List.{All, IsAmong, last_or}
use Rattle.im_model.specs.declared.entries.Entry.{Entry}
use Rattle.im_model.specs.declared.transactions.Transaction.{Transaction}
use Rattle.im_versions.specs.Versions.{is_shown, version_of, versions_in, all_versions, versions_of, is_of, last_version, version_number, is_written, begins_with}
use Rattle.im_versions.specs.declared.versions.Version.{Version}
use Rattle.im_versions.proofs.ListLemmas.{among-left, filter-none}
use Rattle.im_versions.proofs.VersionLemmas.{versions-push}
use Rattle.im_sqltype.specs.declared.values.Value.{Value}
use Rattle.im_sqlmodel.specs.Keys.{table_prefix, indexes_prefix, index_key, mark_key, plain_key, unique_key}
use Rattle.im_sqlmodel.specs.Tables.{table_text, index_text}
use Rattle.im_sqlmodel.specs.Rows.{IsLiveAs, CountIs, columns_of, key_of}
use Rattle.im_sqlmodel.specs.Writes.{entry_written}
use Rattle.im_sqlmodel.specs.Kept.{IsTableOf, IsSqlIndexOf, IsRowOf, IsText, IsSqlSound, IsSqlKept}
use Rattle.im_sqlmodel.specs.declared.tables.SqlIndex.{SqlIndex}
use Rattle.im_sqlmodel.specs.declared.tables.Table.{Table}
use Rattle.im_sqlmodel.specs.declared.written.Written.{Written}
use Rattle.im_sqlmodel.proofs.KeptLemmas.{kept-sound}

-- two histories in which keys that begin with 00 have the same last versions
abbrev pub SameLast : List Transaction → List Transaction → Type 0
SameLast a b = (rest : List ℕ) → last_version b (0 ∷ rest) ≡ last_version a (0 ∷ rest)

turned : (a b : List Transaction) → SameLast a b → SameLast b a
turned a b same rest = sym (same rest)

live : (a b : List Transaction) (rest value : List ℕ) → SameLast a b → IsLiveAs a (0 ∷ rest) value → IsLiveAs b (0 ∷ rest) value
live a b rest value same is = (is.0, same rest ∙ is.1, is.2, is.3)

-- ---- tables, indexes, rows

table-same : (a b : List Transaction) (t : Table) → SameLast a b → IsTableOf a t → IsTableOf b t
table-same a b t same of = (of.0, live a b (1 ∷ t.name) (table_text t) same of.1)

index-same : (a b : List Transaction) (t : Table) (i : SqlIndex) → SameLast a b → IsSqlIndexOf a t i → IsSqlIndexOf b t i
index-same a b t i same of = (table-same a b t same of.0, of.1, live a b (drop 1 (index_key t.tid i.iid)) (index_text i) same of.2)

row-same : (a b : List Transaction) (t : Table) (row : List Value) → SameLast a b → IsRowOf a t row → IsRowOf b t row
row-same a b t row same of = (table-same a b t same of.0, of.1, (of.2.0, same (drop 1 (key_of t row)) ∙ of.2.1, of.2.2, of.2.3))

-- ---- entries

abbrev unique_written : Table → List Value → SqlIndex → List ℕ
unique_written t row i = unique_key t.tid i.iid (columns_of row i.columns)

abbrev plain_written : Table → List Value → SqlIndex → List ℕ
plain_written t row i = plain_key t.tid i.iid (columns_of row i.columns) (columns_of row t.key)

zero-either : (b : Bool) (x y : Written) (r s : List ℕ) → x.key ≡ 0 ∷ r → y.key ≡ 0 ∷ s → (rest : List ℕ) × ((if b then x else y).key ≡ 0 ∷ rest)
zero-either true x y r s p q = (r, p)
zero-either false x y r s p q = (s, q)

pub entry-zero : (t : Table) (row : List Value) (i : SqlIndex) → (rest : List ℕ) × ((entry_written t row i).key ≡ 0 ∷ rest)
entry-zero t row i = zero-either i.unique _ _ (drop 1 (unique_written t row i)) (drop 1 (plain_written t row i)) refl refl

-- ---- texts

text-same : (a b : List Transaction) (key value : List ℕ) → SameLast a b → IsText a key value → IsText b key value
text-same a b key value same (inl is) = inl is
text-same a b key value same (inr (inl is)) = inr (inl is)
text-same a b key value same (inr (inr (inl is))) = inr (inr (inl (is.0, is.1, table-same a b is.0 same is.2, is.3, is.4, is.5)))
text-same a b key value same (inr (inr (inr (inl is)))) = inr (inr (inr (inl (is.0, table-same a b is.0 same is.1, is.2, is.3))))
text-same a b key value same (inr (inr (inr (inr (inl is))))) = inr (inr (inr (inr (inl (is.0, is.1, table-same a b is.0 same is.2, is.3, is.4, is.5)))))
text-same a b key value same (inr (inr (inr (inr (inr is))))) =
    inr (inr (inr (inr (inr (is.0, is.1, is.2, index-same a b is.0 is.1 same is.3, row-same a b is.0 is.2 same is.4, is.5, is.6)))))

count-same : (a b : List Transaction) (count : ℕ) → SameLast a b → CountIs a count → CountIs b count
count-same a b count same (inl none) = inl (ap is_written (same (0 ∷ [])) ∙ none.0, none.1)
count-same a b count same (inr some) = inr (some.0, live a b (0 ∷ []) _ same some.1)

-- ---- all together

-- what a longer history says of versions and of what was settled
pub carried : (a b : List Transaction) → SameLast a b → ((key : List ℕ) (v : Version) → IsAmong (versions_of a key) v → IsAmong (versions_of b key) v)
    → ((n : ℕ) (key : List ℕ) (v : Version) → (begins_with table_prefix key || begins_with indexes_prefix key) ≡ true → last_version (take n b) key ≡ Some v → v.deleted ≡ false → last_version b key ≡ Some v)
    → IsSqlSound a → IsSqlSound b
carried a b same grows settled sound =
    let back : SameLast b a = turned a b same in
    record {
      texts = λ rest value is. text-same a b (0 ∷ rest) value same (sound.texts rest value (live b a rest value back is));
      count = sound.count;
      counted = count-same a b sound.count same sound.counted;
      numbered = λ t of. sound.numbered t (table-same b a t back of);
      filled = λ tid some few. (let found = sound.filled tid some few in (found.0, table-same a b found.0 same found.1, found.2));
      once = λ t u p q e. sound.once t u (table-same b a t back p) (table-same b a u back q) e;
      gapless = λ t i iid of some few. (let found = sound.gapless t i iid (index-same b a t i back of) some few in (found.0, index-same a b t found.0 same found.1, found.2));
      marks = λ t row of. (
          let found = sound.marks t row (row-same b a t row back of) in
          (found.0, grows (mark_key t.tid) found.0 found.1, found.2 ∙ ap version_number (back (drop 1 (key_of t row)))));
      entries = λ t i row value index of given. (
          let zero = entry-zero t row i in
          let stands = sound.entries t i row value (index-same b a t i back index) (row-same b a t row back of) given in
          subst (λ k. IsLiveAs b k value) (sym zero.1) (live a b zero.0 value same (subst (λ k. IsLiveAs a k value) zero.1 stands)));
      settled = settled;
    }

-- ---- a transaction that writes none of these keys

abbrev pub IsFree : Transaction → Type 0
IsFree tx = All (λ (e : Entry). (rest : List ℕ) → e.key ≢ 0 ∷ rest) tx.entries

no-version : (k : ℕ) (tx : Transaction) (rest : List ℕ) → IsFree tx → filter (is_of (0 ∷ rest)) (versions_in k tx.entries) ≡ []
no-version k tx rest free =
    filter-none (is_of (0 ∷ rest)) (versions_in k tx.entries)
    (All-map (λ (v : Version). is_of (0 ∷ rest) v ≡ false) (version_of k) (filter is_shown tx.entries)
    (All-filter is_shown (λ (e : Entry). bytes_eq e.key (0 ∷ rest) ≡ false) tx.entries (λ i d l. other (get_or tx.entries i d) (free i d l))))
  where
    other : (e : Entry) → ((rest : List ℕ) → e.key ≢ 0 ∷ rest) → bytes_eq e.key (0 ∷ rest) ≡ false
    other e apart = elim (cases_Bool (bytes_eq e.key (0 ∷ rest))) [
      | inl same ↦ absurd (apart rest ((bytes_eq-Decides e.key (0 ∷ rest)).0 same))
      | inr differs ↦ differs
    ]

pub versions-pushed : (history : List Transaction) (tx : Transaction) (key : List ℕ)
    → versions_of (history ++ tx ∷ []) key ≡ versions_of history key ++ filter (is_of key) (versions_in (length history + 1) tx.entries)
versions-pushed history tx key =
    ap (filter (is_of key)) (versions-push history tx) ∙ filter-append (is_of key) (all_versions history) (versions_in (length history + 1) tx.entries)

pub free-same : (history : List Transaction) (tx : Transaction) → IsFree tx → SameLast history (history ++ tx ∷ [])
free-same history tx free rest =
    ap (λ (vs : List Version). last_or None vs)
    (versions-pushed history tx (0 ∷ rest) ∙ ap (λ (vs : List Version). versions_of history (0 ∷ rest) ++ vs) (no-version (length history + 1) tx rest free)
    ∙ append-nil (versions_of history (0 ∷ rest)))

pub push-grows : (history : List Transaction) (tx : Transaction) (key : List ℕ) (v : Version) → IsAmong (versions_of history key) v → IsAmong (versions_of (history ++ tx ∷ []) key) v
push-grows history tx key v m =
    subst (λ (vs : List Version). IsAmong vs v) (sym (versions-pushed history tx key)) (among-left (versions_of history key) (filter (is_of key) (versions_in (length history + 1) tx.entries)) v m)

-- the first ones of a longer history
pub taken-front : (n : ℕ) (xs ys : List Transaction) → n ≤ length xs → take n (xs ++ ys) ≡ take n xs
taken-front zero xs ys h = refl
taken-front (suc n) [] ys h = absurd (let no : ⊥ = omega (arith, h) in no)
taken-front (suc n) (x ∷ xs) ys h = ap (λ rest. x ∷ rest) (taken-front n xs ys (omega (arith, h)))

-- a key of a table or an index begins with 00
pub begins-zero : (key : List ℕ) → (begins_with table_prefix key || begins_with indexes_prefix key) ≡ true → (rest : List ℕ) × (key ≡ 0 ∷ rest)
begins-zero key h = elim (cases_Bool (begins_with table_prefix key)) [
  | inl table ↦ (1 ∷ drop 2 key, (starts_is Decides-eqb key table_prefix (begins_with table_prefix key) refl).0 table)
  | inr other ↦ (
      let index : begins_with indexes_prefix key ≡ true = ap (λ (b : Bool). b || begins_with indexes_prefix key) (sym other) ∙ h in
      (2 ∷ drop 2 key, (starts_is Decides-eqb key indexes_prefix (begins_with indexes_prefix key) refl).0 index))
]

free-settled : (history : List Transaction) (tx : Transaction) → IsFree tx → IsSqlSound history → (n : ℕ) (key : List ℕ) (v : Version)
    → (begins_with table_prefix key || begins_with indexes_prefix key) ≡ true → last_version (take n (history ++ tx ∷ [])) key ≡ Some v → v.deleted ≡ false → last_version (history ++ tx ∷ []) key ≡ Some v
free-settled history tx free sound n key v begins last alive = elim (cases_lt n (length history)) [
  | inl within ↦ (
      let zero = begins-zero key begins in
      let before : last_version history key ≡ Some v =
      sound.settled n key v begins (ap (λ (h : List Transaction). last_version h key) (sym (taken-front n history (tx ∷ []) (omega (arith, within)))) ∙ last) alive in
      ap (last_version (history ++ tx ∷ [])) zero.1 ∙ free-same history tx free zero.0 ∙ sym (ap (last_version history) zero.1) ∙ before)
  | inr beyond ↦ (behind n beyond last)
]
  where
    behind : (n : ℕ) → length history ≤ n → last_version (take n (history ++ tx ∷ [])) key ≡ Some v → last_version (history ++ tx ∷ []) key ≡ Some v
    behind n h e = elim (cases_lt n (length history + 1)) [
      | inl exact ↦ (
          let zero = begins-zero key begins in
          let whole : take n (history ++ tx ∷ []) ≡ history = taken-front n history (tx ∷ []) (omega (arith, exact)) ∙ take_all n history h in
          ap (last_version (history ++ tx ∷ [])) zero.1 ∙ free-same history tx free zero.0 ∙ sym (ap (last_version history) zero.1)
          ∙ sym (ap (λ (g : List Transaction). last_version g key) whole) ∙ e)
      | inr more ↦ (
          let long : length (history ++ tx ∷ []) ≤ n = (let size : length (history ++ tx ∷ []) ≡ length history + 1 = length-append history (tx ∷ []) in omega (arith, size, more)) in
          sym (ap (λ (g : List Transaction). last_version g key) (take_all n (history ++ tx ∷ []) long)) ∙ e)
    ]

pub free-sound : (history : List Transaction) (tx : Transaction) → IsFree tx → IsSqlSound history → IsSqlSound (history ++ tx ∷ [])
free-sound history tx free sound =
    carried history (history ++ tx ∷ []) (free-same history tx free) (push-grows history tx) (free-settled history tx free sound) sound

-- one more transaction behind which they are sound
pub kept-push : (history : List Transaction) (tx : Transaction) → IsSqlKept history → IsSqlSound (history ++ tx ∷ []) → IsSqlKept (history ++ tx ∷ [])
kept-push history tx kept sound n within = elim (cases_lt (length history) n) [
  | inl beyond ↦ (
      let long : length (history ++ tx ∷ []) ≤ n = (let size : length (history ++ tx ∷ []) ≡ length history + 1 = length-append history (tx ∷ []) in omega (arith, size, beyond)) in
      subst IsSqlSound (sym (take_all n (history ++ tx ∷ []) long)) sound)
  | inr first ↦ subst IsSqlSound (sym (taken-front n history (tx ∷ []) first)) (kept n first)
]

-- one that writes none of these keys
pub free-kept : (history : List Transaction) (tx : Transaction) → IsSqlKept history → IsFree tx → IsSqlKept (history ++ tx ∷ [])
free-kept history tx kept free = kept-push history tx kept (free-sound history tx free (kept-sound history kept))
