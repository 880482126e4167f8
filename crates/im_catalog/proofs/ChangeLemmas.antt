-- The history of a table's rows is read off the versions of its keys, in whatever order keys stand to each other.
use Rattle.std.proofs.Common.{◌≡◌, ◌≤◌, ◌<◌, ◌+◌, ◌^◌, ◌&&◌, ℕ, zero, suc, inl, inr, Bool, true, false, cond, not, List, [], ◌∷◌, ◌++◌, length, filter, get_or, refl, sym, ap, ap₂, ◌∙◌, subst, arith}
use Rattle.std.proofs.lemmas.Bool.{true≢false, cases_Bool}
use Rattle.std.proofs.lemmas.Cmp.{nat_list_cmp_total}
use Rattle.std.proofs.lemmas.List.{append-nil}
use Rattle.std.proofs.lemmas.List.Elements.{All-weaker, filter-append, filter_agree, filter_passes}
use Rattle.std.proofs.lemmas.List.Sorted.{ranks_by}
use Rattle.std.proofs.lemmas.List.Sums.{count_by-le-length, length-filter}
use Rattle.std.proofs.lemmas.Map.Text.{is_eq-slice_cmp}
use Rattle.std.proofs.lemmas.Slice.Eq.{bytes_eq-Decides}
use Rattle.std.specs.Cmp.{IsStrictWeakOrder}
use Rattle.std.specs.List.{All, AllZip, count_by, IsAmong}
use Rattle.std.specs.List.Sorted.{ties}
use Rattle.std.specs.Ordering.{is_lt}
use Rattle.std.specs.declared.cmp.Ordering.{Ordering}
use Rattle.im_model.specs.History.{IsHistory}
use Rattle.im_model.specs.declared.transactions.Transaction.{Transaction}
use Rattle.im_versions.specs.Versions.{is_of, all_versions, versions_of, begins_with}
use Rattle.im_versions.specs.declared.versions.Version.{Version}
use Rattle.im_versions.proofs.ListLemmas.{among-filter, among-first, among-rest, filter-all, filter-none}
use Rattle.im_versions.specs.Changes.{AreChanges}
use Rattle.im_sqltype.specs.Orders.{octets_cmp}
use Rattle.im_sqltype.specs.declared.values.Value.{Value}
use Rattle.im_sqlmodel.specs.Keys.{rows_prefix}
use Rattle.im_sqlmodel.specs.Kept.{IsTableOf, IsSqlKept}
use Rattle.im_sqlmodel.specs.Rows.{IsRevision, HistoryIs, numbered, row_versions, revisions}
use Rattle.im_sqlmodel.specs.Sorts.{sorted}
use Rattle.im_sqlmodel.specs.declared.tables.Table.{Table}
use Rattle.im_sqlmodel.proofs.SortLemmas.{same-sorted}
use Rattle.im_catalog.specs.Rows.{IsRowIfLive}
use Rattle.im_catalog.proofs.FoundLemmas.{begins-is}
use Rattle.im_catalog.proofs.FrontLemmas.{among-kept}
use Rattle.im_catalog.proofs.HistoryLemmas.{version-row, versions-few}
use Rattle.im_octet.proofs.Common.{filter-swap, tied-by}

abbrev pub Pair : Type 0
Pair = ℕ × Version

abbrev is_at : List ℕ → Pair → Bool
is_at key p = is_of key p.1

abbrev is_kept : Pair → Bool
is_kept p = not p.1.deleted

abbrev pub by_key : Pair → Pair → Ordering
by_key a b = octets_cmp a.1.key b.1.key

abbrev key_below : Pair → Pair → Bool
key_below a b = is_lt (by_key a b)

-- ---- filters

-- ---- the versions of one key

none-begins : (prefix key : List ℕ) (vs : List Version) → All (λ v. begins_with prefix v.key ≡ true) vs → begins_with prefix key ≡ false → filter (is_of key) vs ≡ []
none-begins prefix key vs all none = filter-none (is_of key) vs (λ k d l. other (get_or vs k d) (all k d l))
  where
    other : (v : Version) → begins_with prefix v.key ≡ true → is_of key v ≡ false
    other v begins = elim (cases_Bool (is_of key v)) [
      | inl same ↦ absurd (true≢false (sym begins ∙ ap (begins_with prefix) ((bytes_eq-Decides v.key key).0 same) ∙ none))
      | inr apart ↦ apart
    ]

all-begin : (prefix key : List ℕ) (vs : List Version) → begins_with prefix key ≡ true → filter (is_of key) (filter (λ v. begins_with prefix v.key) vs) ≡ filter (is_of key) vs
all-begin prefix key vs begins =
    filter-swap (is_of key) (λ v. begins_with prefix v.key) vs
    ∙ filter-all (λ (v : Version). begins_with prefix v.key) (filter (is_of key) vs)
    (All-weaker (λ (v : Version). is_of key v ≡ true) (λ v. begins_with prefix v.key ≡ true) (λ v own. ap (begins_with prefix) ((bytes_eq-Decides v.key key).0 own) ∙ begins)
    (filter (is_of key) vs) (filter_passes (is_of key) vs))

-- changes have of each key what the table's versions have of it
same-of : (history : List Transaction) (t : Table) (changes : List Version) → AreChanges history (rows_prefix t.tid) changes → (key : List ℕ) → filter (is_of key) changes ≡ filter (is_of key) (row_versions history t)
same-of history t changes are key = elim (cases_Bool (begins_with (rows_prefix t.tid) key)) [
  | inl begins ↦ are.each key begins ∙ sym (all-begin (rows_prefix t.tid) key (all_versions history) begins)
  | inr none ↦ (
      none-begins (rows_prefix t.tid) key changes are.begin none
      ∙ sym (none-begins (rows_prefix t.tid) key (row_versions history t) (filter_passes (λ (v : Version). begins_with (rows_prefix t.tid) v.key) (all_versions history)) none))
]

-- ---- numbers of one key are counted among its versions alone

count-own : (key : List ℕ) (vs : List Version) → count_by (is_of key) (filter (is_of key) vs) ≡ count_by (is_of key) vs
count-own key vs =
    sym (length-filter (is_of key) (filter (is_of key) vs))
    ∙ ap length (filter-all (is_of key) (filter (is_of key) vs) (filter_passes (is_of key) vs))
    ∙ length-filter (is_of key) vs

count-at : (key : List ℕ) (before : List Version) (v : Version) → is_of key v ≡ true → count_by (is_of v.key) before ≡ count_by (is_of v.key) (filter (is_of key) before)
count-at key before v own =
    subst (λ (k : List ℕ). count_by (is_of k) before ≡ count_by (is_of k) (filter (is_of key) before)) (sym ((bytes_eq-Decides v.key key).0 own)) (sym (count-own key before))

filter-push : (key : List ℕ) (before : List Version) (v : Version) (b : Bool) → is_of key v ≡ b → filter (is_of key) (before ++ v ∷ []) ≡ filter (is_of key) before ++ cond b (v ∷ []) []
filter-push key before v b e =
    filter-append (is_of key) before (v ∷ []) ∙ ap (λ (c : Bool). filter (is_of key) before ++ cond c (v ∷ []) []) e

pub numbered-own : (key : List ℕ) (before vs : List Version) → filter (is_at key) (numbered before vs) ≡ numbered (filter (is_of key) before) (filter (is_of key) vs)
numbered-own key before [] = refl
numbered-own key before (v ∷ vs) = elim (is_of key v) as (λ (b : Bool). is_of key v ≡ b
    → cond b ((count_by (is_of v.key) before + 1, v) ∷ filter (is_at key) (numbered (before ++ v ∷ []) vs)) (filter (is_at key) (numbered (before ++ v ∷ []) vs))
    ≡ numbered (filter (is_of key) before) (cond b (v ∷ filter (is_of key) vs) (filter (is_of key) vs))) [
      | true ↦ λ e.
          ap₂ (λ (n : ℕ) (ps : List Pair). (n + 1, v) ∷ ps) (count-at key before v e)
          (numbered-own key (before ++ v ∷ []) vs ∙ ap (λ (b : List Version). numbered b (filter (is_of key) vs)) (filter-push key before v true e))
      | false ↦ λ e.
          numbered-own key (before ++ v ∷ []) vs
          ∙ ap (λ (b : List Version). numbered b (filter (is_of key) vs)) (filter-push key before v false e ∙ append-nil (filter (is_of key) before))
    ] refl

-- ---- sorted by key they are one list

tied-is : (p q : Pair) → ties key_below p q ≡ is_at p.1.key q
tied-is p q =
    ap (λ o. not (is_lt o) && not (is_lt (octets_cmp q.1.key p.1.key))) (nat_list_cmp_total.antisymm p.1.key q.1.key)
    ∙ tied-by (octets_cmp q.1.key p.1.key)
    ∙ is_eq-slice_cmp q.1.key p.1.key

key-order : IsStrictWeakOrder key_below
key-order = ranks_by nat_list_cmp_total (λ (p : Pair). p.1.key)

-- those of a key that aren't deletions, with their numbers
live-own : (p : Pair) (vs : List Version) → filter (ties key_below p) (filter is_kept (numbered [] vs)) ≡ filter is_kept (numbered [] (filter (is_of p.1.key) vs))
live-own p vs =
    filter_agree (ties key_below p) (is_at p.1.key) (tied-is p) (filter is_kept (numbered [] vs))
    ∙ filter-swap (is_at p.1.key) is_kept (numbered [] vs)
    ∙ ap (filter is_kept) (numbered-own p.1.key [] vs)

pub changes-sorted : (history : List Transaction) (t : Table) (changes : List Version) → AreChanges history (rows_prefix t.tid) changes
    → sorted by_key (filter is_kept (numbered [] changes)) ≡ revisions history t
changes-sorted history t changes are =
    same-sorted by_key key-order (filter is_kept (numbered [] changes)) (filter is_kept (numbered [] (row_versions history t)))
    (λ p. live-own p changes
    ∙ ap (λ (vs : List Version). filter is_kept (numbered [] vs)) (same-of history t changes are p.1.key)
    ∙ sym (live-own p (row_versions history t)))

pub changes-history : (history : List Transaction) (t : Table) (changes : List Version) (rows : List (List Value)) → AreChanges history (rows_prefix t.tid) changes
    → AllZip (IsRevision t) (sorted by_key (filter is_kept (numbered [] changes))) rows → HistoryIs history t rows
changes-history history t changes rows are zip = subst (λ (ps : List Pair). AllZip (IsRevision t) ps rows) (changes-sorted history t changes are) zip

-- ---- and each that isn't a deletion is a row

among-at : (vs : List Version) (k : ℕ) (d : Version) → k < length vs → IsAmong vs (get_or vs k d)
among-at [] k d l = absurd (let no : ⊥ = omega (arith, l) in no)
among-at (v ∷ vs) zero d l = among-first v vs
among-at (v ∷ vs) (suc k) d l = among-rest v vs (get_or vs k d) (among-at vs k d (omega (arith, l)))

pub changes-rows : (history : List Transaction) (t : Table) (changes : List Version) → IsHistory history → IsSqlKept history → IsTableOf history t
    → AreChanges history (rows_prefix t.tid) changes → All (IsRowIfLive t) changes
changes-rows history t changes is kept of are = λ k d l alive.
    let v : Version = get_or changes k d in
    let begins : begins_with (rows_prefix t.tid) v.key ≡ true = are.begin k d l in
    let own : IsAmong (filter (is_of v.key) changes) v = among-kept (is_of v.key) changes v (among-at changes k d l) ((bytes_eq-Decides v.key v.key).1 refl) in
    let found = among-filter (is_of v.key) (all_versions history) v (subst (λ (vs : List Version). IsAmong vs v) (are.each v.key begins) own) in
    let has = version-row history t v _ is kept of found.1 (begins-is (rows_prefix t.tid) v.key begins) alive in
    (has.0, (has.1, has.2, has.3))

-- a key has no more of them than there are transactions
pub changes-few : (history : List Transaction) (t : Table) (changes : List Version) → IsHistory history → AreChanges history (rows_prefix t.tid) changes
    → (key : List ℕ) → count_by (is_of key) changes < 2 ^ 63
changes-few history t changes is are key =
    let count : count_by (is_of key) changes ≡ length (filter (is_of key) (row_versions history t)) = sym (length-filter (is_of key) changes) ∙ ap length (same-of history t changes are key) in
    let part : length (filter (is_of key) (row_versions history t)) ≤ length (versions_of history key) = (
    let swapped : filter (is_of key) (row_versions history t) ≡ filter (λ v. begins_with (rows_prefix t.tid) v.key) (versions_of history key) = filter-swap (is_of key) (λ v. begins_with (rows_prefix t.tid) v.key) (all_versions history) in
    subst (λ (vs : List Version). length vs ≤ length (versions_of history key)) (sym swapped) (filter-shorter (λ v. begins_with (rows_prefix t.tid) v.key) (versions_of history key))) in
    let few : length (versions_of history key) ≤ length history = versions-few history is key in
    let most : length history ≤ 1048576 = is.few in
    omega (arith, count, part, few, most)
  where
    filter-shorter : {A : Type 0} (p : A → Bool) (xs : List A) → length (filter p xs) ≤ length xs
    filter-shorter p xs = (let count : length (filter p xs) ≡ count_by p xs = length-filter p xs in let low : count_by p xs ≤ length xs = count_by-le-length p xs in omega (arith, count, low))
