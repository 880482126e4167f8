-- Rows under a front, and the row of a key, are those of the list of all rows.
use Rattle.std.proofs.Common.{◌≡◌, ◌<◌, ℕ, inl, inr, Bool, true, false, not, cond, List, [], ◌∷◌, ◌++◌, length, drop, filter, get_or, bytes_eq, Option, Some, None, refl, sym, ap, ◌∙◌, subst, append_assoc, arith}
use Rattle.std.proofs.lemmas.Bool.{true≢false, cases_Bool}
use Rattle.std.proofs.lemmas.Bool.Decides.{Decides-eqb}
use Rattle.std.proofs.lemmas.List.Elements.{All-filter, filter_passes}
use Rattle.std.proofs.lemmas.List.Kept.{AllPairs-filter}
use Rattle.std.proofs.lemmas.Slice.Eq.{starts_is, bytes_eq-Decides}
use Rattle.std.specs.List.{AllZip, IsAmong}
use Rattle.std.specs.Option.{option_to_list}
use Rattle.im_model.specs.declared.transactions.Transaction.{Transaction}
use Rattle.im_versions.specs.Versions.{last_version, is_written, begins_with, IsBelow, IsScan}
use Rattle.im_versions.specs.declared.versions.Version.{Version}
use Rattle.im_versions.proofs.ListLemmas.{among-cons, among-first, among-rest, among-filter, All-among, filter-none, rising-unique}
use Rattle.im_versions.proofs.VersionLemmas.{last-of-key, scan-unique, below-strict}
use Rattle.im_sqlmodel.specs.Keys.{rows_prefix}
use Rattle.im_sqlmodel.specs.Rows.{IsStoredRow, RowsAre, key_of}
use Rattle.im_sqlmodel.specs.declared.rows.StoredRow.{StoredRow}
use Rattle.im_sqlmodel.specs.declared.tables.Table.{Table}
use Rattle.im_sqlmodel.proofs.OnceLemmas.{zip-same, one-stored}
use Rattle.im_catalog.specs.Rows.{RowAt, RowsFrom, IsRowsFront}
use Rattle.im_catalog.proofs.FoundLemmas.{begins-is}

-- ---- filters

pub among-kept : {A : Type 0} (p : A → Bool) (xs : List A) (v : A) → IsAmong xs v → p v ≡ true → IsAmong (filter p xs) v
among-kept p [] v m e = absurd (let no : ⊥ = (let none : m.0 < 0 = m.1.0 in omega (arith, none)) in no)
among-kept {A} p (x ∷ xs) v m e = elim (p x) as (λ (b : Bool). p x ≡ b → IsAmong (cond b (x ∷ filter p xs) (filter p xs)) v) [
  | true ↦ λ h. elim (among-cons x xs v m) [
    | inl same ↦ subst (IsAmong (x ∷ filter p xs)) (sym same) (among-first x (filter p xs))
    | inr rest ↦ among-rest x (filter p xs) v (among-kept p xs v rest e)
  ]
  | false ↦ λ h. elim (among-cons x xs v m) [
    | inl same ↦ absurd (true≢false (sym e ∙ ap p same ∙ h))
    | inr rest ↦ among-kept p xs v rest e
  ]
] refl

zip-step : {A B : Type 0} (R : A → B → Type 0) (b c : Bool) (x : A) (y : B) (xs : List A) (ys : List B) → b ≡ c → R x y → AllZip R xs ys → AllZip R (cond b (x ∷ xs) xs) (cond c (y ∷ ys) ys)
zip-step R true true x y xs ys e r h = (r, h)
zip-step R false false x y xs ys e r h = h
zip-step R true false x y xs ys e r h = absurd (true≢false e)
zip-step R false true x y xs ys e r h = absurd (true≢false (sym e))

pub zip-filter : {A B : Type 0} (R : A → B → Type 0) (p : A → Bool) (q : B → Bool) → ((a : A) (b : B) → R a b → p a ≡ q b) → (xs : List A) (ys : List B) → AllZip R xs ys → AllZip R (filter p xs) (filter q ys)
zip-filter R p q f [] [] h = tt
zip-filter R p q f [] (y ∷ ys) h = absurd h
zip-filter R p q f (x ∷ xs) [] h = absurd h
zip-filter R p q f (x ∷ xs) (y ∷ ys) h = zip-step R (p x) (q y) x y (filter p xs) (filter q ys) (f x y h.0) h.0 (zip-filter R p q f xs ys h.1)

-- ---- fronts

pub begins-from : (prefix rest key : List ℕ) → key ≡ prefix ++ rest → begins_with prefix key ≡ true
begins-from prefix rest key e =
    (starts_is Decides-eqb key prefix (begins_with prefix key) refl).1 rest e

pub begins-shorter : (prefix rest key : List ℕ) → begins_with (prefix ++ rest) key ≡ true → begins_with prefix key ≡ true
begins-shorter prefix rest key h =
    begins-from prefix (rest ++ drop (length (prefix ++ rest)) key) key (begins-is (prefix ++ rest) key h ∙ append_assoc prefix rest (drop (length (prefix ++ rest)) key))

-- what a scan shows of a longer front is the scan of that front
pub scan-front : (history : List Transaction) (prefix front : List ℕ) (shown : List Version) → ((key : List ℕ) → begins_with front key ≡ true → begins_with prefix key ≡ true)
    → IsScan history prefix shown → IsScan history front (filter (λ v. begins_with front v.key) shown)
scan-front history prefix front shown longer s =
    let p : Version → Bool = λ v. begins_with front v.key in
    record {
      rising = AllPairs-filter (λ (a b : Version). IsBelow a.key b.key) p shown s.rising;
      live = All-filter p (λ (v : Version). (last_version history v.key ≡ Some v) × (v.deleted ≡ false)) shown s.live;
      begin = filter_passes p shown;
      all = λ key version last live begins.
          among-kept p shown version (s.all key version last live (longer key begins))
          (ap (begins_with front) (last-of-key history key version last) ∙ begins);
    }

-- ---- rows

pub rows-of-front : (history : List Transaction) (t : Table) (front : List ℕ) (rows found : List StoredRow) → IsRowsFront t front → RowsAre history t rows → RowsFrom history t front found
    → found ≡ filter (λ s. begins_with front (key_of t s.row)) rows
rows-of-front history t front rows found is all some =
    let p : Version → Bool = λ v. begins_with front v.key in
    let q : StoredRow → Bool = λ s. begins_with front (key_of t s.row) in
    let longer : (key : List ℕ) → begins_with front key ≡ true → begins_with (rows_prefix t.tid) key ≡ true =
    λ key h. begins-shorter (rows_prefix t.tid) is.0 key (subst (λ f. begins_with f key ≡ true) is.1 h) in
    let same : some.0 ≡ filter p all.0 = scan-unique history front some.0 (filter p all.0) some.1 (scan-front history (rows_prefix t.tid) front all.0 longer all.1) in
    zip-same (IsStoredRow t) (one-stored t) (filter p all.0) found (filter q rows)
    (subst (λ (shown : List Version). AllZip (IsStoredRow t) shown found) same some.2)
    (zip-filter (IsStoredRow t) p q (λ v s r. ap (begins_with front) r.0.1) all.0 rows all.2)

-- of one key a scan shows its last version
one-of-key : (history : List Transaction) (prefix key : List ℕ) (shown : List Version) (v : Version) → IsScan history prefix shown → begins_with prefix key ≡ true
    → last_version history key ≡ Some v → v.deleted ≡ false → filter (λ w. bytes_eq w.key key) shown ≡ v ∷ []
one-of-key history prefix key shown v s begins last live =
    let p : Version → Bool = λ w. bytes_eq w.key key in
    let own : v.key ≡ key = last-of-key history key v last in
    let there : IsAmong (filter p shown) v = among-kept p shown v (s.all key v last live begins) ((bytes_eq-Decides v.key key).1 own) in
    rising-unique (λ (a b : Version). IsBelow a.key b.key) (λ a b. below-strict a.key b.key) (filter p shown) (v ∷ [])
    (AllPairs-filter (λ (a b : Version). IsBelow a.key b.key) p shown s.rising) (λ i j d less l. absurd (let no : ⊥ = omega (arith, less, l) in no))
    (λ w m.
    let found = among-filter p shown w m in
    let of_key : w.key ≡ key = (bytes_eq-Decides w.key key).0 found.0 in
    let alive = All-among (λ (u : Version). (last_version history u.key ≡ Some u) × (u.deleted ≡ false)) shown w s.live found.1 in
    let same : w ≡ v = some-one w v (sym alive.0 ∙ ap (last_version history) of_key ∙ last) in
    subst (IsAmong (v ∷ [])) (sym same) (among-first v []))
    (λ w m. elim (among-cons v [] w m) [
      | inl same ↦ subst (IsAmong (filter p shown)) (sym same) there
      | inr none ↦ absurd (let no : ⊥ = (let few : none.0 < 0 = none.1.0 in omega (arith, few)) in no)
    ])
  where
    some-one : (a b : Version) → Some a ≡ Some b → a ≡ b
    some-one a b e = ap (λ (o : Option Version). elim o [ Some z ↦ z | None ↦ a ]) e

-- the row of a key alone
pub row-of-key : (history : List Transaction) (t : Table) (key : List ℕ) (rows : List StoredRow) (found : Option StoredRow) → IsRowsFront t key → RowsAre history t rows → RowAt history t key found
    → option_to_list found ≡ filter (λ s. bytes_eq (key_of t s.row) key) rows
row-of-key history t key rows None is all at =
    sym (zip-none (filter (λ s. bytes_eq (key_of t s.row) key) rows)
    (subst (λ (shown : List Version). AllZip (IsStoredRow t) shown (filter (λ s. bytes_eq (key_of t s.row) key) rows))
    (filter-none (λ (w : Version). bytes_eq w.key key) all.0 (λ k d l. other (get_or all.0 k d) (all.1.live k d l)))
    (zip-filter (IsStoredRow t) (λ w. bytes_eq w.key key) (λ s. bytes_eq (key_of t s.row) key) (λ v s r. ap (λ k. bytes_eq k key) r.0.1) all.0 rows all.2)))
  where
    zip-none : (ys : List StoredRow) → AllZip (IsStoredRow t) [] ys → ys ≡ []
    zip-none [] h = refl
    zip-none (y ∷ ys) h = absurd h

    other : (w : Version) → (last_version history w.key ≡ Some w) × (w.deleted ≡ false) → bytes_eq w.key key ≡ false
    other w alive = elim (cases_Bool (bytes_eq w.key key)) [
      | inl same ↦ absurd (true≢false (sym (ap is_written (sym (ap (last_version history) ((bytes_eq-Decides w.key key).0 same)) ∙ alive.0) ∙ ap not alive.1) ∙ at))
      | inr apart ↦ apart
    ]
row-of-key history t key rows (Some s) is all at =
    let begins : begins_with (rows_prefix t.tid) key ≡ true = begins-from (rows_prefix t.tid) is.0 key is.1 in
    zip-same (IsStoredRow t) (one-stored t) (at.0 ∷ []) (s ∷ []) (filter (λ s. bytes_eq (key_of t s.row) key) rows) (at.3, tt)
    (subst (λ (shown : List Version). AllZip (IsStoredRow t) shown (filter (λ s. bytes_eq (key_of t s.row) key) rows))
    (one-of-key history (rows_prefix t.tid) key all.0 at.0 all.1 begins at.1 at.2)
    (zip-filter (IsStoredRow t) (λ w. bytes_eq w.key key) (λ s. bytes_eq (key_of t s.row) key) (λ v s r. ap (λ k. bytes_eq k key) r.0.1) all.0 rows all.2))
