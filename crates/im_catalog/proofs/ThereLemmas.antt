-- There is a scan of each prefix, and where keys are SQL's a list of each table's rows.
use Rattle.std.proofs.Common.{◌≡◌, ◌≤◌, ◌<◌, ◌+◌, ◌⊎◌, inl, inr, ℕ, zero, suc, true, List, [], ◌∷◌, length, take, get_or, All, AllPairs, Option, Some, None, refl, sym, subst, arith}
use Rattle.std.proofs.lemmas.List.{take_all, append-nil}
use Rattle.std.proofs.lemmas.List.Elements.{All-cons, All-weaker}
use Rattle.std.specs.Cmp.Lexicographic.{slice_cmp}
use Rattle.std.specs.List.{AllZip, IsAmong}
use Rattle.std.specs.Ordering.{nat_cmp}
use Rattle.std.specs.declared.cmp.Ordering.{Ordering}
use Rattle.std.specs.declared.cmp.Ordering.TheVariants.{Less, Equal, Greater}
use Rattle.im_model.specs.declared.transactions.Transaction.{Transaction}
use Rattle.im_versions.specs.Versions.{all_versions, IsBelow, IsScan}
use Rattle.im_versions.specs.declared.versions.Version.{Version}
use Rattle.im_versions.proofs.ListLemmas.{All-among, among-first, among-rest, among-itself}
use Rattle.im_versions.proofs.ScanLemmas.{Rising, below-trans, below-turned, same-key, IsScanOf, shown_of, scan-all, scan-more-none, scan-more-some}
use Rattle.im_sqlmodel.specs.Keys.{table_key, index_prefix, rows_prefix}
use Rattle.im_sqlmodel.specs.Tables.{table_text}
use Rattle.im_sqlmodel.specs.Rows.{IsLiveAs, TableIs, IsIndexVersion, IndexesAre, IsStoredRow, RowsAre}
use Rattle.im_sqlmodel.specs.Kept.{IsTableOf, IsSqlSound}
use Rattle.im_sqlmodel.specs.declared.rows.StoredRow.{StoredRow}
use Rattle.im_sqlmodel.specs.declared.tables.SqlIndex.{SqlIndex}
use Rattle.im_sqlmodel.specs.declared.tables.Table.{Table}
use Rattle.im_catalog.specs.Found.{HasIndexText}
use Rattle.im_catalog.specs.Rows.{HasRowText}
use Rattle.im_catalog.proofs.FoundLemmas.{indexes-there}
use Rattle.im_catalog.proofs.RowLemmas.{rows-there}

-- ---- a version put among those with rising keys

pairs-cons : {A : Type 0} (R : A → A → Type 0) (x : A) (xs : List A) → All (R x) xs → AllPairs R xs → AllPairs R (x ∷ xs)
pairs-cons R x xs all pairs zero zero d less l = absurd (let no : ⊥ = omega (arith, less) in no)
pairs-cons R x xs all pairs zero (suc j) d less l = all j d (omega (arith, l))
pairs-cons R x xs all pairs (suc i) zero d less l = absurd (let no : ⊥ = omega (arith, less) in no)
pairs-cons R x xs all pairs (suc i) (suc j) d less l = pairs i j d (omega (arith, less)) (omega (arith, l))

pub record Put (shown : List Version) (w : Version) : Type 0 where
  pub after : List Version
  pub rising : Rising after
  pub only : All (λ v. (v ≡ w) ⊎ IsAmong shown v) after
  pub kept : All (IsAmong after) shown
  pub there : (v : Version) × IsAmong after v × (v.key ≡ w.key)

first-below : (x : Version) (xs : List Version) → Rising (x ∷ xs) → All (λ v. IsBelow x.key v.key) xs
first-below x xs rising = λ k d l. rising 0 (suc k) d (omega arith) (omega (arith, l))

rest-rises : (x : Version) (xs : List Version) → Rising (x ∷ xs) → Rising xs
rest-rises x xs rising = λ i j d less l. rising (suc i) (suc j) d (omega (arith, less)) (omega (arith, l))

put-first : (x w : Version) (xs : List Version) → Rising (x ∷ xs) → IsBelow w.key x.key → Put (x ∷ xs) w
put-first x w xs rising less = record {
  after = w ∷ x ∷ xs;
  rising = pairs-cons (λ (a b : Version). IsBelow a.key b.key) w (x ∷ xs)
      (All-cons (λ (v : Version). IsBelow w.key v.key) x xs less
      (All-weaker (λ (v : Version). IsBelow x.key v.key) (λ v. IsBelow w.key v.key) (λ v h. below-trans w.key x.key v.key less h) xs (first-below x xs rising))) rising;
  only = All-cons (λ (v : Version). (v ≡ w) ⊎ IsAmong (x ∷ xs) v) w (x ∷ xs) (inl refl)
      (All-weaker (IsAmong (x ∷ xs)) (λ v. (v ≡ w) ⊎ IsAmong (x ∷ xs) v) (λ v m. inr m) (x ∷ xs) (among-itself (x ∷ xs)));
  kept = All-weaker (IsAmong (x ∷ xs)) (IsAmong (w ∷ x ∷ xs)) (λ v m. among-rest w (x ∷ xs) v m) (x ∷ xs) (among-itself (x ∷ xs));
  there = (w, among-first w (x ∷ xs), refl);
}

put-here : (x w : Version) (xs : List Version) → Rising (x ∷ xs) → w.key ≡ x.key → Put (x ∷ xs) w
put-here x w xs rising same = record {
  after = x ∷ xs;
  rising = rising;
  only = All-weaker (IsAmong (x ∷ xs)) (λ v. (v ≡ w) ⊎ IsAmong (x ∷ xs) v) (λ v m. inr m) (x ∷ xs) (among-itself (x ∷ xs));
  kept = among-itself (x ∷ xs);
  there = (x, among-first x xs, sym same);
}

put-behind : (x w : Version) (xs : List Version) → Rising (x ∷ xs) → IsBelow x.key w.key → Put xs w → Put (x ∷ xs) w
put-behind x w xs rising less put = record {
  after = x ∷ put.after;
  rising = pairs-cons (λ (a b : Version). IsBelow a.key b.key) x put.after
      (All-weaker (λ (v : Version). (v ≡ w) ⊎ IsAmong xs v) (λ v. IsBelow x.key v.key) (λ v c. elim c [
        | inl e ↦ subst (λ (u : Version). IsBelow x.key u.key) (sym e) less
        | inr m ↦ All-among (λ (u : Version). IsBelow x.key u.key) xs v (first-below x xs rising) m
      ]) put.after put.only) put.rising;
  only = All-cons (λ (v : Version). (v ≡ w) ⊎ IsAmong (x ∷ xs) v) x put.after (inr (among-first x xs))
      (All-weaker (λ (v : Version). (v ≡ w) ⊎ IsAmong xs v) (λ v. (v ≡ w) ⊎ IsAmong (x ∷ xs) v) (λ v c. elim c [
        | inl e ↦ inl e
        | inr m ↦ inr (among-rest x xs v m)
      ]) put.after put.only);
  kept = All-cons (IsAmong (x ∷ put.after)) x xs (among-first x put.after)
      (All-weaker (IsAmong put.after) (IsAmong (x ∷ put.after)) (λ v m. among-rest x put.after v m) xs put.kept);
  there = (put.there.0, among-rest x put.after put.there.0 put.there.1, put.there.2);
}

pub put-version : (shown : List Version) (w : Version) → Rising shown → Put shown w
put-version [] w rising = record {
  after = w ∷ [];
  rising = λ i j d less l. absurd (let no : ⊥ = omega (arith, less, l) in no);
  only = All-cons (λ (v : Version). (v ≡ w) ⊎ IsAmong [] v) w [] (inl refl) (λ k d l. absurd (let no : ⊥ = omega (arith, l) in no));
  kept = λ k d l. absurd (let no : ⊥ = omega (arith, l) in no);
  there = (w, among-first w [], refl);
}
put-version (x ∷ xs) w rising = elim (slice_cmp nat_cmp w.key x.key) as (λ (o : Ordering). o ≡ slice_cmp nat_cmp w.key x.key → Put (x ∷ xs) w) [
  | Less ↦ λ e. put-first x w xs rising (sym e)
  | Equal ↦ λ e. put-here x w xs rising (same-key w.key x.key e)
  | Greater ↦ λ e. put-behind x w xs rising (below-turned w.key x.key e) (put-version xs w (rest-rises x xs rising))
] refl

-- ---- a scan of the versions so far

pub record Found (history : List Transaction) (prefix : List ℕ) (seen : List Version) : Type 0 where
  pub shown : List Version
  pub is : IsScanOf history prefix seen shown

one-more : (history : List Transaction) (prefix : List ℕ) (vs : List Version) (i : ℕ) (d : Version) → i < length vs → Found history prefix (take i vs) → Found history prefix (take (i + 1) vs)
one-more history prefix vs i d l found =
    let u : Version = get_or vs i d in
    let is : u ≡ get_or vs i u = same-at vs i d l in
    elim (shown_of history prefix u.key) as (λ (o : Option Version). shown_of history prefix u.key ≡ o → Found history prefix (take (i + 1) vs)) [
      | None ↦ λ e. record { shown = found.shown; is = scan-more-none history prefix vs found.shown i u found.is l is e }
      | Some w ↦ λ e. (
          let put = put-version found.shown w found.is.rising in
          record { shown = put.after; is = scan-more-some history prefix vs found.shown put.after i u w found.is l is e put.rising put.only put.kept put.there })
    ] refl
  where
    same-at : (vs : List Version) (i : ℕ) (d : Version) → i < length vs → get_or vs i d ≡ get_or vs i (get_or vs i d)
    same-at [] i d l = absurd (let no : ⊥ = omega (arith, l) in no)
    same-at (v ∷ vs) zero d l = refl
    same-at (v ∷ vs) (suc i) d l = same-at vs i d (omega (arith, l))

so-far : (history : List Transaction) (prefix : List ℕ) (vs : List Version) (d : Version) (i : ℕ) → i ≤ length vs → Found history prefix (take i vs)
so-far history prefix vs d zero h = record {
  shown = [];
  is = record {
    rising = λ i j d less l. absurd (let no : ⊥ = omega (arith, l) in no);
    live = λ k d l. absurd (let no : ⊥ = omega (arith, l) in no);
    begin = λ k d l. absurd (let no : ⊥ = omega (arith, l) in no);
    all = λ k d l. absurd (let no : ⊥ = omega (arith, l) in no);
  };
}
so-far history prefix vs d (suc i) h =
    subst (λ n. Found history prefix (take n vs)) (let next : i + 1 ≡ suc i = omega arith in next)
    (one-more history prefix vs i d (omega (arith, h)) (so-far history prefix vs d i (omega (arith, h))))

-- stands where there is no version
abbrev pub no_version : Version
no_version = record { tx = 0; deleted = true; key = []; value = [] }

pub scan-there : (history : List Transaction) (prefix : List ℕ) → (shown : List Version) × IsScan history prefix shown
scan-there history prefix =
    let vs : List Version = all_versions history in
    let found : Found history prefix vs = subst (Found history prefix) (take_all (length vs) vs (omega arith)) (so-far history prefix vs no_version (length vs) (omega arith)) in
    (found.shown, scan-all history prefix found.shown found.is)

-- ---- rows

-- the rows of versions of which each is one
each-row : (t : Table) (shown : List Version) → All (λ v. HasRowText t v.key v.value) shown → (rows : List StoredRow) × AllZip (IsStoredRow t) shown rows
each-row t [] has = ([], tt)
each-row t (v ∷ vs) has =
    let first = has 0 v (omega arith) in
    let rest = each-row t vs (λ k d l. has (suc k) d (omega (arith, l))) in
    (record { row = first.0; tx = v.tx } ∷ rest.0, (((first.1, first.2, first.3), refl), rest.1))

pub rows-are : (history : List Transaction) (t : Table) → IsSqlSound history → IsTableOf history t → (rows : List StoredRow) × RowsAre history t rows
rows-are history t sound of =
    let scan = scan-there history (rows_prefix t.tid) in
    let rows = each-row t scan.0 (rows-there history t (rows_prefix t.tid) scan.0 sound of ([], sym (append-nil (rows_prefix t.tid))) scan.1) in
    (rows.0, (scan.0, scan.1, rows.1))

-- the table of a name is one of the history's
pub table-of : (history : List Transaction) (name : List ℕ) (t : Table) → TableIs history name (Some t) → IsTableOf history t
table-of history name t is = (is.0, subst (λ n. IsLiveAs history (table_key n) (table_text t)) (sym is.1) is.2)

-- the indexes of versions of which each is one
each-index : (t : Table) (shown : List Version) → All (HasIndexText t) shown → (indexes : List SqlIndex) × AllZip (IsIndexVersion t) shown indexes
each-index t [] has = ([], tt)
each-index t (v ∷ vs) has =
    let first = has 0 v (omega arith) in
    let rest = each-index t vs (λ k d l. has (suc k) d (omega (arith, l))) in
    (first.0 ∷ rest.0, ((first.1, first.2, first.3), rest.1))

pub indexes-are : (history : List Transaction) (t : Table) → IsSqlSound history → IsTableOf history t → (indexes : List SqlIndex) × IndexesAre history t indexes
indexes-are history t sound of =
    let scan = scan-there history (index_prefix t.tid) in
    let indexes = each-index t scan.0 (indexes-there history t scan.0 sound of scan.1) in
    (indexes.0, (scan.0, scan.1, indexes.1))
