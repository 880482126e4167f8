-- One number of tables, one list of rows, one history of rows.
use Rattle.std.proofs.Common.{◌≡◌, ℕ, true, false, not, true≢false, List, [], ◌∷◌, ◌++◌, pos, Option, unwrap_or, refl, sym, ap, ap₂, ◌∙◌, subst, ⊎_elim}
use Rattle.std.specs.List.{AllZip}
use Rattle.im_octet.specs.Fields.{field4}
use Rattle.im_octet.proofs.FieldLemmas.{same-field4}
use Rattle.im_model.specs.declared.transactions.Transaction.{Transaction}
use Rattle.im_versions.specs.Versions.{is_live, is_written}
use Rattle.im_versions.specs.declared.versions.Version.{Version}
use Rattle.im_versions.proofs.VersionLemmas.{scan-unique}
use Rattle.im_sqltype.specs.declared.values.Value.{Value}
use Rattle.im_sqltype.specs.declared.values.Value.TheVariants.{Integer}
use Rattle.im_sqltype.proofs.FrontLemmas.{row-front}
use Rattle.im_sqlmodel.specs.Keys.{tables_key, rows_prefix}
use Rattle.im_sqlmodel.specs.Tables.{kinds_of}
use Rattle.im_sqlmodel.specs.Rows.{IsLiveAs, CountIs, IsRowVersion, IsStoredRow, RowsAre, revisions, IsRevision, HistoryIs}
use Rattle.im_sqlmodel.specs.declared.rows.StoredRow.{StoredRow}
use Rattle.im_sqlmodel.specs.declared.tables.Table.{Table}

-- ---- the number of tables

pub value-live : (history : List Transaction) (key value : List ℕ) → IsLiveAs history key value → is_live history key ≡ true
value-live history key value h = ap is_written h.1 ∙ ap not h.2

pub one-value : (history : List Transaction) (key x y : List ℕ) → IsLiveAs history key x → IsLiveAs history key y → x ≡ y
one-value history key x y h g =
    let same : h.0 ≡ g.0 = ap (λ (o : Option Version). unwrap_or o h.0) (sym h.1 ∙ g.1) in
    sym h.3 ∙ ap (λ (v : Version). v.value) same ∙ g.3

none-and-some : (history : List Transaction) (value : List ℕ) → is_live history tables_key ≡ false → IsLiveAs history tables_key value → ⊥
none-and-some history value none h = true≢false (sym (value-live history tables_key value h) ∙ none)

pub one-count : (history : List Transaction) (a b : ℕ) → CountIs history a → CountIs history b → a ≡ b
one-count history a b x y =
    ⊎_elim
    (λ none. ⊎_elim (λ other. none.1 ∙ sym other.1) (λ some. absurd (none-and-some history (field4 b) none.0 some.1)) y)
    (λ some. ⊎_elim (λ none. absurd (none-and-some history (field4 a) none.0 some.1))
    (λ other. same-field4 a b some.0 other.0 (one-value history tables_key (field4 a) (field4 b) some.1 other.1)) y)
    x

-- ---- lists beside a list

pub zip-same : {A B : Type 0} (R : A → B → Type 0) → ((a : A) (b c : B) → R a b → R a c → b ≡ c) → (xs : List A) (ys zs : List B) → AllZip R xs ys → AllZip R xs zs → ys ≡ zs
zip-same R f [] [] [] h k = refl
zip-same R f [] [] (z ∷ zs) h k = absurd k
zip-same R f [] (y ∷ ys) zs h k = absurd h
zip-same R f (x ∷ xs) [] zs h k = absurd h
zip-same R f (x ∷ xs) (y ∷ ys) [] h k = absurd k
zip-same R f (x ∷ xs) (y ∷ ys) (z ∷ zs) h k = ap₂ (λ a b. a ∷ b) (f x y z h.0 k.0) (zip-same R f xs ys zs h.1 k.1)

-- ---- rows

one-row : (t : Table) (v : Version) (a b : List Value) → IsRowVersion t v a → IsRowVersion t v b → a ≡ b
one-row t v a b x y = (row-front (kinds_of t) a b [] [] x.0 y.0 (ap (λ (r : List ℕ). r ++ []) (sym x.2 ∙ y.2))).0

pub one-stored : (t : Table) (v : Version) (a b : StoredRow) → IsStoredRow t v a → IsStoredRow t v b → a ≡ b
one-stored t v a b x y =
    ap₂ (λ (r : List Value) (n : ℕ). record { row = r; tx = n }) (one-row t v a.row b.row x.0 y.0) (x.1 ∙ sym y.1)

pub one-list : (history : List Transaction) (t : Table) (a b : List StoredRow) → RowsAre history t a → RowsAre history t b → a ≡ b
one-list history t a b x y =
    let same : x.0 ≡ y.0 = scan-unique history (rows_prefix t.tid) x.0 y.0 x.1 y.1 in
    zip-same (IsStoredRow t) (one-stored t) y.0 a b (subst (λ (shown : List Version). AllZip (IsStoredRow t) shown a) same x.2) y.2

one-revision : (t : Table) (p : ℕ × Version) (a b : List Value) → IsRevision t p a → IsRevision t p b → a ≡ b
one-revision t p a b x y =
    x.2 ∙ ap (λ (values : List Value). values ++ Integer (pos p.0) ∷ []) (one-row t p.1 x.0 y.0 x.1 y.1) ∙ sym y.2

pub one-history : (history : List Transaction) (t : Table) (a b : List (List Value)) → HistoryIs history t a → HistoryIs history t b → a ≡ b
one-history history t a b x y = zip-same (IsRevision t) (one-revision t) (revisions history t) a b x y
