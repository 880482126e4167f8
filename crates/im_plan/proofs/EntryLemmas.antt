-- Rows by their entries in an index are the rows whose entries begin so.
use Rattle.std.proofs.Common.{◌≡◌, ◌<◌, inl, inr, ℕ, zero, suc, Bool, true, List, [], ◌∷◌, length, filter, get_or, AllPairs, Some, refl, sym, ◌∙◌, subst, arith}
use Rattle.std.proofs.lemmas.List.Kept.{AllPairs-filter}
use Rattle.std.specs.List.{AllZip, IsAmong}
use Rattle.im_model.specs.declared.transactions.Transaction.{Transaction}
use Rattle.im_versions.specs.Versions.{IsBelow}
use Rattle.im_versions.proofs.ListLemmas.{among-cons, among-first, among-rest, among-filter, rising-unique}
use Rattle.im_versions.proofs.VersionLemmas.{last-of-key, below-strict}
use Rattle.im_sqlmodel.specs.Rows.{IsStoredRow, RowsAre, key_of}
use Rattle.im_sqlmodel.specs.declared.rows.StoredRow.{StoredRow}
use Rattle.im_sqlmodel.specs.declared.tables.Table.{Table}
use Rattle.im_catalog.specs.Rows.{RowAt}
use Rattle.im_catalog.proofs.FrontLemmas.{among-kept}
use Rattle.im_catalog.proofs.ThereLemmas.{no_version}

-- the keys of rows
abbrev pub KeysRise : Table → List StoredRow → Type 0
KeysRise t rows = AllPairs (λ a b. IsBelow (key_of t a.row) (key_of t b.row)) rows

-- a row of a list beside versions
pub zip-among : {A B : Type 0} (R : A → B → Type 0) (xs : List A) (ys : List B) (y : B) → AllZip R xs ys → IsAmong ys y → (x : A) × IsAmong xs x × R x y
zip-among R [] [] y h m = absurd (let no : ⊥ = (let few : m.0 < 0 = m.1.0 in omega (arith, few)) in no)
zip-among R [] (z ∷ zs) y h m = absurd h
zip-among R (x ∷ xs) [] y h m = absurd h
zip-among {A} {B} R (x ∷ xs) (z ∷ zs) y h m = elim (among-cons z zs y m) [
  | inl same ↦ (x, among-first x xs, subst (R x) (sym same) h.0)
  | inr rest ↦ (let found = zip-among R xs zs y h.1 rest in (found.0, among-rest x xs found.0 found.1, found.2))
]

pub zip-among-left : {A B : Type 0} (R : A → B → Type 0) (xs : List A) (ys : List B) (x : A) → AllZip R xs ys → IsAmong xs x → (y : B) × IsAmong ys y × R x y
zip-among-left R [] [] x h m = absurd (let no : ⊥ = (let few : m.0 < 0 = m.1.0 in omega (arith, few)) in no)
zip-among-left R [] (y ∷ ys) x h m = absurd h
zip-among-left R (z ∷ zs) [] x h m = absurd h
zip-among-left {A} {B} R (z ∷ zs) (y ∷ ys) x h m = elim (among-cons z zs x m) [
  | inl same ↦ (y, among-first y ys, subst (λ (w : A). R w y) (sym same) h.0)
  | inr rest ↦ (let found = zip-among-left R zs ys x h.1 rest in (found.0, among-rest y ys found.0 found.1, found.2))
]

-- what is at the same place of both
pub zip-at : {A B : Type 0} (R : A → B → Type 0) (xs : List A) (ys : List B) (k : ℕ) (d : A) (e : B) → AllZip R xs ys → k < length ys → R (get_or xs k d) (get_or ys k e)
zip-at R [] [] k d e h l = absurd (let no : ⊥ = omega (arith, l) in no)
zip-at R [] (y ∷ ys) k d e h l = absurd h
zip-at R (x ∷ xs) [] k d e h l = absurd h
zip-at R (x ∷ xs) (y ∷ ys) zero d e h l = h.0
zip-at R (x ∷ xs) (y ∷ ys) (suc k) d e h l = zip-at R xs ys k d e h.1 (omega (arith, l))

pub zip-length : {A B : Type 0} (R : A → B → Type 0) (xs : List A) (ys : List B) → AllZip R xs ys → length xs ≡ length ys
zip-length R [] [] h = refl
zip-length R [] (y ∷ ys) h = absurd h
zip-length R (x ∷ xs) [] h = absurd h
zip-length R (x ∷ xs) (y ∷ ys) h = omega (arith, zip-length R xs ys h.1)

-- rows stand by rising key
pub rows-rise : (history : List Transaction) (t : Table) (rows : List StoredRow) → RowsAre history t rows → KeysRise t rows
rows-rise history t rows all i j d less l =
    let long : length all.0 ≡ length rows = zip-length (IsStoredRow t) all.0 rows all.2 in
    let first = zip-at (IsStoredRow t) all.0 rows i no_version d all.2 (omega (arith, less, l)) in
    let second = zip-at (IsStoredRow t) all.0 rows j no_version d all.2 l in
    subst (λ k. IsBelow (key_of t (get_or rows i d).row) k) second.0.1
    (subst (λ k. IsBelow k (get_or all.0 j no_version).key) first.0.1 (all.1.rising i j no_version less (omega (arith, long, l))))

-- two rows of one key in such a list are one: by the version that stands there
pub row-alone : (history : List Transaction) (t : Table) (key : List ℕ) (s : StoredRow) → RowAt history t key (Some s) → key_of t s.row ≡ key
row-alone history t key s at = sym at.3.0.1 ∙ last-of-key history key at.0 at.1

-- Keys of which each is a row's that is meant, and each such row's, in strictly rising order: the rows found under them are those.
pub rows-by-keys : (history : List Transaction) (t : Table) (q : StoredRow → Bool) (keys : List (List ℕ)) (rows found : List StoredRow) → RowsAre history t rows
    → AllPairs IsBelow keys → AllZip (λ key s. RowAt history t key (Some s)) keys found
    → ((key : List ℕ) (s : StoredRow) → IsAmong keys key → RowAt history t key (Some s) → IsAmong rows s × (q s ≡ true))
    → ((s : StoredRow) → IsAmong rows s → q s ≡ true → (key : List ℕ) × IsAmong keys key × ((r : StoredRow) → RowAt history t key (Some r) → r ≡ s))
    → found ≡ filter q rows
rows-by-keys history t q keys rows found all rising zip meant each =
    rising-unique (λ (a b : StoredRow). IsBelow (key_of t a.row) (key_of t b.row)) (λ a b. below-strict (key_of t a.row) (key_of t b.row)) found (filter q rows)
    found-rises (AllPairs-filter (λ (a b : StoredRow). IsBelow (key_of t a.row) (key_of t b.row)) q rows (rows-rise history t rows all))
    (λ s m.
    let at = zip-among (λ key r. RowAt history t key (Some r)) keys found s zip m in
    let is = meant at.0 s at.1 at.2 in
    among-kept q rows s is.0 is.1)
    (λ s m.
    let is = among-filter q rows s m in
    let key = each s is.1 is.0 in
    let at = zip-among-left (λ k r. RowAt history t k (Some r)) keys found key.0 zip key.1 in
    subst (IsAmong found) (key.2 at.0 at.2) at.1)
  where
    found-rises : KeysRise t found
    found-rises i j d less l =
        let long : length keys ≡ length found = zip-length (λ key s. RowAt history t key (Some s)) keys found zip in
        let first = zip-at (λ key s. RowAt history t key (Some s)) keys found i [] d zip (omega (arith, less, l)) in
        let second = zip-at (λ key s. RowAt history t key (Some s)) keys found j [] d zip l in
        subst (λ k. IsBelow (key_of t (get_or found i d).row) k) (sym (row-alone history t (get_or keys j []) (get_or found j d) second))
        (subst (λ k. IsBelow k (get_or keys j [])) (sym (row-alone history t (get_or keys i []) (get_or found i d) first)) (rising i j [] less (omega (arith, long, l))))
