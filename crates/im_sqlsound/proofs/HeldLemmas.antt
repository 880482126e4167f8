-- The rows behind those that a statement writes, with what is written at the keys of all their entries.
use Rattle.std.proofs.Common.{◌≡◌, ◌≢◌, ◌&&◌, inl, inr, ℕ, Bool, true, false, not, if◌then◌else◌, List, [], ◌∷◌, bytes_eq, get_or, AllPairs, Option, Some, None, MatchOption, refl, sym, ap, ◌∙◌, subst, arith}
use Rattle.std.proofs.lemmas.Bool.{true≢false, cases_Bool}
use Rattle.std.proofs.lemmas.List.Elements.{All-from_recursion, recursion_from_All}
use Rattle.std.proofs.lemmas.Slice.Eq.{bytes_eq-Decides}
use Rattle.std.specs.List.{AllByRecursion, IsAmong}
use Rattle.im_model.specs.declared.transactions.Transaction.{Transaction}
use Rattle.im_versions.proofs.ListLemmas.{All-among}
use Rattle.im_sqltype.specs.Kinds.{AreOfKinds}
use Rattle.im_sqltype.specs.Orders.{octets_cmp}
use Rattle.im_sqltype.specs.Texts.{row_text}
use Rattle.im_sqltype.specs.declared.values.Value.{Value}
use Rattle.im_sqlmodel.specs.Kept.{IsTableOf, IsSqlSound}
use Rattle.im_sqlmodel.specs.Tables.{IsTable, IsTableIndex, kinds_of}
use Rattle.im_sqlmodel.specs.Rows.{IndexesAre, RowsAre, columns_of, key_of}
use Rattle.im_sqlmodel.specs.Writes.{stored_at, rows_without, rows_with, row_met, row_written, entry_written, all_written, dropped, put_all}
use Rattle.im_sqlmodel.specs.declared.rows.StoredRow.{StoredRow}
use Rattle.im_sqlmodel.specs.declared.tables.SqlIndex.{SqlIndex}
use Rattle.im_sqlmodel.specs.declared.tables.Table.{Table}
use Rattle.im_sqlmodel.specs.declared.written.Written.{Written}
use Rattle.im_sql.specs.Working.{holder, IsRowOver}
use Rattle.im_sql.specs.Writing.{written_at}
use Rattle.im_sqlsound.proofs.EntryLemmas.{plain-alone, row-alone}
use Rattle.im_sql.proofs.NextLemmas.{AreNumbered, key_in, IsFree, all-put, all-kept, none-found, find-some, at-written, at-dropped, keys-apart, entries-apart, holder-own, holder-past, left-all, left-old, gone-old}
use Rattle.im_sql.proofs.PutLemmas.{either, row-put}
use Rattle.im_sql.proofs.RowsLemmas.{row-over}
use Rattle.im_sql.proofs.WorkLemmas.{index-of, row-of, working-first}

-- ---- the value of an entry

abbrev pub value_in : Table → SqlIndex → List Value → List ℕ
value_in t i row = if i.unique then row_text (columns_of row t.key) else []

pub value-told : (t : Table) (i : SqlIndex) (row : List Value) → (entry_written t row i).value ≡ Some (value_in t i row)
value-told t i row = by-test i.unique _ _ (row_text (columns_of row t.key)) [] refl refl
  where
    by-test : (b : Bool) (x y : Written) (v w : List ℕ) → x.value ≡ Some v → y.value ≡ Some w → (if b then x else y).value ≡ Some (if b then v else w)
    by-test true x y v w p q = p
    by-test false x y v w p q = q

-- ---- what is written at an entry's key, and the row that has it

-- the entry of a row of the statement
abbrev pub IsHeld : Table → SqlIndex → List ℕ → Option StoredRow → Type 0
IsHeld t i text found = (s : StoredRow) × (found ≡ Some s) × (s.tx ≡ 0) × (text ≡ value_in t i s.row)

abbrev pub HeldOver : Table → SqlIndex → List StoredRow → List ℕ → Option StoredRow → Option (Option (List ℕ)) → Type 0
HeldOver t i stood key found there = MatchOption there (found ≡ holder t i key stood) (λ value. MatchOption value (found ≡ None) (λ text. IsHeld t i text found))

abbrev pub KeysApart : Table → StoredRow → StoredRow → Type 0
KeysApart t a b = key_of t a.row ≢ key_of t b.row

abbrev pub EntriesApart : Table → SqlIndex → StoredRow → StoredRow → Type 0
EntriesApart t i a b = key_in t i a.row ≢ key_in t i b.row

abbrev pub IsRowOfKinds : Table → StoredRow → Type 0
IsRowOfKinds t s = AreOfKinds (kinds_of t) s.row

-- these are the rows behind what is written over those that stood
pub record IsRewritten (t : Table) (indexes : List SqlIndex) (stood : List StoredRow) (written : List Written) (rows : List StoredRow) : Type 0 where
  pub row : (key : List Value) → IsRowOver t stood written (key_of t key) (stored_at t rows (key_of t key))
  pub entry : (i : SqlIndex) (row : List Value) → IsAmong indexes i → HeldOver t i stood (key_in t i row) (holder t i (key_in t i row) rows) (written_at written (key_in t i row))
  -- no two rows have one primary key, nor one key in an index
  pub apart : AllPairs (KeysApart t) rows
  pub alone : (i : SqlIndex) → IsAmong indexes i → AllPairs (EntriesApart t i) rows
  pub kinds : AllByRecursion (IsRowOfKinds t) rows
  -- an entry whose key holds the primary key is written with the row alone
  pub own : (i : SqlIndex) (row : List Value) → IsAmong indexes i → i.unique ≡ false → AreOfKinds (kinds_of t) row → written_at written (key_in t i row) ≢ None → written_at written (key_of t row) ≢ None

-- ---- before the first row

pub rewritten-first : (history : List Transaction) (t : Table) (indexes : List SqlIndex) (rows : List StoredRow) → IsSqlSound history → IsTableOf history t → IndexesAre history t indexes → RowsAre history t rows
    → IsRewritten t indexes rows [] rows
rewritten-first history t indexes rows sound of are all =
    let first = working-first history t indexes rows sound of are all in
    record {
      row = λ key. refl;
      entry = λ i row m. refl;
      apart = first.apart;
      alone = λ i m j k d less l same.
          first.apart j k d less l
          (row-alone history t i (get_or rows j d).row (get_or rows k d).row sound (index-of history t indexes i of are m) (row-of history t rows j d of all (omega (arith, less, l))) (row-of history t rows k d of all l) same);
      kinds = recursion_from_All (IsRowOfKinds t) rows (λ k d l. (row-of history t rows k d of all l).1);
      own = λ i row m plain kinds there. there;
    }

-- ---- no other row has an entry of a row that is judged

and-none : (a b : Bool) → b ≡ false → (a && b) ≡ false
and-none true b e = e
and-none false b e = refl

pub plain-free : (t : Table) (i : SqlIndex) (row : List Value) (rows : List StoredRow) → IsTable t → IsTableIndex t i → i.unique ≡ false → AreOfKinds (kinds_of t) row → AllByRecursion (IsRowOfKinds t) rows
    → row_met t i row rows ≡ None
plain-free t i row rows is index plain own all =
    none-found (λ s. bytes_eq (entry_written t s.row i).key (entry_written t row i).key && not (bytes_eq (key_of t s.row) (key_of t row))) rows (each rows all)
  where
    one : (s : StoredRow) → IsRowOfKinds t s → (bytes_eq (key_in t i s.row) (key_in t i row) && not (bytes_eq (key_of t s.row) (key_of t row))) ≡ false
    one s kinds = elim (cases_Bool (bytes_eq (key_in t i s.row) (key_in t i row))) [
      | inl same ↦ (
          let key : key_of t s.row ≡ key_of t row = plain-alone t i s.row row is index plain kinds own ((bytes_eq-Decides (key_in t i s.row) (key_in t i row)).0 same) in
          and-none (bytes_eq (key_in t i s.row) (key_in t i row)) (not (bytes_eq (key_of t s.row) (key_of t row))) (ap not ((bytes_eq-Decides (key_of t s.row) (key_of t row)).1 key)))
      | inr differs ↦ ap (λ (b : Bool). b && not (bytes_eq (key_of t s.row) (key_of t row))) differs
    ]

    each : (ss : List StoredRow) → AllByRecursion (IsRowOfKinds t) ss → AllByRecursion (λ (s : StoredRow). (bytes_eq (key_in t i s.row) (key_in t i row) && not (bytes_eq (key_of t s.row) (key_of t row))) ≡ false) ss
    each [] kinds = tt
    each (s ∷ ss) kinds = (one s kinds.0, each ss kinds.1)

-- ---- behind a row that is written

held-either : (t : Table) (i : SqlIndex) (stood : List StoredRow) (key : List ℕ) (found : Option StoredRow) (b : Bool) (value : Option (List ℕ)) (rest : Option (Option (List ℕ)))
    → (b ≡ true → HeldOver t i stood key found (Some value)) → (b ≡ false → HeldOver t i stood key found rest) → HeldOver t i stood key found (either b value rest)
held-either t i stood key found true value rest own other = own refl
held-either t i stood key found false value rest own other = other refl

held-over : (t : Table) (indexes : List SqlIndex) (stood rows : List StoredRow) (written : List Written) (row other : List Value) (there : Option StoredRow) (i : SqlIndex)
    → AreNumbered t indexes → IsAmong indexes i → IsFree t indexes row rows i → IsRewritten t indexes stood written rows → stored_at t rows (key_of t row) ≡ there
    → HeldOver t i stood (key_in t i other) (holder t i (key_in t i other) (rows_with t (record { row = row; tx = 0 }) rows))
    (written_at (put_all (all_written t indexes row) (put_all (dropped t indexes there) written)) (key_in t i other))
held-over t indexes stood rows written row other there i numbered m free re found =
    let key : List ℕ = key_in t i other in
    let held : Option StoredRow = holder t i key (rows_with t (record { row = row; tx = 0 }) rows) in
    let before : List Written = put_all (dropped t indexes there) written in
    subst (HeldOver t i stood key held) (sym (at-written t indexes i row other before numbered m))
    (held-either t i stood key held (bytes_eq key (key_in t i row)) (entry_written t row i).value (written_at before key)
    (λ own.
    subst (λ (value : Option (List ℕ)). HeldOver t i stood key held (Some value)) (sym (value-told t i row))
    (record { row = row; tx = 0 }, holder-own t indexes row rows i key free ((bytes_eq-Decides key (key_in t i row)).0 own), refl, refl))
    (λ differs. behind there found differs))
  where
    behind : (o : Option StoredRow) → stored_at t rows (key_of t row) ≡ o → bytes_eq (key_in t i other) (key_in t i row) ≡ false
        → HeldOver t i stood (key_in t i other) (holder t i (key_in t i other) (rows_with t (record { row = row; tx = 0 }) rows)) (written_at (put_all (dropped t indexes o) written) (key_in t i other))
    behind None none differs =
        subst (λ (f : Option StoredRow). HeldOver t i stood (key_in t i other) f (written_at written (key_in t i other)))
        (sym (holder-past t indexes row rows i (key_in t i other) differs ∙ left-all t indexes row rows i (key_in t i other) none)) (re.entry i other m)
    behind (Some old) is differs =
        subst (HeldOver t i stood (key_in t i other) (holder t i (key_in t i other) (rows_with t (record { row = row; tx = 0 }) rows))) (sym (at-dropped t indexes i old other written numbered m))
        (held-either t i stood (key_in t i other) (holder t i (key_in t i other) (rows_with t (record { row = row; tx = 0 }) rows)) (bytes_eq (key_in t i other) (key_in t i old.row)) None
        (written_at written (key_in t i other))
        (λ own. holder-past t indexes row rows i (key_in t i other) differs ∙ gone-old t indexes row rows i (key_in t i other) old (re.alone i m) is own)
        (λ apart. subst (λ (f : Option StoredRow). HeldOver t i stood (key_in t i other) f (written_at written (key_in t i other)))
        (sym (holder-past t indexes row rows i (key_in t i other) differs ∙ left-old t indexes row rows i (key_in t i other) old re.apart is apart)) (re.entry i other m)))

-- what is written at a key stays written
some-either : (b : Bool) (value : Option (List ℕ)) (rest : Option (Option (List ℕ))) → (b ≡ true) → either b value rest ≢ None
some-either true value rest e none = (let no : ⊥ = cc in no)
some-either false value rest e none = true≢false (sym e)

rest-either : (b : Bool) (value : Option (List ℕ)) (rest : Option (Option (List ℕ))) → rest ≢ None → either b value rest ≢ None
rest-either true value rest some none = (let no : ⊥ = cc in no)
rest-either false value rest some none = some none

either-some : (b : Bool) (value : Option (List ℕ)) (rest : Option (Option (List ℕ))) (P : Type 0) → (b ≡ true → P) → (rest ≢ None → P) → either b value rest ≢ None → P
either-some true value rest P own other some = own refl
either-some false value rest P own other some = other some

abbrev Stays : Table → List Written → List Value → List Value → Type 0
Stays t written row other = either (bytes_eq (key_of t other) (key_of t row)) (row_written t row).value (written_at written (key_of t other)) ≢ None

own-over : (t : Table) (indexes : List SqlIndex) (stood rows : List StoredRow) (written : List Written) (row other : List Value) (there : Option StoredRow) (i : SqlIndex)
    → IsTable t → IsTableIndex t i → AreNumbered t indexes → IsAmong indexes i → i.unique ≡ false → AreOfKinds (kinds_of t) row → AreOfKinds (kinds_of t) other → IsRewritten t indexes stood written rows
    → stored_at t rows (key_of t row) ≡ there → written_at (put_all (all_written t indexes row) (put_all (dropped t indexes there) written)) (key_in t i other) ≢ None
    → written_at (put_all (all_written t indexes row) (put_all (dropped t indexes there) written)) (key_of t other) ≢ None
own-over t indexes stood rows written row other there i is index numbered m plain kinds mine re found some =
    subst (λ (o : Option (Option (List ℕ))). o ≢ None) (sym (row-put t indexes row other there written))
    (either-some (bytes_eq (key_in t i other) (key_in t i row)) (entry_written t row i).value (written_at (put_all (dropped t indexes there) written) (key_in t i other)) (Stays t written row other)
    (λ same. own (plain-alone t i other row is index plain mine kinds ((bytes_eq-Decides (key_in t i other) (key_in t i row)).0 same)))
    (λ rest. behind there found rest)
    (subst (λ (o : Option (Option (List ℕ))). o ≢ None) (at-written t indexes i row other (put_all (dropped t indexes there) written) numbered m) some))
  where
    own : key_of t other ≡ key_of t row → Stays t written row other
    own same = some-either (bytes_eq (key_of t other) (key_of t row)) (row_written t row).value (written_at written (key_of t other)) ((bytes_eq-Decides (key_of t other) (key_of t row)).1 same)

    before : written_at written (key_in t i other) ≢ None → Stays t written row other
    before there = rest-either (bytes_eq (key_of t other) (key_of t row)) (row_written t row).value (written_at written (key_of t other)) (re.own i other m plain mine there)

    behind : (o : Option StoredRow) → stored_at t rows (key_of t row) ≡ o → written_at (put_all (dropped t indexes o) written) (key_in t i other) ≢ None → Stays t written row other
    behind None none there = before there
    behind (Some old) at there =
        either-some (bytes_eq (key_in t i other) (key_in t i old.row)) None (written_at written (key_in t i other)) (Stays t written row other)
        (λ same.
        let here = find-some (λ (s : StoredRow). bytes_eq (key_of t s.row) (key_of t row)) rows old at in
        let old_kinds : IsRowOfKinds t old = among-all rows re.kinds old here.0 in
        own (plain-alone t i other old.row is index plain mine old_kinds ((bytes_eq-Decides (key_in t i other) (key_in t i old.row)).0 same) ∙ (bytes_eq-Decides (key_of t old.row) (key_of t row)).0 here.1))
        before
        (subst (λ (o : Option (Option (List ℕ))). o ≢ None) (at-dropped t indexes i old other written numbered m) there)
      where
        among-all : (ss : List StoredRow) → AllByRecursion (IsRowOfKinds t) ss → (s : StoredRow) → IsAmong ss s → IsRowOfKinds t s
        among-all ss all s q = All-among (IsRowOfKinds t) ss s (All-from_recursion (IsRowOfKinds t) ss all) q

pub rewritten-next : (t : Table) (indexes : List SqlIndex) (stood rows : List StoredRow) (written : List Written) (row : List Value) → IsTable t → ((i : SqlIndex) → IsAmong indexes i → IsTableIndex t i)
    → AreNumbered t indexes → AreOfKinds (kinds_of t) row → ((i : SqlIndex) → IsAmong indexes i → row_met t i row rows ≡ None) → IsRewritten t indexes stood written rows
    → IsRewritten t indexes stood (put_all (all_written t indexes row) (put_all (dropped t indexes (stored_at t rows (key_of t row))) written)) (rows_with t (record { row = row; tx = 0 }) rows)
rewritten-next t indexes stood rows written row is formed numbered kinds free re = record {
  row = λ key. row-over t indexes stood rows written row key (stored_at t rows (key_of t row)) kinds (re.row key);
  entry = λ i other m. held-over t indexes stood rows written row other (stored_at t rows (key_of t row)) i numbered m (free i m) re refl;
  apart = keys-apart t indexes row rows re.apart;
  alone = λ i m. entries-apart t indexes row rows i (free i m) (re.alone i m);
  kinds = all-put (λ a b. octets_cmp (key_of t a.row) (key_of t b.row)) (IsRowOfKinds t) (record { row = row; tx = 0 }) (rows_without t (key_of t row) rows) kinds
      (all-kept (IsRowOfKinds t) (λ s. not (bytes_eq (key_of t s.row) (key_of t row))) rows re.kinds);
  own = λ i other m plain mine some. own-over t indexes stood rows written row other (stored_at t rows (key_of t row)) i is (formed i m) numbered m plain kinds mine re refl some;
}
