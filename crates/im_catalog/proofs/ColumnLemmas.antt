-- Columns, lists of numbers, and tables, at the front of a text.
use Rattle.std.proofs.Common.{◌≡◌, ◌<◌, ◌^◌, ◌+◌, ℕ, Bool, List, ◌++◌, length, refl, sym, ap, ◌∙◌, subst, append_assoc}
use Rattle.im_octet.specs.Fields.{field2}
use Rattle.im_sqltype.specs.declared.columns.ColumnType.{ColumnType}
use Rattle.im_sqlparse.specs.Formed.{IsName}
use Rattle.im_sqlmodel.specs.Tables.{IsTyped, column_text, numbers_text}
use Rattle.im_sqlmodel.specs.declared.tables.Column.{Column}
use Rattle.im_catalog.specs.Fronts.{StandsFirst, NoneStandsFirst, AreMany}
use Rattle.im_catalog.specs.Parts.{IsFlag, flag_text, FitsTwo, AreColumnNumbers, name_text, held_text, IsColumn, fields_text}
use Rattle.im_catalog.proofs.CutLemmas.{Cuts, many-cut}
use Rattle.im_catalog.proofs.PartLemmas.{name-cut, held-cut, flag-cut, number-cut}

-- ---- columns

-- a column's text is those of its name, its type and its flag
column-parts : (c : Column) (rest : List ℕ) → column_text c ++ rest ≡ name_text c.name ++ (held_text c.holds ++ (flag_text c.not_null ++ rest))
column-parts c rest =
    append_assoc (name_text c.name ++ held_text c.holds) (flag_text c.not_null) rest
    ∙ append_assoc (name_text c.name) (held_text c.holds) (flag_text c.not_null ++ rest)

pub column-none_without_name : (text : List ℕ) → NoneStandsFirst IsName name_text text → NoneStandsFirst IsColumn column_text text
column-none_without_name text absent = record {
  none = λ c rest p e. absent.none c.name (held_text c.holds ++ (flag_text c.not_null ++ rest)) p.0 (e ∙ column-parts c rest);
}

behind-name : (text name more rest : List ℕ) (c : Column) → StandsFirst IsName name_text text name more → IsColumn c → text ≡ column_text c ++ rest
    → (name ≡ c.name) × (more ≡ held_text c.holds ++ (flag_text c.not_null ++ rest))
behind-name text name more rest c stands p e =
    name-cut name c.name more (held_text c.holds ++ (flag_text c.not_null ++ rest)) stands.is p.0 (sym stands.split ∙ e ∙ column-parts c rest)

pub column-none_without_type : (text name more : List ℕ) → StandsFirst IsName name_text text name more → NoneStandsFirst IsTyped held_text more
    → NoneStandsFirst IsColumn column_text text
column-none_without_type text name more stands absent = record {
  none = λ c rest p e. absent.none c.holds (flag_text c.not_null ++ rest) p.1 (behind-name text name more rest c stands p e).1;
}

behind-type : (text name more others rest : List ℕ) (holds : ColumnType) (c : Column) → StandsFirst IsName name_text text name more → StandsFirst IsTyped held_text more holds others
    → IsColumn c → text ≡ column_text c ++ rest → (holds ≡ c.holds) × (others ≡ flag_text c.not_null ++ rest)
behind-type text name more others rest holds c stands held p e =
    held-cut holds c.holds others (flag_text c.not_null ++ rest) held.is p.1 (sym held.split ∙ (behind-name text name more rest c stands p e).1)

pub column-none_without_flag : (text name more others : List ℕ) (holds : ColumnType) → StandsFirst IsName name_text text name more → StandsFirst IsTyped held_text more holds others
    → NoneStandsFirst IsFlag flag_text others → NoneStandsFirst IsColumn column_text text
column-none_without_flag text name more others holds stands held absent = record {
  none = λ c rest p e. absent.none c.not_null rest tt (behind-type text name more others rest holds c stands held p e).1;
}

pub column-stands : (text name more others rest : List ℕ) (holds : ColumnType) (flag : Bool) → StandsFirst IsName name_text text name more → StandsFirst IsTyped held_text more holds others
    → StandsFirst IsFlag flag_text others flag rest → StandsFirst IsColumn column_text text (record { name = name; holds = holds; not_null = flag }) rest
column-stands text name more others rest holds flag stands held last = record {
  is = (stands.is, held.is);
  split =
      stands.split ∙ ap (λ s. name_text name ++ s) (held.split ∙ ap (λ s. held_text holds ++ s) last.split)
      ∙ sym (column-parts (record { name = name; holds = holds; not_null = flag }) rest);
}

pub column-cut : Cuts IsColumn column_text
column-cut c d a b p q e =
    let stands : StandsFirst IsName name_text (column_text c ++ a) c.name (held_text c.holds ++ (flag_text c.not_null ++ a)) = record { is = p.0; split = column-parts c a } in
    let held : StandsFirst IsTyped held_text (held_text c.holds ++ (flag_text c.not_null ++ a)) c.holds (flag_text c.not_null ++ a) = record { is = p.1; split = refl } in
    let name = behind-name (column_text c ++ a) c.name (held_text c.holds ++ (flag_text c.not_null ++ a)) b d stands q e in
    let type = behind-type (column_text c ++ a) c.name (held_text c.holds ++ (flag_text c.not_null ++ a)) (flag_text c.not_null ++ a) b c.holds d stands held q e in
    let flag = flag-cut c.not_null d.not_null a b tt tt type.1 in
    (λ i. record { name = name.0 i; holds = type.0 i; not_null = flag.0 i }, flag.1)

pub ruleset columns = (column-none_without_name, column-none_without_type, column-none_without_flag, column-stands)

-- ---- lists of numbers

list-parts : (numbers rest : List ℕ) → numbers_text numbers ++ rest ≡ field2 (length numbers) ++ (fields_text numbers ++ rest)
list-parts numbers rest = append_assoc (field2 (length numbers)) (fields_text numbers) rest

pub list-none_without_count : (text : List ℕ) → NoneStandsFirst FitsTwo field2 text → NoneStandsFirst AreColumnNumbers numbers_text text
list-none_without_count text absent = record {
  none = λ numbers rest p e. absent.none (length numbers) (fields_text numbers ++ rest) p.0 (e ∙ list-parts numbers rest);
}

pub list-none_without_each : (text more : List ℕ) (count : ℕ) → StandsFirst FitsTwo field2 text count more → NoneStandsFirst (AreMany FitsTwo count) fields_text more
    → NoneStandsFirst AreColumnNumbers numbers_text text
list-none_without_each text more count stands absent = record {
  none = λ numbers rest p e.
      let front = number-cut count (length numbers) more (fields_text numbers ++ rest) stands.is p.0 (sym stands.split ∙ e ∙ list-parts numbers rest) in
      absent.none numbers rest (sym front.0, p.1) front.1;
}

pub list-stands : (text more rest : List ℕ) (count : ℕ) (numbers : List ℕ) → StandsFirst FitsTwo field2 text count more → StandsFirst (AreMany FitsTwo count) fields_text more numbers rest
    → StandsFirst AreColumnNumbers numbers_text text numbers rest
list-stands text more rest count numbers stands each = record {
  is = (subst (λ n. n < 2 ^ 16) (sym each.is.0) stands.is, each.is.1);
  split = stands.split ∙ (λ i. field2 (sym each.is.0 i) ++ each.split i) ∙ sym (list-parts numbers rest);
}

pub list-cut : Cuts AreColumnNumbers numbers_text
list-cut xs ys a b p q e =
    let front = number-cut (length xs) (length ys) (fields_text xs ++ a) (fields_text ys ++ b) p.0 q.0 (sym (list-parts xs a) ∙ e ∙ list-parts ys b) in
    many-cut FitsTwo field2 (length ys) number-cut xs ys a b (front.0, p.1) (refl, q.1) front.1

pub ruleset lists = (list-none_without_count, list-none_without_each, list-stands)
