use Rattle.std.proofs.Common.{ℕ, List, ◌≡◌, MatchOption, subst, sym}
use Rattle.im_sqlmodel.specs.Tables.{numbers_text}
use Rattle.im_sqlmodel.specs.declared.tables.Column.{Column}
use Rattle.im_catalog.specs.Fronts.{StandsFirst, NoneStandsFirst, AreMany}
use Rattle.im_catalog.specs.Parts.{IsColumn, columns_text, AreColumnNumbers, HasNoNumbers, HasParts}
use Rattle.im_catalog.proofs.TableLemmas.{parts-none_without_tid, parts-none_without_count, parts-none_without_columns, parts-none_without_key, parts-stand}
use Rattle.im_catalog.proofs.reading.read_parts.Goals as goal

pub returns-in_default : goal.returns-in_default
returns-in_default c = parts-none_without_tid c.args.text.now c.in_default.ensures

pub returns-in_default-read_number : goal.returns-in_default-read_number
returns-in_default-read_number c =
    parts-none_without_count c.args.text.now c.in-Some.behind_tid.now c.in-Some.tid c.in-Some.ensures c.in_default-read_number.ensures

pub returns-in_default-2 : goal.returns-in_default-2
returns-in_default-2 c =
    let behind = c.in-Some-read_number.behind.now in
    let count = c.in-Some-read_number.count in
    parts-none_without_columns c.args.text.now c.in-Some.behind_tid.now behind c.in-Some.tid count c.in-Some.ensures c.in-Some-read_number.ensures
    (subst (λ found. MatchOption found (NoneStandsFirst (AreMany IsColumn count) columns_text behind) (λ front. StandsFirst (AreMany IsColumn count) columns_text behind front.0.items front.1.now)) c.in_default-2.is c.in_ok-columns.ensures)

pub returns-in_default-3 : goal.returns-in_default-3
returns-in_default-3 c =
    let behind = c.in-Some-read_number.behind.now in
    let left = c.in-Some-2.left.now in
    let count = c.in-Some-read_number.count in
    parts-none_without_key c.args.text.now c.in-Some.behind_tid.now behind left c.in-Some.tid count c.in-Some-2.columns.items c.in-Some.ensures c.in-Some-read_number.ensures
    (subst (λ found. MatchOption found (NoneStandsFirst (AreMany IsColumn count) columns_text behind) (λ front. StandsFirst (AreMany IsColumn count) columns_text behind front.0.items front.1.now)) c.in-Some-2.is c.in_ok-columns.ensures)
    (subst (λ found. MatchOption found (HasNoNumbers left) (λ numbers. AreColumnNumbers numbers × (left ≡ numbers_text numbers))) c.in_default-3.is c.in_ok-key.ensures)

pub returns : goal.returns
returns c =
    let text = c.args.text.now in
    let behind = c.in-Some-read_number.behind.now in
    let left = c.in-Some-2.left.now in
    let tid = c.in-Some.tid in
    let count = c.in-Some-read_number.count in
    let key = c.in-Some-3.key in
    subst (λ (name : List ℕ). HasParts c.args.name.now text (record { tid = tid; name = name; columns = c.from_vec.result; key = key })) (sym c.in_ok-name.ensures)
    (subst (λ (columns : List Column). HasParts c.args.name.now text (record { tid = tid; name = c.args.name.now; columns = columns; key = key })) (sym c.from_vec.ensures)
    (parts-stand text c.in-Some.behind_tid.now behind left c.args.name.now key tid count c.in-Some-2.columns.items c.in-Some.ensures c.in-Some-read_number.ensures
    (subst (λ found. MatchOption found (NoneStandsFirst (AreMany IsColumn count) columns_text behind) (λ front. StandsFirst (AreMany IsColumn count) columns_text behind front.0.items front.1.now)) c.in-Some-2.is c.in_ok-columns.ensures)
    (subst (λ found. MatchOption found (HasNoNumbers left) (λ numbers. AreColumnNumbers numbers × (left ≡ numbers_text numbers))) c.in-Some-3.is c.in_ok-key.ensures)))
