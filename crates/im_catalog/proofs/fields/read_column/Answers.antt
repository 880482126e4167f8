use Rattle.std.proofs.Common.{ℕ, List, subst, sym}
use Rattle.im_sqlmodel.specs.Tables.{column_text}
use Rattle.im_catalog.specs.Fronts.{StandsFirst}
use Rattle.im_catalog.specs.Parts.{IsColumn}
use Rattle.im_catalog.proofs.ColumnLemmas.{column-none_without_name, column-none_without_type, column-none_without_flag, column-stands}
use Rattle.im_catalog.proofs.fields.read_column.Goals as goal

pub returns-in_default : goal.returns-in_default
returns-in_default c = column-none_without_name c.args.text.now c.in_default.ensures

pub returns-in_default-read_held : goal.returns-in_default-read_held
returns-in_default-read_held c =
    column-none_without_type c.args.text.now c.in-Some.name.now c.in-Some.behind_name.now c.in-Some.ensures c.in_default-read_held.ensures

pub returns-in_default-read_flag : goal.returns-in_default-read_flag
returns-in_default-read_flag c =
    column-none_without_flag c.args.text.now c.in-Some.name.now c.in-Some.behind_name.now c.in-Some-read_held.behind.now c.in-Some-read_held.holds
    c.in-Some.ensures c.in-Some-read_held.ensures c.in_default-read_flag.ensures

pub returns : goal.returns
returns c =
    let text = c.args.text.now in
    let holds = c.in-Some-read_held.holds in
    let flag = c.in-Some-read_flag.not_null in
    let rest = c.in-Some-read_flag.rest.now in
    subst (λ (name : List ℕ). StandsFirst IsColumn column_text text (record { name = name; holds = holds; not_null = flag }) rest) (sym c.in_ok-name.ensures)
    (column-stands text c.in-Some.name.now c.in-Some.behind_name.now c.in-Some-read_held.behind.now rest holds flag c.in-Some.ensures c.in-Some-read_held.ensures c.in-Some-read_flag.ensures)
