use Rattle.std.proofs.Common.{◌≡◌, List, ℕ, Bool, true, None, take, sym, ap, subst, if◌then◌else◌, ◌∙◌}
use Rattle.std.specs.Option.{option_map}
use Rattle.im_sqlmodel.specs.Writes.{row_met, entry_number}
use Rattle.im_sqlmodel.specs.declared.written.Written.{Written}
use Rattle.im_sql.specs.Entries.{IsEntryThere, number_met}
use Rattle.im_sql.proofs.LookLemmas.{met-is}
use Rattle.im_sql.proofs.working.entry_met.Goals as goal

pub entry_there-requires : goal.entry_there-requires
entry_there-requires g c = let r = c.requires in (r.0, r.1, r.2)

pub returns : goal.returns
returns g c = λ history stands few sound of indexes stood rows are m all working.
    let h = take c.args.n history in
    let t = c.args.table.now in
    let i = c.args.index.now in
    let row = c.args.row.now in
    let unique : i.unique ≡ true = c.if-not-index.false in
    let found = c.in_ok-found.found in
    let key = c.as_slice.ensures ∙ ap (λ (w : Written). w.key) c.in_ok-own.ensures in
    let there = subst (λ (k : List ℕ). IsEntryThere h c.args.writes.now k found) key (c.in_ok-found.ensures history stands few) in
    c.number_met-met.ensures ∙ ap (λ (w : Written). number_met found w.value) c.in_ok-own.ensures
    ∙ met-is h t indexes i stood rows c.args.writes.now row found sound of are m unique all working there
    ∙ sym (ap (λ (b : Bool). if b then option_map (entry_number h t i) (row_met t i row rows) else None) unique)
