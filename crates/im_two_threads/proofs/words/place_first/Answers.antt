use Rattle.std.proofs.Common.{◌+◌, List, length, map, ap, sym, subst, ◌∙◌}
use Rattle.im_format.specs.Places.{AreAppended}
use Rattle.im_format.specs.declared.references.ValueRef.{ValueRef}
use Rattle.im_model.specs.declared.entries.Entry.{Entry}
use Rattle.im_table.specs.References.{references_of}
use Rattle.im_two_threads.proofs.words.place_first.Goals as goal

-- a transaction without values
pub store_placed-requires-clause-laid : goal.store_placed-requires-clause-laid
store_placed-requires-clause-laid c =
    let seen = c.args.pass.view.seen in
    subst (λ (refs : List ValueRef). AreAppended c.args.tip.now.logs (length seen + 1) 0 (references_of seen) refs) (sym c.requires.item.2) tt

-- and so without references
pub store_placed-requires-clause-sized : goal.store_placed-requires-clause-sized
store_placed-requires-clause-sized c =
    ap (λ (refs : List ValueRef). map (λ ref. ref.len) refs) c.requires.item.2
    ∙ sym (ap (λ (entries : List Entry). map (λ entry. length entry.value) entries) c.requires.item.1)
