use Rattle.std.proofs.Common.{subst, sym}
use Rattle.std.proofs.lemmas.Result.{on_ok_weaker}
use Rattle.std.specs.Prelude.{OnOk}
use Rattle.im_carried.specs.Hashed.{dual_strings}
use Rattle.im_wire.specs.declared.messages.Message.{Message}
use Rattle.im_hashed.specs.Added.{AddsStrings}
use Rattle.im_hashed.specs.Messages.{anchor_strings, item_strings, message_strings}
use Rattle.im_hashed.proofs.AddLemmas.{adds-then}
use Rattle.im_hashed.proofs.messages.add_message.Goals as goal

pub returns-in-Dual : goal.returns-in-Dual
returns-in-Dual g c =
    subst (λ (m : Message). OnOk c.add_dual.result (AddsStrings c.args.out.now.items c.add_dual.new.out.items (message_strings (g.H.Hash32.digest c.args.hash.now) m))) (sym c.in-Dual.is)
    c.add_dual.ensures

pub returns-in_ok-add_dual-in-Advance : goal.returns-in_ok-add_dual-in-Advance
returns-in_ok-add_dual-in-Advance g c =
    subst (λ (m : Message). OnOk c.add_anchor.result (AddsStrings c.args.out.now.items c.add_anchor.new.out.items (message_strings (g.H.Hash32.digest c.args.hash.now) m))) (sym c.in-Advance.is)
    (on_ok_weaker c.add_anchor.result
    (adds-then c.args.out.now.items c.add_dual-in-Advance.new.out.items c.add_anchor.new.out.items (dual_strings (g.H.Hash32.digest c.args.hash.now) c.in-Advance.dual) (anchor_strings (g.H.Hash32.digest c.args.hash.now) c.in-Advance.anchor)
    c.in_ok-add_dual-in-Advance.ensures) c.add_anchor.ensures)

pub returns-in_ok-add_dual-in-Item : goal.returns-in_ok-add_dual-in-Item
returns-in_ok-add_dual-in-Item g c =
    subst (λ (m : Message). OnOk c.add_item.result (AddsStrings c.args.out.now.items c.add_item.new.out.items (message_strings (g.H.Hash32.digest c.args.hash.now) m))) (sym c.in-Item.is)
    (on_ok_weaker c.add_item.result
    (adds-then c.args.out.now.items c.add_dual-in-Item.new.out.items c.add_item.new.out.items (dual_strings (g.H.Hash32.digest c.args.hash.now) c.in-Item.dual)
    (item_strings (g.H.Hash32.digest c.args.hash.now) c.in-Item.entry c.in-Item.index c.in-Item.dual.source.nentries c.in-Item.path)
    c.in_ok-add_dual-in-Item.ensures)
    (subst (λ l. OnOk c.add_item.result (AddsStrings c.add_dual-in-Item.new.out.items c.add_item.new.out.items (item_strings (g.H.Hash32.digest c.args.hash.now) c.in-Item.entry c.in-Item.index c.in-Item.dual.source.nentries l))) c.as_slice.ensures c.add_item.ensures))
