use Rattle.std.proofs.Common.{subst, sym}
use Rattle.std.proofs.lemmas.Result.{on_ok_weaker}
use Rattle.im_hashed.specs.Added.{AddsStrings}
use Rattle.im_hashed.specs.Messages.{ProofsHold, message_strings}
use Rattle.im_wire.specs.declared.messages.Message.{Message}
use Rattle.im_facts.proofs.noted.add_said.Goals as goal

pub message_again-requires : goal.message_again-requires
message_again-requires g c = (c.requires.0, c.requires.1)

pub add_message-added-requires : goal.add_message-added-requires
add_message-added-requires g c =
    subst (ProofsHold (g.H.Hash32.digest c.args.hash.now)) (sym (c.in_ok-message.ensures c.requires.0 c.requires.1)) c.requires.2

pub returns : goal.returns
returns g c = on_ok_weaker c.add_message-added.result (λ adds m is.
    subst (λ (x : Message). AddsStrings c.args.out.now.items c.add_message-added.new.out.items (message_strings (g.H.Hash32.digest c.args.hash.now) x))
    (c.in_ok-message.ensures m is) adds) c.add_message-added.ensures
