use Rattle.std.proofs.Common.{◌≡◌, ◌∙◌, subst, sym}
use Rattle.std.proofs.lemmas.Result.{on_ok_weaker}
use Rattle.im_hashed.specs.Added.{AddsStrings}
use Rattle.im_hashed.specs.Messages.{ProofsHold, message_strings}
use Rattle.im_wire.specs.declared.messages.Message.{Message}
use Rattle.im_facts.specs.Keeping.{IsOf}
use Rattle.im_facts.specs.declared.notes.Note.{Note}
use Rattle.im_facts.proofs.noted.add_noted.Goals as goal

pub add_message-requires : goal.add_message-requires
add_message-requires g c =
    let m : Message = c.requires.0 in
    let same : c.in-Told.message.value ≡ m = subst (λ (n : Note). IsOf n m) c.in-Told.is c.requires.1 in
    subst (ProofsHold (g.H.Hash32.digest c.args.hash.now)) (sym (c.deref.ensures ∙ same)) c.requires.2

pub add_said-requires : goal.add_said-requires
add_said-requires g c = (c.requires.0, subst (λ (n : Note). IsOf n c.requires.0) c.in-Line.is c.requires.1, c.requires.2)

pub returns-in-Told : goal.returns-in-Told
returns-in-Told g c = on_ok_weaker c.add_message.result (λ adds m is.
    subst (λ (x : Message). AddsStrings c.args.out.now.items c.add_message.new.out.items (message_strings (g.H.Hash32.digest c.args.hash.now) x))
    (c.deref.ensures ∙ subst (λ (n : Note). IsOf n m) c.in-Told.is is) adds) c.add_message.ensures

pub returns-in-Line : goal.returns-in-Line
returns-in-Line g c = on_ok_weaker c.add_said.result (λ adds m is. adds m (subst (λ (n : Note). IsOf n m) c.in-Line.is is)) c.add_said.ensures
