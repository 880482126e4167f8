use Rattle.std.proofs.Common.{◌≡◌, ◌≤◌, [], List, length, sym, subst, arith}
use Rattle.std.proofs.lemmas.List.{take_all}
use Rattle.im_hashed.specs.Messages.{HoldSame, strings_of}
use Rattle.im_hashed.proofs.AddLemmas.{same-same}
use Rattle.im_hashed.proofs.MessageLemmas.{messages-more, messages-next, proofs-at}
use Rattle.im_wire.specs.declared.messages.Message.{Message}
use Rattle.im_facts.proofs.NoteLemmas.{are-long, noted-at}
use Rattle.im_facts.proofs.noted.hashed.Goals as goal

pub loop-note-init : goal.loop-note-init
loop-note-init g c = λ messages are. subst (λ l. HoldSame l []) (sym c.new-out.ensures.items) (same-same [])

pub add_noted-requires : goal.add_noted-requires
add_noted-requires g c =
    let messages : List Message = c.requires.notes.0 in
    let at = noted-at c.args.notes.now messages c.loop-note.note-index c.note-item.result c.requires.notes.1 c.loop-note-test.true c.note-item.is in
    (at.message, at.is, proofs-at (g.H.Hash32.digest c.args.hash.now) messages c.loop-note.note-index at.message at.within at.at c.requires.notes.2)

pub loop-note-preserved : goal.loop-note-preserved
loop-note-preserved g c = λ messages are.
    let at = noted-at c.args.notes.now messages c.loop-note.note-index c.note-item.result are c.loop-note-test.true c.note-item.is in
    messages-next (g.H.Hash32.digest c.args.hash.now) messages c.loop-note.note-index at.message c.loop-note.out.items c.add_noted.new.out.items at.within at.at
    (c.loop-note.invariant messages are) (c.in_ok-add_noted.ensures at.message at.is)

pub returns : goal.returns
returns g c = λ messages are.
    let same : length c.args.notes.now ≡ length messages = are-long c.args.notes.now messages are in
    let all : length messages ≤ c.loop-note.note-index = omega (arith, same, c.loop-note-test.false) in
    messages-more (g.H.Hash32.digest c.args.hash.now) messages c.args.message.now c.loop-note.out.items c.add_message.new.out.items
    (subst (λ l. HoldSame c.loop-note.out.items (strings_of (g.H.Hash32.digest c.args.hash.now) l)) (take_all c.loop-note.note-index messages all) (c.loop-note.invariant messages are))
    c.in_ok-add_message.ensures
