use Rattle.std.proofs.Common.{List, take}
use Rattle.im_hashed.specs.Messages.{HoldSame, strings_of}
use Rattle.im_wire.specs.declared.messages.Message.{Message}
use Rattle.im_facts.specs.Keeping.{AreOf}
use Rattle.im_facts.proofs.noted.hashed.Given as goal

abbrev pub invariant-loop-note : goal.invariant-loop-note
invariant-loop-note g l = (messages : List Message) → AreOf l.notes messages → HoldSame l.out.items (strings_of (g.H.Hash32.digest l.hash) (take l.note-index messages))
