use Rattle.im_facts.specs.Keeping.{known_of}
use Rattle.im_facts.proofs.JudgeLemmas.{end-adds, end-led, end-puts, end-stays}
use Rattle.im_facts.proofs.NoteLemmas.{led-rises}
use Rattle.im_facts.proofs.clients.FactClient.end_told.Goals as goal

pub put_told-requires : goal.put_told-requires
put_told-requires g c = led-rises (g.H.Hash32.digest c.args.self.now.hash) c.args.self.now.kept c.requires.led

pub returns-in_default-clause-taken : goal.returns-in_default-clause-taken
returns-in_default-clause-taken g c = λ messages are. (c.requires.judged messages are).taken

pub returns-in_default-clause-keeps : goal.returns-in_default-clause-keeps
returns-in_default-clause-keeps g c = λ messages are.
    end-stays (g.H.Hash32.digest c.args.self.now.hash) c.args.self.now.kept messages c.args.message c.args.judged c.in_default.is are (c.requires.judged messages are)

pub returns-in-Ok-clause-taken : goal.returns-in-Ok-clause-taken
returns-in-Ok-clause-taken g c = λ messages are. (c.requires.judged messages are).taken

pub returns-in-Ok-clause-keeps : goal.returns-in-Ok-clause-keeps
returns-in-Ok-clause-keeps g c = λ messages are.
    let hash = g.H.Hash32.digest c.args.self.now.hash in
    let known = known_of c.args.self.now.kept messages in
    let is = c.requires.judged messages are in
    let added = end-adds hash known c.args.message c.args.judged c.in-Some.copies c.in-Some.is is in
    end-puts hash c.put_told.new.self.kept known c.args.message c.args.judged c.in-Some.copies c.in-Some.is is
    (c.in-Ok.ensures.ok messages are added.are)

pub returns-in-Ok-clause-led : goal.returns-in-Ok-clause-led
returns-in-Ok-clause-led g c =
    let hash = g.H.Hash32.digest c.args.self.now.hash in
    let led = c.requires.led in
    let messages = led.0.messages in
    let known = known_of c.args.self.now.kept messages in
    let is = c.requires.judged messages led.1.notes in
    let added = end-adds hash known c.args.message c.args.judged c.in-Some.copies c.in-Some.is is in
    rw c.in-Ok.ensures.hash
    (end-led hash c.args.self.now.kept c.put_told.new.self.kept messages c.args.message c.args.judged c.in-Some.copies c.in-Some.is led led.1.notes c.requires.fits is
    (c.in-Ok.ensures.ok messages led.1.notes added.are))
