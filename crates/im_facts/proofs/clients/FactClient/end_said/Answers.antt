use Rattle.std.proofs.Common.{subst}
use Rattle.im_wire.specs.declared.messages.Message.{Message}
use Rattle.im_client.proofs.SaysLemmas.{says-one}
use Rattle.im_facts.specs.Folds.{IsTakenAs, known_behind}
use Rattle.im_facts.specs.Judging.{IsJudged}
use Rattle.im_facts.specs.Keeping.{known_of, Knows}
use Rattle.im_facts.specs.declared.notes.Note.TheVariants as noted
use Rattle.im_facts.proofs.JudgeLemmas.{end-adds, end-led, end-puts, end-stays}
use Rattle.im_facts.proofs.NoteLemmas.{led-rises, put-knows}
use Rattle.im_facts.proofs.VerdictSome.{line-fits}
use Rattle.im_facts.proofs.clients.FactClient.end_said.Goals as goal

pub put-requires : goal.put-requires
put-requires g c = led-rises (g.H.Hash32.digest c.args.self.now.hash) c.args.self.now.kept c.requires.led

pub returns-in_default-clause-taken : goal.returns-in_default-clause-taken
returns-in_default-clause-taken g c = λ messages m are says.
    let hash = g.H.Hash32.digest c.args.self.now.hash in
    let known = known_of c.args.self.now.kept messages in
    let judged = c.requires.judged in
    subst (λ (n : Message). IsTakenAs hash known n c.args.judged.taken) (says-one c.args.line.now judged.0 m judged.1 says) (judged.2 messages are).taken

pub returns-in_default-clause-keeps : goal.returns-in_default-clause-keeps
returns-in_default-clause-keeps g c = λ messages m are says.
    let hash = g.H.Hash32.digest c.args.self.now.hash in
    let known = known_of c.args.self.now.kept messages in
    let judged = c.requires.judged in
    subst (λ (n : Message). Knows c.args.self.now.kept (known_behind known n c.args.judged.taken)) (says-one c.args.line.now judged.0 m judged.1 says)
    (end-stays hash c.args.self.now.kept messages judged.0 c.args.judged c.in_default.is are (judged.2 messages are))

pub returns-in-Ok-clause-taken : goal.returns-in-Ok-clause-taken
returns-in-Ok-clause-taken g c = λ messages m are says.
    let hash = g.H.Hash32.digest c.args.self.now.hash in
    let known = known_of c.args.self.now.kept messages in
    let judged = c.requires.judged in
    subst (λ (n : Message). IsTakenAs hash known n c.args.judged.taken) (says-one c.args.line.now judged.0 m judged.1 says) (judged.2 messages are).taken

pub returns-in-Ok-clause-keeps : goal.returns-in-Ok-clause-keeps
returns-in-Ok-clause-keeps g c = λ messages m are says.
    let hash = g.H.Hash32.digest c.args.self.now.hash in
    let kept = c.args.self.now.kept in
    let known = known_of kept messages in
    let judged = c.requires.judged in
    let is : IsJudged hash known m c.args.judged =
    subst (λ (n : Message). IsJudged hash known n c.args.judged) (says-one c.args.line.now judged.0 m judged.1 says) (judged.2 messages are) in
    let added = end-adds hash known m c.args.judged c.in-Some.copies c.in-Some.is is in
    end-puts hash c.put.new.self.kept known m c.args.judged c.in-Some.copies c.in-Some.is is
    (put-knows kept c.put.new.self.kept messages (noted.Line c.args.line) m c.in-Some.copies c.in-Ok.ensures.ok are says added.are)

pub returns-in-Ok-clause-led : goal.returns-in-Ok-clause-led
returns-in-Ok-clause-led g c =
    let hash = g.H.Hash32.digest c.args.self.now.hash in
    let kept = c.args.self.now.kept in
    let led = c.requires.led in
    let judged = c.requires.judged in
    let messages = led.0.messages in
    let known = known_of kept messages in
    let is = judged.2 messages led.1.notes in
    let added = end-adds hash known judged.0 c.args.judged c.in-Some.copies c.in-Some.is is in
    rw c.in-Ok.ensures.hash
    (end-led hash kept c.put.new.self.kept messages judged.0 c.args.judged c.in-Some.copies c.in-Some.is led led.1.notes (line-fits c.args.line.now judged.0 judged.1) is
    (put-knows kept c.put.new.self.kept messages (noted.Line c.args.line) judged.0 c.in-Some.copies c.in-Ok.ensures.ok led.1.notes judged.1 added.are))
