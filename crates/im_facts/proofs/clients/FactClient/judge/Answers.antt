use Rattle.std.proofs.Common.{rules}
use Rattle.im_facts.specs.Accepted.{Passes}
use Rattle.im_facts.specs.Keeping.{known_of}
use Rattle.im_facts.proofs.JudgeLemmas.{judged-accepted, judged-forked, judged-refused, news-any}
use Rattle.im_facts.proofs.NoteLemmas.{led-rises}
use Rattle.im_facts.proofs.clients.FactClient.judge.Goals as goal

pub agrees-requires : goal.agrees-requires
agrees-requires g c = led-rises (g.H.Hash32.digest c.args.self.now.hash) c.args.self.now.kept c.requires.led

pub news-requires : goal.news-requires
news-requires g c = led-rises (g.H.Hash32.digest c.args.self.now.hash) c.args.self.now.kept c.requires.led

pub pair_with-requires-clause-differs : goal.pair_with-requires-clause-differs
pair_with-requires-clause-differs g c = c.agrees.ensures.no c.if-agrees.false

pub returns-in-Err : goal.returns-in-Err
returns-in-Err g c = λ messages are.
    judged-refused (g.H.Hash32.digest c.args.self.now.hash) (known_of c.args.self.now.kept messages) c.args.message.now c.in-Err.fault (search rules)

pub returns-then-agrees : goal.returns-then-agrees
returns-then-agrees g c = λ messages are.
    let hash = g.H.Hash32.digest c.args.self.now.hash in
    let passes : Passes hash (known_of c.args.self.now.kept messages) c.args.message.now = search rules in
    judged-accepted hash (known_of c.args.self.now.kept messages) c.args.message.now c.shown_by-shown.result c.in_ok-copies.copies
    (record { passes = passes; agrees = c.agrees.ensures.yes c.if-agrees.true messages }) c.shown_by-shown.ensures
    (news-any c.args.self.now.kept messages c.args.message.now c.in_ok-copies.copies c.in_ok-copies.ensures)

pub returns : goal.returns
returns g c = λ messages are.
    let hash = g.H.Hash32.digest c.args.self.now.hash in
    let passes : Passes hash (known_of c.args.self.now.kept messages) c.args.message.now = search rules in
    judged-forked hash (known_of c.args.self.now.kept messages) c.args.message.now c.in_ok-pair.pair.x c.in_ok-pair.pair.y
    (record { passes = passes; differs = c.agrees.ensures.no c.if-agrees.false messages; pair = c.in_ok-pair.ensures messages are })
