use Rattle.std.proofs.Common.{subst}
use Rattle.im_facts.specs.Facts.{Known}
use Rattle.im_facts.specs.Folds.{IsTakenAs, known_behind}
use Rattle.im_facts.specs.Keeping.{Knows}
use Rattle.im_facts.proofs.VerdictLemmas.{told}
use Rattle.im_facts.proofs.VerdictSome.{line-fits}
use Rattle.im_facts.proofs.clients.FactClient.take_said.Goals as goal

pub judge-requires-clause-fits : goal.judge-requires-clause-fits
judge-requires-clause-fits g c = line-fits c.args.line.now c.args.message c.requires.says

pub end_said-requires-clause-judged : goal.end_said-requires-clause-judged
end_said-requires-clause-judged g c = (c.args.message, c.requires.says, c.in-Ok.ensures)

pub returns-in-Ok-end_said-clause-told : goal.returns-in-Ok-end_said-clause-told
returns-in-Ok-end_said-clause-told g c = λ known knows.
    let hash = g.H.Hash32.digest c.args.self.now.hash in
    let next = c.end_said.new.self.kept in
    let m = c.args.message in
    let taken = c.in-Ok-end_said.taken in
    told hash known next c.args.line.now m taken c.handed_out.result.taken c.handed_out.result.accepted c.requires.says
    (subst (λ (k : Known). IsTakenAs hash k m taken) knows.is (c.in-Ok-end_said.ensures.taken known.messages m knows.notes c.requires.says))
    (subst (λ (k : Known). Knows next (known_behind k m taken)) knows.is (c.in-Ok-end_said.ensures.keeps known.messages m knows.notes c.requires.says))
    c.handed_out.ensures.taken c.handed_out.ensures.accepted
