use Rattle.std.proofs.Common.{List, subst}
use Rattle.std.proofs.lemmas.Result.{IfOk-weaker}
use Rattle.im_wire.specs.declared.messages.Message.{Message}
use Rattle.im_facts.specs.Facts.{Known}
use Rattle.im_facts.specs.Folds.{IsTakenAs, known_behind}
use Rattle.im_facts.specs.Keeping.{known_of, AreOf, Knows}
use Rattle.im_facts.specs.declared.taken.Taken.{Taken}
use Rattle.im_facts.proofs.clients.FactClient.take.Goals as goal

pub returns-in-Ok-clause-taken : goal.returns-in-Ok-clause-taken
returns-in-Ok-clause-taken g c =
    let hash = g.H.Hash32.digest c.args.self.now.hash in
    let kept = c.args.self.now.kept in
    let m = c.args.message in
    IfOk-weaker c.end_told.result (λ (t : Taken). (messages : List Message) → AreOf kept.notes messages → IsTakenAs hash (known_of kept messages) m t)
    (λ (t : Taken). (known : Known) → Knows kept known → IsTakenAs hash known m t)
    (λ t is known knows. subst (λ (k : Known). IsTakenAs hash k m t) knows.is (is known.messages knows.notes))
    c.end_told.ensures.taken

pub returns-in-Ok-clause-keeps : goal.returns-in-Ok-clause-keeps
returns-in-Ok-clause-keeps g c =
    let kept = c.args.self.now.kept in
    let next = c.end_told.new.self.kept in
    let m = c.args.message in
    IfOk-weaker c.end_told.result (λ (t : Taken). (messages : List Message) → AreOf kept.notes messages → Knows next (known_behind (known_of kept messages) m t))
    (λ (t : Taken). (known : Known) → Knows kept known → Knows next (known_behind known m t))
    (λ t is known knows. subst (λ (k : Known). Knows next (known_behind k m t)) knows.is (is known.messages knows.notes))
    c.end_told.ensures.keeps
