use Rattle.std.proofs.Common.{subst}
use Rattle.std.proofs.lemmas.Bool.{both_ways}
use Rattle.im_text.proofs.FindsLemmas.{Finds-none, Finds-some}
use Rattle.im_script.specs.declared.commands.Line.{Line}
use Rattle.im_script.specs.Script.{MayFollow}
use Rattle.im_script.proofs.Unique.{line-unique}
use Rattle.im_script.proofs.scripts.read_next.Goals as goal

pub returns-in_default : goal.returns-in_default
returns-in_default c = λ x h. Finds-none _ c.in_ok-line.field-0 c.in_default.not-Some c.in_ok-line.ensures x h.0

pub returns-then-not-may_follow : goal.returns-then-not-may_follow
returns-then-not-may_follow c =
    λ x h.
    let is = Finds-some _ c.in_ok-line.field-0 c.in-Some.line c.in-Some.is c.in_ok-line.ensures in
    let same = line-unique c.args.text.now x c.in-Some.line h.0 is in
    both_ways c.may_follow.result c.if-not-may_follow.true (c.may_follow.ensures.1 (subst (λ (l : Line). MayFollow c.args.names.now l) same h.1))
