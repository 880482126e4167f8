use Rattle.std.proofs.Common.{◌+◌, arith}
use Rattle.im_levels.proofs.CountLemmas.{whole-more}
use Rattle.im_levels.proofs.PartLemmas.{IsFront, front-is, front-tree, front-rest, front-ones, front-end, front-node}
use Rattle.im_levels.proofs.parts.front.Goals as goal

pub returns-clause-some : goal.returns-clause-some
returns-clause-some c = (front-is c.args.part.width c.split.result c.requires.some c.split.ensures.value).some

pub returns-clause-within : goal.returns-clause-within
returns-clause-within c = (front-is c.args.part.width c.split.result c.requires.some c.split.ensures.value).within

pub returns-clause-tree : goal.returns-clause-tree
returns-clause-tree c =
    front-tree c.args.part.at c.args.part.width c.split.result c.requires.aligned (front-is c.args.part.width c.split.result c.requires.some c.split.ensures.value)

pub returns-clause-rest : goal.returns-clause-rest
returns-clause-rest c =
    front-rest c.args.part.at c.args.part.width c.split.result c.requires.aligned (front-is c.args.part.width c.split.result c.requires.some c.split.ensures.value)

pub returns-clause-inside : goal.returns-clause-inside
returns-clause-inside c =
    let front : IsFront c.args.part.width c.split.result = front-is c.args.part.width c.split.result c.requires.some c.split.ensures.value in
    whole-more (c.args.part.at + c.split.result) (c.args.part.at + c.args.part.width) (omega (arith, front.within))

pub returns-clause-end : goal.returns-clause-end
returns-clause-end c =
    front-end c.args.part.at c.args.part.width c.split.result (front-is c.args.part.width c.split.result c.requires.some c.split.ensures.value).within

pub returns-clause-digits : goal.returns-clause-digits
returns-clause-digits c =
    front-ones c.args.part.width c.split.result (front-is c.args.part.width c.split.result c.requires.some c.split.ensures.value)

pub returns-clause-node : goal.returns-clause-node
returns-clause-node c hash leaves less inside =
    front-node hash leaves c.args.part.at c.args.part.width c.split.result c.requires.some c.split.ensures.value less inside
