use Rattle.std.proofs.lemmas.Result.{IfOk-equal}
use Rattle.im_client.proofs.TextLemmas.{numbers_behind}
use Rattle.im_client.proofs.texts.push_of_role.Goals as goal

pub returns : goal.returns
returns c =
    IfOk-equal c.push_numbers.result _ _ _ c.push_numbers.ensures
    (numbers_behind c.args.out.now.items _ c.args.role.now c.args.name.now c.args.want c.args.got c.in_ok-extend_from_slice.ensures.items)
