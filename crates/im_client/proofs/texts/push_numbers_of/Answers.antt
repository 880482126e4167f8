use Rattle.std.proofs.lemmas.Result.{IfOk-equal}
use Rattle.std.specs.Fmt.{decimal}
use Rattle.im_client.proofs.TextLemmas.{numbers_of}
use Rattle.im_client.proofs.texts.push_numbers_of.Goals as goal

pub returns : goal.returns
returns c =
    IfOk-equal c.push_numbers.result _ _ _ c.push_numbers.ensures
    (numbers_of c.args.out.now.items _ c.args.name.now (decimal c.args.number) c.args.want c.args.got c.in_ok-push_one.ensures)
