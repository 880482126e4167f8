use Rattle.std.proofs.lemmas.Result.{IfOk-equal}
use Rattle.std.specs.Fmt.{decimal}
use Rattle.im_client.proofs.TextLemmas.{digests_of}
use Rattle.im_client.proofs.texts.push_digests_of.Goals as goal

pub returns : goal.returns
returns c =
    IfOk-equal c.push_digests.result _ _ _ c.push_digests.ensures
    (digests_of c.args.out.now.items _ c.args.name.now (decimal c.args.number) c.args.want.now c.args.got.now c.in_ok-push_one.ensures)
