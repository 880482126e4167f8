use Rattle.std.proofs.lemmas.Result.{on_ok_weaker}
use Rattle.im_wire.specs.Tokens.{entry_tokens}
use Rattle.im_wire.proofs.TokenLemmas.{entry_parts, joined1}
use Rattle.im_wire.proofs.writing.records.put_entry.Goals as goal

pub returns-clause-ok : goal.returns-clause-ok
returns-clause-ok c =
    on_ok_weaker c.end_object.result
    (joined1 c.args.out.now.tokens _ _ _
    (entry_tokens c.args.entry.now) _ _ _ (entry_parts c.args.entry.now)
    c.in_ok-begin_object.ensures.ok c.in_ok-put_entry_fields.ensures.ok)
    c.end_object.ensures.ok
