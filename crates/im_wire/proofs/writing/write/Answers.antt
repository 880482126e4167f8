use Rattle.std.proofs.Common.{List, ◌++◌, ap, ◌∙◌}
use Rattle.json.specs.Token.{Token}
use Rattle.im_wire.specs.Texts.{message_data}
use Rattle.im_wire.specs.Tokens.{tokens_of}
use Rattle.im_wire.proofs.MessageAgain.{text-of, message-is-read}
use Rattle.im_wire.proofs.writing.write.Goals as goal

pub returns-clause-text : goal.returns-clause-text
returns-clause-text c =
    text-of c.args.message.now c.into_inner.result.items _ _ c.into_inner.ensures.items
    (c.in_ok-put_message.ensures.before ∙ c.new-out.ensures.before ∙ c.in_ok-with_capacity.ensures.items)
    (c.in_ok-put_message.ensures.ok ∙ ap (λ (ts : List Token). ts ++ tokens_of (message_data c.args.message.now)) c.new-out.ensures.tokens)

pub returns-clause-again : goal.returns-clause-again
returns-clause-again c =
    message-is-read c.args.message.now c.into_inner.result.items _ _ c.into_inner.ensures.items
    (c.in_ok-put_message.ensures.before ∙ c.new-out.ensures.before ∙ c.in_ok-with_capacity.ensures.items)
    (c.in_ok-put_message.ensures.ok ∙ ap (λ (ts : List Token). ts ++ tokens_of (message_data c.args.message.now)) c.new-out.ensures.tokens)
    c.into_inner.ensures.reads_back c.into_inner.ensures.utf8 c.message_fits.ensures
