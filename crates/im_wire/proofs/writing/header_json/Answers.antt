use Rattle.std.proofs.Common.{List, ◌++◌, ap, ◌∙◌}
use Rattle.json.specs.Token.{Token}
use Rattle.im_wire.specs.Texts.{header_data}
use Rattle.im_wire.specs.Tokens.{tokens_of}
use Rattle.im_wire.proofs.HeaderText.{printed-header}
use Rattle.im_wire.proofs.writing.header_json.Goals as goal

pub returns : goal.returns
returns c =
    printed-header c.args.header.now c.into_inner.result.items _ _ c.header_fits.ensures c.into_inner.ensures.items
    (c.in_ok-put_header.ensures.before ∙ c.new-out.ensures.before ∙ c.new.ensures.items)
    (c.in_ok-put_header.ensures.ok ∙ ap (λ (ts : List Token). ts ++ tokens_of (header_data c.args.header.now)) c.new-out.ensures.tokens)
