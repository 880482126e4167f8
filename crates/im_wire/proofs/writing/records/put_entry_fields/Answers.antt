use Rattle.std.proofs.Common.{◌≡◌, ℕ, List, ◌++◌, subst, ap, ◌∙◌}
use Rattle.std.proofs.lemmas.Result.{on_ok_weaker}
use Rattle.std.specs.Prelude.{codes, OnOk}
use Rattle.im_wire.specs.Texts.{hex_data}
use Rattle.im_wire.specs.Tokens.{field_tokens, entry_tokens}
use Rattle.im_wire.proofs.TokenLemmas.{added3}
use Rattle.im_wire.proofs.writing.records.put_entry_fields.Goals as goal

pub returns-clause-ok : goal.returns-clause-ok
unfolding entry_tokens
returns-clause-ok c =
    let key = field_tokens (codes "key") (hex_data c.args.entry.now.key) in
    let md = field_tokens (codes "md") (hex_data c.args.entry.now.md) in
    subst (λ (octets : List ℕ). OnOk c.put_hex_field-3.result (c.put_hex_field-3.new.out.tokens ≡ c.args.out.now.tokens ++ (key ++ (md ++ field_tokens (codes "value") (hex_data octets))))) c.as_slice-3.ensures.value
    (on_ok_weaker c.put_hex_field-3.result
    (added3 c.args.out.now.tokens _ _ _ key md (field_tokens (codes "value") (hex_data c.as_slice-3.result.now))
    (c.in_ok-put_hex_field.ensures.ok ∙ ap (λ (octets : List ℕ). c.args.out.now.tokens ++ field_tokens (codes "key") (hex_data octets)) c.as_slice.ensures.value)
    (c.in_ok-put_hex_field-2.ensures.ok ∙ ap (λ (octets : List ℕ). c.put_hex_field.new.out.tokens ++ field_tokens (codes "md") (hex_data octets)) c.as_slice-2.ensures.value))
    c.put_hex_field-3.ensures.ok)
