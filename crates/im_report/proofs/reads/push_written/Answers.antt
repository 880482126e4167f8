use Rattle.std.proofs.Common.{◌≡◌, ◌++◌, ℕ, List, append_assoc, subst, sym, take, ◌∙◌}
use Rattle.std.specs.Fmt.{decimal}
use Rattle.std.specs.Prelude.{OnErr}
use Rattle.im_octet.proofs.PartLemmas.{behind-err, on-err, part_front}
use Rattle.im_report.specs.Reads.{bare_or_hex}
use Rattle.im_report.proofs.reads.push_written.Goals as goal

pub returns-in_err-push_octets-clause-part : goal.returns-in_err-push_octets-clause-part
returns-in_err-push_octets-clause-part c =
    let part = c.in_err-push_octets.ensures.part in
    let front : List ℕ = c.args.text.now ++ bare_or_hex c.args.octets.now in
    on-err c.from_residual.result
    (subst (λ (l : List ℕ). (n : ℕ) × (c.push_octets.new.out.items ≡ c.args.out.now.items ++ take n l)) (sym (append_assoc front c.args.mark.now (decimal c.args.tx)))
    (part_front c.args.out.now.items c.push_octets.new.out.items front (c.args.mark.now ++ decimal c.args.tx) part.0 part.1))

pub returns-clause-part : goal.returns-clause-part
returns-clause-part c =
    let text : List ℕ = c.args.text.now in
    let octets : List ℕ = bare_or_hex c.args.octets.now in
    let old : List ℕ = c.args.out.now.items in
    subst (λ (l : List ℕ). OnErr c.push_decimal.result ((n : ℕ) × (c.push_decimal.new.out.items ≡ old ++ take n l))) (sym (append_assoc (text ++ octets) c.args.mark.now (decimal c.args.tx)))
    (behind-err c.push_decimal.result old c.push_octets.new.out.items c.push_decimal.new.out.items (text ++ octets) (c.args.mark.now ++ decimal c.args.tx)
    (c.in_ok-push_octets.ensures.whole ∙ append_assoc old text octets) c.push_decimal.ensures.part)
