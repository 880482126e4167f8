use Rattle.std.proofs.Common.{◌≡◌, ◌++◌, ℕ, List, append_assoc, codes, subst, take, ◌∙◌}
use Rattle.std.specs.Fmt.{decimal}
use Rattle.std.specs.Prelude.{OnErr}
use Rattle.im_octet.proofs.PartLemmas.{behind-err, on-err, part_front}
use Rattle.im_report.specs.Reads.{bare_or_hex}
use Rattle.im_report.proofs.reads.push_pair.Goals as goal

-- a text before four others
before-four : (one two three four five : List ℕ) → one ++ (two ++ three ++ four ++ five) ≡ one ++ two ++ three ++ four ++ five
before-four one two three four five = simp append_assoc

pub returns-in_err-push_octets-clause-part : goal.returns-in_err-push_octets-clause-part
returns-in_err-push_octets-clause-part c =
    let part = c.in_err-push_octets.ensures.part in
    let front : List ℕ = codes " " ++ bare_or_hex c.args.key.now in
    let value : List ℕ = bare_or_hex c.args.value.now in
    on-err c.from_residual.result
    (subst (λ (l : List ℕ). (n : ℕ) × (c.push_octets.new.out.items ≡ c.args.out.now.items ++ take n l)) (before-four front (codes "=") value (codes "@") (decimal c.args.tx))
    (part_front c.args.out.now.items c.push_octets.new.out.items front (codes "=" ++ value ++ codes "@" ++ decimal c.args.tx) part.0 part.1))

pub returns-clause-part : goal.returns-clause-part
returns-clause-part c =
    let key : List ℕ = bare_or_hex c.args.key.now in
    let front : List ℕ = codes " " ++ key in
    let value : List ℕ = bare_or_hex c.args.value.now in
    let old : List ℕ = c.args.out.now.items in
    subst (λ (l : List ℕ). OnErr c.push_written.result ((n : ℕ) × (c.push_written.new.out.items ≡ old ++ take n l))) (before-four front (codes "=") value (codes "@") (decimal c.args.tx))
    (behind-err c.push_written.result old c.push_octets.new.out.items c.push_written.new.out.items front (codes "=" ++ value ++ codes "@" ++ decimal c.args.tx)
    (c.in_ok-push_octets.ensures.whole ∙ append_assoc old (codes " ") key) c.push_written.ensures.part)
