use Rattle.std.proofs.Common.{◌+◌, ◌∙◌, ℕ, [], ap}
use Rattle.std.proofs.lemmas.Bool.{le-leb}
use Rattle.std.specs.Prelude.{if◌then◌else◌}
use Rattle.im_format.specs.Reading.{value_at}
use Rattle.im_format.specs.Spans.{octets_at}
use Rattle.im_vlog.proofs.laws.a_standing_value_is_shown.Goals as goal

pub returns : goal.returns
returns c hash id value ref image is there =
    ap (λ t. if t then value_at image ref else []) (le-leb ref.log 3 is.log)
    ∙ ap (λ (n : ℕ). octets_at (image (2 + ref.log)) ref.at n) is.len
    ∙ there.reads
