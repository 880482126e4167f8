use Rattle.std.proofs.Common.{◌≡◌, ◌<◌, ◌∙◌, ◌++◌, ◌∷◌, [], ℕ, List, length, ap, sym, arith}
use Rattle.im_text.proofs.LineLemmas.{texts-more}
use Rattle.im_edge.proofs.Texts.{all-read, one-more}
use Rattle.im_edge.proofs.lines.texts_of.Goals as goal

pub loop-rest-preserved : goal.loop-rest-preserved
loop-rest-preserved c = λ tail behind.
    let some : 0 < length c.loop-rest.rest.now = grind arith in
    let more = texts-more c.loop-rest.rest.now c.first_line.result.0.now c.first_line.result.1.now tail some c.first_line.ensures.first behind in
    let grown : c.push.new.self.items ≡ c.loop-rest.texts.items ++ c.first_line.result.0.now ∷ [] = c.in_ok-push.ensures.items ∙ ap (λ (t : List ℕ). c.loop-rest.texts.items ++ t ∷ []) c.in_ok-from_slice.ensures in
    one-more c.args.octets.now c.loop-rest.texts.items c.push.new.self.items c.first_line.result.0.now tail grown (c.loop-rest.invariant _ more)

pub returns : goal.returns
returns c = all-read c.args.octets.now c.loop-rest.rest.now c.loop-rest.texts.items (sym c.is_empty.ensures ∙ c.loop-rest-test.false) c.loop-rest.invariant
