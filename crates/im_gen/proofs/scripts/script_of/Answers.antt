use Rattle.std.proofs.Common.{◌≡◌, ◌+◌, ◌++◌, ◌∙◌, ℕ, List, ap}
use Rattle.im_gen.specs.Generator.{behind_text, own_text, generator_after}
use Rattle.im_gen.proofs.ScriptLemmas.{script-more, state-more}
use Rattle.im_gen.proofs.scripts.script_of.Goals as goal

pub loop-i-preserved : goal.loop-i-preserved
loop-i-preserved c =
    let i : ℕ = c.loop-i.i in
    let x : ℕ = c.next_state-next.result in
    let at : x ≡ generator_after (i + 1) = c.next_state-next.ensures ∙ state-more i c.loop-i.state c.loop-i.invariant.state in
    record {
      text = c.in_ok-push_behind.ensures
          ∙ ap (λ (t : List ℕ). t ++ behind_text (i + 1)) (c.in_ok-push_own.ensures ∙ ap (λ (k : ℕ). c.loop-i.text.items ++ own_text (i + 1) k) c.key_of.ensures)
          ∙ script-more i x c.loop-i.text.items c.loop-i.invariant.text at;
      state = at;
    }
