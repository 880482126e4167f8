-- The script with one line more.
use Rattle.std.proofs.Common.{◌≡◌, ◌+◌, ◌++◌, ◌∙◌, ℕ, suc, List, arith, ap, sym}
use Rattle.im_gen.specs.Generator.{behind_text, key_of, next_state, own_text, script_text, generator_after}

-- one step more
pub state-more : (i x : ℕ) → x ≡ generator_after i → next_state x ≡ generator_after (i + 1)
state-more i x same =
    let next : i + 1 ≡ suc i = omega arith in
    ap next_state same ∙ ap generator_after (sym next)

-- one line more, and what stands behind it
pub script-more : (i x : ℕ) (text : List ℕ) → text ≡ script_text i → x ≡ generator_after (i + 1)
    → (text ++ own_text (i + 1) (key_of x)) ++ behind_text (i + 1) ≡ script_text (i + 1)
script-more i x text same at =
    let next : i + 1 ≡ suc i = omega arith in
    ap (λ (y : ℕ). (text ++ own_text (i + 1) (key_of y)) ++ behind_text (i + 1)) at
    ∙ ap (λ (t : List ℕ). (t ++ own_text (i + 1) (key_of (generator_after (i + 1)))) ++ behind_text (i + 1)) same
    ∙ ap (λ (m : ℕ). (script_text i ++ own_text m (key_of (generator_after m))) ++ behind_text m) next
    ∙ ap script_text (sym next)
