-- Lines, and where a text is none.
use Rattle.std.proofs.Common.{◌≡◌, ℕ, List, ◌∷◌, subst, sym, ◌∙◌}
use Rattle.im_text.specs.Cuts.{IsCut}
use Rattle.im_text.proofs.CutLemmas.{cut-unique, head-is}
use Rattle.im_script.specs.declared.commands.Command.{Command}
use Rattle.im_script.specs.declared.commands.Line.{Line}
use Rattle.im_text.specs.Fields.{IsSession}
use Rattle.im_script.specs.Script.{IsCommand, IsScriptLine}
use Rattle.im_script.proofs.FieldLemmas.{session-lacks}

session-parts : (text front tail : List ℕ) → IsCut 58 text front tail → (line : Line) → (h : IsScriptLine text line) → (line.session ≡ front) × (32 ∷ h.0 ≡ tail)
session-parts text front tail cut line h = cut-unique 58 line.session front (32 ∷ h.0) tail (session-lacks line.session h.2) cut.0 (sym h.1 ∙ cut.1)

-- a text is no line where no session's name stands before the first colon
pub line-bad-session : (text front tail : List ℕ) → IsCut 58 text front tail → (IsSession front → ⊥) → (line : Line) → IsScriptLine text line → ⊥
line-bad-session text front tail cut bad line h = bad (subst (λ (t : List ℕ). IsSession t) (session-parts text front tail cut line h).0 h.2)

-- a text is no line where no space stands behind the first colon
pub line-no-space : (text front tail : List ℕ) → IsCut 58 text front tail → ((rest : List ℕ) → tail ≡ 32 ∷ rest → ⊥) → (line : Line) → IsScriptLine text line → ⊥
line-no-space text front tail cut none line h = none h.0 (sym (session-parts text front tail cut line h).1)

-- a text is no line where no command stands behind the colon and the space
pub line-bad-command : (text front tail rest : List ℕ) → IsCut 58 text front tail → tail ≡ 32 ∷ rest → ((c : Command) → IsCommand rest c → ⊥) → (line : Line) → IsScriptLine text line → ⊥
line-bad-command text front tail rest cut e none line h =
    none line.command (subst (λ (t : List ℕ). IsCommand t line.command) (head-is 32 32 h.0 rest ((session-parts text front tail cut line h).1 ∙ e)).1 h.3)
