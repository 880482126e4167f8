-- The lines of a text.
use Rattle.std.specs.Prelude.{◌≡◌, ◌⊎◌, ◌≤◌, ℕ, List, [], ◌∷◌, ◌++◌, length}
use Rattle.im_text.specs.Cuts.{Lacks}

-- the texts of lines: each is ended by LF, which stands nowhere else, and the last may lack it where it
-- isn't empty
abbrev pub AreTexts : List ℕ → List (List ℕ) → Type 0
AreTexts octets [] = octets ≡ []
AreTexts octets (text ∷ texts) =
    Lacks 10 text
    × (((octets ≡ text) × (texts ≡ []) × (1 ≤ length text))
    ⊎ ((behind : List ℕ) × (octets ≡ text ++ 10 ∷ behind) × AreTexts behind texts))

-- the text of the first line, without its LF, and what stands behind it
abbrev pub IsFirstText : List ℕ → List ℕ → List ℕ → Type 0
IsFirstText octets text behind =
    Lacks 10 text × (((octets ≡ text) × (behind ≡ [])) ⊎ (octets ≡ text ++ 10 ∷ behind))
