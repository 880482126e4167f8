-- What a line of a stream says, by what its text is.
use Rattle.std.specs.Prelude.{◌≡◌, ◌≢◌, ◌⊎◌, nat_eq, ℕ, List, [], ◌∷◌, ◌++◌, Bool, true, false, Option, Some, None, codes}
use Rattle.std.specs.List.{starts_with}
use Rattle.im_text.specs.Words.{IsDigits}
use Rattle.im_text.specs.Fields.{IsSession}
use Rattle.im_wire.specs.Messages.{HasMessage}
use Rattle.im_wire.specs.declared.messages.Message.{Message}

-- a line `<session> <number> <rest>`
pub record IsReply (line rest : List ℕ) : Type 0 where
  pub session : List ℕ
  pub number : List ℕ
  pub is_session : IsSession session
  pub is_number : IsDigits number
  pub text : line ≡ session ++ 32 ∷ (number ++ 32 ∷ rest)

-- the text begins as an object does
abbrev pub is_open : List ℕ → Bool
is_open text = starts_with nat_eq text (codes "{")

-- the text of a line that is read as a message: the rest of a reply that begins as an object does, or the
-- whole of a line that isn't empty and no reply
abbrev pub IsShown : List ℕ → List ℕ → Type 0
IsShown line text =
    (IsReply line text × (is_open text ≡ true))
    ⊎ ((text ≡ line) × (line ≢ []) × ((rest : List ℕ) → IsReply line rest → ⊥))

-- a line says a message, or nothing where it is passed over: an empty line, and a reply with another rest
abbrev pub IsLine : List ℕ → Option Message → Type 0
IsLine line None = (line ≡ []) ⊎ ((rest : List ℕ) × IsReply line rest × (is_open rest ≡ false))
IsLine line (Some m) = (text : List ℕ) × IsShown line text × HasMessage text m
