-- Which texts of sessions stand before the first line without one, in the script's order.
use Rattle.std.specs.Prelude.{ℕ, zero, suc, List, [], ◌∷◌, drop, map, Option, Some, None, slice_get, slice_index_or}
use Rattle.im_dealing.specs.declared.errors.LineError.{LineError}
use Rattle.im_dealing.specs.declared.sessions.Ended.{Ended}

-- of each session the texts that are left
abbrev pub texts_left : List Ended → List (List (List ℕ))
texts_left ended = map (λ e. e.texts) ended

-- without the first text of one session
abbrev pub without_first : ℕ → List (List (List ℕ)) → List (List (List ℕ))
without_first number [] = []
without_first zero (texts ∷ more) = drop 1 texts ∷ more
without_first (suc number) (texts ∷ more) = texts ∷ without_first number more

-- a text before others, or none of them
abbrev pub text_before : Option (List ℕ) → List (List ℕ) → List (List ℕ)
text_before None others = []
text_before (Some text) others = text ∷ others

-- the first text that a session has left
abbrev pub next_text : ℕ → List (List (List ℕ)) → Option (List ℕ)
next_text number left = slice_get (slice_index_or left number []) 0

-- for each line, by the number of its session, the next text of that session, up to a line whose session has no more
abbrev pub texts_in_order : List ℕ → List (List (List ℕ)) → List (List ℕ)
texts_in_order [] left = []
texts_in_order (number ∷ order) left = text_before (next_text number left) (texts_in_order order (without_first number left))

abbrev pub first_texts : List ℕ → List Ended → List (List ℕ)
first_texts order ended = texts_in_order order (texts_left ended)

-- that of this line where it has no text, else that of a later one
abbrev pub stop_or : Option (List ℕ) → ℕ → Option ℕ → Option ℕ
stop_or None number later = Some number
stop_or (Some text) number later = later

-- the number of the session whose line is the first without a text
abbrev pub stop_in_order : List ℕ → List (List (List ℕ)) → Option ℕ
stop_in_order [] left = None
stop_in_order (number ∷ order) left = stop_or (next_text number left) number (stop_in_order order (without_first number left))

-- why this session has no more
abbrev pub why_at : Option Ended → Option LineError
why_at None = None
why_at (Some e) = e.why

-- why a session has no more
abbrev pub why_of : List Ended → Option ℕ → Option LineError
why_of ended None = None
why_of ended (Some number) = why_at (slice_get ended number)

abbrev pub stop_of : List ℕ → List Ended → Option LineError
stop_of order ended = why_of ended (stop_in_order order (texts_left ended))
