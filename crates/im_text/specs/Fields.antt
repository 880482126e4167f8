-- Sessions, and octets as bare words or hex.
use Rattle.std.specs.Prelude.{◌≡◌, ◌⊎◌, ◌==◌, ◌&&◌, ◌||◌, not, nat_le, nat_eq, ℕ, List, ◌++◌, length, Bool, true, codes, Ok}
use Rattle.std.specs.Int.{is_in_range}
use Rattle.std.specs.List.{list_all, starts_with}
use Rattle.hex.specs.Hex.{decode_of}
use Rattle.im_text.specs.Words.{is_word}

-- a-z 0-9
abbrev pub is_session_octet : ℕ → Bool
is_session_octet o = is_in_range 97 122 o || is_in_range 48 57 o

-- a session's name: 1 to 16 of these
abbrev pub IsSession : List ℕ → Type 0
IsSession text = is_word 16 is_session_octet text ≡ true

-- A-Z a-z 0-9 _ - . /
abbrev pub is_bare_octet : ℕ → Bool
is_bare_octet o = is_in_range 65 90 o || is_in_range 97 122 o || is_in_range 45 57 o || o == 95

-- a bare word: one or more of these, not beginning with 0x
unfoldable pub is_bare : List ℕ → Bool
is_bare text = nat_le 1 (length text) && list_all is_bare_octet text && not (starts_with nat_eq text (codes "0x"))

-- octets: a bare word, which stands for itself, or `0x` and pairs of hex digits in either case
abbrev pub IsOctets : List ℕ → List ℕ → Type 0
IsOctets text octets =
    ((is_bare text ≡ true) × (octets ≡ text))
    ⊎ ((digits : List ℕ) × (text ≡ codes "0x" ++ digits) × (decode_of digits ≡ Ok octets))
