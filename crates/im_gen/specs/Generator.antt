-- The script that `gen` runs, and the line that it writes.
use Rattle.std.specs.Prelude.{◌+◌, ◌-◌, ◌*◌, ◌/◌, ◌%◌, ◌^◌, ◌==◌, ℕ, suc, zero, List, [], ◌++◌, codes, if◌then◌else◌}
use Rattle.std.specs.Fmt.{decimal}
use Rattle.hex.specs.Hex.{encode_lower}

-- one step of the generator of numbers, a linear congruence over 64 bits
abbrev pub next_state : ℕ → ℕ
next_state x = (x * 6364136223846793005 + 1442695040888963407) % 2 ^ 64

-- its state behind so many steps, from 1 on
abbrev pub generator_after : ℕ → ℕ
generator_after zero = 1
generator_after (suc i) = next_state (generator_after i)

-- the number in a key, of a state
abbrev pub key_of : ℕ → ℕ
key_of x = x / 8589934592 % 1000

-- line i, whose key has this number: each sixteenth links, that in the middle between two of these deletes, each other
-- one sets
abbrev pub own_text : ℕ → ℕ → List ℕ
own_text i key =
    if i % 16 == 0 then codes "a: link 15\n"
    else (if i % 16 == 8 then codes "a: del k" ++ decimal key ++ codes "\n"
    else codes "a: set k" ++ decimal key ++ codes "=v" ++ decimal i ++ codes "\n")

-- the transaction from which advance j leads: the first, and then the target of the advance before it
abbrev pub source_of : ℕ → ℕ
source_of j = if j == 1 then 1 else 60 * (j - 1)

-- advance j
abbrev pub advance_text : ℕ → List ℕ
advance_text j = codes "a: advance " ++ decimal (source_of j) ++ codes " " ++ decimal (60 * j) ++ codes "\n"

-- an entry of its target
abbrev pub item_text : ℕ → List ℕ
item_text j = codes "a: item " ++ decimal (60 * j) ++ codes " 0\n"

-- both
abbrev pub asked_text : ℕ → List ℕ
asked_text j = advance_text j ++ item_text j

-- what stands behind line i: the state behind the first, an advance and an entry behind each sixty-fourth
abbrev pub behind_text : ℕ → List ℕ
behind_text i = if i == 1 then codes "a: state\n" else (if i % 64 == 0 then asked_text (i / 64) else [])

-- the script of so many lines, with what stands behind them
abbrev pub script_text : ℕ → List ℕ
script_text zero = []
script_text (suc n) = script_text n ++ own_text (suc n) (key_of (generator_after (suc n))) ++ behind_text (suc n)

-- how many transactions it places
abbrev pub placed_of : ℕ → ℕ
placed_of n = n - n / 16

-- how many of them are in the tree at its end
abbrev pub linked_of : ℕ → ℕ
linked_of n = 15 * (n / 16)

-- how many of its replies a client accepts: the state, each advance and each entry
abbrev pub accepted_of : ℕ → ℕ
accepted_of n = if n == 0 then 0 else 1 + 2 * (n / 64)

-- the line that tells of it, with the Alh of its last transaction
abbrev pub told_line : ℕ → List ℕ → List ℕ
told_line n alh =
    codes "gen " ++ decimal n ++ codes " tx " ++ decimal (placed_of n) ++ codes " linked " ++ decimal (linked_of n)
    ++ codes " accepted " ++ decimal (accepted_of n) ++ codes " alh " ++ encode_lower alh ++ codes "\n"
