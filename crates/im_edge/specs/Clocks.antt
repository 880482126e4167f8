-- The times that a clock has given.
use Rattle.std.specs.Prelude.{◌≡◌, ◌==◌, ℕ, zero, suc, ℤ, pos, List, [], ◌∷◌, ◌++◌, Option, Some, None, ⊤, if◌then◌else◌}

-- where the clock still tells the times that it gave, it told those before, and these were given behind them
abbrev pub AddsTimes : Option (List ℤ) → Option (List ℤ) → List ℤ → Type 0
AddsTimes before None times = ⊤
AddsTimes None (Some now) times = ⊥
AddsTimes (Some before) (Some now) times = now ≡ before ++ times

-- the first so many times of a clock that gives a second more each time, from 1 on
abbrev pub ticks : ℕ → List ℤ
ticks zero = []
ticks (suc n) = ticks n ++ pos (suc n) ∷ []

-- they are told until a count of 32 bits is full
abbrev pub ticks_told : ℕ → Option (List ℤ)
ticks_told n = if n == 4294967295 then None else Some (ticks n)
