-- What a reader answers, but for memory.
use Rattle.std.specs.Prelude.{◌≡◌, Option, Some, None, Result, Ok, Err, ⊤}
use Rattle.im_wire.specs.declared.errors.WireError.{WireError}
use Rattle.im_wire.specs.declared.errors.WireError.TheVariants.{Memory, Syntax}

-- the one reading, then the other of what it gave; nothing where either gives nothing
infixl 10 ◌>>=◌
abbrev pub ◌>>=◌ : {A B : Type 0} → Option A → (A → Option B) → Option B
None >>= f = None
(Some x) >>= f = f x

-- with this error a reading gave nothing, unless memory was refused
abbrev pub Fails : {X : Type 0} → WireError → Option X → Type 0
Fails Memory reading = ⊤
Fails Syntax reading = reading ≡ None

-- what was returned is what the reading gives, and Syntax where it gives nothing
abbrev pub GivesReading : {X : Type 0} → Result X WireError → Option X → Type 0
GivesReading (Ok x) reading = reading ≡ Some x
GivesReading (Err e) reading = Fails e reading

-- what was returned has the property, and Syntax where nothing has it
abbrev pub ReadsOrRefuses : {X : Type 0} → Result X WireError → (X → Type 0) → Type 0
ReadsOrRefuses (Ok x) P = P x
ReadsOrRefuses (Err Memory) P = ⊤
ReadsOrRefuses (Err Syntax) P = (x : _) → P x → ⊥
