-- A line says one message at most, and one thing is found of it.
use Rattle.std.proofs.Common.{◌≡◌, ℕ, List, Some, None, Result, Ok, Err}
use Rattle.im_octet.proofs.Common.{some-is}
use Rattle.im_wire.specs.Lines.{IsLine}
use Rattle.im_wire.specs.declared.messages.Message.{Message}
use Rattle.im_wire.proofs.LineLemmas.{line-unique}

none-some : {A : Type 0} (x : A) → None ≡ Some x → ⊥
none-some x e = cc

-- what is found is one of the two
pub ok-err : {F : Type 0} (r : Result (Unit {0}) F) (f : F) → r ≡ Ok tt → r ≡ Err f → ⊥
ok-err r f h k = cc

-- and one error
pub err-is : {F : Type 0} (r : Result (Unit {0}) F) (f g : F) → r ≡ Err f → r ≡ Err g → f ≡ g
err-is r f g h k = cc

-- a line says one message at most
pub says-one : (line : List ℕ) (m n : Message) → IsLine line (Some m) → IsLine line (Some n) → m ≡ n
says-one line m n h k = some-is m n (line-unique line (Some m) (Some n) h k)

-- a line that is passed over says none
pub says-none : (line : List ℕ) (m : Message) → IsLine line None → IsLine line (Some m) → ⊥
says-none line m h k = none-some m (line-unique line None (Some m) h k)
