-- What a reader of octets has before it.
use Rattle.std.specs.Prelude.{ℕ, List}

-- how many octets were read, and the octets that are left
pub record Unread : Type 0 where
  pub at : ℕ
  pub left : List ℕ
