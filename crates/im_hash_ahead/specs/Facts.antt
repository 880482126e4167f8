-- What was hashed ahead of the reading.
use Rattle.std.specs.Prelude.{◌≡◌, List, All}
use Rattle.im_digest.specs.Digests.{Hash}
use Rattle.im_hash_ahead.specs.declared.facts.Fact.{Fact}
use Rattle.im_hash_ahead.specs.declared.windows.Window.{Window}

-- a string, and its digest
pub record IsFact (hash : Hash) (fact : Fact) : Type 0 where
  pub digest_is : fact.digest ≡ hash fact.octets.items

-- each of them is one
abbrev pub AreFacts : Hash → List Fact → Type 0
AreFacts hash facts = All (IsFact hash) facts

-- all that a window has was hashed by this hash
pub record IsKnown (hash : Hash) (window : Window) : Type 0 where
  pub far : AreFacts hash window.far
  pub near : All (λ facts. AreFacts hash facts) window.near.items
  pub next : AreFacts hash window.next
