-- Chains of transactions (immudb's linear proofs): from one Alh to a later one.
use Rattle.std.specs.Prelude.{ℕ, ◌+◌, List, [], ◌∷◌, ◌++◌}
use Rattle.im_octet.specs.Fields.{field8}
use Rattle.im_digest.specs.Digests.{Hash}

-- the string whose digest is the Alh of transaction k: k 8 | the Alh before it 32 | its inner digest 32
abbrev pub link_string : ℕ → List ℕ → List ℕ → List ℕ
link_string k previous inner = field8 k ++ previous ++ inner

-- from the Alh of transaction k, the Alh that the inner digests of those behind it lead to
abbrev pub chain : Hash → List ℕ → ℕ → List (List ℕ) → List ℕ
chain hash alh k [] = alh
chain hash alh k (inner ∷ rest) = chain hash (hash (link_string (k + 1) alh inner)) (k + 1) rest

-- the strings that are hashed to get it
unfoldable pub chain_strings : Hash → List ℕ → ℕ → List (List ℕ) → List (List ℕ)
chain_strings hash alh k [] = []
chain_strings hash alh k (inner ∷ rest) =
    link_string (k + 1) alh inner ∷ chain_strings hash (hash (link_string (k + 1) alh inner)) (k + 1) rest
