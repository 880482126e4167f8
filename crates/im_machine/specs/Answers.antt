-- What is answered: read off the first transactions of the placed history, as many as were named.
use Rattle.std.specs.Prelude.{◌≡◌, ℕ, List, [], ◌∷◌, length, map, take, slice_index_or, Option, Some, None}
use Rattle.im_machine.specs.Machines.{Machine}
use Rattle.im_machine.specs.declared.outputs.Output.{Output}
use Rattle.im_machine.specs.declared.outputs.Output.TheVariants as tells
use Rattle.im_machine.specs.declared.questions.KeyQuestion.{KeyQuestion}
use Rattle.im_machine.specs.declared.questions.KeyQuestion.TheVariants as reads
use Rattle.im_machine.specs.declared.questions.ProofQuestion.{ProofQuestion}
use Rattle.im_machine.specs.declared.questions.ProofQuestion.TheVariants as asks
use Rattle.im_machine.specs.declared.words.Word.{Word}
use Rattle.im_machine.specs.declared.words.Word.TheVariants.{Placed, Durable, Linked, Indexed, Failed}
use Rattle.im_digest.specs.Digests.{Hash}
use Rattle.im_model.specs.Entries.{entry_digest}
use Rattle.im_model.specs.History.{header_of, transaction_of}
use Rattle.im_model.specs.declared.transactions.Transaction.{Transaction}
use Rattle.im_proof.specs.Between.{anchor_between, dual_between, no_entry}
use Rattle.im_proof.specs.Built.{path_of}
use Rattle.im_versions.specs.Versions.{last_version, versions_of, IsScan}
use Rattle.im_versions.specs.declared.versions.Version.{Version}

-- what a word holds
abbrev pub word_of : Machine → Word → ℕ
word_of m Placed = length m.placed
word_of m Durable = m.durable
word_of m Linked = m.linked
word_of m Indexed = m.indexed
word_of m Failed = m.failures

-- none or one
abbrev pub as_list : Option Version → List Version
as_list None = []
as_list (Some version) = version ∷ []

-- what stands of keys behind these transactions: a key's last version, a deletion too, or none; the live keys with a prefix;
-- all versions of a key, oldest first
abbrev pub IsShown : List Transaction → KeyQuestion → List Version → Type 0
IsShown history (reads.Get key) versions = versions ≡ as_list (last_version history key)
IsShown history (reads.Scan prefix) versions = IsScan history prefix versions
IsShown history (reads.Versions key) versions = versions ≡ versions_of history key

-- the header of the last of the first transactions
abbrev pub header_at_end : Hash → List Transaction → ℕ → Output
header_at_end hash history n = tells.Header (header_of hash (take n history) n)

-- the proof that is asked for, from the transactions up to its target
abbrev pub proof_of : Hash → List Transaction → ProofQuestion → Output
proof_of hash history (asks.Header number) = header_at_end hash history number
proof_of hash history (asks.Dual source target) = tells.Dual (dual_between hash (take target history) source target)
proof_of hash history (asks.Advance source target) =
    tells.Advance (dual_between hash (take target history) source target) (anchor_between hash (take target history) source target)
proof_of hash history (asks.Item number index state) =
    let entries = (transaction_of history number).entries in
    tells.Item (dual_between hash (take state history) number state) (slice_index_or entries index no_entry)
    (path_of hash (map (entry_digest hash) entries) index)
