-- What is looked at in what a generated script left.
use Rattle.std.specs.Prelude.{◌==◌, ℕ, List, [], length, if◌then◌else◌}
use Rattle.im_digest.specs.Digests.{Hash}
use Rattle.im_model.specs.Headers.{alh}
use Rattle.im_model.specs.History.{header_of}
use Rattle.im_model.specs.declared.transactions.Transaction.{Transaction}

-- the Alh of the last transaction, that of the empty string where there is none
abbrev pub last_alh : Hash → List Transaction → List ℕ
last_alh hash history = if length history == 0 then hash [] else alh hash (header_of hash history (length history))
