-- The headers that a store keeps, by their numbers.
use Rattle.std.specs.Prelude.{◌≡◌, ◌<◌, ◌≤◌, ℕ, ◌+◌, ◌-◌, List, [], length, pos, slice_index_or}
use Rattle.im_digest.specs.Digests.{Hash}
use Rattle.im_model.specs.Headers.{alh}
use Rattle.im_model.specs.History.{no_digest}
use Rattle.im_model.specs.declared.headers.Header.{Header}

-- stands where a number is beyond the headers
abbrev pub no_header : Header
no_header = record {
  id = 0;
  ts = pos 0;
  bl_tx_id = 0;
  bl_root = no_digest;
  prev_alh = no_digest;
  version = 0;
  md = [];
  nentries = 0;
  eh = no_digest;
}

-- header k, for k from 1 to the number of headers
abbrev pub header_at : List Header → ℕ → Header
header_at headers k = slice_index_or headers (k - 1) no_header

-- each header holds the Alh of the one before it
abbrev pub AreChained : Hash → List Header → Type 0
AreChained hash headers = (k : ℕ) → 1 ≤ k → k < length headers → (header_at headers (k + 1)).prev_alh ≡ alh hash (header_at headers k)
