-- What is read at a gate of the commit log.
use Rattle.std.specs.Prelude.{◌≡◌, ◌≢◌, ◌<◌, ◌≤◌, ◌+◌, ℕ, List, length, slice_index_or}
use Rattle.im_format.specs.Reading.{first_at, number_at, end_at}
use Rattle.im_clog.specs.declared.marks.Mark.{Mark}
use Rattle.im_clog.specs.declared.marks.Uncounted.{Uncounted}
use Rattle.im_clog.specs.declared.marks.Uncounted.TheVariants.{Missing, Closed, Short}

-- the fields of the batch whose gate stands at a place
abbrev pub mark_at : List ℕ → ℕ → Mark
mark_at log gate = record { first = first_at log gate; count = number_at log gate; end = end_at log gate }

-- why no batch counts at a gate: there is no octet; or another octet than 01 stands there; or the gate is open, and
-- not all octets up to the next gate's are there
abbrev pub IsUncounted : List ℕ → ℕ → Uncounted → Type 0
IsUncounted log gate Missing = length log ≤ gate
IsUncounted log gate (Closed octet) = (gate < length log) × (octet ≡ slice_index_or log gate 0) × (octet ≢ 1)
IsUncounted log gate (Short len) = (slice_index_or log gate 0 ≡ 1) × (len ≡ length log) × (length log ≤ gate + 25)
