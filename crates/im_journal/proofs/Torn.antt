-- What a write leaves standing.
use Rattle.std.proofs.Common.{◌≡◌, ℕ, ◌+◌, ◌≤◌, List, length, sym, subst, inl}
use Rattle.im_disk.specs.Disk.{Files, TornFile}
use Rattle.im_format.specs.declared.spans.Span.{Span}
use Rattle.im_format.specs.Spans.{octet_span}
use Rattle.im_alog.proofs.Torn.{keeps, keeps_all, same_all, same_reads}
use Rattle.im_alog.proofs.Outcomes.{keeps_long as ends_kept}
use Rattle.im_journal.specs.Phases.{IsClosed, ReachesEnds, IsSafe, IsClear}

pub keeps_closed : (file at n gate : ℕ) (old new : Files) → TornFile file at n old new → (file ≡ 1 → gate + 1 ≤ at) → IsClosed old gate → IsClosed new gate
keeps_closed file at n gate old new torn clear c = record {
  octet = c.octet;
  shut = c.shut;
  reads = keeps file at n old new (octet_span 1 gate c.octet) torn (record { apart = λ same. inl (clear (sym same)) }) c.reads;
}

-- a torn write shortens no file
pub keeps_long : (file at n : ℕ) (ends : ℕ → ℕ) (old new : Files) → TornFile file at n old new → ReachesEnds ends old → ReachesEnds ends new
keeps_long file at n ends old new torn h = record { long = ends_kept ends file at n old new torn h.long }

pub keeps_safe : (ends : ℕ → ℕ) (spans : List Span) (gate : ℕ) (p : Span) (old new : Files) → TornFile p.file p.at (length p.octets) old new → IsClear spans gate p
    → IsSafe ends spans gate old → IsSafe ends spans gate new
keeps_safe ends spans gate p old new torn clear safe = record {
  reads = keeps_all p.file p.at (length p.octets) old new spans torn clear.misses safe.reads;
  long = keeps_long p.file p.at (length p.octets) ends old new torn safe.long;
  closed = keeps_closed p.file p.at (length p.octets) gate old new torn clear.behind safe.closed;
}

pub same_long : (ends : ℕ → ℕ) (old new : Files) → ((k : ℕ) → new k ≡ old k) → ReachesEnds ends old → ReachesEnds ends new
same_long ends old new same h = record { long = λ k. subst (λ (l : List ℕ). ends k ≤ length l) (sym (same k)) (h.long k) }

pub same_safe : (ends : ℕ → ℕ) (spans : List Span) (gate : ℕ) (old new : Files) → ((k : ℕ) → new k ≡ old k) → IsSafe ends spans gate old → IsSafe ends spans gate new
same_safe ends spans gate old new same safe = record {
  reads = same_all old new same spans safe.reads;
  long = same_long ends old new same safe.long;
  closed = record { octet = safe.closed.octet; shut = safe.closed.shut; reads = same_reads old new same _ safe.closed.reads };
}
