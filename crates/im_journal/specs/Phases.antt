-- The steps of a batch, on a disk that tells.
use Rattle.std.specs.Prelude.{◌≡◌, ◌≢◌, ◌≤◌, ◌⊎◌, ◌+◌, ◌<◌, ◌^◌, ℕ, List, [], ◌∷◌, ◌++◌, length, All}
use Rattle.im_disk.specs.Disk.{Files, Told, Images, seen}
use Rattle.im_format.specs.Spans.{Reads, Misses, octet_span}
use Rattle.im_format.specs.declared.spans.Span.{Span}

-- some octet but 01 stands at the commit log's gate
pub record IsClosed (image : Files) (gate : ℕ) : Type 0 where
  pub octet : ℕ
  pub shut : octet ≢ 1
  pub reads : Reads image (octet_span 1 gate octet)

-- no file is shorter than its end
pub record ReachesEnds (ends : ℕ → ℕ) (image : Files) : Type 0 where
  pub long : (k : ℕ) → ends k ≤ length (image k)

-- the image has these spans, and a closed gate behind them
pub record IsSafe (ends : ℕ → ℕ) (spans : List Span) (gate : ℕ) (image : Files) : Type 0 where
  pub reads : All (Reads image) spans
  pub long : ReachesEnds ends image
  pub closed : IsClosed image gate

-- the image has these spans, and the gate is open
pub record HasOpenGate (ends : ℕ → ℕ) (spans : List Span) (gate : ℕ) (image : Files) : Type 0 where
  pub reads : All (Reads image) spans
  pub long : ReachesEnds ends image
  pub opened : Reads image (octet_span 1 gate 1)

-- what reads give has these spans
abbrev pub ReadsAll : List Span → Told → Type 0
ReadsAll spans t = All (Reads (seen t)) spans

-- a piece that lies outside of these spans and behind the gate
pub record IsClear (spans : List Span) (gate : ℕ) (p : Span) : Type 0 where
  pub misses : All (Misses p.file p.at (length p.octets)) spans
  pub behind : p.file ≡ 1 → gate + 1 ≤ p.at

-- pieces each of which is clear of these spans and of the pieces before it
abbrev pub AreClear : List Span → ℕ → List Span → Type 0
AreClear spans gate [] = Unit {0}
AreClear spans gate (p ∷ ps) = IsClear spans gate p × AreClear (spans ++ p ∷ []) gate ps

-- The pieces `done` are written, and `left` are not. Each image has the spans from before the batch, and a
-- closed gate behind them.
pub record IsStaging (ends : ℕ → ℕ) (spans : List Span) (gate : ℕ) (done left : List Span) (t : Told) : Type 0 where
  pub safe : (image : Files) → Images t image → IsSafe ends spans gate image
  pub here : IsSafe ends (spans ++ done) gate (seen t)
  pub outside : All (Misses 1 gate 1) (spans ++ done)
  pub clear : AreClear (spans ++ done) gate left
  pub within : All (λ p. p.at ≤ length (seen t p.file)) left

-- The pieces are durable, behind a closed gate.
pub record IsSealed (ends : ℕ → ℕ) (spans : List Span) (gate : ℕ) (pieces : List Span) (t : Told) : Type 0 where
  pub safe : (image : Files) → Images t image → IsSafe ends (spans ++ pieces) gate image
  pub here : IsSafe ends (spans ++ pieces) gate (seen t)
  pub outside : All (Misses 1 gate 1) (spans ++ pieces)

-- without the batch, or with it
abbrev pub IsEither : (ℕ → ℕ) → List Span → ℕ → List Span → Files → Type 0
IsEither ends spans gate pieces image = IsSafe ends spans gate image ⊎ HasOpenGate ends (spans ++ pieces) gate image

-- The gate is written, and not yet durable.
pub record IsGated (ends : ℕ → ℕ) (spans : List Span) (gate : ℕ) (pieces : List Span) (t : Told) : Type 0 where
  pub either : (image : Files) → Images t image → IsEither ends spans gate pieces image
  pub here : HasOpenGate ends (spans ++ pieces) gate (seen t)

-- All is durable.
pub record IsDone (ends : ℕ → ℕ) (spans : List Span) (gate : ℕ) (pieces : List Span) (t : Told) : Type 0 where
  pub opened : (image : Files) → Images t image → HasOpenGate ends (spans ++ pieces) gate image
  pub here : HasOpenGate ends (spans ++ pieces) gate (seen t)

-- a piece that a disk takes
pub record FitsDisk (p : Span) : Type 0 where
  pub file : p.file < 16
  pub place : p.at < 2 ^ 62
