-- What becomes of a stream of lines, behind the lines that a keeper holds.
use Rattle.std.specs.Prelude.{◌≡◌, ◌+◌, ◌<◌, ℕ, List, [], ◌∷◌, ◌++◌, length, take, get_or, All, Any, Option, IfSome}
use Rattle.im_digest.specs.Digests.{Hash}
use Rattle.im_text.specs.Lines.{AreTexts}
use Rattle.im_wire.specs.Texts.{text}
use Rattle.im_facts.specs.Facts.{nothing}
use Rattle.im_facts.specs.Folds.{AreVerdicts, IsVerdict, known_by_all}
use Rattle.im_facts.specs.Verdicts.{Verdict, Passed, Accepted, Refused, Forked, IsForked}

-- the line was refused
abbrev pub IsRefused : Verdict → Type 0
IsRefused Passed = ⊥
IsRefused (Accepted message) = ⊥
IsRefused (Refused fault) = Unit {0}
IsRefused (Forked x y) = ⊥

-- it was refused or forked
abbrev pub IsRejected : Verdict → Type 0
IsRejected Passed = ⊥
IsRejected (Accepted message) = ⊥
IsRejected (Refused fault) = Unit {0}
IsRejected (Forked x y) = Unit {0}

-- no line was refused
abbrev pub NoneRefused : List Verdict → Type 0
NoneRefused verdicts = All (λ verdict. IsRefused verdict → ⊥) verdicts

-- some line was refused
abbrev pub SomeRefused : List Verdict → Type 0
SomeRefused verdicts = Any IsRefused verdicts

-- no line was forked
abbrev pub NoneForked : List Verdict → Type 0
NoneForked verdicts = All (λ verdict. IsForked verdict → ⊥) verdicts

-- some line was forked
abbrev pub SomeForked : List Verdict → Type 0
SomeForked verdicts = Any IsForked verdicts

-- the first verdicts, up to the first fork, and it too: a run tells these
abbrev pub up_to_fork : List Verdict → List Verdict
up_to_fork [] = []
up_to_fork (Passed ∷ verdicts) = Passed ∷ up_to_fork verdicts
up_to_fork (Accepted message ∷ verdicts) = Accepted message ∷ up_to_fork verdicts
up_to_fork (Refused fault ∷ verdicts) = Refused fault ∷ up_to_fork verdicts
up_to_fork (Forked x y ∷ verdicts) = Forked x y ∷ []

-- the one text of an accepted message, as a list; none of another verdict
abbrev pub kept_text : Verdict → List (List ℕ)
kept_text Passed = []
kept_text (Accepted message) = text message ∷ []
kept_text (Refused fault) = []
kept_text (Forked x y) = []

-- those of verdicts, in order
abbrev pub kept_texts : List Verdict → List (List ℕ)
kept_texts [] = []
kept_texts (verdict ∷ verdicts) = kept_text verdict ++ kept_texts verdicts

-- what becomes of kept lines, none of which is refused or forked
pub record AreTaken (hash : Hash) (kept : List (List ℕ)) (verdicts : List Verdict) : Type 0 where
  pub fold : AreVerdicts hash nothing kept verdicts
  pub accepted : All (λ verdict. IsRejected verdict → ⊥) verdicts

-- what becomes of these lines behind the kept ones, which a client that knew nothing took before
pub record AreJudged (hash : Hash) (kept texts : List (List ℕ)) (verdicts : List Verdict) : Type 0 where
  pub before : List Verdict
  pub taken : AreTaken hash kept before
  pub fold : AreVerdicts hash (known_by_all nothing before) texts verdicts

-- what becomes of the lines of a stream behind the kept ones
pub record IsVerified (hash : Hash) (kept : List (List ℕ)) (stream : List ℕ) (verdicts : List Verdict) : Type 0 where
  pub texts : List (List ℕ)
  pub are : AreTexts stream texts
  pub judged : AreJudged hash kept texts verdicts

-- the first n kept lines are taken, and the next one is refused or forked behind them
pub record StopsKept (hash : Hash) (kept : List (List ℕ)) (n : ℕ) : Type 0 where
  pub within : n < length kept
  pub before : List Verdict
  pub taken : AreTaken hash (take n kept) before
  pub next : Verdict
  pub rejected : IsRejected next
  pub is : IsVerdict hash (known_by_all nothing before) (get_or kept n []) next

-- line k, from 1, of those that a keeper held, which are these where it tells them, is the first that is refused or forked
pub record StopsHeld (hash : Hash) (held : Option (List (List ℕ))) (k : ℕ) : Type 0 where
  pub kept : List (List ℕ)
  pub kept_is : IfSome held (λ lines. lines ≡ kept)
  pub n : ℕ
  pub number : k ≡ n + 1
  pub stops : StopsKept hash kept n
