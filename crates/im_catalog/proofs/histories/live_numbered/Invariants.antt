use Rattle.std.proofs.Common.{◌≡◌, [], filter, not, take}
use Rattle.im_sqlmodel.specs.Rows.{numbered}
use Rattle.im_catalog.specs.Numbered.{pairs_of}
use Rattle.im_catalog.proofs.NumberLemmas.{HasCounted}
use Rattle.im_catalog.proofs.histories.live_numbered.Given as goal

-- those so far were counted, and those that are no deletions are there with their numbers
abbrev pub invariant-loop-version : goal.invariant-loop-version
invariant-loop-version l =
    HasCounted (take l.version-index l.changes) l.numbers
    × (pairs_of l.live.items ≡ filter (λ p. not p.1.deleted) (numbered [] (take l.version-index l.changes)))
