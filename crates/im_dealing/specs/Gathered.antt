-- A pass that hands passes out, and takes them in again.
use Rattle.std.specs.Prelude.{◌≡◌, ◌+◌, ◌≤◌, ℕ, List, map, All}
use Rattle.std.specs.List.{sum_by}
use mathlib.Core.List.{IsPrefix}
use Rattle.im_dealing.specs.declared.sessions.Ended.{Ended}
use Rattle.im_dealing.specs.declared.sessions.Session.{Session}
use Rattle.im_table.specs.Known.{KnownPass, TableId}
use Rattle.im_table.specs.Passes.{IsPassOf}
use Rattle.im_model.specs.Counts.{times}

-- the pass that has the whole weight
abbrev pub IsWholePass : TableId → KnownPass → Type 0
IsWholePass table p = IsPassOf table p × (p.view.weight ≡ 1048576)

-- behind handing out so many passes
pub record AreHanded (table : TableId) (old new : KnownPass) (count : ℕ) : Type 0 where
  pub pass : IsPassOf table new
  pub weight : new.view.weight + count ≡ old.view.weight
  pub seen : new.view.seen ≡ old.view.seen
  pub least : new.view.least ≡ old.view.least
  pub own : new.view.own ≡ old.view.own
  pub leaves : new.view.leaves ≡ old.view.leaves
  pub faults : new.view.faults ≡ old.view.faults

-- a number of a session's pass
abbrev pub own_of : ℕ → Session → ℕ
own_of k s = times k s.pass.view.own

abbrev pub leaves_of : Session → ℕ
leaves_of s = s.pass.view.leaves

abbrev pub weight_of : Session → ℕ
weight_of s = s.pass.view.weight

-- how many failures a session's pass told
abbrev pub faults_of : Session → ℕ
faults_of s = s.pass.view.faults

-- behind taking in the passes of these sessions, of which this is left
pub record AreGathered (table : TableId) (old new : KnownPass) (sessions : List Session) (ended : List Ended) : Type 0 where
  pub pass : IsPassOf table new
  pub texts : map (λ e. e.texts) ended ≡ map (λ s. s.texts.items) sessions
  pub whys : map (λ e. e.why) ended ≡ map (λ s. s.why) sessions
  pub mine : IsPrefix old.view.seen new.view.seen
  pub durable : old.view.least.durable ≤ new.view.least.durable
  pub linked : old.view.least.linked ≤ new.view.least.linked
  pub failed : old.view.least.failed ≤ new.view.least.failed
  pub seen : All (λ s. IsPrefix s.pass.view.seen new.view.seen) sessions
  pub all_durable : All (λ s. s.pass.view.least.durable ≤ new.view.least.durable) sessions
  pub all_linked : All (λ s. s.pass.view.least.linked ≤ new.view.least.linked) sessions
  pub all_failed : All (λ s. s.pass.view.least.failed ≤ new.view.least.failed) sessions
  pub own : (k : ℕ) → times k new.view.own ≡ times k old.view.own + sum_by (own_of k) sessions
  pub weight : new.view.weight ≡ old.view.weight + sum_by weight_of sessions
  pub leaves : new.view.leaves ≡ old.view.leaves + sum_by leaves_of sessions
  pub faults : new.view.faults ≡ old.view.faults + sum_by faults_of sessions
