-- What a phase is made of: passes are split off for the helpers and the sessions, the lines are run, and all are taken in again.
use Rattle.std.proofs.Common.{◌≡◌, ◌≢◌, ℕ, ◌+◌, ◌-◌, ◌<◌, ◌≤◌, ◌++◌, List, [], length, map, Bool, false, refl, ap, sym, ◌∙◌, subst, arith, append-nil}
use Rattle.std.specs.Prelude.{All, AllPairs}
use Rattle.std.specs.List.{flat_map, sum_by}
use Rattle.std.proofs.lemmas.List.{length-map}
use mathlib.Core.List.{IsPrefix}
use Rattle.im_dealing.proofs.GatherLemmas.{BeginsAt, TakesIn, done_weights, gathered_many, handed_grown, starts_of, taken_grown}
use Rattle.im_dealing.proofs.OutLemmas.{have_outs}
use Rattle.im_dealing.proofs.PlayLemmas.{WasPlayed, outcomes_in, phase_is}
use Rattle.im_dealing.proofs.SoFarLemmas.{grown_on}
use Rattle.im_dealing.proofs.StopLemmas.{phase_ends, phase_knows, phase_texts}
use Rattle.im_dealing.specs.Dealing.{AreDealt, AreNamed, lines_with}
use Rattle.im_dealing.specs.Gathered.{AreGathered, AreHanded, IsWholePass, weight_of}
use Rattle.im_dealing.specs.Phases.{AreDone, EndsPhase, HasGrown, IsPlayed, KnowsFaults}
use Rattle.im_dealing.specs.Runs.{IsHelper, IsIdle, start_of}
use Rattle.im_dealing.specs.Written.{first_texts, stop_of}
use Rattle.im_dealing.specs.declared.sessions.Ended.{Ended}
use Rattle.im_dealing.specs.declared.sessions.Session.{Session}
use Rattle.im_digest.specs.Digests.{Hash}
use Rattle.im_report.specs.Outcomes.{Outcome}
use Rattle.im_report.specs.Sessions.{phase_text}
use Rattle.im_script.specs.declared.commands.Line.{Line}
use Rattle.im_store.specs.Gains.{Gains}
use Rattle.im_table.proofs.FrontLemmas.{prefix_self}
use Rattle.im_table.specs.Known.{KnownPass, TableId}
use Rattle.im_table.specs.Passes.{IsPassOf}
use Rattle.im_table.specs.declared.items.LogItem.{LogItem}
use Rattle.im_table.specs.declared.view.Least.{Least}

-- a pass of weight 1 was split off
pub record SplitsOff (table : TableId) (old new : KnownPass) : Type 0 where
  pub pass : IsPassOf table new
  pub some : 1 < old.view.weight
  pub weight : new.view.weight ≡ old.view.weight - 1
  pub seen : new.view.seen ≡ old.view.seen
  pub least : new.view.least ≡ old.view.least
  pub gains : Gains [] 0 0 old new

-- so the store's call says it
pub split_off : (table : TableId) (old new : KnownPass) → 1 < old.view.weight → IsPassOf table new × (new.view.weight ≡ old.view.weight - 1)
    → (new.view.seen ≡ old.view.seen) × (new.view.least ≡ old.view.least) → Gains [] 0 0 old new → SplitsOff table old new
split_off table old new some left same gains = record { pass = left.0; some = some; weight = left.1; seen = same.0; least = same.1; gains = gains }

split_grown : (table : TableId) (old new : KnownPass) → SplitsOff table old new → HasGrown old new
split_grown table old new s = record {
  seen = subst (λ (l : List LogItem). IsPrefix old.view.seen l) (sym s.seen) (prefix_self old.view.seen);
  durable = (let e : new.view.least.durable ≡ old.view.least.durable = ap (λ (l : Least). l.durable) s.least in omega (arith, e));
  linked = (let e : new.view.least.linked ≡ old.view.least.linked = ap (λ (l : Least). l.linked) s.least in omega (arith, e));
  failed = (let e : new.view.least.failed ≡ old.view.least.failed = ap (λ (l : Least). l.failed) s.least in omega (arith, e));
}

-- and so it says that one was taken in
pub taken_in : (table : TableId) (old other new : KnownPass) → IsPassOf table new × (new.view.weight ≡ old.view.weight + other.view.weight)
    → IsPrefix old.view.seen new.view.seen × IsPrefix other.view.seen new.view.seen
    → (old.view.least.durable ≤ new.view.least.durable) × (other.view.least.durable ≤ new.view.least.durable)
    → (old.view.least.linked ≤ new.view.least.linked) × (other.view.least.linked ≤ new.view.least.linked)
    → (old.view.least.failed ≤ new.view.least.failed) × (other.view.least.failed ≤ new.view.least.failed)
    → Gains other.view.own other.view.leaves other.view.faults old new → TakesIn table old other new
taken_in table old other new pass seen durable linked failed gains = record {
  pass = pass.0;
  weight = pass.1;
  mine = seen.0;
  theirs = seen.1;
  durable = durable.0;
  their_durable = durable.1;
  linked = linked.0;
  their_linked = linked.1;
  failed = failed.0;
  their_failed = failed.1;
  own = gains.own;
  leaves = gains.leaves;
  faults = gains.faults;
}

-- as many lists as there are names
pub hands_many : (names : List (List ℕ)) (phase : List Line) (order : List ℕ) (hands : List (List Line)) → AreDealt names phase order hands → length hands ≡ length names
hands_many names phase order hands dealt = ap (λ (ls : List (List Line)). length ls) dealt.each ∙ length-map names (λ name. lines_with name phase)

-- nothing stands behind a list
nothing_behind : (a b c : List ℕ) → c ≡ a ++ b → b ≡ [] → c ≡ a
nothing_behind a b c is none = is ∙ ap (λ (l : List ℕ). a ++ l) none ∙ append-nil a

-- the steps of a phase, and the pass that hands others out, behind each
pub record HasSteps (hash : Hash) (table : TableId) (links : Bool) (names : List (List ℕ)) (phase : List Line) (order : List ℕ) (before after : List Session) (ended : List Ended) (old new : KnownPass) : Type 0 where
  pub hands : List (List Line)
  pub first : KnownPass
  pub second : KnownPass
  pub handed : KnownPass
  pub third : KnownPass
  pub mid : KnownPass
  pub linker : KnownPass
  pub indexer : KnownPass
  pub named : AreNamed names phase
  pub apart : AllPairs (λ a b. a ≢ b) names
  pub dealt : AreDealt names phase order hands
  pub whole : IsWholePass table old
  pub one : SplitsOff table old first
  pub two : SplitsOff table first second
  pub out : AreHanded table second handed (length hands)
  pub copies : All (BeginsAt second) before
  pub lines : map (λ (s : Session). s.lines.items) before ≡ hands
  pub done : AreDone hash table before after
  pub helps : IsHelper table linker
  pub idles : links ≡ false → IsIdle table linker
  pub indexes : IsIdle table indexer
  pub takes : TakesIn table handed linker third
  pub takes_more : TakesIn table third indexer mid
  pub gathered : AreGathered table mid new after ended

module _ {hash : Hash} {table : TableId} {links : Bool} {names : List (List ℕ)} {phase : List Line} {order : List ℕ} {before after : List Session} {ended : List Ended} {old new : KnownPass}
    (s : HasSteps hash table links names phase order before after ended old new) where
  starts : All (λ b. start_of b ≡ record { low = old.view.least.durable; floor = old.view.least.linked }) before
  starts =
      subst (λ (l : Least). All (λ (b : Session). start_of b ≡ record { low = l.durable; floor = l.linked }) before) (s.two.least ∙ s.one.least) (starts_of s.second before s.copies)

  grown : HasGrown old s.mid
  grown =
      let split : HasGrown old s.second = grown_on old s.first s.second (split_grown table old s.first s.one) (split_grown table s.first s.second s.two) in
      let out_grown : HasGrown old s.handed = grown_on old s.second s.handed split (handed_grown table s.second s.handed (length s.hands) s.out) in
      grown_on old s.handed s.mid out_grown (grown_on s.handed s.third s.mid (taken_grown table s.handed s.linker s.third s.takes) (taken_grown table s.third s.indexer s.mid s.takes_more))

  own : s.mid.view.own ≡ old.view.own
  own =
      nothing_behind s.third.view.own s.indexer.view.own s.mid.view.own s.takes_more.own s.indexes.helper.none
      ∙ nothing_behind s.handed.view.own s.linker.view.own s.third.view.own s.takes.own s.helps.none
      ∙ s.out.own
      ∙ nothing_behind s.first.view.own [] s.second.view.own s.two.gains.own refl
      ∙ nothing_behind old.view.own [] s.first.view.own s.one.gains.own refl

  calm : s.mid.view.faults ≡ old.view.faults
  calm = omega (arith, s.takes_more.faults, s.indexes.helper.calm, s.takes.faults, s.helps.calm, s.out.faults, s.two.gains.faults, s.one.gains.faults)

  -- the phase was begun and ended so
  was_played : WasPlayed hash table names phase order before after ended old s.mid new
  was_played = record {
    named = s.named;
    apart = s.apart;
    dealt = subst (λ (hs : List (List Line)). AreDealt names phase order hs) (sym s.lines) s.dealt;
    outs = have_outs hash table old.view.least.durable old.view.least.linked before after s.done starts;
    gathered = s.gathered;
    grown = grown;
    own = own;
    calm = calm;
  }

  -- where no linker ran the helpers linked nothing
  none_linked : links ≡ false → s.mid.view.leaves ≡ old.view.leaves
  none_linked off =
      let bare : s.linker.view.leaves ≡ 0 = (s.idles off).leaves in
      omega (arith, s.takes_more.leaves, s.indexes.leaves, s.takes.leaves, bare, s.out.leaves, s.two.gains.leaves, s.one.gains.leaves)

  many : length before ≡ length s.hands
  many = sym (length-map before (λ (b : Session). b.lines.items)) ∙ ap (λ (ls : List (List Line)). length ls) s.lines

  -- the whole weight came together again
  pub whole_again : IsWholePass table new
  whole_again =
      let weights : sum_by weight_of after ≡ length before = done_weights hash table before after s.done in
      let same : new.view.weight ≡ old.view.weight =
      omega (arith, s.gathered.weight, weights, many, s.takes_more.weight, s.indexes.helper.weight, s.takes.weight, s.helps.weight, s.out.weight, s.two.weight, s.two.some, s.one.weight, s.one.some) in
      (s.gathered.pass, same ∙ s.whole.1)

  -- each session has left its texts
  ended_many : length ended ≡ length names
  ended_many = gathered_many table s.mid new after ended s.gathered ∙ s.done.many ∙ many ∙ hands_many names phase order s.hands s.dealt

  -- so each number of the order is that of a session, and there are few
  pub order_few : length names ≤ 8 → All (λ number. number < length ended) order × (length ended ≤ 8)
  order_few few = (subst (λ (n : ℕ). All (λ number. number < n) order) (sym ended_many) s.dealt.few, omega (arith, ended_many, few))

  -- what the phase came to
  pub plays : (outcomes : List Outcome) × IsPlayed hash links old new phase outcomes × (flat_map (λ text. text) (first_texts order ended) ≡ phase_text outcomes)
      × EndsPhase outcomes (stop_of order ended) × KnowsFaults old new outcomes (stop_of order ended)
  plays = (
    outcomes_in hash table links names phase order before after ended old s.mid new was_played,
    phase_is hash table links names phase order before after ended old s.mid new was_played none_linked,
    phase_texts hash table links names phase order before after ended old s.mid new was_played,
    phase_ends hash table links names phase order before after ended old s.mid new was_played,
    phase_knows hash table links names phase order before after ended old s.mid new was_played,
  )
