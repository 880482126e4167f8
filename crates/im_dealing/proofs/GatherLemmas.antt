-- Passes that are handed out to sessions, and taken in again.
use Rattle.std.proofs.Common.{◌≡◌, ℕ, suc, ◌+◌, ◌-◌, ◌<◌, ◌≤◌, ◌++◌, List, [], ◌∷◌, length, map, refl, ap, ap₂, sym, ◌∙◌, subst, arith, get_or, append-nil, length-append, Option}
use Rattle.std.specs.Prelude.{All}
use Rattle.std.specs.List.{sum_by}
use Rattle.std.proofs.lemmas.List.{length-map, map-append}
use Rattle.std.proofs.lemmas.List.Elements.{All-push}
use Rattle.std.proofs.lemmas.List.Sums.{sum_by-cons, sum_by_push}
use mathlib.Core.List.{IsPrefix}
use Rattle.im_dealing.specs.Gathered.{AreGathered, AreHanded, faults_of, leaves_of, own_of, weight_of}
use Rattle.im_dealing.specs.Phases.{AreDone, HasGrown}
use Rattle.im_dealing.specs.Runs.{IsReady, Start, start_of}
use Rattle.im_dealing.specs.declared.errors.LineError.{LineError}
use Rattle.im_dealing.specs.declared.sessions.Ended.{Ended}
use Rattle.im_dealing.specs.declared.sessions.Session.{Session}
use Rattle.im_digest.specs.Digests.{Hash}
use Rattle.im_script.specs.declared.commands.Line.{Line}
use Rattle.im_table.proofs.FrontLemmas.{prefix_self, prefix_trans}
use Rattle.im_model.proofs.CountLemmas.{times_append}
use Rattle.im_table.specs.Known.{KnownPass, TableId}
use Rattle.im_table.specs.Passes.{IsPassOf}
use Rattle.im_model.specs.Counts.{times}
use Rattle.im_table.specs.declared.items.LogItem.{LogItem}
use Rattle.im_table.specs.declared.view.Least.{Least}

-- another pass was taken in
pub record TakesIn (table : TableId) (old other new : KnownPass) : Type 0 where
  pub pass : IsPassOf table new
  pub weight : new.view.weight ≡ old.view.weight + other.view.weight
  pub mine : IsPrefix old.view.seen new.view.seen
  pub theirs : IsPrefix other.view.seen new.view.seen
  pub durable : old.view.least.durable ≤ new.view.least.durable
  pub their_durable : other.view.least.durable ≤ new.view.least.durable
  pub linked : old.view.least.linked ≤ new.view.least.linked
  pub their_linked : other.view.least.linked ≤ new.view.least.linked
  pub failed : old.view.least.failed ≤ new.view.least.failed
  pub their_failed : other.view.least.failed ≤ new.view.least.failed
  pub own : new.view.own ≡ old.view.own ++ other.view.own
  pub leaves : new.view.leaves ≡ old.view.leaves + other.view.leaves
  pub faults : new.view.faults ≡ old.view.faults + other.view.faults

pub taken_grown : (table : TableId) (old other new : KnownPass) → TakesIn table old other new → HasGrown old new
taken_grown table old other new t = record { seen = t.mine; durable = t.durable; linked = t.linked; failed = t.failed }

-- one of a list, with those before it and those behind it
pub middle : {X : Type 0} (P : X → Type 0) (xs ys : List X) (x : X) → All P (xs ++ x ∷ ys) → P x
middle P [] ys x all = all 0 x (omega arith)
middle P (y ∷ xs) ys x all = middle P xs ys x (λ i d lt. all (suc i) d (omega (arith, lt)))

pub inside : {X : Type 0} (all xs ys : List X) (x : X) → all ≡ xs ++ x ∷ ys → length xs < length all
inside {X} all xs ys x is = let e : length all ≡ length (xs ++ x ∷ ys) = ap (λ (l : List X). length l) is in omega (arith, e, length-append xs (x ∷ ys))

-- where none is left all were yielded
pub all_of : {X : Type 0} (all xs ys : List X) → all ≡ xs ++ ys → length ys ≡ 0 → xs ≡ all
all_of all xs [] is none = sym (is ∙ append-nil xs)
all_of all xs (y ∷ ys) is none = absurd (omega (arith, none))

-- no session's pass was taken in yet
pub gathered_none : (table : TableId) (p : KnownPass) → IsPassOf table p → AreGathered table p p [] []
gathered_none table p is = record {
  pass = is;
  texts = refl;
  whys = refl;
  mine = prefix_self p.view.seen;
  durable = omega arith;
  linked = omega arith;
  failed = omega arith;
  seen = λ i d lt. absurd (omega arith);
  all_durable = λ i d lt. absurd (omega arith);
  all_linked = λ i d lt. absurd (omega arith);
  all_failed = λ i d lt. absurd (omega arith);
  own = λ k. omega arith;
  weight = omega arith;
  leaves = omega arith;
  faults = omega arith;
}

-- one more
pub gathered_push : (table : TableId) (first old new : KnownPass) (sessions : List Session) (ended : List Ended) (s : Session) (e : Ended) → AreGathered table first old sessions ended → TakesIn table old s.pass new
    → e.texts ≡ s.texts.items → e.why ≡ s.why → AreGathered table first new (sessions ++ s ∷ []) (ended ++ e ∷ [])
gathered_push table first old new sessions ended s e g t texts why = record {
  pass = t.pass;
  texts = map-append (λ (x : Ended). x.texts) ended (e ∷ [])
      ∙ (ap₂ (λ (xs : List (List (List ℕ))) (x : List (List ℕ)). xs ++ x ∷ []) g.texts texts ∙ sym (map-append (λ (x : Session). x.texts.items) sessions (s ∷ [])));
  whys = map-append (λ (x : Ended). x.why) ended (e ∷ [])
      ∙ (ap₂ (λ (xs : List (Option LineError)) (x : Option LineError). xs ++ x ∷ []) g.whys why ∙ sym (map-append (λ (x : Session). x.why) sessions (s ∷ [])));
  mine = prefix_trans first.view.seen old.view.seen new.view.seen g.mine t.mine;
  durable = omega (arith, g.durable, t.durable);
  linked = omega (arith, g.linked, t.linked);
  failed = omega (arith, g.failed, t.failed);
  seen = All-push (λ (x : Session). IsPrefix x.pass.view.seen new.view.seen) sessions s
      (λ i d lt. prefix_trans (get_or sessions i d).pass.view.seen old.view.seen new.view.seen (g.seen i d lt) t.mine) t.theirs;
  all_durable = All-push (λ (x : Session). x.pass.view.least.durable ≤ new.view.least.durable) sessions s (λ i d lt. (let r = g.all_durable i d lt in omega (arith, r, t.durable))) t.their_durable;
  all_linked = All-push (λ (x : Session). x.pass.view.least.linked ≤ new.view.least.linked) sessions s (λ i d lt. (let r = g.all_linked i d lt in omega (arith, r, t.linked))) t.their_linked;
  all_failed = All-push (λ (x : Session). x.pass.view.least.failed ≤ new.view.least.failed) sessions s (λ i d lt. (let r = g.all_failed i d lt in omega (arith, r, t.failed))) t.their_failed;
  own = λ k.
      let mine : times k new.view.own ≡ times k old.view.own + times k s.pass.view.own = ap (times k) t.own ∙ times_append k old.view.own s.pass.view.own in
      let before = g.own k in
      omega (arith, mine, before, sum_by_push (own_of k) sessions s);
  weight = omega (arith, g.weight, t.weight, sum_by_push weight_of sessions s);
  leaves = omega (arith, g.leaves, t.leaves, sum_by_push leaves_of sessions s);
  faults = omega (arith, g.faults, t.faults, sum_by_push faults_of sessions s);
}

-- as many have left something as have ended
pub gathered_many : (table : TableId) (old new : KnownPass) (sessions : List Session) (ended : List Ended) → AreGathered table old new sessions ended → length ended ≡ length sessions
gathered_many table old new sessions ended g =
    sym (length-map ended (λ (e : Ended). e.texts)) ∙ ap (λ (ts : List (List (List ℕ))). length ts) g.texts ∙ length-map sessions (λ (s : Session). s.texts.items)

-- no pass was handed out yet
pub handed_none : (table : TableId) (p : KnownPass) → IsPassOf table p → AreHanded table p p 0
handed_none table p is = record { pass = is; weight = omega arith; seen = refl; least = refl; own = refl; leaves = refl; faults = refl }

-- one more
pub handed_push : (table : TableId) (first old new : KnownPass) (count : ℕ) → AreHanded table first old count → IsPassOf table new → 1 < old.view.weight → new.view.weight ≡ old.view.weight - 1
    → new.view.seen ≡ old.view.seen → new.view.least ≡ old.view.least → new.view.own ≡ old.view.own ++ [] → new.view.leaves ≡ old.view.leaves + 0 → new.view.faults ≡ old.view.faults + 0
    → AreHanded table first new (count + 1)
handed_push table first old new count h is more weight seen least own leaves faults = record {
  pass = is;
  weight = omega (arith, h.weight, weight, more);
  seen = seen ∙ h.seen;
  least = least ∙ h.least;
  own = own ∙ (append-nil old.view.own ∙ h.own);
  leaves = omega (arith, leaves, h.leaves);
  faults = omega (arith, faults, h.faults);
}

-- it is where the pass was that it was split off
abbrev pub BeginsAt : KnownPass → Session → Type 0
BeginsAt p s = (s.pass.view.seen ≡ p.view.seen) × (s.pass.view.least ≡ p.view.least)

-- one session more begins
pub begun_push : (found : List LogItem) (table : TableId) (first : KnownPass) (before after : List Session) (s : Session) (hands : List (List Line)) (mine : List Line) → after ≡ before ++ s ∷ [] → All (IsReady found table) before → All (BeginsAt first) before
    → map (λ (x : Session). x.lines.items) before ≡ hands → IsReady found table s → BeginsAt first s → s.lines.items ≡ mine
    → All (IsReady found table) after × All (BeginsAt first) after × (map (λ (x : Session). x.lines.items) after ≡ hands ++ mine ∷ [])
begun_push found table first before after s hands mine is ready begins lines this here own = (
  subst (All (IsReady found table)) (sym is) (All-push (IsReady found table) before s ready this),
  subst (All (BeginsAt first)) (sym is) (All-push (BeginsAt first) before s begins here),
  ap (map (λ (x : Session). x.lines.items)) is ∙ map-append (λ (x : Session). x.lines.items) before (s ∷ [])
      ∙ (ap (λ (ls : List (List Line)). ls ++ s.lines.items ∷ []) lines ∙ ap (λ (l : List Line). hands ++ l ∷ []) own),
)

-- what was handed out took nothing with it
pub handed_grown : (table : TableId) (old new : KnownPass) (count : ℕ) → AreHanded table old new count → HasGrown old new
handed_grown table old new count h = record {
  seen = subst (λ (s : List LogItem). IsPrefix old.view.seen s) (sym h.seen) (prefix_self old.view.seen);
  durable = let e : new.view.least.durable ≡ old.view.least.durable = ap (λ (l : Least). l.durable) h.least in omega (arith, e);
  linked = let e : new.view.least.linked ≡ old.view.least.linked = ap (λ (l : Least). l.linked) h.least in omega (arith, e);
  failed = let e : new.view.least.failed ≡ old.view.least.failed = ap (λ (l : Least). l.failed) h.least in omega (arith, e);
}

-- where sessions begin whose passes are copies of one
pub starts_of : (p : KnownPass) (sessions : List Session) → All (BeginsAt p) sessions
    → All (λ s. start_of s ≡ record { low = p.view.least.durable; floor = p.view.least.linked }) sessions
starts_of p sessions copies = λ i d lt. ap (λ (l : Least). let t : Start = record { low = l.durable; floor = l.linked } in t) (copies i d lt).1

-- the weights of sessions that have ended, one each
weights_one : (sessions : List Session) → All (λ s. s.pass.view.weight ≡ 1) sessions → sum_by weight_of sessions ≡ length sessions
weights_one [] all = refl
weights_one (s ∷ sessions) all =
    let here : weight_of s ≡ 1 = all 0 s (omega arith) in
    let more : sum_by weight_of sessions ≡ length sessions = weights_one sessions (λ i d lt. all (suc i) d (omega (arith, lt))) in
    omega (arith, here, more, sum_by-cons weight_of s sessions)

pub done_weights : (hash : Hash) (table : TableId) (before after : List Session) → AreDone hash table before after → sum_by weight_of after ≡ length before
done_weights hash table before after done =
    let each : All (λ s. s.pass.view.weight ≡ 1) after = λ i d lt. (done.each i d (omega (arith, lt, done.many))).weight in
    weights_one after each ∙ done.many

pub done_passes : (hash : Hash) (table : TableId) (before after : List Session) → AreDone hash table before after → All (λ s. IsPassOf table s.pass) after
done_passes hash table before after done = λ i d lt. (done.each i d (omega (arith, lt, done.many))).pass
