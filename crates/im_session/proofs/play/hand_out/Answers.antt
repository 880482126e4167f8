use Rattle.std.proofs.Common.{◌≡◌, ◌+◌, ◌++◌, ◌∷◌, [], ◌∙◌, ℕ, List, length, map, refl, ap, sym, subst, arith, append_assoc, length-append}
use Rattle.std.specs.List.{All}
use Rattle.std.proofs.lemmas.List.{length-map}
use Rattle.im_dealing.proofs.GatherLemmas.{BeginsAt, all_of, begun_push, handed_none, handed_push, inside}
use Rattle.im_dealing.specs.Gathered.{AreHanded}
use Rattle.im_dealing.specs.Runs.{IsReady}
use Rattle.im_dealing.specs.declared.sessions.Session.{Session}
use Rattle.im_script.specs.declared.commands.Line.{Line}
use Rattle.im_table.specs.Known.{KnownPass, TableId}
use Rattle.im_session.proofs.play.hand_out.Goals as goal

pub loop-mine-init : goal.loop-mine-init
loop-mine-init g c = record {
  can = tt;
  finite = tt;
  all = sym c.into_iter-mine-iterator.ensures.into_iter_gives.0;
  number = refl;
  left = handed_none g.N.TipName.table c.args.main.now c.requires.pass;
  ready = subst (All (IsReady g.N.TipName.found g.N.TipName.table)) (sym c.requires.none.0) (λ i d lt. absurd (omega arith));
  begins = subst (All (BeginsAt c.args.main.now)) (sym c.requires.none.0) (λ i d lt. absurd (omega arith));
  lines = ap (map (λ (s : Session). s.lines.items)) c.requires.none.0;
  room = c.requires.none.1;
}

-- the number is below that of the lists
pub bounds-run-number : goal.bounds-run-number
bounds-run-number g c =
    let i = c.loop-mine.invariant in
    let rest : List (List Line) = c.next.new.self.rest.items in
    let all : c.args.lines.items ≡ c.loop-mine.yielded ++ c.in-Some.mine ∷ rest = i.all ∙ ap (λ (l : List (List Line)). c.loop-mine.yielded ++ l) c.in-Some.ensures.steps.0 in
    omega (arith, i.number, inside c.args.lines.items c.loop-mine.yielded rest c.in-Some.mine all, c.requires.room.0)

pub overflow_cast-number : goal.overflow_cast-number
overflow_cast-number g c =
    let i = c.loop-mine.invariant in
    let rest : List (List Line) = c.next.new.self.rest.items in
    let all : c.args.lines.items ≡ c.loop-mine.yielded ++ c.in-Some.mine ∷ rest = i.all ∙ ap (λ (l : List (List Line)). c.loop-mine.yielded ++ l) c.in-Some.ensures.steps.0 in
    omega (arith, i.number, inside c.args.lines.items c.loop-mine.yielded rest c.in-Some.mine all, c.requires.room.0)

pub overflow_add-number : goal.overflow_add-number
overflow_add-number g c =
    let i = c.loop-mine.invariant in
    let rest : List (List Line) = c.next.new.self.rest.items in
    let all : c.args.lines.items ≡ c.loop-mine.yielded ++ c.in-Some.mine ∷ rest = i.all ∙ ap (λ (l : List (List Line)). c.loop-mine.yielded ++ l) c.in-Some.ensures.steps.0 in
    omega (arith, i.number, inside c.args.lines.items c.loop-mine.yielded rest c.in-Some.mine all, c.requires.room.0)

-- enough weight is left
pub pass-requires-clause-weight : goal.pass-requires-clause-weight
pass-requires-clause-weight g c =
    let i = c.loop-mine.invariant in
    let rest : List (List Line) = c.next.new.self.rest.items in
    let all : c.args.lines.items ≡ c.loop-mine.yielded ++ c.in-Some.mine ∷ rest = i.all ∙ ap (λ (l : List (List Line)). c.loop-mine.yielded ++ l) c.in-Some.ensures.steps.0 in
    omega (arith, i.left.weight, inside c.args.lines.items c.loop-mine.yielded rest c.in-Some.mine all, c.requires.room.1)

pub push_reserved-requires : goal.push_reserved-requires
push_reserved-requires g c =
    let i = c.loop-mine.invariant in
    let rest : List (List Line) = c.next.new.self.rest.items in
    let all : c.args.lines.items ≡ c.loop-mine.yielded ++ c.in-Some.mine ∷ rest = i.all ∙ ap (λ (l : List (List Line)). c.loop-mine.yielded ++ l) c.in-Some.ensures.steps.0 in
    let many : length c.loop-mine.sessions.items ≡ length c.loop-mine.yielded =
    sym (length-map c.loop-mine.sessions.items (λ (s : Session). s.lines.items)) ∙ ap (λ (ls : List (List Line)). length ls) i.lines in
    omega (arith, many, inside c.args.lines.items c.loop-mine.yielded rest c.in-Some.mine all, i.room, c.loop-mine.sessions.ok.0)

-- one more was handed out
pub loop-mine-preserved : goal.loop-mine-preserved
loop-mine-preserved g c =
    let i = c.loop-mine.invariant in
    let table : TableId = g.N.TipName.table in
    let first : KnownPass = c.args.main.now in
    let old : KnownPass = c.loop-mine.main in
    let new : KnownPass = c.pass.new.pass in
    let mine : List Line = c.in-Some.mine in
    let rest : List (List Line) = c.next.new.self.rest.items in
    let p = c.pass.ensures in
    let all : c.args.lines.items ≡ c.loop-mine.yielded ++ mine ∷ rest = i.all ∙ ap (λ (l : List (List Line)). c.loop-mine.yielded ++ l) c.in-Some.ensures.steps.0 in
    let more = inside c.args.lines.items c.loop-mine.yielded rest mine all in
    let handed : AreHanded table first new (length c.loop-mine.yielded + 1) =
    handed_push table first old new (length c.loop-mine.yielded) i.left p.left.0 (omega (arith, i.left.weight, more, c.requires.room.1)) p.left.1 p.same.0 p.same.1 p.gains.own p.gains.leaves p.gains.faults in
    let count : length c.loop-mine.yielded + 1 ≡ length (c.loop-mine.yielded ++ mine ∷ []) = omega (arith, length-append c.loop-mine.yielded (mine ∷ [])) in
    let begun = begun_push g.N.TipName.found table first c.loop-mine.sessions.items c.push_reserved.new.self.items _ c.loop-mine.yielded mine c.push_reserved.ensures.items i.ready i.begins i.lines
    (record { kept = c.requires.found; pass = p.given.0; weight = p.given.1; none = p.none.0; linked_none = p.none.1; told_none = p.none.2; texts = c.new.ensures.items }) (p.copy.0 ∙ i.left.seen, p.copy.1 ∙ i.left.least) c.into_vec.ensures in
    record {
      can = tt;
      finite = tt;
      all = all ∙ sym (append_assoc c.loop-mine.yielded (mine ∷ []) rest);
      number = omega (arith, i.number, count);
      left = subst (λ (n : ℕ). AreHanded table first new n) count handed;
      ready = begun.0;
      begins = begun.1;
      lines = begun.2;
      room = omega (arith, i.room, c.push_reserved.ensures.capacity);
    }

-- all were
pub returns-clause-left : goal.returns-clause-left
returns-clause-left g c =
    let i = c.loop-mine.invariant in
    let rest = c.loop-mine.mine-iterator.rest in
    let none : length rest.items ≡ 0 = sym rest.ok.0 ∙ c.in-None.ensures.steps.0 in
    subst (λ (ls : List (List Line)). AreHanded g.N.TipName.table c.args.main.now c.loop-mine.main (length ls)) (all_of c.args.lines.items c.loop-mine.yielded rest.items i.all none) i.left

pub returns-clause-lines : goal.returns-clause-lines
returns-clause-lines g c =
    let i = c.loop-mine.invariant in
    let rest = c.loop-mine.mine-iterator.rest in
    let none : length rest.items ≡ 0 = sym rest.ok.0 ∙ c.in-None.ensures.steps.0 in
    i.lines ∙ all_of c.args.lines.items c.loop-mine.yielded rest.items i.all none
