use Rattle.std.proofs.Common.{◌≡◌, ◌++◌, ◌∷◌, [], ◌∙◌, List, length, refl, ap, sym, subst, arith, append_assoc, length-append}
use Rattle.std.specs.List.{All}
use Rattle.im_dealing.proofs.GatherLemmas.{TakesIn, all_of, gathered_many, gathered_none, gathered_push, inside, middle}
use Rattle.im_dealing.specs.Gathered.{AreGathered}
use Rattle.im_dealing.specs.declared.sessions.Ended.{Ended}
use Rattle.im_dealing.specs.declared.sessions.Session.{Session}
use Rattle.im_table.specs.Known.{KnownPass, TableId}
use Rattle.im_table.specs.Passes.{IsPassOf}
use Rattle.im_session.proofs.play.gather.Goals as goal

pub loop-session-init : goal.loop-session-init
loop-session-init g c = record {
  can = tt;
  finite = tt;
  all = sym c.into_iter-session-iterator.ensures.into_iter_gives.0;
  main = c.requires.pass;
  number = refl;
  gathered = subst (λ (es : List Ended). AreGathered g.N.TipName.table c.args.main.now c.args.main.now [] es) (sym c.requires.room.1) (gathered_none g.N.TipName.table c.args.main.now c.requires.pass);
  room = c.requires.room.2;
}

-- the session is one of those that were handed in
pub end-requires-clause-other : goal.end-requires-clause-other
end-requires-clause-other g c =
    let rest : List Session = c.next.new.self.rest.items in
    let all : c.args.sessions.items ≡ c.loop-session.yielded ++ c.in-Some.session ∷ rest =
    c.loop-session.invariant.all ∙ ap (λ (l : List Session). c.loop-session.yielded ++ l) c.in-Some.ensures.steps.0 in
    middle (λ (s : Session). IsPassOf g.N.TipName.table s.pass) c.loop-session.yielded rest c.in-Some.session (subst (All (λ (s : Session). IsPassOf g.N.TipName.table s.pass)) all c.requires.passes)

-- its number is below theirs
pub bounds-run-number : goal.bounds-run-number
bounds-run-number g c =
    let i = c.loop-session.invariant in
    let rest : List Session = c.next.new.self.rest.items in
    let all : c.args.sessions.items ≡ c.loop-session.yielded ++ c.in-Some.session ∷ rest = i.all ∙ ap (λ (l : List Session). c.loop-session.yielded ++ l) c.in-Some.ensures.steps.0 in
    omega (arith, i.number, inside c.args.sessions.items c.loop-session.yielded rest c.in-Some.session all, c.requires.room.0)

pub overflow_add-number : goal.overflow_add-number
overflow_add-number g c =
    let i = c.loop-session.invariant in
    let rest : List Session = c.next.new.self.rest.items in
    let all : c.args.sessions.items ≡ c.loop-session.yielded ++ c.in-Some.session ∷ rest = i.all ∙ ap (λ (l : List Session). c.loop-session.yielded ++ l) c.in-Some.ensures.steps.0 in
    omega (arith, i.number, inside c.args.sessions.items c.loop-session.yielded rest c.in-Some.session all, c.requires.room.0)

pub push_reserved-requires : goal.push_reserved-requires
push_reserved-requires g c =
    let i = c.loop-session.invariant in
    let rest : List Session = c.next.new.self.rest.items in
    let all : c.args.sessions.items ≡ c.loop-session.yielded ++ c.in-Some.session ∷ rest = i.all ∙ ap (λ (l : List Session). c.loop-session.yielded ++ l) c.in-Some.ensures.steps.0 in
    let many = gathered_many g.N.TipName.table c.args.main.now c.loop-session.main c.loop-session.yielded c.loop-session.ended.items i.gathered in
    omega (arith, many, inside c.args.sessions.items c.loop-session.yielded rest c.in-Some.session all, i.room, c.loop-session.ended.ok.0)

-- one more was taken in
pub loop-session-preserved : goal.loop-session-preserved
loop-session-preserved g c =
    let i = c.loop-session.invariant in
    let table : TableId = g.N.TipName.table in
    let s : Session = c.in-Some.session in
    let new : KnownPass = c.end.new.pass in
    let end = c.end.ensures in
    let takes : TakesIn table c.loop-session.main s.pass new = record {
      pass = end.pass.0;
      weight = end.pass.1;
      mine = end.seen.0;
      theirs = end.seen.1;
      durable = end.durable.0;
      their_durable = end.durable.1;
      linked = end.linked.0;
      their_linked = end.linked.1;
      failed = end.failed.0;
      their_failed = end.failed.1;
      own = end.gains.own;
      leaves = end.gains.leaves;
      faults = end.gains.faults;
    } in
    let e : Ended = record { texts = c.from_vec.result; why = s.why } in
    record {
      can = tt;
      finite = tt;
      all = i.all ∙ ap (λ (l : List Session). c.loop-session.yielded ++ l) c.in-Some.ensures.steps.0 ∙ sym (append_assoc c.loop-session.yielded (s ∷ []) c.next.new.self.rest.items);
      main = end.pass.0;
      number = omega (arith, i.number, length-append c.loop-session.yielded (s ∷ []));
      gathered = subst (λ (es : List Ended). AreGathered table c.args.main.now new (c.loop-session.yielded ++ s ∷ []) es) (sym c.push_reserved.ensures.items)
          (gathered_push table c.args.main.now c.loop-session.main new c.loop-session.yielded c.loop-session.ended.items s e i.gathered takes c.from_vec.ensures refl);
      room = omega (arith, i.room, c.push_reserved.ensures.capacity);
    }

-- all were
pub returns : goal.returns
returns g c =
    let i = c.loop-session.invariant in
    let rest = c.loop-session.session-iterator.rest in
    let none : length rest.items ≡ 0 = sym rest.ok.0 ∙ c.in-None.ensures.steps.0 in
    subst (λ (ss : List Session). AreGathered g.N.TipName.table c.args.main.now c.loop-session.main ss c.loop-session.ended.items) (all_of c.args.sessions.items c.loop-session.yielded rest.items i.all none) i.gathered
