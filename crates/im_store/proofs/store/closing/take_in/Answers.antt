use Rattle.std.proofs.Common.{rules, ◌≡◌, ◌≤◌, ◌+◌, ◌++◌, ◌∷◌, [], ◌∙◌, List, length, ap, sym, subst, arith, append_assoc}
use mathlib.Core.List.{IsPrefix}
use Rattle.std.specs.List.{All, sum_by}
use Rattle.std.proofs.lemmas.List.{append-nil}
use Rattle.std.proofs.lemmas.List.Elements.{All-push}
use Rattle.std.proofs.lemmas.List.Sums.{sum_by_push}
use Rattle.im_table.specs.Known.{KnownPass}
use Rattle.im_table.specs.Passes.{IsPassOf}
use Rattle.im_model.specs.Counts.{times}
use Rattle.im_table.specs.declared.items.LogItem.{LogItem}
use Rattle.im_table.specs.declared.view.Least.{Least}
use Rattle.im_table.specs.declared.view.View.{View}
use Rattle.im_model.proofs.CountLemmas.{times_append}
use Rattle.im_store.specs.Closing.{failures_told, leaves_linked, own_count, weight_in}
use Rattle.im_store.proofs.CloseLemmas.{all_middle, all_same, held_least, held_roles, held_seen, nil_of}
use Rattle.im_store.proofs.store.closing.take_in.Goals as goal

-- the pass is one of those that were handed in
pub join-requires-clause-other : goal.join-requires-clause-other
join-requires-clause-other g c =
    let x = c.in-Some.pass in
    let rest : List KnownPass = c.next.new.self.rest.items in
    let all : c.args.passes.items ≡ c.loop-pass.yielded ++ x ∷ rest =
    c.loop-pass.invariant.all ∙ ap (λ (l : List KnownPass). c.loop-pass.yielded ++ l) c.in-Some.ensures.steps.0 in
    let each : All (IsPassOf c.args.tip.now.table) (c.loop-pass.yielded ++ x ∷ rest) = subst (All (IsPassOf c.args.tip.now.table)) all c.requires.passes in
    (all_middle (IsPassOf c.args.tip.now.table) c.loop-pass.yielded rest x each).0

pub join-requires-clause-table : goal.join-requires-clause-table
join-requires-clause-table g c = c.loop-pass.invariant.keeper.0

-- one pass more: the holder of all roles keeps its list and its numbers
pub loop-pass-preserved : goal.loop-pass-preserved
loop-pass-preserved g c =
    let i = c.loop-pass.invariant in
    let j = c.join.ensures in
    let x = c.in-Some.pass in
    let old = c.loop-pass.keeper in
    let new = c.join.new.pass in
    let seen : new.view.seen ≡ old.view.seen = held_seen old x new i.keeper.1 j.view in
    let least : new.view.least ≡ old.view.least = held_least old x new i.keeper.1 j.view in
    record {
      can = tt;
      finite = tt;
      all = i.all ∙ ap (λ (l : List KnownPass). c.loop-pass.yielded ++ l) c.in-Some.ensures.steps.0 ∙ sym (append_assoc c.loop-pass.yielded (x ∷ []) c.next.new.self.rest.items);
      keeper = (j.table ∙ i.keeper.0, held_roles old x new i.keeper.1 j.view);
      same = (seen ∙ i.same.0, least ∙ i.same.1);
      begins = All-push (λ (p : KnownPass). IsPrefix p.view.seen new.view.seen) c.loop-pass.yielded x
          (all_same (λ (l : List LogItem) (p : KnownPass). IsPrefix p.view.seen l) old.view.seen new.view.seen c.loop-pass.yielded (sym seen) i.begins) j.theirs;
      durable = All-push (λ (p : KnownPass). p.view.least.durable ≤ new.view.least.durable) c.loop-pass.yielded x
          (all_same (λ (n : Least) (p : KnownPass). p.view.least.durable ≤ n.durable) old.view.least new.view.least c.loop-pass.yielded (sym least) i.durable) j.durable.1;
      failed = All-push (λ (p : KnownPass). p.view.least.failed ≤ new.view.least.failed) c.loop-pass.yielded x
          (all_same (λ (n : Least) (p : KnownPass). p.view.least.failed ≤ n.failed) old.view.least new.view.least c.loop-pass.yielded (sym least) i.failed) j.failed.1;
      linked = All-push (λ (p : KnownPass). p.view.least.linked ≤ new.view.least.linked) c.loop-pass.yielded x
          (all_same (λ (n : Least) (p : KnownPass). p.view.least.linked ≤ n.linked) old.view.least new.view.least c.loop-pass.yielded (sym least) i.linked) j.linked.1;
      weight = (let e = ap (λ (v : View). v.weight) j.view in omega (arith, e, i.weight, sum_by_push weight_in c.loop-pass.yielded x));
      leaves = (let e = ap (λ (v : View). v.leaves) j.view in omega (arith, e, i.leaves, sum_by_push leaves_linked c.loop-pass.yielded x));
      faults = (let e = ap (λ (v : View). v.faults) j.view in omega (arith, e, i.faults, sum_by_push failures_told c.loop-pass.yielded x));
      own = λ k. (let e = ap (λ (v : View). times k v.own) j.view in omega (arith, e, times_append k old.view.own x.view.own, i.own k, sum_by_push (own_count k) c.loop-pass.yielded x));
    }

pub returns-clause-begins : goal.returns-clause-begins
returns-clause-begins g c =
    let rs = c.loop-pass.pass-iterator.rest in
    let none : length rs.items ≡ 0 = search rules in
    let e : c.loop-pass.yielded ≡ c.args.passes.items = sym (c.loop-pass.invariant.all ∙ ap (λ (l : List KnownPass). c.loop-pass.yielded ++ l) (nil_of rs.items none) ∙ append-nil c.loop-pass.yielded) in
    subst (All (λ (p : KnownPass). IsPrefix p.view.seen c.loop-pass.keeper.view.seen)) e c.loop-pass.invariant.begins

pub returns-clause-durable : goal.returns-clause-durable
returns-clause-durable g c =
    let rs = c.loop-pass.pass-iterator.rest in
    let none : length rs.items ≡ 0 = search rules in
    let e : c.loop-pass.yielded ≡ c.args.passes.items = sym (c.loop-pass.invariant.all ∙ ap (λ (l : List KnownPass). c.loop-pass.yielded ++ l) (nil_of rs.items none) ∙ append-nil c.loop-pass.yielded) in
    subst (All (λ (p : KnownPass). p.view.least.durable ≤ c.loop-pass.keeper.view.least.durable)) e c.loop-pass.invariant.durable

pub returns-clause-failed : goal.returns-clause-failed
returns-clause-failed g c =
    let rs = c.loop-pass.pass-iterator.rest in
    let none : length rs.items ≡ 0 = search rules in
    let e : c.loop-pass.yielded ≡ c.args.passes.items = sym (c.loop-pass.invariant.all ∙ ap (λ (l : List KnownPass). c.loop-pass.yielded ++ l) (nil_of rs.items none) ∙ append-nil c.loop-pass.yielded) in
    subst (All (λ (p : KnownPass). p.view.least.failed ≤ c.loop-pass.keeper.view.least.failed)) e c.loop-pass.invariant.failed

pub returns-clause-linked : goal.returns-clause-linked
returns-clause-linked g c =
    let rs = c.loop-pass.pass-iterator.rest in
    let none : length rs.items ≡ 0 = search rules in
    let e : c.loop-pass.yielded ≡ c.args.passes.items = sym (c.loop-pass.invariant.all ∙ ap (λ (l : List KnownPass). c.loop-pass.yielded ++ l) (nil_of rs.items none) ∙ append-nil c.loop-pass.yielded) in
    subst (All (λ (p : KnownPass). p.view.least.linked ≤ c.loop-pass.keeper.view.least.linked)) e c.loop-pass.invariant.linked

pub returns-clause-weight : goal.returns-clause-weight
returns-clause-weight g c =
    let rs = c.loop-pass.pass-iterator.rest in
    let none : length rs.items ≡ 0 = search rules in
    let e : c.loop-pass.yielded ≡ c.args.passes.items = sym (c.loop-pass.invariant.all ∙ ap (λ (l : List KnownPass). c.loop-pass.yielded ++ l) (nil_of rs.items none) ∙ append-nil c.loop-pass.yielded) in
    c.loop-pass.invariant.weight ∙ ap (λ (l : List KnownPass). c.args.keeper.now.view.weight + sum_by weight_in l) e

pub returns-clause-leaves : goal.returns-clause-leaves
returns-clause-leaves g c =
    let rs = c.loop-pass.pass-iterator.rest in
    let none : length rs.items ≡ 0 = search rules in
    let e : c.loop-pass.yielded ≡ c.args.passes.items = sym (c.loop-pass.invariant.all ∙ ap (λ (l : List KnownPass). c.loop-pass.yielded ++ l) (nil_of rs.items none) ∙ append-nil c.loop-pass.yielded) in
    c.loop-pass.invariant.leaves ∙ ap (λ (l : List KnownPass). c.args.keeper.now.view.leaves + sum_by leaves_linked l) e

pub returns-clause-faults : goal.returns-clause-faults
returns-clause-faults g c =
    let rs = c.loop-pass.pass-iterator.rest in
    let none : length rs.items ≡ 0 = search rules in
    let e : c.loop-pass.yielded ≡ c.args.passes.items = sym (c.loop-pass.invariant.all ∙ ap (λ (l : List KnownPass). c.loop-pass.yielded ++ l) (nil_of rs.items none) ∙ append-nil c.loop-pass.yielded) in
    c.loop-pass.invariant.faults ∙ ap (λ (l : List KnownPass). c.args.keeper.now.view.faults + sum_by failures_told l) e

pub returns-clause-own : goal.returns-clause-own
returns-clause-own g c k =
    let rs = c.loop-pass.pass-iterator.rest in
    let none : length rs.items ≡ 0 = search rules in
    let e : c.loop-pass.yielded ≡ c.args.passes.items = sym (c.loop-pass.invariant.all ∙ ap (λ (l : List KnownPass). c.loop-pass.yielded ++ l) (nil_of rs.items none) ∙ append-nil c.loop-pass.yielded) in
    c.loop-pass.invariant.own k ∙ ap (λ (l : List KnownPass). times k c.args.keeper.now.view.own + sum_by (own_count k) l) e
