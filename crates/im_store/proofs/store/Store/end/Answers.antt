use Rattle.std.proofs.Common.{◌∙◌, ap}
use Rattle.im_table.specs.Views.{chosen, no_roles, picked}
use Rattle.im_table.specs.declared.roles.Roles.{Roles}
use Rattle.im_table.specs.declared.view.View.{View}
use Rattle.im_store.proofs.store.Store.end.Goals as goal

-- neither has a role
pub returns-clause-longer : goal.returns-clause-longer
returns-clause-longer g c =
    let mine = c.args.pass.now.view in
    let theirs = c.args.other.view in
    ap (λ (v : View). v.seen) c.join.ensures.view
    ∙ ap (λ (r : Roles). chosen r.book theirs.roles.book mine.seen theirs.seen) c.requires.pass.1
    ∙ ap (λ (r : Roles). chosen no_roles.book r.book mine.seen theirs.seen) c.requires.other.1

pub returns-clause-greater : goal.returns-clause-greater
returns-clause-greater g c =
    let mine = c.args.pass.now.view in
    let theirs = c.args.other.view in
    ap (λ (v : View). v.least) c.join.ensures.view
    ∙ ap (λ (r : Roles). picked r theirs.roles mine.least theirs.least) c.requires.pass.1
    ∙ ap (λ (r : Roles). picked no_roles r mine.least theirs.least) c.requires.other.1

pub returns-clause-gains : goal.returns-clause-gains
returns-clause-gains g c =
    let view = c.join.ensures.view in
    record {
      own = ap (λ (v : View). v.own) view;
      leaves = ap (λ (v : View). v.leaves) view;
      faults = ap (λ (v : View). v.faults) view;
    }
