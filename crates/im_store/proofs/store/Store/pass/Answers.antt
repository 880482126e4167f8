use Rattle.std.proofs.Common.{◌∙◌, ap, sym, arith}
use Rattle.std.proofs.lemmas.List.{append-nil}
use Rattle.im_table.specs.declared.view.View.{View}
use Rattle.im_store.proofs.store.Store.pass.Goals as goal

pub returns-clause-gains : goal.returns-clause-gains
returns-clause-gains g c =
    let view = c.split.ensures.left.1 in
    record {
      own = ap (λ (v : View). v.own) view ∙ sym (append-nil c.args.pass.now.view.own);
      leaves = omega (arith, ap (λ (v : View). v.leaves) view);
      faults = omega (arith, ap (λ (v : View). v.faults) view);
    }
