use Rattle.std.proofs.Common.{List, ap, sym, subst}
use Rattle.std.proofs.lemmas.List.Sorted.{answers_always}
use Rattle.std.proofs.lemmas.Result.{IfOk-weaker}
use Rattle.std.specs.Ordering.{is_lt}
use Rattle.im_versions.specs.declared.versions.Version.{Version}
use Rattle.im_index.specs.Runs.{IsRunOf}
use Rattle.im_index.proofs.OrderLemmas.{by_key-order}
use Rattle.im_index.proofs.merging.sorted.Goals as goal

pub returns : goal.returns
returns c =
    let sorts = c.in_ok-sort_by.ensures in
    let moved : IsRunOf c.sort_by.new.self.items c.args.versions.items = record {
      moved = sorts.permutation;
      sorted = sorts.sorted _ by_key-order (answers_always _ _ _ (λ f a r g k. ap is_lt k.met));
      stable = sorts.stable _ by_key-order (answers_always _ _ _ (λ f a r g k. ap is_lt k.met));
    } in
    let is : IsRunOf c.hint_all.new.versions.items c.args.versions.items = subst (λ (r : List Version). IsRunOf r c.args.versions.items) (sym c.hint_all.ensures) moved in
    IfOk-weaker c.of.result _ _ (λ run same. subst (λ (r : List Version). IsRunOf r c.args.versions.items) (sym same) is) c.of.ensures
