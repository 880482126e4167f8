use Rattle.std.proofs.Common.{◌≡◌, List, rules}
use Rattle.std.proofs.lemmas.Fn.{always_returns_same}
use Rattle.std.specs.Ordering.{is_lt}
use Rattle.im_octet.proofs.Common.{on-ok}
use Rattle.im_sqltype.specs.declared.values.Value.{Value}
use Rattle.im_sqlmodel.specs.Selects.{terms_cmp}
use Rattle.im_sqlmodel.proofs.SortLemmas.{stable-sorted}
use Rattle.im_plan.proofs.OrderLemmas.{terms-order}
use Rattle.im_plan.proofs.ordering.sort_rows.Goals as goal

pub returns : goal.returns
returns c =
    let scope = c.args.scope.now in
    let terms = c.args.terms.now in
    let order = terms-order scope terms in
    let compares = always_returns_same _ (λ a r. is_lt r ≡ is_lt (terms_cmp scope terms a.0.now a.1.0.now)) _ (λ a r f' k. search rules) in
    on-ok _ _ c.sort_by.result
    (λ up. stable-sorted (terms_cmp scope terms) order c.args.rows.now.items c.sort_by.new.self.items
    (up (λ (x y : List Value). is_lt (terms_cmp scope terms x y)) order compares)
    (c.sort_by.ensures.stable (λ (x y : List Value). is_lt (terms_cmp scope terms x y)) order compares))
    c.sort_by.ensures.sorted
