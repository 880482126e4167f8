use Rattle.std.proofs.Common.{◌≡◌, ◌∙◌, ap, rules}
use Rattle.std.proofs.lemmas.Cmp.{nat_list_cmp_total}
use Rattle.std.proofs.lemmas.List.Sorted.{answers_always, ranks_by}
use Rattle.std.specs.Ordering.{is_lt}
use Rattle.im_sqltype.specs.Orders.{octets_cmp}
use Rattle.im_sqlmodel.proofs.SortLemmas.{stable-sorted, sorted-map}
use Rattle.im_catalog.specs.Numbered.{pair_of, pairs_of}
use Rattle.im_catalog.specs.declared.histories.Numbered.{Numbered}
use Rattle.im_catalog.proofs.ChangeLemmas.{by_key}
use Rattle.im_catalog.proofs.histories.sort_by_key.Goals as goal
use Rattle.im_octet.proofs.Common.{on-ok}

pub returns : goal.returns
returns c =
    let cmp = λ (a b : Numbered). octets_cmp a.version.now.key b.version.now.key in
    let order = ranks_by nat_list_cmp_total (λ (n : Numbered). n.version.now.key) in
    let compares = answers_always _ (λ a r. is_lt r ≡ is_lt (octets_cmp a.0.now.version.now.key a.1.0.now.version.now.key)) _ (λ f a r f' k. search rules) in
    on-ok _ _ c.sort_by.result
    (λ up. ap pairs_of (stable-sorted cmp order c.args.numbered.now.items c.sort_by.new.self.items
    (up (λ (x y : Numbered). is_lt (cmp x y)) order compares)
    (c.sort_by.ensures.stable (λ (x y : Numbered). is_lt (cmp x y)) order compares))
    ∙ sorted-map pair_of by_key c.args.numbered.now.items)
    c.sort_by.ensures.sorted
