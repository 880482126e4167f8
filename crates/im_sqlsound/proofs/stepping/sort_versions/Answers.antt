use Rattle.std.proofs.Common.{◌≡◌, rules}
use Rattle.std.proofs.lemmas.Cmp.{nat_list_cmp_total}
use Rattle.std.proofs.lemmas.List.Sorted.{answers_always, ranks_by}
use Rattle.std.specs.Ordering.{is_lt}
use Rattle.im_octet.proofs.Common.{on-ok}
use Rattle.im_versions.specs.declared.versions.Version.{Version}
use Rattle.im_sqltype.specs.Orders.{octets_cmp}
use Rattle.im_sqlmodel.proofs.SortLemmas.{stable-sorted}
use Rattle.im_sqlsound.proofs.stepping.sort_versions.Goals as goal

pub returns : goal.returns
returns c =
    let cmp = λ (a b : Version). octets_cmp a.key b.key in
    let order = ranks_by nat_list_cmp_total (λ (v : Version). v.key) in
    let compares = answers_always _ (λ a r. is_lt r ≡ is_lt (octets_cmp a.0.now.key a.1.0.now.key)) _ (λ f a r f' k. search rules) in
    on-ok _ _ c.sort_by.result
    (λ up. stable-sorted cmp order c.args.versions.now.items c.sort_by.new.self.items
    (up (λ (x y : Version). is_lt (cmp x y)) order compares)
    (c.sort_by.ensures.stable (λ (x y : Version). is_lt (cmp x y)) order compares))
    c.sort_by.ensures.sorted
