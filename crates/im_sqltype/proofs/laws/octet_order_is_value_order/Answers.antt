use Rattle.std.proofs.Common.{[], ◌∙◌, sym}
use Rattle.std.proofs.lemmas.List.{append-nil}
use Rattle.im_sqltype.specs.Orders.{octets_cmp, value_cmp, row_cmp}
use Rattle.im_sqltype.specs.Texts.{value_text, row_text}
use Rattle.im_sqltype.specs.Total.{then-Equal}
use Rattle.im_sqltype.proofs.FrontLemmas.{value-order, row-order}
use Rattle.im_sqltype.proofs.laws.octet_order_is_value_order.Goals as goal

pub returns-clause-values : goal.returns-clause-values
returns-clause-values c = λ kind v w p q.
    (λ i. octets_cmp (sym (append-nil (value_text v)) i) (sym (append-nil (value_text w)) i))
    ∙ value-order kind v w [] [] p q ∙ then-Equal (value_cmp v w)

pub returns-clause-rows : goal.returns-clause-rows
returns-clause-rows c = λ kinds vs ws p q.
    (λ i. octets_cmp (sym (append-nil (row_text vs)) i) (sym (append-nil (row_text ws)) i))
    ∙ row-order kinds vs ws [] [] p q ∙ then-Equal (row_cmp vs ws)

pub returns-clause-behind : goal.returns-clause-behind
returns-clause-behind c = row-order
