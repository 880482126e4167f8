use Rattle.std.proofs.Common.{◌≡◌, ◌∙◌, List, ap, arith, drop, length, subst, sym, take}
use Rattle.im_model.specs.declared.transactions.Transaction.{Transaction}
use Rattle.im_index.specs.Indexed.{Indexed}
use Rattle.im_index.specs.Keys.{bare}
use Rattle.im_book.specs.Keyed.{IsKeyed, Keyed}
use Rattle.im_book.proofs.KeyedLemmas.{behind-is, keyed-all, keyed-rest, keyed-whole}
use Rattle.im_book.proofs.keyed.KeyedList.catch_up.Goals as goal

pub take_keys-requires : goal.take_keys-requires
take_keys-requires c =
    let txs : List Transaction = c.self.inside.transactions.items in
    let at : c.keyed-start.result ≡ c.self.inside.keys.taken = c.keyed-start.ensures.value ∙ sym (ap (λ (k : Keyed). k.keyed) c.self.view_is) in
    omega (arith, keyed-rest c.self.inside.keys txs _ c.keyed-start.result c.self.invariant at (behind-is txs c.keyed-start.result), ap (λ (k : Keyed). length k.transactions) c.self.view_is, c.requires)

pub invariant_of-self-2 : goal.invariant_of-self-2
invariant_of-self-2 c =
    let txs : List Transaction = c.self.inside.transactions.items in
    let old : Indexed = c.self.inside.keys in
    let at : c.keyed-start.result ≡ old.taken = c.keyed-start.ensures.value ∙ sym (ap (λ (k : Keyed). k.keyed) c.self.view_is) in
    let behind = behind-is c.deref.result.now c.keyed-start.result ∙ ap (λ (ts : List Transaction). drop c.keyed-start.result ts) c.deref.ensures.value in
    keyed-whole c.take_keys.new.self txs
    (keyed-all old c.take_keys.new.self txs _ c.keyed-start.result at behind (c.in_ok-take_keys.ensures.taken (bare (take old.taken txs)) c.self.invariant.first))

pub invariant_of-self : goal.invariant_of-self
invariant_of-self c =
    subst (λ (k : Indexed). IsKeyed k c.self.inside.transactions.items) (sym c.in_err-take_keys.ensures.left) c.self.invariant

pub returns-clause-keyed : goal.returns-clause-keyed
returns-clause-keyed c =
    let txs : List Transaction = c.self.inside.transactions.items in
    let at : c.keyed-start.result ≡ c.self.inside.keys.taken = c.keyed-start.ensures.value ∙ sym (ap (λ (k : Keyed). k.keyed) c.self.view_is) in
    let behind = behind-is c.deref.result.now c.keyed-start.result ∙ ap (λ (ts : List Transaction). drop c.keyed-start.result ts) c.deref.ensures.value in
    c.in_ok-take_keys.ensures.count ∙ keyed-rest c.self.inside.keys txs _ c.keyed-start.result c.self.invariant at behind
