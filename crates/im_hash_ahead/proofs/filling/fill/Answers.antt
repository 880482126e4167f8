use Rattle.std.proofs.Common.{subst, All, Global, Vec}
use Rattle.std.specs.Prelude.{IfOk}
use Rattle.im_hash_ahead.specs.Facts.{AreFacts}
use Rattle.im_hash_ahead.specs.declared.facts.Facts.{Facts}
use Rattle.im_hash_ahead.proofs.filling.fill.Goals as goal

pub returns-in-Ok-Ok : goal.returns-in-Ok-Ok
returns-in-Ok-Ok g c =
    let hash = g.H.Hash32.digest c.args.hash.now in
    let ens = c.near_and_next-near.ensures in
    let near = subst (λ x. IfOk x (λ (near : Vec Facts Global). All (λ facts. AreFacts hash facts) near.items)) c.in-Ok-Ok.is-0 ens.near in
    let next = subst (λ x. IfOk x (λ (next : Facts). AreFacts hash next)) c.in-Ok-Ok.is-1 ens.next in
    c.of.ensures hash near next
