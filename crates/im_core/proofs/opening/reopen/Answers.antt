use Rattle.std.proofs.Common.{Option, refl, subst, inr}
use Rattle.im_core.specs.Opened.{MayOpen}
use Rattle.im_core.specs.declared.store.OpenStore.{OpenStore}
use Rattle.im_core.proofs.OpenLemmas.{opens-some}
use Rattle.im_digest.specs.Digests.{Hash}
use Rattle.im_core.proofs.opening.reopen.Goals as goal

pub opened-requires : goal.opened-requires
opened-requires g c = c.requires

pub returns-in-Some : goal.returns-in-Some
returns-in-Some g c m is =
    let hash : Hash = g.H.Hash32.digest c.args.hash.now in
    opens-some hash m c.in-Some.store c.replace.new.core c.replace.result (subst (λ (o : Option OpenStore). MayOpen hash m o) c.in-Some.is (c.in_ok-found.ensures m is))
    c.replace.ensures.core c.replace.ensures.told

pub returns-in-None : goal.returns-in-None
returns-in-None g c m is =
    let hash : Hash = g.H.Hash32.digest c.args.hash.now in
    (m, inr (subst (λ (o : Option OpenStore). MayOpen hash m o) c.in-None.is (c.in_ok-found.ensures m is), refl, refl), is)
