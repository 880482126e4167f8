use Rattle.std.proofs.Common.{refl, subst, inr}
use Rattle.im_core.specs.Cores.{IsCore}
use Rattle.im_core.specs.declared.cores.Core.{Core}
use Rattle.im_core.proofs.OpenLemmas.{down-no}
use Rattle.im_digest.specs.Digests.{Hash}
use Rattle.im_core.proofs.cores.answer.Goals as goal

pub answer-requires-clause-up : goal.answer-requires-clause-up
answer-requires-clause-up g c =
    let hash : Hash = g.H.Hash32.digest c.args.hash.now in
    (c.requires.core.0, subst (λ (x : Core). IsCore hash x c.requires.core.0) c.in-Up.is c.requires.core.1)

pub answer-requires-clause-own : goal.answer-requires-clause-own
answer-requires-clause-own g c = c.requires.no_crash

pub returns-in-Up : goal.returns-in-Up
returns-in-Up g c m is =
    let hash : Hash = g.H.Hash32.digest c.args.hash.now in
    c.answer.ensures m (subst (λ (x : Core). IsCore hash x m) c.in-Up.is is)

pub returns-in-Down : goal.returns-in-Down
returns-in-Down g c m is =
    let hash : Hash = g.H.Hash32.digest c.args.hash.now in
    let down = subst (λ (x : Core). IsCore hash x m) c.in-Down.is is in
    (m, inr (down-no hash m c.args.event.now down.down c.requires.no_opening, refl, refl), is)
