use Rattle.std.proofs.Common.{◌∙◌, refl, ap, inl, inr, take}
use Rattle.std.proofs.lemmas.Bool.{false≢true}
use Rattle.std.proofs.lemmas.Result.{IfOk-weaker}
use Rattle.im_core.proofs.UpLemmas.{between-down, between-up}
use Rattle.im_digest.specs.Digests.{Hash}
use Rattle.im_machine.specs.declared.outputs.Output.TheVariants as says
use Rattle.im_proof.specs.Between.{anchor_between}
use Rattle.im_proof.specs.declared.proofs.DualProof.{DualProof}
use Rattle.im_core.proofs.store.OpenStore.prove_advance.Goals as goal

pub returns-then-not-are_durable : goal.returns-then-not-are_durable
returns-then-not-are_durable g c m u =
    inr ((λ b. false≢true (c.if-not-are_durable.ensures.1 (between-down (g.H.Hash32.digest c.args.hash.now) c.args.self.now m u c.args.source c.args.target b))), refl)

pub dual-requires-clause-between : goal.dual-requires-clause-between
dual-requires-clause-between g c = c.if-not-are_durable.ensures.0 refl

pub advance-requires-clause-between : goal.advance-requires-clause-between
advance-requires-clause-between g c = c.if-not-are_durable.ensures.0 refl

pub returns : goal.returns
returns g c m u =
    let hash : Hash = g.H.Hash32.digest c.args.hash.now in
    let s = c.args.source in
    let t = c.args.target in
    IfOk-weaker c.advance.result _ _
    (λ output told. inl (
      between-up hash c.args.self.now m u s t (c.if-not-are_durable.ensures.0 refl),
      told ∙ ap (λ (p : DualProof). says.Advance p (anchor_between hash (take t m.placed) s t)) (c.in_ok-dual.ensures m u),
    ))
    (c.advance.ensures m u)
