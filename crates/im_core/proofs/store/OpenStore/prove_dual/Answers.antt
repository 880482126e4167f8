use Rattle.std.proofs.Common.{refl, ap, inl, inr}
use Rattle.std.proofs.lemmas.Bool.{false≢true}
use Rattle.im_core.proofs.UpLemmas.{between-down, between-up}
use Rattle.im_machine.specs.declared.outputs.Output.TheVariants as says
use Rattle.im_proof.specs.declared.proofs.DualProof.{DualProof}
use Rattle.im_core.proofs.store.OpenStore.prove_dual.Goals as goal

pub returns-then-not-are_durable : goal.returns-then-not-are_durable
returns-then-not-are_durable g c m u =
    inr ((λ b. false≢true (c.if-not-are_durable.ensures.1 (between-down (g.H.Hash32.digest c.args.hash.now) c.args.self.now m u c.args.source c.args.target b))), refl)

pub dual-requires-clause-between : goal.dual-requires-clause-between
dual-requires-clause-between g c = c.if-not-are_durable.ensures.0 refl

pub returns : goal.returns
returns g c m u =
    inl (
      between-up (g.H.Hash32.digest c.args.hash.now) c.args.self.now m u c.args.source c.args.target (c.if-not-are_durable.ensures.0 refl),
      ap (λ (p : DualProof). says.Dual p) (c.in_ok-dual.ensures m u),
    )
