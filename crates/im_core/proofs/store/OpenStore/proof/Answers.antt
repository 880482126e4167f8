use Rattle.std.proofs.Common.{IfOk, sym, subst}
use Rattle.im_core.specs.Answers.{Gives}
use Rattle.im_digest.specs.Digests.{Hash}
use Rattle.im_machine.specs.Allowed.{MayProve}
use Rattle.im_machine.specs.Answers.{proof_of}
use Rattle.im_machine.specs.declared.questions.ProofQuestion.{ProofQuestion}
use Rattle.im_core.proofs.store.OpenStore.proof.Goals as goal

pub header-requires : goal.header-requires
header-requires g c = (g.H.Hash32.digest c.args.hash.now, c.requires.0, c.requires.1)

pub returns-in-Header : goal.returns-in-Header
returns-in-Header g c m u =
    let hash : Hash = g.H.Hash32.digest c.args.hash.now in
    subst (λ (q : ProofQuestion). IfOk c.header.result (Gives (MayProve m q) (proof_of hash m.placed q))) (sym c.in-Header.is) (c.header.ensures hash m u)

pub returns-in-Dual : goal.returns-in-Dual
returns-in-Dual g c m u =
    let hash : Hash = g.H.Hash32.digest c.args.hash.now in
    subst (λ (q : ProofQuestion). IfOk c.prove_dual.result (Gives (MayProve m q) (proof_of hash m.placed q))) (sym c.in-Dual.is) (c.prove_dual.ensures m u)

pub returns-in-Advance : goal.returns-in-Advance
returns-in-Advance g c m u =
    let hash : Hash = g.H.Hash32.digest c.args.hash.now in
    subst (λ (q : ProofQuestion). IfOk c.prove_advance.result (Gives (MayProve m q) (proof_of hash m.placed q))) (sym c.in-Advance.is) (c.prove_advance.ensures m u)

pub returns-in-Item : goal.returns-in-Item
returns-in-Item g c m u =
    let hash : Hash = g.H.Hash32.digest c.args.hash.now in
    subst (λ (q : ProofQuestion). IfOk c.prove_item.result (Gives (MayProve m q) (proof_of hash m.placed q))) (sym c.in-Item.is) (c.prove_item.ensures m u)
