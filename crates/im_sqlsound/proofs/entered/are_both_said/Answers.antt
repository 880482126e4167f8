use Rattle.std.proofs.Common.{sym, ◌∙◌, arith}
use Rattle.im_sqlsound.proofs.HangLemmas.{both-said, said-both}
use Rattle.im_sqlsound.proofs.TestLemmas.{test-fails, test-not}
use Rattle.im_sqlsound.proofs.entered.are_both_said.Goals as goal

pub returns-then-entries-plain : goal.returns-then-entries-plain
returns-then-entries-plain c =
    test-fails (λ same. (let parts = said-both c.args.plain.now c.args.unique.now c.args.entries.now same in let no : ⊥ = omega (arith, parts.0, c.if-entries-plain.true) in no))

pub returns-then-not-are_said : goal.returns-then-not-are_said
returns-then-not-are_said c =
    test-fails (λ same.
    let parts = said-both c.args.plain.now c.args.unique.now c.args.entries.now same in
    test-not c.are_said.result c.are_said.ensures c.if-not-are_said.true (parts.1.0 ∙ sym c.split_at.ensures.front))

pub returns : goal.returns
returns c = (
  λ e. both-said c.args.plain.now c.args.unique.now c.args.entries.now (c.are_said.ensures.0 c.if-not-are_said.false ∙ c.split_at.ensures.front) (c.are_said-2.ensures.0 e ∙ c.split_at.ensures.back),
  λ same. (let parts = said-both c.args.plain.now c.args.unique.now c.args.entries.now same in c.are_said-2.ensures.1 (parts.1.1 ∙ sym c.split_at.ensures.back)),
)
