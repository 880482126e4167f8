use Rattle.std.proofs.Common.{◌∙◌, refl, arith, inl, inr}
use Rattle.std.proofs.lemmas.Bool.{false≢true}
use Rattle.im_core.proofs.ReadLemmas.{header-told}
use Rattle.im_core.proofs.UpLemmas.{between-down, between-up, placed-count}
use Rattle.im_core.proofs.store.OpenStore.header.Goals as goal

pub returns-then-not-are_durable : goal.returns-then-not-are_durable
returns-then-not-are_durable c hash m u =
    inr ((λ b. false≢true (c.if-not-are_durable.ensures.1 (between-down hash c.args.self.now m u c.args.number c.args.number b))), refl)

pub header-requires-clause-book : goal.header-requires-clause-book
header-requires-clause-book c = (c.requires.0, c.requires.2.lists.book_is)

pub header-requires-clause-first : goal.header-requires-clause-first
header-requires-clause-first c = (c.if-not-are_durable.ensures.0 refl).some

pub header-requires-clause-last : goal.header-requires-clause-last
header-requires-clause-last c =
    let b = c.if-not-are_durable.ensures.0 refl in
    let u = c.requires.2 in
    omega (arith, b.within, u.durable, u.order.durable_placed, placed-count c.requires.0 c.args.self.now c.requires.1 u)

pub returns : goal.returns
returns c hash m u =
    let b = between-up hash c.args.self.now m u c.args.number c.args.number (c.if-not-are_durable.ensures.0 refl) in
    inl (b, header-told hash c.args.self.now m u c.args.number c.in_ok-header.header b.some b.within (c.in_ok-header.ensures ∙ c.header.ensures hash u.lists.book_is))
