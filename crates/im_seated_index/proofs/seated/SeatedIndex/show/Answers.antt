use Rattle.std.proofs.Common.{rules, ◌≡◌, ◌∙◌, ℕ, List, true, ap, sym, subst, arith}
use Rattle.im_table.specs.declared.items.LogItem.{LogItem}
use Rattle.im_table.specs.declared.view.View.{View}
use Rattle.im_seated_index.specs.Seats.{HasTaken}
use Rattle.im_seated_index.proofs.SeatLemmas.{taken_front}
use Rattle.im_seated_index.proofs.seated.SeatedIndex.show.Goals as goal

pub invariant_of-self : goal.invariant_of-self
invariant_of-self g c =
    let seen : View → List LogItem = λ v. v.seen in
    let list = c.fetch.new.pass.view.seen in
    let old = c.self.inside.index in
    let first = taken_front c.self.inside.pass.view.seen list old c.fetch.ensures.theirs c.self.invariant.3 in
    let role : c.fetch.new.pass.view.roles.index ≡ true = search rules in
    let known : c.fetch.new.pass.view.least.indexed ≡ old.taken = search rules in
    let exact : c.load_indexed-taken.result ≡ old.taken = c.load_indexed-taken.ensures.finds.exact role ∙ known in
    let told : c.split.result.view.least.indexed ≡ c.load_indexed-taken.result = search rules in (
      search rules,
      told ∙ exact,
      search rules,
      subst (λ (l : List LogItem). HasTaken l old) (sym (ap seen c.split.ensures.right.1 ∙ ap seen c.load_indexed-taken.ensures.view)) first,
    )

-- the holder of the role loads just what was taken
pub returns-clause-taken : goal.returns-clause-taken
returns-clause-taken g c =
    let role : c.fetch.new.pass.view.roles.index ≡ true = search rules in
    let known : c.fetch.new.pass.view.least.indexed ≡ c.self.inside.index.taken = search rules in
    let told : c.split.new.pass.view.least.indexed ≡ c.load_indexed-taken.result = search rules in
    (c.load_indexed-taken.ensures.finds.exact role ∙ known, told)

pub returns-clause-first : goal.returns-clause-first
returns-clause-first g c =
    let seen : View → List LogItem = λ v. v.seen in
    let list = c.fetch.new.pass.view.seen in
    let first = taken_front c.self.inside.pass.view.seen list c.self.inside.index c.fetch.ensures.theirs c.self.invariant.3 in
    subst (λ (l : List LogItem). HasTaken l c.self.inside.index) (sym (ap seen c.split.ensures.left.1 ∙ ap seen c.load_indexed-taken.ensures.view)) first

pub returns-clause-durable : goal.returns-clause-durable
returns-clause-durable g c =
    let known : View → ℕ = λ v. v.least.durable in
    let role : c.fetch.new.pass.view.roles.index ≡ true = search rules in
    let taken : c.fetch.new.pass.view.least.indexed ≡ c.self.inside.index.taken = search rules in
    let exact = c.load_indexed-taken.ensures.finds.exact role in
    omega (arith, c.self.invariant.2, c.fetch.ensures.durable.1, exact, taken, ap known c.split.ensures.left.1, ap known c.load_indexed-taken.ensures.view)
