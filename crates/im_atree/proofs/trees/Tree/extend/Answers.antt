use Rattle.std.proofs.Common.{◌≡◌, ℕ, List, length, take, ap, ◌∙◌, sym, subst}
use Rattle.im_levels.specs.Counts.{whole}
use Rattle.im_levels.specs.Leveled.{stored}
use Rattle.im_atree.proofs.trees.Tree.extend.Goals as goal

pub cut-requires : goal.cut-requires
cut-requires g c =
    let before : List (List ℕ) = c.args.self.now.digests in
    let after : List (List ℕ) = c.extend_some.new.self.digests in
    let count : c.count-count.result ≡ length before = c.count-count.ensures.value in
    let front : take c.count-count.result after ≡ before = subst (λ (n : ℕ). take n after ≡ before) (sym count) c.extend_some.ensures.front in
    ap (λ (l : List (List ℕ)). length l) front ∙ sym count ∙ c.count-count.ensures.whole ∙ ap (λ (n : ℕ). whole n) (sym c.size-size.ensures)

pub returns-in-Err-clause-err : goal.returns-in-Err-clause-err
returns-in-Err-clause-err g c =
    let before : List (List ℕ) = c.args.self.now.digests in
    let after : List (List ℕ) = c.extend_some.new.self.digests in
    let count : c.count-count.result ≡ length before = c.count-count.ensures.value in
    let front : take c.count-count.result after ≡ before = subst (λ (n : ℕ). take n after ≡ before) (sym count) c.extend_some.ensures.front in
    c.cut.ensures
    ∙ ap (λ (l : List (List ℕ)). stored l c.size-size.result) front
    ∙ ap (λ (n : ℕ). stored before n) c.size-size.ensures
