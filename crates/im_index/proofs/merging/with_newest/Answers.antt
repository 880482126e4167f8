use Rattle.std.proofs.Common.{◌≡◌, List, [], ◌∷◌, ◌++◌, ap, sym, subst, ◌∙◌}
use Rattle.im_versions.specs.declared.versions.Version.{Version}
use Rattle.im_index.specs.Runs.{AreHalving, HoldInOrder, lengths}
use Rattle.im_index.proofs.merging.with_newest.Goals as goal

pub returns-clause-holds : goal.returns-clause-holds
returns-clause-holds c = λ versions h.
    let is : c.push.new.self.items ≡ c.in_ok-settled.settled.older.now ++ c.in_ok-settled.settled.last ∷ [] =
    c.in_ok-push.ensures.items ∙ ap (λ rs. rs ++ c.in_ok-settled.settled.last ∷ []) c.in_ok-next.ensures in
    subst (λ (rs : List (List Version)). HoldInOrder rs versions) (sym is) (c.in_ok-settled.ensures.holds versions h)

pub returns-clause-halving : goal.returns-clause-halving
returns-clause-halving c = λ h some.
    let is : c.push.new.self.items ≡ c.in_ok-settled.settled.older.now ++ c.in_ok-settled.settled.last ∷ [] =
    c.in_ok-push.ensures.items ∙ ap (λ rs. rs ++ c.in_ok-settled.settled.last ∷ []) c.in_ok-next.ensures in
    subst AreHalving (sym is) (c.in_ok-settled.ensures.halving h some)

pub returns-clause-lengths : goal.returns-clause-lengths
returns-clause-lengths c =
    let is : c.push.new.self.items ≡ c.in_ok-settled.settled.older.now ++ c.in_ok-settled.settled.last ∷ [] =
    c.in_ok-push.ensures.items ∙ ap (λ rs. rs ++ c.in_ok-settled.settled.last ∷ []) c.in_ok-next.ensures in
    ap lengths is ∙ c.in_ok-settled.ensures.lengths
