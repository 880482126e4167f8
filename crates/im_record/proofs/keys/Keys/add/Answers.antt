use Rattle.std.proofs.Common.{◌≡◌, ◌∙◌, ℕ, List, [], ◌∷◌, ◌++◌, ap, arith, sym, subst, length}
use Rattle.std.specs.Borrow.{Bor}
use Rattle.std.proofs.lemmas.Map.Text.{btree_map_updates_str}
use Rattle.im_format.specs.Damages.{index_of}
use Rattle.im_record.specs.Keys.{AreNumbered, lent}
use Rattle.im_record.proofs.NumberLemmas.{AreNumbered-put}
use Rattle.im_record.proofs.keys.Keys.add.Goals as goal

pub invariant_of-self-in-Ok : goal.invariant_of-self-in-Ok
invariant_of-self-in-Ok c =
    let old = c.self.inside.numbers in
    let order : List (Bor (List ℕ)) = c.self.inside.order.items in
    let fresh : index_of c.args.key.now (lent order) ≡ length (lent order) =
    subst (λ (ks : List (List ℕ)). index_of c.args.key.now ks ≡ length ks) (sym c.self.view_is) c.requires in
    let more : c.push_reserved.new.self.items ≡ order ++ c.args.key ∷ [] =
    c.push_reserved.ensures.items ∙ ap (λ (ks : List (Bor (List ℕ))). ks ++ c.args.key ∷ []) c.reserve.ensures.items in
    subst (λ (ks : List (Bor (List ℕ))). AreNumbered (lent ks) c.insert.new.self) (sym more)
    (AreNumbered-put order c.args.key old c.insert.new.self c.len-number.result c.self.invariant fresh (omega (arith, c.len-number.ensures))
    (λ other. btree_map_updates_str c.args.key.now old c.insert.new.self _ c.in-Ok.ensures.updates other))
