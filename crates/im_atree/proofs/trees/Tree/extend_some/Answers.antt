use Rattle.std.proofs.Common.{◌≡◌, ℕ, ◌+◌, List, [], ◌∷◌, ◌++◌, length, take, arith, ap, ◌∙◌, sym, subst, append-nil, append_assoc, get_or}
use Rattle.std.proofs.lemmas.List.{take_all, take_more}
use Rattle.im_levels.specs.Leveled.{Stored, IsLeveled}
use Rattle.im_atree.proofs.ExtendLemmas.{front-onward}
use Rattle.im_atree.proofs.trees.Tree.extend_some.Goals as goal

pub loop-alh-init : goal.loop-alh-init
loop-alh-init g c = record {
  size = omega arith;
  front = take_all (length c.args.self.now.digests) c.args.self.now.digests (omega arith);
  leaves = λ leaves f. subst (λ (l : List (List ℕ)). IsLeveled (g.H.Hash32.digest c.args.hash.now) l c.args.self.now) (sym (append-nil leaves)) f;
}

pub loop-alh-preserved : goal.loop-alh-preserved
loop-alh-preserved g c =
    let hash = g.H.Hash32.digest c.args.hash.now in
    let alhs : List (List ℕ) = c.args.alhs.now in
    let i = c.loop-alh.alh-index in
    let alh : List ℕ = get_or alhs i [] in
    let more : take (i + 1) alhs ≡ take i alhs ++ alh ∷ [] = take_more alhs i [] c.loop-alh-test.true in
    record {
      size = omega (arith, c.loop-alh.invariant.size, c.in_ok-append.ensures.ok);
      front = front-onward c.args.self.now.digests c.loop-alh.self.digests c.append.new.self.digests c.loop-alh.invariant.front c.in_ok-append.ensures.front;
      leaves = λ leaves f. subst (λ (l : List (List ℕ)). IsLeveled hash l c.append.new.self)
          (append_assoc leaves (take i alhs) (alh ∷ []) ∙ ap (λ (l : List (List ℕ)). leaves ++ l) (sym more))
          (c.in_ok-append.ensures.leaves (leaves ++ take i alhs) (c.loop-alh.invariant.leaves leaves f));
    }

pub returns-in_err-append-clause-front : goal.returns-in_err-append-clause-front
returns-in_err-append-clause-front g c =
    ap (λ (v : Stored). take (length c.args.self.now.digests) v.digests) c.in_err-append.ensures.err ∙ c.loop-alh.invariant.front

pub returns-clause-front : goal.returns-clause-front
returns-clause-front g c = c.loop-alh.invariant.front
