use Rattle.std.proofs.Common.{rules, ◌<◌, ◌+◌, ◌∙◌, ℕ, List, ◌∷◌, ◌++◌, [], length, map, take, ap, sym, subst, arith}
use Rattle.im_model.specs.Entries.{entry_digest}
use Rattle.im_model.specs.Trees.{root}
use Rattle.im_model.specs.declared.entries.Entry.{Entry}
use Rattle.im_mtree.specs.Kept.{IsFrontier}
use Rattle.im_seated_book.proofs.RootLemmas.{digests_more, digests_whole, value_told}
use Rattle.im_seated_book.proofs.roots.entry_root_over.Goals as goal

pub loop-i-init : goal.loop-i-init
loop-i-init g c = record { size = c.new-tree.ensures.size; leaves = c.new-tree.ensures.leaves (g.H.Hash32.digest c.args.hash.now) }

-- the digest that the reference tells is that of the value
pub digest_over-digest-requires : goal.digest_over-digest-requires
digest_over-digest-requires g c =
    let hash = g.H.Hash32.digest c.args.hash.now in
    let within : c.loop-i.i < length c.args.entries.now = search rules in
    let some : c.loop-i.i < length c.args.refs.now = omega (arith, within, c.requires.count) in
    value_told hash c.args.entries.now c.args.refs.now c.loop-i.i _ _ c.requires.values within some ∙ ap (λ (e : Entry). hash e.value) (sym c.index-entries-i.is)

pub loop-i-preserved : goal.loop-i-preserved
loop-i-preserved g c =
    let hash = g.H.Hash32.digest c.args.hash.now in
    let inv = c.loop-i.invariant in
    let within : c.loop-i.i < length c.args.entries.now = search rules in
    let before = map (entry_digest hash) (take c.loop-i.i c.args.entries.now) in
    let one = c.digest_over-digest.ensures ∙ ap (λ (e : Entry). entry_digest hash e) c.index-entries-i.is in
    record {
      size = c.append.ensures.size ∙ ap (λ n. n + 1) inv.size;
      leaves = subst (λ (l : List (List ℕ)). IsFrontier hash l c.append.new.self)
          (ap (λ (d : List ℕ). before ++ d ∷ []) one ∙ digests_more hash c.args.entries.now c.loop-i.i _ within) (c.append.ensures.leaves before inv.leaves);
    }

pub returns : goal.returns
returns g c =
    let hash = g.H.Hash32.digest c.args.hash.now in
    c.root.ensures (map (entry_digest hash) (take c.loop-i.i c.args.entries.now)) c.loop-i.invariant.leaves
    ∙ ap (λ (l : List (List ℕ)). root hash l) (digests_whole hash c.args.entries.now c.loop-i.i c.loop-i-test.false)
