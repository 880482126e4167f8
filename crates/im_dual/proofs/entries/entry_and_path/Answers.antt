use Rattle.std.proofs.Common.{List, ℕ, reverse, sym, ap, ◌∙◌}
use Rattle.std.proofs.lemmas.List.{get_or_default, reverse-reverse}
use Rattle.im_digest.specs.Digests.{Hash}
use Rattle.im_mtree.specs.Inclusion.{inclusion}
use Rattle.im_proof.specs.Between.{no_entry}
use Rattle.im_dual.proofs.entries.entry_and_path.Goals as goal

pub returns-clause-entry : goal.returns-clause-entry
returns-clause-entry g c =
    c.in_ok-entry.ensures ∙ c.index-entries-index.is ∙ get_or_default c.args.entries.now c.args.index c.index-entries-index.result no_entry c.requires

pub returns-clause-path : goal.returns-clause-path
returns-clause-path g c =
    let hash : Hash = g.H.Hash32.digest c.args.hash.now in
    sym (reverse-reverse c.in_ok-path.path)
    ∙ ap (λ (ds : List (List ℕ)). reverse ds)
    (c.in_ok-path.ensures.value ∙ ap (λ (ds : List (List ℕ)). inclusion hash ds c.args.index) (c.as_slice.ensures.value ∙ c.in_ok-digests.ensures))
