use Rattle.std.proofs.Common.{◌≡◌, ℕ, List, ap, subst, ◌∙◌}
use Rattle.std.proofs.lemmas.List.{nil_from_length}
use Rattle.std.proofs.lemmas.Result.{on_ok_weaker}
use Rattle.im_versions.specs.declared.versions.Version.{Version}
use Rattle.im_index.specs.Newest.{PutsNewest}
use Rattle.im_index.proofs.NewestLemmas.{block-passed, block-put}
use Rattle.im_index.proofs.reads.put_block.Goals as goal

pub returns-in-None : goal.returns-in-None
returns-in-None c = λ before prefix has begins.
    block-passed before c.args.block.now c.block_upto.result.now prefix c.args.n c.args.newest.now c.block_upto.ensures
    (nil_from_length c.block_upto.result.now c.in-None.ensures.cases) has

pub returns-in-Some : goal.returns-in-Some
returns-in-Some c = λ before prefix has begins.
    let v : Version = c.in-Some.last.now in
    let key : c.as_slice.result.now ≡ v.key = c.as_slice.ensures ∙ ap (λ (w : Version). w.key) c.version-version.ensures in
    on_ok_weaker c.put.result
    (λ puts. block-put before c.args.block.now c.block_upto.result.now _ prefix c.requires.own.0 c.args.n v c.args.newest.now c.put.new.newest
    c.requires.own.1 begins c.block_upto.ensures c.in-Some.ensures.cases.0
    (subst (λ (k : List ℕ). PutsNewest c.args.newest.now c.put.new.newest k v) key
    (subst (λ (w : Version). PutsNewest c.args.newest.now c.put.new.newest c.as_slice.result.now w) c.version-version.ensures puts)) has)
    c.put.ensures
