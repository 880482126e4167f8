use Rattle.std.proofs.Common.{ap, rules, set, ◌∙◌}
use Rattle.std.proofs.lemmas.List.{set-get_or}
use Rattle.im_versions.specs.declared.versions.Version.{Version}
use Rattle.im_index.proofs.blocks.hint_all.Goals as goal

pub hinting-preserved : goal.hinting-preserved
hinting-preserved c =
    let versions = c.hinting.versions.items in
    let old : Version = c.index_mut.result.now in
    ap (set versions c.hinting.from) (c.hint.ensures ∙ search (rules, c.index_mut.ensures.value)) ∙ set-get_or versions c.hinting.from old ∙ c.hinting.invariant
