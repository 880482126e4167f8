use Rattle.std.proofs.Common.{◌∙◌, rules, tests}
use Rattle.std.proofs.lemmas.Iterator.Adapters.{YieldsList-from_rev_slice}
use Rattle.std.proofs.lemmas.Iterator.Search.{find_from_yields_List}
use Rattle.im_versions.specs.Versions.{is_of}
use Rattle.im_index.proofs.LastLemmas.{find-reverse}
use Rattle.im_plain.proofs.reads.last_of.Goals as goal

pub returns : goal.returns
returns c =
    find_from_yields_List (is_of c.args.key.now) _ _ _ c.find.ensures.ran (YieldsList-from_rev_slice c.args.versions.now cc) (λ x b q k. search (rules, tests))
    ∙ find-reverse (is_of c.args.key.now) c.args.versions.now
