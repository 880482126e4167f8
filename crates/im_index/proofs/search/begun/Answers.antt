use Rattle.std.proofs.Common.{◌∙◌, ℕ, List, ap}
use Rattle.std.specs.List.{filter}
use Rattle.im_versions.specs.Versions.{begins_with}
use Rattle.im_versions.specs.declared.versions.Version.{Version}
use Rattle.im_index.proofs.search.begun.Goals as goal

pub returns-clause-versions : goal.returns-clause-versions
returns-clause-versions g c =
    c.begun_with.ensures.versions ∙ ap (λ (k : List ℕ). filter (λ (v : Version). begins_with k v.key) c.args.run.now) c.new-sought.ensures
