use Rattle.std.proofs.Common.{◌≡◌, List, ◌++◌, ap, subst, ◌∙◌}
use Rattle.std.specs.Prelude.{IfOk}
use Rattle.im_versions.specs.declared.versions.Version.{Version}
use Rattle.im_index.specs.Runs.{IsRunOf}
use Rattle.im_index.proofs.merging.merged.Goals as goal

pub returns : goal.returns
returns c =
    let first : c.share_behind.new.versions.items ≡ c.args.older.now =
    c.in_ok-share_behind.ensures ∙ ap (λ vs. vs ++ c.as_slice.result.now) c.new-versions.ensures.items ∙ c.as_slice.ensures in
    let both : c.share_behind-2.new.versions.items ≡ c.args.older.now ++ c.args.newer.now =
    c.in_ok-share_behind-2.ensures
    ∙ ap (λ vs. vs ++ c.as_slice-2.result.now) first
    ∙ ap (λ vs. c.args.older.now ++ vs) c.as_slice-2.ensures in
    subst (λ (vs : List Version). IfOk c.sorted.result (λ run. IsRunOf run vs)) both c.sorted.ensures
