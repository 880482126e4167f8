use Rattle.std.proofs.Common.{◌≡◌, List, sym, subst, ap, take, ◌∙◌}
use Rattle.im_versions.specs.declared.versions.Version.{Version}
use Rattle.im_index.specs.Indexed.{Indexed, IsSnapshotOf}
use Rattle.im_index.proofs.IndexLemmas.{index-snapshot, kept_of}
use Rattle.im_index.proofs.index.Index.snapshot.Goals as goal

pub returns-clause-history : goal.returns-clause-history
returns-clause-history c = λ history is.
    let runs : c.in_ok-runs.runs.items ≡ c.args.self.now.runs =
    c.in_ok-runs.ensures ∙ c.deref.ensures.value ∙ ap (λ (k : Indexed). k.runs) c.self.view_is in
    let same : c.over.result ≡ kept_of c.args.self.now.runs c.args.n = c.over.ensures ∙ ap (λ (rs : List (List Version)). kept_of rs c.args.n) runs in
    subst (λ (k : Indexed). IsSnapshotOf k (take c.args.n history)) (sym same) (index-snapshot history c.args.n c.args.self.now is c.requires)

pub returns-clause-shared : goal.returns-clause-shared
returns-clause-shared c =
    let runs : c.in_ok-runs.runs.items ≡ c.args.self.now.runs =
    c.in_ok-runs.ensures ∙ c.deref.ensures.value ∙ ap (λ (k : Indexed). k.runs) c.self.view_is in
    c.over.ensures ∙ ap (λ (rs : List (List Version)). kept_of rs c.args.n) runs
