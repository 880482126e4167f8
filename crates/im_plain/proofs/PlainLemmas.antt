-- A list of versions that takes a transaction.
use Rattle.std.proofs.Common.{◌≡◌, ◌+◌, List, [], ◌∷◌, ◌++◌, length-append, arith, ap, ◌∙◌, sym}
use Rattle.im_model.specs.declared.transactions.Transaction.{Transaction}
use Rattle.im_versions.specs.Versions.{all_versions, versions_in}
use Rattle.im_versions.specs.declared.versions.Version.{Version}
use Rattle.im_versions.proofs.VersionLemmas.{versions-push}
use Rattle.im_plain.specs.Listed.{Listed, IsListOf}

-- with the versions of the next transaction behind its own, it is that of the longer history
pub IsListOf-take : (history : List Transaction) (tx : Transaction) (old new : Listed) (more : List Version) → IsListOf old history
    → more ≡ versions_in (old.taken + 1) tx.entries → new.versions ≡ old.versions ++ more → new.taken ≡ old.taken + 1
    → IsListOf new (history ++ tx ∷ [])
IsListOf-take history tx old new more is made versions taken = record {
  versions = versions
      ∙ ap (λ vs. vs ++ more) is.versions
      ∙ ap (λ vs. all_versions history ++ vs) (made ∙ ap (λ k. versions_in (k + 1) tx.entries) is.taken)
      ∙ sym (versions-push history tx);
  taken = omega (arith, is.taken, length-append history (tx ∷ []));
}
