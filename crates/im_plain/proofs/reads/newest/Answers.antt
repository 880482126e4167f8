use Rattle.std.proofs.Common.{◌≡◌, ◌+◌, Bool, true, false, [], ◌∷◌, ◌++◌, take, ap, ◌∙◌, sym, subst}
use Rattle.std.proofs.lemmas.List.{take_more}
use Rattle.im_versions.specs.Versions.{begins_with}
use Rattle.im_versions.specs.declared.versions.Version.{Version}
use Rattle.im_index.specs.Newest.{HasNewest, PutsNewest}
use Rattle.im_index.proofs.MapLemmas.{HasNewest-put, HasNewest-skip}
use Rattle.im_plain.proofs.reads.newest.Goals as goal
use Rattle.im_plain.proofs.reads.newest.Goals.{then-starts_with+in_ok-put, else-starts_with}

pub loop-version-preserved : goal.loop-version-preserved
loop-version-preserved c =
    let versions = c.args.versions.now in
    let prefix = c.args.prefix.now in
    let i = c.loop-version.version-index in
    let v = c.version-item.result in
    let more : take (i + 1) versions ≡ take i versions ++ v ∷ [] =
    take_more versions i v c.loop-version-test.true ∙ ap (λ (w : Version). take i versions ++ w ∷ []) (sym c.version-item.is) in
    let begins = λ (b : Bool) (h : begins_with prefix c.as_slice-key.result.now ≡ b).
    subst (λ k. begins_with prefix k ≡ b) c.as_slice-key.ensures h in
    subst (λ vs. HasNewest vs prefix c.if-starts_with.newest) (sym more) (elim c.if-starts_with.branch [
      | then-starts_with+in_ok-put w ↦ subst (λ n. HasNewest (take i versions ++ v ∷ []) prefix n) (sym w.newest-is)
          (HasNewest-put (take i versions) prefix v c.loop-version.newest w.put.new.newest
          (begins true (sym c.starts_with.ensures.value ∙ w.if-starts_with.true))
          (subst (λ k. PutsNewest c.loop-version.newest w.put.new.newest k v) c.as_slice-key.ensures w.in_ok-put.ensures) c.loop-version.invariant)
      | else-starts_with w ↦ subst (λ n. HasNewest (take i versions ++ v ∷ []) prefix n) (sym w.newest-is)
          (HasNewest-skip (take i versions) prefix v c.loop-version.newest
          (begins false (sym c.starts_with.ensures.value ∙ w.if-starts_with.false)) c.loop-version.invariant)
    ])
