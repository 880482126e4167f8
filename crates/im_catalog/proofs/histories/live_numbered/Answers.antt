use Rattle.std.proofs.Common.{◌≡◌, ◌+◌, ◌++◌, ◌∷◌, [], ℕ, List, filter, not, take, sym, ap, subst, ◌∙◌}
use Rattle.std.proofs.lemmas.List.{take_more}
use Rattle.im_versions.specs.declared.versions.Version.{Version}
use Rattle.im_sqlmodel.specs.Rows.{numbered}
use Rattle.im_catalog.specs.Numbered.{pairs_of, number_of, Counts}
use Rattle.im_catalog.proofs.NumberLemmas.{HasCounted, counted-put, live-put}
use Rattle.im_catalog.proofs.histories.live_numbered.Goals as goal

pub loop-version-preserved : goal.loop-version-preserved
loop-version-preserved c =
    let vs : List Version = take c.loop-version.version-index c.args.changes.now in
    let v : Version = c.version-item.result in
    let more : take (c.loop-version.version-index + 1) c.args.changes.now ≡ vs ++ v ∷ [] =
    take_more c.args.changes.now c.loop-version.version-index v c.loop-version-test.true ∙ ap (λ (w : Version). vs ++ w ∷ []) (sym c.version-item.is) in
    let number = subst (λ (k : List ℕ). c.in_ok-number.number ≡ number_of c.loop-version.numbers k + 1) c.as_slice.ensures c.in_ok-number.ensures.number in
    let counted = subst (λ (k : List ℕ). Counts c.loop-version.numbers c.next_number.new.numbers k c.in_ok-number.number) c.as_slice.ensures c.in_ok-number.ensures.counted in (
      subst (λ (ws : List Version). HasCounted ws c.next_number.new.numbers) (sym more)
          (counted-put vs v c.loop-version.numbers c.next_number.new.numbers c.in_ok-number.number c.loop-version.invariant.0 number counted),
      subst (λ (ws : List Version). pairs_of c.push_live.new.live.items ≡ filter (λ p. not p.1.deleted) (numbered [] ws)) (sym more)
          (live-put vs v c.loop-version.live.items c.push_live.new.live.items c.in_ok-number.number (number ∙ ap (λ (n : ℕ). n + 1) (c.loop-version.invariant.0 v.key))
          c.in_ok-push_live.ensures c.loop-version.invariant.1),
    )
