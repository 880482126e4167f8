use Rattle.std.proofs.Common.{ℕ, List, ap, arith, map, sym, ◌∙◌, Vec, Global}
use Rattle.std.proofs.lemmas.List.{take_all}
use Rattle.im_model.specs.declared.entries.Entry.{Entry}
use Rattle.im_versions.specs.Versions.{is_shown, version_of, versions_in}
use Rattle.im_versions.specs.declared.versions.Version.{Version}
use Rattle.im_index.proofs.LoopLemmas.{made-more, passed-more, put-behind}
use Rattle.im_index.proofs.merging.versions_in.Goals as goal
use Rattle.im_index.proofs.merging.versions_in.Goals.{then-is_shown+in_ok-version_of+in_ok-new+in_ok-push, else-is_shown}

pub loop-entry-preserved : goal.loop-entry-preserved
loop-entry-preserved c =
    let entries : List Entry = c.args.entries.now in
    let i : ℕ = c.loop-entry.entry-index in
    let entry : Entry = c.entry-item.result in
    elim c.if-is_shown.branch [
      | then-is_shown+in_ok-version_of+in_ok-new+in_ok-push w ↦
          ap (λ (u : Vec Version Global). u.items) w.versions-is
          ∙ put-behind _ _ _ _ _ w.in_ok-push.ensures.items c.loop-entry.invariant (w.in_ok-new.ensures ∙ w.in_ok-version_of.ensures)
          ∙ sym (made-more (version_of c.args.k) is_shown entries i entry c.loop-entry-test.true c.entry-item.is (sym c.is_shown.ensures ∙ w.if-is_shown.true))
      | else-is_shown w ↦
          ap (λ (u : Vec Version Global). u.items) w.versions-is
          ∙ c.loop-entry.invariant
          ∙ sym (ap (map (version_of c.args.k)) (passed-more is_shown entries i entry c.loop-entry-test.true c.entry-item.is (sym c.is_shown.ensures ∙ w.if-is_shown.false)))
    ]

pub returns : goal.returns
returns c =
    c.loop-entry.invariant
    ∙ ap (versions_in c.args.k) (take_all c.loop-entry.entry-index c.args.entries.now (omega (arith, c.loop-entry-test.false)))
