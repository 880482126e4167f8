use Rattle.std.proofs.Common.{ℕ, List, ap, arith, filter, map, sym, ◌∙◌, Vec, Global}
use Rattle.std.proofs.lemmas.List.{take_all}
use Rattle.im_model.specs.declared.entries.Entry.{Entry}
use Rattle.im_versions.specs.Versions.{is_shown}
use Rattle.im_versions.specs.declared.versions.Version.{Version}
use Rattle.im_index.proofs.LoopLemmas.{made-more, passed-more, put-behind}
use Rattle.im_index.proofs.TakenLemmas.{key_version, keys-in}
use Rattle.im_index.proofs.keys.keys_in.Goals as goal
use Rattle.im_index.proofs.keys.keys_in.Goals.{then-is_shown+in_ok-key_of+in_ok-new+in_ok-push, else-is_shown}

pub returns : goal.returns
returns c =
    c.loop-entry.invariant
    ∙ ap (λ (es : List Entry). map (key_version c.args.k) (filter is_shown es)) (take_all c.loop-entry.entry-index c.args.entries.now (omega (arith, c.loop-entry-test.false)))
    ∙ keys-in c.args.k c.args.entries.now

pub loop-entry-preserved : goal.loop-entry-preserved
loop-entry-preserved c =
    let entries : List Entry = c.args.entries.now in
    let i : ℕ = c.loop-entry.entry-index in
    let entry : Entry = c.entry-item.result in
    elim c.if-is_shown.branch [
      | then-is_shown+in_ok-key_of+in_ok-new+in_ok-push w ↦
          ap (λ (u : Vec Version Global). u.items) w.versions-is
          ∙ put-behind _ _ _ _ _ w.in_ok-push.ensures.items c.loop-entry.invariant (w.in_ok-new.ensures ∙ w.in_ok-key_of.ensures)
          ∙ sym (made-more (key_version c.args.k) is_shown entries i entry c.loop-entry-test.true c.entry-item.is (sym c.is_shown.ensures ∙ w.if-is_shown.true))
      | else-is_shown w ↦
          ap (λ (u : Vec Version Global). u.items) w.versions-is
          ∙ c.loop-entry.invariant
          ∙ sym (ap (map (key_version c.args.k)) (passed-more is_shown entries i entry c.loop-entry-test.true c.entry-item.is (sym c.is_shown.ensures ∙ w.if-is_shown.false)))
    ]
