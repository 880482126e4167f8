use Rattle.std.proofs.Common.{◌<◌, List, ℕ, length, ap, sym, subst, ◌∙◌, arith}
use Rattle.std.proofs.lemmas.List.{get_or_read}
use Rattle.im_versions.specs.Versions.{IsBelow}
use Rattle.im_versions.specs.declared.versions.Version.{Version}
use Rattle.im_versions.proofs.ScanLemmas.{below-turned, same-key}
use Rattle.im_plain.proofs.versions.place_of.Goals as goal

pub returns-in-Equal-clause-there : goal.returns-in-Equal-clause-there
returns-in-Equal-clause-there c = λ _.
    let within : c.loop-i.i < length c.args.shown.now = omega arith in
    (c.index-shown-i.result, (c.loop-i.i, (within, c.index-shown-i.is)), sym c.as_slice.ensures ∙ same-key c.as_slice.result.now c.args.key.now c.in-Equal.ensures)

pub returns-in-Greater-clause-above : goal.returns-in-Greater-clause-above
returns-in-Greater-clause-above c = λ d h.
    let same = c.as_slice.ensures ∙ ap (λ (v : Version). v.key) (get_or_read c.args.shown.now c.loop-i.i c.index-shown-i.result h c.index-shown-i.is d) in
    subst (λ (k : List ℕ). IsBelow c.args.key.now k) same (below-turned c.as_slice.result.now c.args.key.now c.in-Greater.ensures)
