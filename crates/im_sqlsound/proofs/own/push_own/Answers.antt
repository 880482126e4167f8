use Rattle.std.proofs.Common.{◌++◌, List, take, flat_map, ap, ◌∙◌}
use Rattle.std.proofs.lemmas.List.{take_all}
use Rattle.im_versions.specs.declared.versions.Version.{Version}
use Rattle.im_sqlsound.specs.Stepping.{live_of}
use Rattle.im_sqlsound.proofs.HangLemmas.{flat-step}
use Rattle.im_sqlsound.proofs.own.push_own.Goals as goal

pub loop-version-preserved : goal.loop-version-preserved
loop-version-preserved g c = λ history stands few.
    flat-step (live_of (take c.args.n history) c.args.front.now) c.args.own.now c.loop-version.version-index c.version-item.result c.args.live.now.items c.loop-version.live.items
    c.push_live.new.live.items c.loop-version-test.true c.version-item.is (c.loop-version.invariant history stands few) (c.in_ok-push_live.ensures history stands few)

pub returns : goal.returns
returns g c = λ history stands few.
    c.loop-version.invariant history stands few
    ∙ ap (λ (vs : List Version). c.args.live.now.items ++ flat_map (live_of (take c.args.n history) c.args.front.now) vs)
    (take_all c.loop-version.version-index c.args.own.now c.loop-version-test.false)
