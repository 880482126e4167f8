use Rattle.std.proofs.Common.{flat_map, [], ap, ◌∙◌}
use Rattle.std.proofs.lemmas.List.{take_all}
use Rattle.im_sqlsound.specs.Sounding.{entries_of}
use Rattle.im_sqlsound.proofs.HangLemmas.{flat-step}
use Rattle.im_sqlsound.proofs.entered.entries_given.Goals as goal

pub loop-found-preserved : goal.loop-found-preserved
loop-found-preserved c =
    flat-step entries_of c.args.tables.now c.loop-found.found-index c.found-item.result [] c.loop-found.entries.items c.push_entries.new.entries.items
    c.loop-found-test.true c.found-item.is c.loop-found.invariant c.in_ok-push_entries.ensures

pub returns : goal.returns
returns c = c.loop-found.invariant ∙ ap (flat_map entries_of) (take_all c.loop-found.found-index c.args.tables.now c.loop-found-test.false)
