use Rattle.std.proofs.Common.{◌∙◌, ap, arith}
use Rattle.im_table.specs.declared.view.View.{View}
use Rattle.im_table.proofs.PassLemmas.{later_both}
use Rattle.im_store.proofs.GainLemmas.{load_failed_follows}
use Rattle.im_store.proofs.ReadLemmas.{corrupt_untold, read_fault, read_other}
use Rattle.im_store.proofs.store.Store.resolve.Goals as goal

pub returns-clause-later : goal.returns-clause-later
returns-clause-later g c =
    let read = c.read_value-read in
    let l = c.load_failed in
    later_both c.args.pass.now read.new.pass l.new.pass read.ensures.later
    (load_failed_follows read.new.pass l.new.pass l.result l.ensures.table l.ensures.view l.ensures.finds.least).later

pub returns-clause-own : goal.returns-clause-own
returns-clause-own g c =
    let read = c.read_value-read.ensures in
    let view = c.load_failed.ensures.view in
    (ap (λ (v : View). v.own) view ∙ read.adds.own, ap (λ (v : View). v.leaves) view ∙ read.adds.leaves)

pub returns-clause-fault : goal.returns-clause-fault
returns-clause-fault g c fault =
    let read = c.read_value-read in
    let l = c.load_failed in
    read_fault c.args.pass.now read.new.pass l.new.pass _ _ _ _ l.result read.result read.ensures.counted read.ensures.adds read.ensures.looks read.ensures.words.1
    l.ensures.view (omega (arith, l.ensures.finds.least, read.ensures.words.1)) (omega arith) fault

pub returns-clause-others : goal.returns-clause-others
returns-clause-others g c other =
    let read = c.read_value-read in
    let l = c.load_failed in
    read_other c.args.pass.now read.new.pass l.new.pass _ _ _ _ l.result read.result read.ensures.counted read.ensures.adds l.ensures.view other

-- disks of this kind tell what they hold
pub returns-clause-placed : goal.returns-clause-placed
returns-clause-placed g c octets held tells = c.read_value-read.ensures.placed octets held (tells _)

pub returns-clause-sound : goal.returns-clause-sound
returns-clause-sound g c octets want got held tells corrupt = c.read_value-read.ensures.sound octets want got held (tells _) corrupt

pub returns-clause-corrupt : goal.returns-clause-corrupt
returns-clause-corrupt g c = corrupt_untold g.N.TipName.digest _ c.args.value.now c.read_value-read.result c.read_value-read.ensures.corrupt
