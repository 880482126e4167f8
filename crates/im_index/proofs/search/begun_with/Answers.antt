use Rattle.std.proofs.Common.{◌≡◌, ◌-◌, List, arith, drop, length, take}
use Rattle.std.proofs.lemmas.List.{length-drop, length-take-le, take_all}
use Rattle.im_versions.specs.declared.versions.Version.{Version}
use Rattle.im_index.proofs.BlockLemmas.{part-sorted}
use Rattle.im_index.proofs.PrefixLemmas.{begun-slice}
use Rattle.im_index.proofs.search.begun_with.Goals as goal

pub count_begun-count-requires : goal.count_begun-count-requires
count_begun-count-requires g c =
    part-sorted c.args.run.now c.place-from.result (length c.args.run.now - c.place-from.result) (omega arith) c.requires.sorted

pub returns-clause-sorted : goal.returns-clause-sorted
returns-clause-sorted g c =
    let run : List Version = c.args.run.now in
    let from = c.place-from.result in
    let behind : List Version = take (length run - from) (drop from run) in
    part-sorted behind 0 c.count_begun-count.result (omega (arith, c.count_begun-count.ensures.within))
    (part-sorted run from (length run - from) (omega arith) c.requires.sorted)

pub returns-clause-versions : goal.returns-clause-versions
returns-clause-versions g c =
    let run : List Version = c.args.run.now in
    let from = c.place-from.result in
    let whole : take (length run - from) (drop from run) ≡ drop from run = take_all (length run - from) (drop from run) (omega (arith, length-drop from run)) in
    begun-slice c.args.prefix.now run from c.count_begun-count.result _ c.requires.sorted c.requires.counted
    c.place-from.ensures.within c.place-from.ensures.parted whole c.count_begun-count.ensures.within c.count_begun-count.ensures.front c.count_begun-count.ensures.next

pub returns-clause-cost : goal.returns-clause-cost
returns-clause-cost g c = λ b fits.
    omega (arith, length-take-le c.count_begun-count.result _ c.count_begun-count.ensures.within, c.place-from.ensures.cost b fits, c.count_begun-count.ensures.cost)
