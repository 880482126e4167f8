use Rattle.im_opening.proofs.EndLemmas.{EndsAt}
use Rattle.im_opening.proofs.ends.ends_of.Given as goal

abbrev pub invariant-loop-record : goal.invariant-loop-record
invariant-loop-record l = record {
  first : EndsAt 0 l.first l.record-index l.records;
  second : EndsAt 1 l.second l.record-index l.records;
  third : EndsAt 2 l.third l.record-index l.records;
  fourth : EndsAt 3 l.fourth l.record-index l.records;
}
