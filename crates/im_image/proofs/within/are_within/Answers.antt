use Rattle.std.proofs.Common.{take, reverse, sym, subst, arith}
use Rattle.std.proofs.lemmas.Bool.{false≢true}
use Rattle.im_disk.specs.Records.{files_of, FitsBehind}
use Rattle.im_disk.specs.declared.calls.Call.{Call}
use Rattle.im_image.proofs.WithinLemmas.{fits-each}
use Rattle.im_image.proofs.within.are_within.Goals as goal

pub returns-then-not-fits_behind : goal.returns-then-not-fits_behind
returns-then-not-fits_behind c = (
  λ e. absurd (false≢true e),
  λ within.
      c.if-not-fits_behind.ensures.1
      (subst (λ (call : Call). FitsBehind (files_of c.args.first.now) (reverse (take c.loop-n.n c.args.calls.now)) call) (sym c.index-calls-n.is)
      (fits-each (files_of c.args.first.now) c.args.calls.now c.loop-n.n c.index-calls-n.result (omega arith) within)),
)
