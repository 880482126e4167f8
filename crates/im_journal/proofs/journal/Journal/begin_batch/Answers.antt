use Rattle.std.proofs.Common.{arith, ◌<◌, ◌+◌, ◌^◌, [], ℕ, List, length, refl, sym, ap, subst}
use Rattle.std.specs.Prelude.{All, IfSome}
use Rattle.im_format.specs.Batches.{gate_of, spans_of}
use Rattle.im_format.specs.declared.spans.Span.{Span}
use Rattle.im_journal.specs.Holding.{AreNext}
use Rattle.im_journal.specs.Kept.{IsAtRest}
use Rattle.im_journal.specs.Phases.{FitsDisk, IsStaging}
use Rattle.im_journal.specs.Pieces.{end_of}
use Rattle.im_journal.specs.declared.ends.Ends.{Ends}
use Rattle.im_journal.proofs.Mids.{begun, pieces_fit, rest_room, rest_whole}
use Rattle.im_journal.proofs.journal.Journal.begin_batch.Goals as goal

pub plan_of-requires-clause-whole : goal.plan_of-requires-clause-whole
plan_of-requires-clause-whole g c =
    let n = c.requires.next in
    rest_whole g.D.Disk.told n.0 n.1 n.2 c.args.self.now n.3 c.args.records.now n.4

pub plan_of-requires-clause-room : goal.plan_of-requires-clause-room
plan_of-requires-clause-room g c k =
    let n = c.requires.next in
    subst (λ (e : Ends). end_of e k < 2 ^ 61) (sym (ap (λ j. j.ends) c.self.view_is)) (rest_room g.D.Disk.told n.0 n.1 n.2 c.args.self.now n.3 k)

pub invariant_of-self : goal.invariant_of-self
invariant_of-self g c =
    let n = c.requires.next in
    let room : (k : ℕ) → end_of c.self.inside.ends k < 2 ^ 61 = λ k. subst (λ (e : Ends). end_of e k < 2 ^ 61) (sym (ap (λ j. j.ends) c.self.view_is)) (rest_room g.D.Disk.told n.0 n.1 n.2 c.args.self.now n.3 k) in (
      subst (All FitsDisk) (sym c.in_ok-plan.ensures.pieces) (pieces_fit c.self.inside.ends (c.self.inside.durable + 1) c.args.records.now room),
      omega arith,
    )

pub returns-clause-ok : goal.returns-clause-ok
returns-clause-ok g c hash history batches rest next =
    let told = g.D.Disk.told in
    let rs = c.args.records.now in
    let here = subst (λ k. IsAtRest told hash history batches k) (sym c.self.view_is) rest in
    let pieces = c.in_ok-plan.ensures.pieces in
    record {
      first = here.first;
      next = subst (λ (n : ℕ). AreNext hash history batches n rs) (sym (ap (λ j. j.durable) c.self.view_is)) next;
      pieces = pieces;
      ends = c.in_ok-plan.ensures.ends;
      count = refl;
      at = subst (λ (ps : List Span). IfSome (told c.self.inside.disk) (IsStaging (end_of c.self.inside.ends) (spans_of batches) (gate_of (length batches)) [] ps)) (sym pieces)
          (begun told hash history batches _ here rs);
    }
