use Rattle.std.proofs.Common.{arith, [], ℕ, List, length, sym, ◌∙◌, ap, subst}
use Rattle.im_disk.specs.Disk.{seen}
use Rattle.im_format.specs.Records.{records_octets}
use Rattle.im_format.specs.declared.records.Record.{Record}
use Rattle.im_model.specs.History.{no_digest}
use Rattle.im_proof.specs.Built.{headers_of}
use Rattle.im_opening.specs.Reach.{IsConsistent, txs_of}
use Rattle.im_opening.specs.Stretches.{BatchesLeft}
use Rattle.im_opening.proofs.BatchesLeft.{batches-first}
use Rattle.im_opening.proofs.RecordGrows.{consistent-first}
use Rattle.im_opening.proofs.stretches.Reading.new.Goals as goal

pub returns-clause-reached : goal.returns-clause-reached
returns-clause-reached c hash commits log =
    let none = c.new.ensures.items in
    let no_headers = c.new-2.ensures.items in
    let no_alhs = c.new-3.ensures.items in
    let A : List Record → Type 0 = λ rs. IsConsistent hash rs c.new-3.result.items 0 no_digest c.new-4.result in
    let B : List (List ℕ) → Type 0 = λ ds. IsConsistent hash [] ds 0 no_digest c.new-4.result in
    record {
      gate_is = omega arith;
      within = omega arith;
      few = omega arith;
      begun = λ e. ap length no_alhs;
      place = omega arith;
      fits = subst A (sym none) (subst B (sym no_alhs) (consistent-first hash c.new-4.result (c.new-4.ensures.leaves hash)));
      whole = record {
        place_is = ap (λ (rs : List Record). length (records_octets 1 rs)) (sym none);
        headers_are = no_headers ∙ ap (λ (rs : List Record). headers_of hash (txs_of rs)) (sym none);
      };
    }

pub returns-clause-left : goal.returns-clause-left
returns-clause-left c hash told = record {
  is = λ t is.
      let X : List Record → Type 0 = λ rs. BatchesLeft hash (seen t) 0 0 rs (record { alhs = c.new-3.result.items; bl = 0; place = 0 }) in
      let Y : List (List ℕ) → Type 0 = λ ds. BatchesLeft hash (seen t) 0 0 [] (record { alhs = ds; bl = 0; place = 0 }) in
      subst X (sym c.new.ensures.items) (subst Y (sym c.new-3.ensures.items) (batches-first hash (seen t)));
}
