-- Batches that are read and pass their checks stand.
use Rattle.std.proofs.Common.{◌≡◌, ◌<◌, ◌≤◌, ◌+◌, ◌-◌, suc, zero, ℕ, List, [], ◌∷◌, ◌++◌, length, map, refl, ap, subst, sym, ◌∙◌, arith, Bool, true, if◌then◌else◌, inl, inr}
use Rattle.std.proofs.lemmas.Bool.{cases_Bool, eqb-true, leb-true}
use Rattle.std.proofs.lemmas.List.{map-append}
use Rattle.im_octet.specs.Fields.{field8}
use Rattle.im_digest.specs.Digests.{Hash}
use Rattle.im_disk.specs.Disk.{Files}
use Rattle.im_model.specs.declared.transactions.Transaction.{Transaction}
use Rattle.im_format.specs.Batches.{Counts, joined}
use Rattle.im_format.specs.Damages.{Reached, batch_checks, batches_checks, behind, from_one, is_number, next_id, records_checks}
use Rattle.im_format.specs.Reading.{counts, history_from, number8, number_at, records_end, transactions_in}
use Rattle.im_format.specs.declared.records.Record.{Record}
use Rattle.im_format.proofs.FieldsBack.{IsSmall, field8-back}
use Rattle.im_format.proofs.HeldBatches.{HoldsBatch, HoldsBatches, counts-true, fields-joined, true-counts}
use Rattle.im_format.proofs.HeldRecords.{grown_by}
use Rattle.im_format.proofs.HoldLemmas.{holds-same}
use Rattle.im_format.proofs.PassLemmas.{pass-left, pass-right}
use Rattle.im_format.proofs.RecordsBack.{RecordsBack, records-back}
use Rattle.im_mtree.proofs.CheckLemmas.{AllHold}

-- a batch that passes
record BatchBack (hash : Hash) (image : Files) (gate : ℕ) (r : Reached) : Type 0 where
  pub of : RecordsBack hash image r (number_at (image 1) gate)
  pub held : HoldsBatch hash image gate r of.all

batch-back : (hash : Hash) (image : Files) (gate : ℕ) (r : Reached) → IsSmall (image 0) → IsSmall (image 1) → Counts (image 1) gate → AllHold (batch_checks hash image gate r) → BatchBack hash image gate r
batch-back hash image gate r small0 small1 counted pass =
    let log : List ℕ = image 1 in
    let n : ℕ = number_at log gate in
    let front = is_number 1 log (gate + 1) (next_id r) ∷ from_one 1 (gate + 9) (1048576 - length r.alhs) n in
    let records = records_checks hash image n r in
    let last = is_number 1 log (gate + 17) (behind hash image n r).place ∷ [] in
    let first : AllHold front = pass-left front (records ++ last) pass in
    let rest : AllHold (records ++ last) = pass-right front (records ++ last) pass in
    let id : number8 log (gate + 1) ≡ next_id r = eqb-true (number8 log (gate + 1)) (next_id r) first.0 in
    let some : 1 ≤ n = leb-true 1 n first.1.0 in
    let few : n ≤ 1048576 - length r.alhs = leb-true n (1048576 - length r.alhs) first.1.1.0 in
    let back : RecordsBack hash image r n = records-back hash image r n small0 (omega arith) (pass-left records last rest) in
    let end_pass : AllHold last = pass-right records last rest in
    let end_is : number8 log (gate + 17) ≡ (grown_by r back.all).place =
    eqb-true (number8 log (gate + 17)) (behind hash image n r).place end_pass.0 ∙ ap (λ (s : Reached). s.place) back.behind_is in
    let many : length back.all ≡ n = back.many in
    let whole : gate + 25 < length log = counted.whole in
    record {
      of = back;
      held = record {
        counted = counted;
        filled = omega arith;
        room = omega arith;
        fields = fields-joined log gate (next_id r) (length back.all) (grown_by r back.all).place
            record {
              of_first = holds-same (field8 (next_id r)) (ap field8 id) (field8-back log (gate + 1) small1 (omega arith));
              of_count = holds-same (field8 (length back.all)) (ap field8 (sym many)) (field8-back log (gate + 9) small1 (omega arith));
              of_end = holds-same (field8 (grown_by r back.all).place) (ap field8 end_is) (field8-back log (gate + 17) small1 (omega arith));
            };
        records = back.held;
      };
    }

-- batches that pass
pub record BatchesBack (hash : Hash) (image : Files) (most gate : ℕ) (r : Reached) : Type 0 where
  pub all : List (List Record)
  pub txs_are : map (λ rec. rec.tx) (joined all) ≡ history_from image most gate r.place
  pub held : HoldsBatches hash image gate r all

-- what is read where the gate is open, and where it is closed
abbrev history_by : Bool → Files → ℕ → ℕ → ℕ → List Transaction
history_by b image most gate at =
    if b then transactions_in image at (number_at (image 1) gate) ++ history_from image most (gate + 25) (records_end image at (number_at (image 1) gate)) else []

-- one that passes, and then more
batches-more : (hash : Hash) (image : Files) (most gate : ℕ) (r : Reached) → counts (image 1) gate ≡ true → (one : BatchBack hash image gate r) → BatchesBack hash image most (gate + 25) (grown_by r one.of.all) → BatchesBack hash image (suc most) gate r
batches-more hash image most gate r opened one more =
    let batch : List Record = one.of.all in
    let next : Reached = grown_by r batch in
    record {
      all = batch ∷ more.all;
      txs_are = map-append (λ rec. rec.tx) batch (joined more.all)
          ∙ ap (λ ts. ts ++ map (λ rec. rec.tx) (joined more.all)) one.of.txs_are
          ∙ ap (λ ts. transactions_in image r.place (number_at (image 1) gate) ++ ts) more.txs_are
          ∙ ap (λ p. transactions_in image r.place (number_at (image 1) gate) ++ history_from image most (gate + 25) p) (sym one.of.ends)
          ∙ sym (ap (λ b. history_by b image most gate r.place) opened);
      held = (one.held, more.held);
    }

pub batches-back : (hash : Hash) (image : Files) (most gate : ℕ) (r : Reached) → IsSmall (image 0) → IsSmall (image 1) → length (image 1) ≤ gate + most → AllHold (batches_checks hash image most gate r) → BatchesBack hash image most gate r
batches-back hash image zero gate r small0 small1 enough pass = record {
  all = [];
  txs_are = refl;
  held = λ c. (let whole : gate + 25 < length (image 1) = c.whole in absurd (omega arith));
}
batches-back hash image (suc most) gate r small0 small1 enough pass = elim (cases_Bool (counts (image 1) gate)) [
  | inl opened ↦ (
      let n : ℕ = number_at (image 1) gate in
      let here = batch_checks hash image gate r in
      let rest = batches_checks hash image most (gate + 25) (behind hash image n r) in
      let both : AllHold (here ++ rest) = subst (λ b. AllHold (if b then here ++ rest else [])) opened pass in
      let one : BatchBack hash image gate r = batch-back hash image gate r small0 small1 (true-counts (image 1) gate opened) (pass-left here rest both) in
      let on : AllHold (batches_checks hash image most (gate + 25) (grown_by r one.of.all)) =
      subst (λ s. AllHold (batches_checks hash image most (gate + 25) s)) one.of.behind_is (pass-right here rest both) in
      batches-more hash image most gate r opened one (batches-back hash image most (gate + 25) (grown_by r one.of.all) small0 small1 (omega arith) on))
  | inr closed ↦ record {
    all = [];
    txs_are = sym (ap (λ b. history_by b image most gate r.place) closed);
    held = λ c. (let opened : counts (image 1) gate ≡ true = counts-true (image 1) gate c in absurd (cc));
  }
]
