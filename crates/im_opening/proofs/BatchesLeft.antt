-- How far the batches that count are read.
use Rattle.std.proofs.Common.{◌≡◌, ℕ, suc, zero, ◌+◌, ◌<◌, ◌≤◌, List, [], ◌∷◌, ◌++◌, length, refl, ap, sym, ◌∙◌, subst, arith, append_assoc, Ok, true, Bool, if◌then◌else◌}
use Rattle.std.proofs.lemmas.List.{append-nil}
use Rattle.im_digest.specs.Digests.{Hash}
use Rattle.im_disk.specs.Disk.{Files}
use Rattle.im_format.specs.Batches.{Counts, joined}
use Rattle.im_format.specs.Damages.{Reached, at_first, batch_checks, batches_checks, behind, behind_one, image_checks}
use Rattle.im_format.specs.Reading.{counts, number_at, records_end}
use Rattle.im_format.specs.declared.damages.Damage.{Damage}
use Rattle.im_format.specs.declared.records.Record.{Record}
use Rattle.im_mtree.specs.Checks.{Check, first_fail}
use Rattle.im_format.proofs.HeldBatches.{counts-false, counts-true}
use Rattle.im_mtree.proofs.CheckLemmas.{fail_append}
use Rattle.im_opening.specs.Answers.{Tells}
use Rattle.im_opening.specs.Opening.{AreBatches}
use Rattle.im_opening.specs.Parts.{batches_from, batches_in, place_from, counted_end, records_in}
use Rattle.im_opening.specs.Stretches.{BatchesLeft}
use Rattle.im_opening.specs.declared.errors.OpenError.{OpenError}
use Rattle.im_opening.specs.declared.errors.OpenError.TheVariants.{DiskFault, Damaged, Memory}
use Rattle.im_opening.proofs.Finding.{tells-first}

-- where so many records end
pub place-behind : (hash : Hash) (image : Files) (count : ℕ) (r : Reached) → (behind hash image count r).place ≡ records_end image r.place count
place-behind hash image zero r = refl
place-behind hash image (suc count) r = place-behind hash image count (behind_one hash image r)

pub batches-first : (hash : Hash) (image : Files) → BatchesLeft hash image 0 0 [] at_first
batches-first hash image = record {
  most = length (image 1);
  enough = omega arith;
  records_are = refl;
  batches_are = omega arith;
  place_is = refl;
  finds = refl;
}

-- the batches from a gate on, where it is open and where it isn't
abbrev batches_by : Bool → Files → ℕ → ℕ → ℕ → List (List Record)
batches_by b image most gate at =
    let count = number_at (image 1) gate in
    if b then records_in image at count ∷ batches_from image most (gate + 25) (records_end image at count) else []

abbrev place_by : Bool → Files → ℕ → ℕ → ℕ → ℕ
place_by b image most gate at = if b then place_from image most (gate + 25) (records_end image at (number_at (image 1) gate)) else at

abbrev checks_by : Bool → Hash → Files → ℕ → ℕ → Reached → List (Check Damage)
checks_by b hash image most gate r =
    if b
    then batch_checks hash image gate r ++ batches_checks hash image most (gate + 25) (behind hash image (number_at (image 1) gate) r)
    else []

module _ (hash : Hash) (image : Files) (gate batches : ℕ) (records : List Record) (r : Reached) where
  opened : (most : ℕ) → counts (image 1) gate ≡ true
      → batches_from image (suc most) gate r.place
      ≡ records_in image r.place (number_at (image 1) gate) ∷ batches_from image most (gate + 25) (behind hash image (number_at (image 1) gate) r).place
  opened most open_is =
      let n = number_at (image 1) gate in
      ap (λ b. batches_by b image most gate r.place) open_is
      ∙ ap (λ p. records_in image r.place n ∷ batches_from image most (gate + 25) p) (sym (place-behind hash image n r))

  next-by : (most : ℕ) → Counts (image 1) gate → length (image 1) ≤ gate + most
      → records ++ joined (batches_from image most gate r.place) ≡ joined (batches_in image)
      → batches + length (batches_from image most gate r.place) ≡ length (batches_in image)
      → place_from image most gate r.place ≡ counted_end image
      → first_fail (batches_checks hash image most gate r) ≡ first_fail (image_checks hash image)
      → first_fail (batch_checks hash image gate r) ≡ Ok tt
      → BatchesLeft hash image (gate + 25) (batches + 1) (records ++ records_in image r.place (number_at (image 1) gate))
      (behind hash image (number_at (image 1) gate) r)
  next-by zero counted enough rs bs ps finds ok = (let whole : gate + 25 < length (image 1) = counted.whole in absurd (omega arith))
  next-by (suc most) counted enough rs bs ps finds ok =
      let n = number_at (image 1) gate in
      let open_is = counts-true (image 1) gate counted in
      let here = records_in image r.place n in
      let rest = batches_from image most (gate + 25) (behind hash image n r).place in
      record {
        most = most;
        enough = omega arith;
        records_are = append_assoc records here (joined rest) ∙ ap (λ (l : List (List Record)). records ++ joined l) (sym (opened most open_is)) ∙ rs;
        batches_are = omega (arith, ap length (opened most open_is), bs);
        place_is =
            ap (λ p. place_from image most (gate + 25) p) (place-behind hash image n r)
            ∙ ap (λ b. place_by b image most gate r.place) (sym open_is)
            ∙ ps;
        finds =
            sym (fail_append (batch_checks hash image gate r) (batches_checks hash image most (gate + 25) (behind hash image n r)) ok)
            ∙ ap (λ b. first_fail (checks_by b hash image most gate r)) (sym open_is)
            ∙ finds;
      }

  pub batches-next : (more : List Record) (next : Reached) (n : ℕ) → BatchesLeft hash image gate batches records r → Counts (image 1) gate
      → n ≡ number_at (image 1) gate → more ≡ records ++ records_in image r.place n → next ≡ behind hash image n r
      → first_fail (batch_checks hash image gate r) ≡ Ok tt
      → BatchesLeft hash image (gate + 25) (batches + 1) more next
  batches-next more next n left counted count is at ok =
      let made = next-by left.most counted left.enough left.records_are left.batches_are left.place_is left.finds ok in
      let A : ℕ → Type 0 = λ k. BatchesLeft hash image (gate + 25) (batches + 1) (records ++ records_in image r.place k) (behind hash image k r) in
      let P : List Record → Type 0 = λ rs. BatchesLeft hash image (gate + 25) (batches + 1) rs (behind hash image n r) in
      let Q : Reached → Type 0 = λ x. BatchesLeft hash image (gate + 25) (batches + 1) more x in
      subst Q (sym at) (subst P (sym is) (subst A (sym count) made))

  tells-by : (most : ℕ) (e : OpenError) → Counts (image 1) gate → length (image 1) ≤ gate + most
      → first_fail (batches_checks hash image most gate r) ≡ first_fail (image_checks hash image)
      → Tells (batch_checks hash image gate r) e → Tells (image_checks hash image) e
  tells-by zero e counted enough finds h = (let whole : gate + 25 < length (image 1) = counted.whole in absurd (omega arith))
  tells-by (suc most) DiskFault counted enough finds h = tt
  tells-by (suc most) (Damaged d) counted enough finds h =
      let n = number_at (image 1) gate in
      sym finds
      ∙ ap (λ b. first_fail (checks_by b hash image most gate r)) (counts-true (image 1) gate counted)
      ∙ tells-first (batch_checks hash image gate r) (batches_checks hash image most (gate + 25) (behind hash image n r)) (Damaged d) h
  tells-by (suc most) Memory counted enough finds h = tt

  pub batches-tell : (e : OpenError) → BatchesLeft hash image gate batches records r → Counts (image 1) gate
      → Tells (batch_checks hash image gate r) e → Tells (image_checks hash image) e
  batches-tell e left counted h = tells-by left.most e counted left.enough left.finds h

  last-by : (most : ℕ) → (Counts (image 1) gate → ⊥)
      → records ++ joined (batches_from image most gate r.place) ≡ joined (batches_in image)
      → batches + length (batches_from image most gate r.place) ≡ length (batches_in image)
      → place_from image most gate r.place ≡ counted_end image
      → first_fail (batches_checks hash image most gate r) ≡ first_fail (image_checks hash image)
      → AreBatches image records batches r.place × (first_fail (image_checks hash image) ≡ Ok tt)
  last-by zero none rs bs ps finds = (record { records_are = sym (append-nil records) ∙ rs; batches_are = omega (arith, bs); place_is = ps }, sym finds)
  last-by (suc most) none rs bs ps finds =
      let shut = counts-false (image 1) gate none in
      let no_more : batches_from image (suc most) gate r.place ≡ [] = ap (λ b. batches_by b image most gate r.place) shut in (
        record {
          records_are = sym (append-nil records) ∙ ap (λ (l : List (List Record)). records ++ joined l) (sym no_more) ∙ rs;
          batches_are = omega (arith, bs, ap length no_more);
          place_is = ap (λ b. place_by b image most gate r.place) (sym shut) ∙ ps;
        },
        sym finds ∙ ap (λ b. first_fail (checks_by b hash image most gate r)) shut,
      )

  pub batches-last : BatchesLeft hash image gate batches records r → (Counts (image 1) gate → ⊥)
      → AreBatches image records batches r.place × (first_fail (image_checks hash image) ≡ Ok tt)
  batches-last left none = last-by left.most none left.records_are left.batches_are left.place_is left.finds
