-- The checks of a batch as those of its parts.
use Rattle.std.proofs.Common.{◌≡◌, ℕ, List, ◌++◌, length, ap, sym, ◌∙◌, subst, Ok}
use Rattle.im_clog.specs.Marks.{mark_at}
use Rattle.im_clog.specs.declared.marks.Mark.{Mark}
use Rattle.im_digest.specs.Digests.{Hash}
use Rattle.im_disk.specs.Disk.{Files}
use Rattle.im_format.specs.Damages.{Reached, batch_checks, behind, records_checks}
use Rattle.im_format.specs.declared.damages.Damage.{Damage}
use Rattle.im_mtree.specs.Checks.{Check, first_fail}
use Rattle.im_mtree.proofs.CheckLemmas.{fail_append}
use Rattle.im_opening.specs.Answers.{Tells}
use Rattle.im_opening.specs.Parts.{end_checks, mark_checks}
use Rattle.im_opening.specs.declared.errors.OpenError.{OpenError}
use Rattle.im_opening.proofs.Finding.{tells-behind, tells-first}

-- the checks of a batch with this mark
abbrev pub marked_checks : Hash → Files → Mark → ℕ → Reached → List (Check Damage)
marked_checks hash image mark gate r =
    mark_checks mark gate (length r.alhs)
    ++ (records_checks hash image mark.count r ++ end_checks mark gate (behind hash image mark.count r).place)

pub marked : (hash : Hash) (image : Files) (mark : Mark) (gate : ℕ) (r : Reached) → mark ≡ mark_at (image 1) gate
    → marked_checks hash image mark gate r ≡ batch_checks hash image gate r
marked hash image mark gate r is =
    let A : Mark → List (Check Damage) = λ m. marked_checks hash image m gate r in
    ap A is

module _ (hash : Hash) (image : Files) (mark : Mark) (gate : ℕ) (r : Reached) (is : mark ≡ mark_at (image 1) gate) where
  -- what is told of the mark, of the records, and of the end
  pub mark-tells : (e : OpenError) → Tells (mark_checks mark gate (length r.alhs)) e → Tells (batch_checks hash image gate r) e
  mark-tells e h =
      let P : List (Check Damage) → Type 0 = λ l. Tells l e in
      let end = end_checks mark gate (behind hash image mark.count r).place in
      subst P (marked hash image mark gate r is)
      (tells-first (mark_checks mark gate (length r.alhs)) (records_checks hash image mark.count r ++ end) e h)

  pub records-tell : (e : OpenError) → first_fail (mark_checks mark gate (length r.alhs)) ≡ Ok tt → Tells (records_checks hash image mark.count r) e
      → Tells (batch_checks hash image gate r) e
  records-tell e fine h =
      let P : List (Check Damage) → Type 0 = λ l. Tells l e in
      let end = end_checks mark gate (behind hash image mark.count r).place in
      subst P (marked hash image mark gate r is)
      (tells-behind (mark_checks mark gate (length r.alhs)) (records_checks hash image mark.count r ++ end) e fine
      (tells-first (records_checks hash image mark.count r) end e h))

  pub end-finds : (place : ℕ) → place ≡ (behind hash image mark.count r).place → first_fail (mark_checks mark gate (length r.alhs)) ≡ Ok tt
      → first_fail (records_checks hash image mark.count r) ≡ Ok tt
      → first_fail (batch_checks hash image gate r) ≡ first_fail (end_checks mark gate place)
  end-finds place same fine all =
      let end = end_checks mark gate (behind hash image mark.count r).place in
      let E : ℕ → List (Check Damage) = λ p. end_checks mark gate p in
      ap first_fail (sym (marked hash image mark gate r is))
      ∙ fail_append (mark_checks mark gate (length r.alhs)) (records_checks hash image mark.count r ++ end) fine
      ∙ fail_append (records_checks hash image mark.count r) end all
      ∙ ap first_fail (ap E (sym same))
