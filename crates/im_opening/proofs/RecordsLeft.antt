-- How far the records of a batch are read.
use Rattle.std.proofs.Common.{◌≡◌, ℕ, suc, zero, ◌+◌, ◌<◌, ◌≤◌, List, [], ◌∷◌, ◌++◌, refl, sym, ◌∙◌, subst, arith, append_assoc, Ok}
use Rattle.std.proofs.lemmas.List.{append-nil}
use Rattle.im_digest.specs.Digests.{Hash}
use Rattle.im_disk.specs.Disk.{Files}
use Rattle.im_format.specs.Damages.{Reached, behind, behind_one, record_checks, records_checks}
use Rattle.im_format.specs.Reading.{record_end}
use Rattle.im_format.specs.declared.records.Record.{Record}
use Rattle.im_mtree.specs.Checks.{first_fail}
use Rattle.im_record.specs.Back.{record_in}
use Rattle.im_mtree.proofs.CheckLemmas.{fail_append}
use Rattle.im_opening.specs.Answers.{Tells}
use Rattle.im_opening.specs.Parts.{records_in}
use Rattle.im_opening.specs.declared.errors.OpenError.{OpenError}
use Rattle.im_opening.specs.declared.errors.OpenError.TheVariants.{DiskFault, Damaged, Memory}
use Rattle.im_opening.proofs.Finding.{tells-first}

-- what is read of them, and what is left, make this
pub record RecordsLeft (hash : Hash) (image : Files) (count : ℕ) (records : List Record) (r : Reached) (i : ℕ) (more : List Record) (now : Reached) : Type 0 where
  pub rest : ℕ
  pub sum : i + rest ≡ count
  pub records_are : more ++ records_in image now.place rest ≡ records ++ records_in image r.place count
  pub behind_is : behind hash image rest now ≡ behind hash image count r
  pub finds : first_fail (records_checks hash image rest now) ≡ first_fail (records_checks hash image count r)

pub records-first : (hash : Hash) (image : Files) (count : ℕ) (records : List Record) (r : Reached) → RecordsLeft hash image count records r 0 records r
records-first hash image count records r = record {
  rest = count;
  sum = omega arith;
  records_are = refl;
  behind_is = refl;
  finds = refl;
}

module _ (hash : Hash) (image : Files) (count : ℕ) (records : List Record) (r : Reached) (i : ℕ) (more : List Record) (now : Reached) where
  next-by : (rest : ℕ) → i + rest ≡ count → i < count
      → more ++ records_in image now.place rest ≡ records ++ records_in image r.place count
      → behind hash image rest now ≡ behind hash image count r
      → first_fail (records_checks hash image rest now) ≡ first_fail (records_checks hash image count r)
      → first_fail (record_checks hash image now) ≡ Ok tt
      → RecordsLeft hash image count records r (i + 1) (more ++ record_in image now.place ∷ []) (behind_one hash image now)
  next-by zero sum lt rs is finds ok = absurd (omega arith)
  next-by (suc k) sum lt rs is finds ok = record {
    rest = k;
    sum = omega arith;
    records_are = append_assoc more (record_in image now.place ∷ []) (records_in image (record_end image now.place) k) ∙ rs;
    behind_is = is;
    finds = sym (fail_append (record_checks hash image now) (records_checks hash image k (behind_one hash image now)) ok) ∙ finds;
  }

  pub records-next : (next : List Record) (then : Reached) → RecordsLeft hash image count records r i more now → i < count
      → next ≡ more ++ record_in image now.place ∷ [] → then ≡ behind_one hash image now → first_fail (record_checks hash image now) ≡ Ok tt
      → RecordsLeft hash image count records r (i + 1) next then
  records-next next then left lt is at ok =
      let P : List Record → Type 0 = λ rs. RecordsLeft hash image count records r (i + 1) rs (behind_one hash image now) in
      let Q : Reached → Type 0 = λ x. RecordsLeft hash image count records r (i + 1) next x in
      subst Q (sym at) (subst P (sym is) (next-by left.rest left.sum lt left.records_are left.behind_is left.finds ok))

  tells-by : (rest : ℕ) (e : OpenError) → i + rest ≡ count → i < count
      → first_fail (records_checks hash image rest now) ≡ first_fail (records_checks hash image count r)
      → Tells (record_checks hash image now) e → Tells (records_checks hash image count r) e
  tells-by zero e sum lt finds h = absurd (omega arith)
  tells-by (suc k) DiskFault sum lt finds h = tt
  tells-by (suc k) (Damaged d) sum lt finds h =
      sym finds ∙ tells-first (record_checks hash image now) (records_checks hash image k (behind_one hash image now)) (Damaged d) h
  tells-by (suc k) Memory sum lt finds h = tt

  pub records-tell : (e : OpenError) → RecordsLeft hash image count records r i more now → i < count
      → Tells (record_checks hash image now) e → Tells (records_checks hash image count r) e
  records-tell e left lt h = tells-by left.rest e left.sum lt left.finds h

  -- all are read
  pub record AreAll : Type 0 where
    pub records_are : more ≡ records ++ records_in image r.place count
    pub behind_is : now ≡ behind hash image count r
    pub fine : first_fail (records_checks hash image count r) ≡ Ok tt

  last-by : (rest : ℕ) → i + rest ≡ count → count ≤ i
      → more ++ records_in image now.place rest ≡ records ++ records_in image r.place count
      → behind hash image rest now ≡ behind hash image count r
      → first_fail (records_checks hash image rest now) ≡ first_fail (records_checks hash image count r)
      → AreAll
  last-by zero sum le rs is finds = record { records_are = sym (append-nil more) ∙ rs; behind_is = is; fine = sym finds }
  last-by (suc k) sum le rs is finds = absurd (omega arith)

  pub records-last : RecordsLeft hash image count records r i more now → count ≤ i → AreAll
  records-last left le = last-by left.rest left.sum le left.records_are left.behind_is left.finds
