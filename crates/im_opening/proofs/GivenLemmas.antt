-- What the files give, by the batches that were read.
use Rattle.std.proofs.Common.{arith, ◌≡◌, ◌*◌, ℕ, List, length, refl, sym, ◌∙◌, ap, subst, All, Option, Some, Ok}
use Rattle.im_clog.specs.Marks.{IsUncounted}
use Rattle.im_digest.specs.Digests.{Hash}
use Rattle.im_disk.specs.Disk.{Told, seen}
use Rattle.im_format.specs.Damages.{image_checks}
use Rattle.im_format.specs.Places.{refs_of, log_end}
use Rattle.im_format.specs.Reading.{history_in}
use Rattle.im_format.specs.Records.{records_octets}
use Rattle.im_format.specs.Standing.{HasBatches, LiesIn}
use Rattle.im_format.specs.declared.records.Record.{Record}
use Rattle.im_mtree.specs.Checks.{first_fail}
use Rattle.im_opening.specs.Opening.{AreBatches, IsGivenBy, IsRead, IsThere}
use Rattle.im_opening.specs.Parts.{batches_in}
use Rattle.im_opening.specs.Reach.{txs_of}
use Rattle.im_opening.specs.Stretches.{AreAllRead, opened_as}
use Rattle.im_opening.specs.declared.stretches.BatchesRead.{BatchesRead}
use Rattle.im_format.proofs.FieldsBack.{IsSmall}
use Rattle.im_format.proofs.HeldRecords.{Has32}
use Rattle.im_format.proofs.StandsBack.{undamaged-stands}
use Rattle.im_opening.proofs.BatchesSame.{batches-there}
use Rattle.im_opening.proofs.HistoryReads.{txs-read}
use Rattle.im_opening.proofs.PlaceLemmas.{ends-lie, six-long}
use Rattle.im_opening.proofs.TreeLemmas.{consistent-found}

module _ (hash : Hash) (long : Has32 hash) (was : Option Told) (commits log : List ℕ) (small_commits : IsSmall commits) (small_log : IsSmall log)
    (read : BatchesRead) (all : AreAllRead hash was commits log read)
    (shown : (t : Told) → was ≡ Some t → (commits ≡ seen t 1) × (log ≡ seen t 0))
    (fine : (t : Told) → was ≡ Some t → first_fail (image_checks hash (seen t)) ≡ Ok tt) where
  is-read : (t : Told) → was ≡ Some t → IsRead hash (seen t) (opened_as read)
  is-read t is =
      let records = read.progress.records.items in
      let c = (shown t is).0 in
      let L : List ℕ → Type 0 = λ l. IsUncounted l read.gate read.behind in
      let G : ℕ → Type 0 = λ k. IsUncounted (seen t 1) k read.behind in
      let A : ℕ → Type 0 = λ k. AreBatches (seen t) records read.batches k in
      record {
        batches = subst A all.whole.place_is (all.read t is);
        within = omega (arith, all.gate, all.reaches, ap length c);
        behind_is = subst G all.gate (subst L c all.behind);
        transactions_are = ap txs_of (all.read t is).records_are ∙ txs-read (seen t);
        stands = undamaged-stands hash (seen t) (subst IsSmall (shown t is).1 small_log) (subst IsSmall c small_commits) (fine t is);
      }

  is-there : (t : Told) → was ≡ Some t → IsThere (seen t) (opened_as read)
  is-there t is =
      let image = seen t in
      let records = read.progress.records.items in
      let read_is = is-read t is in
      let there : HasBatches image (batches_in image) = batches-there hash image (history_in image) long read_is.stands in
      let L : List Record → Type 0 = λ rs. All (LiesIn image) (refs_of rs) in
      let lie : All (LiesIn image) (refs_of records) = subst L (sym read_is.batches.records_are) there.lie in
      record {
        batches = there;
        long =
            six-long image (length (records_octets 1 records)) (25 * read.batches) (log_end 0 (refs_of records)) (log_end 1 (refs_of records))
            (log_end 2 (refs_of records)) (log_end 3 (refs_of records))
            (omega (arith, all.within, all.whole.place_is, ap length (shown t is).1))
            (omega (arith, all.gate, all.reaches, ap length (shown t is).0))
            (ends-lie image 0 (refs_of records) lie)
            (ends-lie image 1 (refs_of records) lie)
            (ends-lie image 2 (refs_of records) lie)
            (ends-lie image 3 (refs_of records) lie);
      }

  pub given-by : IsGivenBy hash was (opened_as read)
  given-by = record {
    found = consistent-found hash (opened_as read).found read.progress.bl read.progress.bl_root all.fits all.whole.headers_are;
    ends = record { few = all.few; gate = refl; first = refl; second = refl; third = refl; fourth = refl };
    grouped = all.grouped;
    placed = refl;
    read = is-read;
    there = is-there;
  }
