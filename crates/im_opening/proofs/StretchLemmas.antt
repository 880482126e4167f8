-- How far batches are read behind one more, and behind the last.
use Rattle.std.proofs.Common.{arith, ◌≡◌, ◌+◌, ◌<◌, ◌≤◌, ℕ, List, length, sym, ◌∙◌, ap, subst, Option, Some, Ok}
use Rattle.std.proofs.lemmas.List.{length-map}
use Rattle.im_clog.specs.Marks.{IsUncounted}
use Rattle.im_clog.specs.declared.marks.Uncounted.{Uncounted}
use Rattle.im_digest.specs.Digests.{Hash}
use Rattle.im_disk.specs.Disk.{Told, seen}
use Rattle.im_format.specs.Batches.{Counts}
use Rattle.im_format.specs.Damages.{batch_checks, image_checks}
use Rattle.im_format.specs.Reading.{number_at}
use Rattle.im_format.specs.declared.records.Record.{Record}
use Rattle.im_mtree.specs.Checks.{first_fail}
use Rattle.im_opening.specs.Reach.{AreMore, Fits, IsWholeProgress, reached_of}
use Rattle.im_opening.specs.Stretches.{AreAllRead, BatchesLeft, IsLeft, IsReadTo, all_of}
use Rattle.im_opening.specs.declared.stretches.Reading.{Reading}
use Rattle.im_opening.proofs.BatchesLeft.{batches-last, batches-next}
use Rattle.im_opening.proofs.PlaceLemmas.{grouped}

-- one batch more, of so many records, behind the gate
pub reached-next : (hash : Hash) (commits log : List ℕ) (was now : Reading) (count : ℕ) → IsReadTo hash commits log was
    → now.gate ≡ was.gate + 25 → now.batches ≡ was.batches + 1 → was.gate + 25 < length commits
    → length now.progress.alhs.items ≡ length was.progress.alhs.items + count → 1 ≤ count
    → now.progress.place ≤ length log → Fits hash now.progress → IsWholeProgress hash now.progress → IsReadTo hash commits log now
reached-next hash commits log was now count read gate batches room more some place fits whole = record {
  gate_is = omega (arith, read.gate_is, gate, batches);
  within = omega (arith, gate, room);
  few = omega (arith, read.few, batches, more, some);
  begun = λ e. absurd (omega (arith, batches, e));
  place = place;
  fits = fits;
  whole = whole;
}

pub left-next : (hash : Hash) (told : Option Told) (was now : Reading) (count : ℕ) → IsLeft hash told was
    → now.gate ≡ was.gate + 25 → now.batches ≡ was.batches + 1
    → ((t : Told) → told ≡ Some t → Counts (seen t 1) was.gate × (count ≡ number_at (seen t 1) was.gate)
    × AreMore hash (seen t) count was.progress now.progress
    × (first_fail (batch_checks hash (seen t) was.gate (reached_of was.progress)) ≡ Ok tt))
    → IsLeft hash told now
left-next hash told was now count left gate batches read = record {
  is = λ t is.
      let h = read t is in
      let B : ℕ → Type 0 = λ n. BatchesLeft hash (seen t) now.gate n now.progress.records.items (reached_of now.progress) in
      let G : ℕ → Type 0 = λ n. BatchesLeft hash (seen t) n (was.batches + 1) now.progress.records.items (reached_of now.progress) in
      subst B (sym batches)
      (subst G (sym gate)
      (batches-next hash (seen t) was.gate was.batches was.progress.records.items (reached_of was.progress) now.progress.records.items (reached_of now.progress)
      count (left.is t is) h.0 h.1 h.2.records_are h.2.reached_is h.3));
}

-- where none counts behind, all was read, and all checks hold
pub all-reached : (hash : Hash) (told : Option Told) (commits log : List ℕ) (r : Reading) (behind : Uncounted) → IsReadTo hash commits log r → IsLeft hash told r
    → IsUncounted commits r.gate behind → (Counts commits r.gate → ⊥) → ((t : Told) → told ≡ Some t → commits ≡ seen t 1)
    → AreAllRead hash told commits log (all_of r behind)
all-reached hash told commits log r behind read left why last shown =
    let p = r.progress in
    let many : length p.alhs.items ≡ length p.records.items = ap length (sym read.fits.kept) ∙ length-map p.records.items (λ (x : Record). x.alh) in
    let few : length p.alhs.items ≤ 1048576 = read.fits.few in
    record {
      fits = read.fits;
      whole = read.whole;
      grouped = grouped p.records.items r.batches (omega (arith, read.few, many)) (λ e. sym many ∙ read.begun e);
      gate = read.gate_is;
      few = omega (arith, read.few, few);
      reaches = read.within;
      within = read.place;
      behind = why;
      read = λ t is.
          let C : List ℕ → Type 0 = λ l. Counts l r.gate → ⊥ in
          (batches-last hash (seen t) r.gate r.batches p.records.items (reached_of p) (left.is t is) (subst C (shown t is) last)).0;
    }

pub all-fine : (hash : Hash) (told : Option Told) (commits : List ℕ) (r : Reading) (t : Told) → IsLeft hash told r → (Counts commits r.gate → ⊥)
    → commits ≡ seen t 1 → told ≡ Some t → first_fail (image_checks hash (seen t)) ≡ Ok tt
all-fine hash told commits r t left last shown is =
    let C : List ℕ → Type 0 = λ l. Counts l r.gate → ⊥ in
    (batches-last hash (seen t) r.gate r.batches r.progress.records.items (reached_of r.progress) (left.is t is) (subst C shown last)).1
