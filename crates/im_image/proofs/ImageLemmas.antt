-- The images that a crash may leave of a disk are those of which each file may remain.
use Rattle.std.proofs.Common.{◌≡◌, ◌≢◌, ℕ, ◌+◌, ◌≤◌, ◌==◌, max, List, [], ◌∷◌, length, refl, ap, sym, subst, ◌∙◌, arith, ⊎_elim, Bool, cond, Some, None}
use Rattle.std.specs.List.{cons_option}
use Rattle.std.proofs.lemmas.List.{length-take, length-drop, length-append}
use Rattle.std.proofs.lemmas.Bool.{cases_eq, eq-eqb, ne_eqb}
use Rattle.im_disk.specs.Disk.{Files, seen_after, written, with_file, Torn, TornFile, IsImage}
use Rattle.im_disk.specs.Records.{AreWithin}
use Rattle.im_disk.specs.declared.calls.Call.{Call}
use Rattle.im_disk.specs.declared.calls.Call.TheVariants.{Wrote, Tore, Synced, Missed}
use Rattle.im_image.specs.Remains.{since_sync, until_sync, ranges_of, furthest_end, MayRemain, EachMayRemain}
use Rattle.im_image.specs.declared.ranges.WrittenRange.{WrittenRange}
use Rattle.im_image.proofs.RemainLemmas.{torn-remains, remains-torn, remains-durable, durable-remains}

-- the ranges with that of one call more, which writes this range of one file
abbrev added : ℕ → ℕ → WrittenRange → List WrittenRange → List WrittenRange
added file k range ranges = cons_option (cond (file == k) (Some range) None) ranges

-- the file that the call writes has it, and no other
added-same : (P : List WrittenRange → Type 0) (file k : ℕ) (range : WrittenRange) (ranges : List WrittenRange) → file ≡ k
    → P (range ∷ ranges) → P (added file k range ranges)
added-same P file k range ranges same p =
    subst (λ (b : Bool). P (cons_option (cond b (Some range) None) ranges)) (sym (eq-eqb file k same)) p

added-other : (P : List WrittenRange → Type 0) (file k : ℕ) (range : WrittenRange) (ranges : List WrittenRange) → file ≢ k
    → P ranges → P (added file k range ranges)
added-other P file k range ranges other p =
    subst (λ (b : Bool). P (cons_option (cond b (Some range) None) ranges)) (sym (ne_eqb file k other)) p

added-same-of : (P : List WrittenRange → Type 0) (file k : ℕ) (range : WrittenRange) (ranges : List WrittenRange) → file ≡ k
    → P (added file k range ranges) → P (range ∷ ranges)
added-same-of P file k range ranges same p =
    subst (λ (b : Bool). P (cons_option (cond b (Some range) None) ranges)) (eq-eqb file k same) p

added-other-of : (P : List WrittenRange → Type 0) (file k : ℕ) (range : WrittenRange) (ranges : List WrittenRange) → file ≢ k
    → P (added file k range ranges) → P ranges
added-other-of P file k range ranges other p =
    subst (λ (b : Bool). P (cons_option (cond b (Some range) None) ranges)) (ne_eqb file k other) p

-- a write that a crash cuts short, file by file
torn-each : (durable : List ℕ) (ranges : List WrittenRange) (file k at n : ℕ) (before image : Files) → MayRemain durable ranges (before k)
    → TornFile file at n before image → MayRemain durable (added file k (record { at = at; count = n }) ranges) (image k)
torn-each durable ranges file k at n before image was torn =
    let range : WrittenRange = record { at = at; count = n } in
    ⊎_elim
    (λ (same : file ≡ k).
    added-same (λ (rs : List WrittenRange). MayRemain durable rs (image k)) file k range ranges same
    (torn-remains durable (before k) (image k) ranges range was (subst (λ (j : ℕ). Torn at n (before j) (image j)) same torn.torn)))
    (λ (other : file ≡ k → ⊥).
    added-other (λ (rs : List WrittenRange). MayRemain durable rs (image k)) file k range ranges other
    (subst (λ (octets : List ℕ). MayRemain durable ranges octets) (sym (torn.others k (λ e. other (sym e)))) was))
    (cases_eq file k)

-- of each file of an image there is what may remain
pub image-remains : (first : Files) (calls : List Call) (image : Files) → IsImage first calls image → EachMayRemain first calls image
image-remains first [] image is = λ k. durable-remains (first k) (image k) (is k)
image-remains first (Wrote file at piece ∷ calls) image is = λ k.
    torn-each (seen_after first (until_sync calls) k) (ranges_of (since_sync calls) k) file k at (length piece) is.0 image
    (image-remains first calls is.0 is.1 k) is.2
image-remains first (Tore file at n ∷ calls) image is = λ k.
    torn-each (seen_after first (until_sync calls) k) (ranges_of (since_sync calls) k) file k at n is.0 image
    (image-remains first calls is.0 is.1 k) is.2
image-remains first (Synced ∷ calls) image is = λ k. durable-remains (seen_after first calls k) (image k) (is k)
image-remains first (Missed ∷ calls) image is = image-remains first calls image is

-- a disk with other octets in one file
pub with-same : (files : Files) (file k : ℕ) (octets : List ℕ) → k ≡ file → with_file files file octets k ≡ octets
with-same files file k octets same = ap (λ (b : Bool). cond b octets (files k)) (eq-eqb k file same)

pub with-other : (files : Files) (file k : ℕ) (octets : List ℕ) → k ≢ file → with_file files file octets k ≡ files k
with-other files file k octets other = ap (λ (b : Bool). cond b octets (files k)) (ne_eqb k file other)

-- a written list ends no further than it did, or where the piece ends
written-most : (old : List ℕ) (at : ℕ) (piece : List ℕ) → length (written old at piece) ≤ max (length old) (at + length piece)
written-most old at piece = simp (length-append, length-take, length-drop) (omega arith)

-- what reads give ends no further than the furthest of the ranges
seen-most : (first : Files) (calls : List Call) (k : ℕ)
    → length (seen_after first calls k) ≤ furthest_end (length (seen_after first (until_sync calls) k)) (ranges_of (since_sync calls) k)
seen-most first [] k = omega arith
seen-most first (Wrote file at piece ∷ calls) k =
    let range : WrittenRange = record { at = at; count = length piece } in
    let end : ℕ = length (seen_after first (until_sync calls) k) in
    let ranges : List WrittenRange = ranges_of (since_sync calls) k in
    let was = seen-most first calls k in
    ⊎_elim
    (λ (same : file ≡ k).
    added-same (λ (rs : List WrittenRange). length (seen_after first (Wrote file at piece ∷ calls) k) ≤ furthest_end end rs) file k range ranges same
    (subst (λ (octets : List ℕ). length octets ≤ furthest_end end (range ∷ ranges)) (sym (with-same (seen_after first calls) file k (written (seen_after first calls file) at piece) (sym same)))
    (subst (λ (j : ℕ). length (written (seen_after first calls j) at piece) ≤ furthest_end end (range ∷ ranges)) (sym same)
    (omega (arith, was, written-most (seen_after first calls k) at piece)))))
    (λ (other : file ≡ k → ⊥).
    added-other (λ (rs : List WrittenRange). length (seen_after first (Wrote file at piece ∷ calls) k) ≤ furthest_end end rs) file k range ranges other
    (subst (λ (octets : List ℕ). length octets ≤ furthest_end end ranges) (sym (with-other (seen_after first calls) file k (written (seen_after first calls file) at piece) (λ e. other (sym e)))) was))
    (cases_eq file k)
seen-most first (Tore file at n ∷ calls) k =
    let range : WrittenRange = record { at = at; count = n } in
    let end : ℕ = length (seen_after first (until_sync calls) k) in
    let ranges : List WrittenRange = ranges_of (since_sync calls) k in
    let was = seen-most first calls k in
    let P : List WrittenRange → Type 0 = λ rs. length (seen_after first calls k) ≤ furthest_end end rs in
    ⊎_elim
    (λ (same : file ≡ k). added-same P file k range ranges same (omega (arith, was)))
    (λ (other : file ≡ k → ⊥). added-other P file k range ranges other was)
    (cases_eq file k)
seen-most first (Synced ∷ calls) k = omega arith
seen-most first (Missed ∷ calls) k = seen-most first calls k

-- the files before a write that a crash cut short, from what may remain after it
each-torn : (first : Files) (calls : List Call) (file at n : ℕ) (image : Files) → at ≤ length (seen_after first calls file)
    → ((k : ℕ) → MayRemain (seen_after first (until_sync calls) k) (added file k (record { at = at; count = n }) (ranges_of (since_sync calls) k)) (image k))
    → (before : Files) × EachMayRemain first calls before × TornFile file at n before image
each-torn first calls file at n image near each =
    let range : WrittenRange = record { at = at; count = n } in
    let durable : Files = λ k. seen_after first (until_sync calls) k in
    let ranges : ℕ → List WrittenRange = λ k. ranges_of (since_sync calls) k in
    let now : MayRemain (durable file) (range ∷ ranges file) (image file) =
    added-same-of (λ (rs : List WrittenRange). MayRemain (durable file) rs (image file)) file file range (ranges file) refl (each file) in
    let old = remains-torn (durable file) (image file) (ranges file) range (omega (arith, near, seen-most first calls file)) now in
    let before : Files = with_file image file old.0 in
    let here : before file ≡ old.0 = with-same image file file old.0 refl in (
      before,
      λ k.
          ⊎_elim
          (λ (same : k ≡ file).
          subst (λ (octets : List ℕ). MayRemain (durable k) (ranges k) octets) (sym (with-same image file k old.0 same))
          (subst (λ (j : ℕ). MayRemain (durable j) (ranges j) old.0) (sym same) old.1))
          (λ (other : k ≡ file → ⊥).
          subst (λ (octets : List ℕ). MayRemain (durable k) (ranges k) octets) (sym (with-other image file k old.0 other))
          (added-other-of (λ (rs : List WrittenRange). MayRemain (durable k) rs (image k)) file k range (ranges k) (λ e. other (sym e)) (each k)))
          (cases_eq k file),
      record {
        torn = subst (λ (octets : List ℕ). Torn at n octets (image file)) (sym here) old.2;
        others = λ k other. sym (with-other image file k old.0 other);
      },
    )

-- where each write began within what reads gave, of which each file may remain is an image
pub remains-image : (first : Files) (calls : List Call) (image : Files) → AreWithin first calls → EachMayRemain first calls image → IsImage first calls image
remains-image first [] image within each = λ k. remains-durable (first k) (image k) (each k)
remains-image first (Wrote file at piece ∷ calls) image within each =
    let before = each-torn first calls file at (length piece) image within.0.within each in
    (before.0, remains-image first calls before.0 within.1 before.1, before.2)
remains-image first (Tore file at n ∷ calls) image within each =
    let before = each-torn first calls file at n image within.0.within each in
    (before.0, remains-image first calls before.0 within.1 before.1, before.2)
remains-image first (Synced ∷ calls) image within each = λ k. remains-durable (seen_after first calls k) (image k) (each k)
remains-image first (Missed ∷ calls) image within each = remains-image first calls image within.1 each

-- a file whose number no disk has is never written
seen-beyond : (first : Files) (calls : List Call) (k : ℕ) → 16 ≤ k → AreWithin first calls → seen_after first calls k ≡ first k
seen-beyond first [] k far within = refl
seen-beyond first (Wrote file at piece ∷ calls) k far within =
    let other : k ≢ file = omega (arith, within.0.file) in
    with-other (seen_after first calls) file k (written (seen_after first calls file) at piece) other ∙ seen-beyond first calls k far within.1
seen-beyond first (Tore file at n ∷ calls) k far within = seen-beyond first calls k far within.1
seen-beyond first (Synced ∷ calls) k far within = seen-beyond first calls k far within.1
seen-beyond first (Missed ∷ calls) k far within = seen-beyond first calls k far within.1

-- so what may remain of it is what it was at first
pub remains-beyond : (first : Files) (calls : List Call) (k : ℕ) (left : List ℕ) → 16 ≤ k → AreWithin first calls → left ≡ first k
    → MayRemain (seen_after first (until_sync calls) k) (ranges_of (since_sync calls) k) left
remains-beyond first [] k left far within same = durable-remains (first k) left same
remains-beyond first (Wrote file at piece ∷ calls) k left far within same =
    let other : file ≢ k = omega (arith, within.0.file) in
    added-other (λ (rs : List WrittenRange). MayRemain (seen_after first (until_sync calls) k) rs left) file k (record { at = at; count = length piece }) (ranges_of (since_sync calls) k) other
    (remains-beyond first calls k left far within.1 same)
remains-beyond first (Tore file at n ∷ calls) k left far within same =
    let other : file ≢ k = omega (arith, within.0.file) in
    added-other (λ (rs : List WrittenRange). MayRemain (seen_after first (until_sync calls) k) rs left) file k (record { at = at; count = n }) (ranges_of (since_sync calls) k) other
    (remains-beyond first calls k left far within.1 same)
remains-beyond first (Synced ∷ calls) k left far within same = durable-remains (seen_after first calls k) left (same ∙ sym (seen-beyond first calls k far within.1))
remains-beyond first (Missed ∷ calls) k left far within same = remains-beyond first calls k left far within.1 same

-- the same by equal calls
pub remains-by : (first : Files) (k : ℕ) (until until' since since' : List Call) (left left' : List ℕ) → until ≡ until' → since ≡ since' → left ≡ left'
    → MayRemain (seen_after first until k) (ranges_of since k) left → MayRemain (seen_after first until' k) (ranges_of since' k) left'
remains-by first k until until' since since' left left' same_until same_since same_left remains =
    subst (λ (cs : List Call). MayRemain (seen_after first cs k) (ranges_of since' k) left') same_until
    (subst (λ (cs : List Call). MayRemain (seen_after first until k) (ranges_of cs k) left') same_since
    (subst (λ (l : List ℕ). MayRemain (seen_after first until k) (ranges_of since k) l) same_left remains))
