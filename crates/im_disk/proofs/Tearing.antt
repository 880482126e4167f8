-- What a write leaves of the octets around it, and what reads give among the images.
use Rattle.std.proofs.Common.{◌≡◌, ◌≢◌, ℕ, ◌+◌, ◌-◌, ◌≤◌, List, [], ◌∷◌, ◌++◌, length, take, drop, suc, refl, sym, ◌∙◌, ap, subst, arith, inl, ⊎_elim, rules, eqb-true, eq-eqb, ne_eqb, length-append, length-drop, append_assoc, true, false}
use Rattle.std.proofs.lemmas.Bool.{false≢true}
use Rattle.std.proofs.lemmas.List.{take_at, drop_at}
use Rattle.std.specs.Prelude.{◌==◌, if◌then◌else◌}
use Rattle.im_disk.specs.declared.calls.Call.{Call}
use Rattle.im_disk.specs.declared.calls.Call.TheVariants.{Wrote, Tore, Synced, Missed}
use Rattle.im_disk.specs.Disk.{Files, Torn, TornFile, IsImage, WasImage, written, with_file, seen_after}
use Rattle.im_disk.specs.Records.{AreWithin}

-- by cases on whether two numbers, as of files, are the same
pub decide_same : {P : Type 0} (a b : ℕ) → (a ≡ b → P) → (a ≢ b → P) → P
decide_same {P} a b same other = go (a == b) refl
  where
    go : (t : _) → (a == b) ≡ t → P
    go true is = same (eqb-true a b is)
    go false is = other (λ e. false≢true (sym is ∙ eq-eqb a b e))

-- what reads give after a write is one of what a crash in the middle may leave
pub written_torn : (files : Files) (file at : ℕ) (piece : List ℕ) → at ≤ length (files file)
    → TornFile file at (length piece) files (with_file files file (written (files file) at piece))
written_torn files file at piece le =
    let old = files file in
    let new = written old at piece in
    let front : length (take at old) ≡ at = search (rules, le) in
    let grouped : new ≡ take at old ++ (piece ++ drop (at + length piece) old) = append_assoc (take at old) piece (drop (at + length piece) old) in
    let here : with_file files file new file ≡ new = ap (λ t. if t then new else files file) (eq-eqb file file refl) in
    let sizes : length new ≡ at + length piece + (length old - (at + length piece)) = omega (arith, length-append (take at old ++ piece) (drop (at + length piece) old), length-append (take at old) piece, front, length-drop (at + length piece) old) in
    record {
      torn = subst (λ (l : List ℕ). Torn at (length piece) old l) (sym here) (record {
        before = ap (λ (l : List ℕ). take at l) grouped ∙ take_at (take at old) _ at front;
        after = drop_at (take at old ++ piece) (drop (at + length piece) old) (at + length piece) (omega (arith, length-append (take at old) piece, front));
        no_shorter = omega (arith, sizes);
        no_longer = omega (arith, sizes);
      });
      others = λ k other. ap (λ t. if t then new else files k) (ne_eqb k file other);
    }

-- so is what they gave before
pub untouched_torn : (files : Files) (file at n : ℕ) → TornFile file at n files files
untouched_torn files file at n = record {
  torn = record { before = refl; after = refl; no_shorter = omega arith; no_longer = omega arith };
  others = λ k other. refl;
}

-- what reads give is one of the images, where each write lay within what reads gave
pub seen_left : (first : Files) (calls : List Call) → AreWithin first calls → IsImage first calls (seen_after first calls)
seen_left first [] within = λ k. refl
seen_left first (Wrote file at piece ∷ calls) within =
    (seen_after first calls, seen_left first calls within.1, written_torn (seen_after first calls) file at piece within.0.within)
seen_left first (Tore file at n ∷ calls) within =
    (seen_after first calls, seen_left first calls within.1, untouched_torn (seen_after first calls) file at n)
seen_left first (Synced ∷ calls) within = λ k. refl
seen_left first (Missed ∷ calls) within = seen_left first calls within.1

-- no moment lies behind now
no_later : (first : Files) (calls : List Call) (t : ℕ) (image : Files) → WasImage first calls t image → t ≤ length calls
no_later first [] t image (none, here) = omega (arith, none)
no_later first (call ∷ calls) t image was =
    ⊎_elim (λ now. now.0) (λ before. let earlier = no_later first calls t image before in omega (arith, earlier)) was

-- the images of the moments since now are those of now
pub left_now : (first : Files) (calls : List Call) (image : Files) → WasImage first calls (length calls) image → IsImage first calls image
left_now first [] image was = was.1
left_now first (call ∷ calls) image was =
    ⊎_elim (λ now. now.1) (λ before. absurd (let bound = no_later first calls (suc (length calls)) image before in omega (arith, bound))) was

pub now_left : (first : Files) (calls : List Call) (image : Files) → IsImage first calls image → WasImage first calls (length calls) image
now_left first [] image here = (refl, here)
now_left first (call ∷ calls) image here = inl (omega arith, here)
