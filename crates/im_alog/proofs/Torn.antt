-- What a write leaves standing in what reads give, and in a file that a crash tears.
use Rattle.std.proofs.Common.{◌≡◌, ℕ, ◌+◌, ◌-◌, ◌≤◌, List, [], ◌∷◌, ◌++◌, length, take, drop, refl, sym, ◌∙◌, ap, subst, arith, rules, eq-eqb, length-append, append_assoc, ⊎_elim}
use Rattle.std.proofs.lemmas.List.{take-take, drop-take, take_at, drop_at, drop-drop}
use Rattle.std.proofs.lemmas.List.Elements.{All-weaker, All-nil, All-cons, All-head, All-tail}
use Rattle.std.specs.Prelude.{All, if◌then◌else◌}
use Rattle.im_disk.specs.Disk.{Files, TornFile, written, with_file}
use Rattle.im_disk.proofs.Tearing.{decide_same}
use Rattle.im_format.specs.Spans.{Reads, Misses, octets_at}
use Rattle.im_format.specs.declared.spans.Span.{Span}
use Rattle.im_alog.specs.Holding.{Holds}

-- octets that end before a place don't depend on what stands from there on
same_front : (p n at : ℕ) (old new : List ℕ) → p + n ≤ at → take at new ≡ take at old → octets_at new p n ≡ octets_at old p n
same_front p n at old new le same =
    sym (drop-take p n new)
    ∙ ap (λ (l : List ℕ). drop p l) (
    sym (take-take (p + n) at new le) ∙ ap (λ (l : List ℕ). take (p + n) l) same ∙ take-take (p + n) at old le
    )
    ∙ drop-take p n old

-- octets behind a place don't depend on what stands before it
same_back : (p n at : ℕ) (old new : List ℕ) → at ≤ p → drop at new ≡ drop at old → octets_at new p n ≡ octets_at old p n
same_back p n at old new le same =
    let split : (l : List ℕ) → drop p l ≡ drop (p - at) (drop at l) =
    λ l. ap (λ (k : ℕ). drop k l) (omega (arith, le)) ∙ sym (drop-drop (p - at) at l)
    in
    ap (λ (l : List ℕ). take n l) (split new ∙ ap (λ (l : List ℕ). drop (p - at) l) same ∙ sym (split old))

-- what a torn write misses is as it was
pub kept_octets : (file at n : ℕ) (old new : Files) (s : Span) → TornFile file at n old new → Misses file at n s
    → octets_at (new s.file) s.at (length s.octets) ≡ octets_at (old s.file) s.at (length s.octets)
kept_octets file at n old new s torn misses =
    decide_same s.file file
    (λ same.
    subst (λ (k : ℕ). octets_at (new k) s.at (length s.octets) ≡ octets_at (old k) s.at (length s.octets)) (sym same)
    (⊎_elim
    (λ le. same_front s.at (length s.octets) at (old file) (new file) le torn.torn.before)
    (λ le. same_back s.at (length s.octets) (at + n) (old file) (new file) le torn.torn.after)
    (misses.apart same)))
    (λ other. ap (λ (l : List ℕ). octets_at l s.at (length s.octets)) (torn.others s.file other))

pub keeps : (file at n : ℕ) (old new : Files) (s : Span) → TornFile file at n old new → Misses file at n s → Reads old s → Reads new s
keeps file at n old new s torn misses r = record { reads = kept_octets file at n old new s torn misses ∙ r.reads }

-- two facts on each element
pub all_both : {X : Type 0} (P Q R : X → Type 0) → ((x : X) → P x → Q x → R x) → (xs : List X) → All P xs → All Q xs → All R xs
all_both P Q R f [] ps qs = All-nil R
all_both P Q R f (x ∷ xs) ps qs =
    All-cons R x xs (f x (All-head P x xs ps) (All-head Q x xs qs))
    (all_both P Q R f xs (All-tail P x xs ps) (All-tail Q x xs qs))

pub keeps_all : (file at n : ℕ) (old new : Files) (spans : List Span) → TornFile file at n old new → All (Misses file at n) spans → Holds spans old → Holds spans new
keeps_all file at n old new spans torn misses reads =
    all_both (Misses file at n) (Reads old) (Reads new) (λ s m r. keeps file at n old new s torn m r) spans misses reads

-- the same octets in another image
pub same_reads : (old new : Files) → ((k : ℕ) → new k ≡ old k) → (s : Span) → Reads old s → Reads new s
same_reads old new same s r = record { reads = ap (λ (l : List ℕ). octets_at l s.at (length s.octets)) (same s.file) ∙ r.reads }

pub same_all : (old new : Files) → ((k : ℕ) → new k ≡ old k) → (spans : List Span) → Holds spans old → Holds spans new
same_all old new same spans = All-weaker (Reads old) (Reads new) (same_reads old new same) spans

-- what was written reads back
pub written_reads : (files : Files) (file at : ℕ) (piece : List ℕ) → at ≤ length (files file)
    → Reads (with_file files file (written (files file) at piece)) (record { file = file; at = at; octets = piece })
written_reads files file at piece le =
    let old = files file in
    let new = written old at piece in
    let front : length (take at old) ≡ at = search (rules, le) in
    let grouped : new ≡ take at old ++ (piece ++ drop (at + length piece) old) =
    append_assoc (take at old) piece (drop (at + length piece) old)
    in
    let here : with_file files file new file ≡ new = ap (λ t. if t then new else files file) (eq-eqb file file refl) in
    record {
      reads =
          ap (λ (l : List ℕ). octets_at l at (length piece)) (here ∙ grouped)
          ∙ ap (λ (l : List ℕ). take (length piece) l) (drop_at (take at old) _ at front)
          ∙ take_at piece _ (length piece) refl;
    }

-- a part of what reads
pub part_reads : (image : Files) (file at : ℕ) (before octets behind : List ℕ)
    → Reads image (record { file = file; at = at; octets = before ++ octets ++ behind })
    → Reads image (record { file = file; at = at + length before; octets = octets })
part_reads image file at before octets behind r =
    let n = length octets in
    let l = drop at (image file) in
    let whole : take (length (before ++ octets ++ behind)) l ≡ before ++ octets ++ behind = r.reads in
    let within : length before + n ≤ length (before ++ octets ++ behind) =
    omega (arith, length-append (before ++ octets) behind, length-append before octets)
    in
    record {
      reads =
          ap (λ (k : List ℕ). take n k) (sym (drop-drop (length before) at (image file)))
          ∙ sym (drop-take (length before) n l)
          ∙ ap (λ (k : List ℕ). drop (length before) k) (
          sym (take-take (length before + n) (length (before ++ octets ++ behind)) l within)
          ∙ ap (λ (k : List ℕ). take (length before + n) k) whole
          )
          ∙ drop-take (length before) n (before ++ octets ++ behind)
          ∙ ap (λ (k : List ℕ). take n (drop (length before) k)) (append_assoc before octets behind)
          ∙ ap (λ (k : List ℕ). take n k) (drop_at before (octets ++ behind) (length before) refl)
          ∙ take_at octets behind n refl;
    }
