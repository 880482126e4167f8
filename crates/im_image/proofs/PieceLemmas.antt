-- What reads give of one file, by the pieces that calls wrote of it, from the last call on.
use Rattle.std.proofs.Common.{◌≡◌, ◌⊎◌, ℕ, ◌+◌, ◌-◌, ◌<◌, ◌≤◌, ◌^◌, min, max, List, [], ◌∷◌, ◌++◌, length, get_or, take, drop, reverse, refl, ap, sym, subst, ◌∙◌, arith, ⊎_elim, inr, Option, Some, None, Bool, cond}
use Rattle.std.proofs.lemmas.List.{nil_from_length, length-take, length-drop, get_or-take, get_or-drop}
use Rattle.std.proofs.lemmas.Bool.{cases_eq, eq-eqb, ne_eqb}
use Rattle.im_disk.specs.Disk.{Files, seen_after, written}
use Rattle.im_disk.specs.Records.{AreWithin}
use Rattle.im_disk.specs.declared.calls.Call.{Call}
use Rattle.im_disk.specs.declared.calls.Call.TheVariants.{Wrote, Tore, Synced, Missed}
use Rattle.im_image.specs.Pieces.{Piece, piece_of}
use Rattle.im_image.specs.Remains.{until_sync}
use Rattle.im_image.proofs.CallLemmas.{reverse-last}
use Rattle.im_image.proofs.RemainLemmas.{written-length, written-before, written-inside, written-behind}
use Rattle.im_image.proofs.ImageLemmas.{with-same, with-other}

-- what a call does to what reads give of a file, by the piece that it wrote of it
abbrev pub Shows : List ℕ → Option Piece → List ℕ → Type 0
Shows old None now = now ≡ old
Shows old (Some piece) now = (piece.at ≤ length old) × (now ≡ written old piece.at piece.octets)

shows-wrote : (first : Files) (calls : List Call) (number at : ℕ) (octets : List ℕ) (file : ℕ) → at ≤ length (seen_after first calls number)
    → Shows (seen_after first calls file) (piece_of (Wrote number at octets) file) (seen_after first (Wrote number at octets ∷ calls) file)
shows-wrote first calls number at octets file near =
    let was : Files = seen_after first calls in
    let now : Files = seen_after first (Wrote number at octets ∷ calls) in
    let new : List ℕ = written (was number) at octets in
    let piece : Piece = record { at = at; octets = octets } in
    ⊎_elim
    (λ (same : number ≡ file).
    subst (λ (b : Bool). Shows (was file) (cond b (Some piece) None) (now file)) (sym (eq-eqb number file same)) (
      subst (λ (j : ℕ). at ≤ length (was j)) same near,
      with-same was number file new (sym same) ∙ ap (λ (j : ℕ). written (was j) at octets) same,
    ))
    (λ (other : number ≡ file → ⊥).
    subst (λ (b : Bool). Shows (was file) (cond b (Some piece) None) (now file)) (sym (ne_eqb number file other))
    (with-other was number file new (λ e. other (sym e))))
    (cases_eq number file)

shows : (first : Files) (calls : List Call) (call : Call) (file : ℕ) → AreWithin first (call ∷ calls)
    → Shows (seen_after first calls file) (piece_of call file) (seen_after first (call ∷ calls) file)
shows first calls (Wrote number at octets) file within = shows-wrote first calls number at octets file within.0.within
shows first calls (Tore number at n) file within = refl
shows first calls Synced file within = refl
shows first calls Missed file within = refl

-- the same of calls in the order in which they came, by the last of them
pub shows-last : (first : Files) (calls rest : List Call) (call : Call) (file : ℕ) → calls ≡ rest ++ call ∷ [] → AreWithin first (reverse calls)
    → Shows (seen_after first (reverse rest) file) (piece_of call file) (seen_after first (reverse calls) file)
shows-last first calls rest call file is within =
    let last = reverse-last calls rest call is in
    subst (λ (cs : List Call). Shows (seen_after first (reverse rest) file) (piece_of call file) (seen_after first cs file)) (sym last)
    (shows first (reverse rest) call file (subst (λ (cs : List Call). AreWithin first cs) last within))

pub within-last : (first : Files) (calls rest : List Call) (call : Call) → calls ≡ rest ++ call ∷ [] → AreWithin first (reverse calls) → AreWithin first (reverse rest)
within-last first calls rest call is within = (subst (λ (cs : List Call). AreWithin first cs) (reverse-last calls rest call is) within).1

-- the length that reads give in all, where calls are left that give one of their own
pub record LongSoFar (first : Files) (calls rest : List Call) (file len : ℕ) : Type 0 where
  pub within : AreWithin first (reverse rest)
  pub fits : len < 2 ^ 64
  pub old : length (first file) ≤ len
  pub all : length (seen_after first (reverse calls) file) ≡ max len (length (seen_after first (reverse rest) file))

-- so many octets from a place on are those that reads give by the calls that are left
pub record SeenSoFar (first : Files) (calls rest : List Call) (file place room count : ℕ) : Type 0 where
  pub within : AreWithin first (reverse rest)
  pub some : 0 < count
  pub most : count ≤ room
  pub long : place + count ≤ length (seen_after first (reverse rest) file)
  pub same : (k : ℕ) → k < count → get_or (seen_after first (reverse calls) file) (place + k) 0 ≡ get_or (seen_after first (reverse rest) file) (place + k) 0

-- what reads give is no shorter than the file was at first
pub seen-longer : (first : Files) (calls : List Call) (file : ℕ) → AreWithin first calls → length (first file) ≤ length (seen_after first calls file)
seen-longer first [] file within = omega arith
seen-longer first (call ∷ calls) file within =
    longer (first file) (seen_after first calls file) (seen_after first (call ∷ calls) file) (piece_of call file)
    (seen-longer first calls file within.1) (shows first calls call file within)
  where
    longer : (at_first old now : List ℕ) (piece : Option Piece) → length at_first ≤ length old → Shows old piece now → length at_first ≤ length now
    longer at_first old now None was shown = omega (arith, ap length shown)
    longer at_first old now (Some piece) was shown = omega (arith, ap length shown.1, written-length old piece.at piece.octets shown.0)

-- a piece that begins behind the octets, one that ends before them, and none: the octets are those that the other calls give
seen-step : (old now piece : List ℕ) (at place count k : ℕ) → Shows old (Some (record { at = at; octets = piece })) now → place + count ≤ length now
    → k < count → (place + k < at) ⊎ (at + length piece ≤ place + k) → get_or now (place + k) 0 ≡ get_or old (place + k) 0
seen-step old now piece at place count k shown long h where_it_is =
    ap (λ (octets : List ℕ). get_or octets (place + k) 0) shown.1
    ∙ ⊎_elim (λ before. written-before old at piece (place + k) shown.0 before) (λ behind. written-behind old at piece (place + k) shown.0 behind) where_it_is

-- a piece behind whose end the octets stand, and one that has their first
module _ (first : Files) (calls rest earlier : List Call) (call : Call) (file place room count : ℕ) (is : rest ≡ earlier ++ call ∷ [])
    (so_far : SeenSoFar first calls rest file place room count) (piece : Piece) (wrote : Some piece ≡ piece_of call file) where
  old : List ℕ
  old = seen_after first (reverse earlier) file

  now : List ℕ
  now = seen_after first (reverse rest) file

  shown : Shows old (Some piece) now
  unfolding old now
  shown = subst (λ (o : Option Piece). Shows (seen_after first (reverse earlier) file) o (seen_after first (reverse rest) file)) (sym wrote) (shows-last first rest earlier call file is so_far.within)

  pub seen-behind : piece.at + length piece.octets ≤ place → SeenSoFar first calls earlier file place room count
  unfolding old now
  seen-behind behind =
      record {
        within = within-last first rest earlier call is so_far.within;
        some = so_far.some;
        most = so_far.most;
        long = omega (arith, so_far.some, so_far.long, ap length shown.1, written-length old piece.at piece.octets shown.0);
        same = λ k h. so_far.same k h ∙ seen-step old now piece.octets piece.at place count k shown so_far.long h (inr (omega arith));
      }

  pub seen-found : piece.at ≤ place → (k : ℕ) → k < count → place + k < piece.at + length piece.octets
      → get_or piece.octets ((place - piece.at) + k) 0 ≡ get_or (seen_after first (reverse calls) file) (place + k) 0
  unfolding old now
  seen-found from k h to =
      let at : (place - piece.at) + k ≡ (place + k) - piece.at = omega arith in
      ap (λ (j : ℕ). get_or piece.octets j 0) at
      ∙ sym (written-inside old piece.at piece.octets (place + k) shown.0 (omega arith) to)
      ∙ ap (λ (octets : List ℕ). get_or octets (place + k) 0) (sym shown.1)
      ∙ sym (so_far.same k h)

-- the calls until the last sync that succeeded are calls that a disk took
pub within-until : (first : Files) (calls : List Call) → AreWithin first calls → AreWithin first (until_sync calls)
within-until first [] within = within
within-until first (Wrote file at piece ∷ calls) within = within-until first calls within.1
within-until first (Tore file at n ∷ calls) within = within-until first calls within.1
within-until first (Synced ∷ calls) within = within
within-until first (Missed ∷ calls) within = within-until first calls within.1

-- before any call was looked at, and when none is left
pub long-begins : (first : Files) (calls : List Call) (file len : ℕ) → AreWithin first (reverse calls) → len < 2 ^ 64 → len ≡ length (first file) → LongSoFar first calls calls file len
long-begins first calls file len within fits is =
    let most = seen-longer first (reverse calls) file within in
    record { within = within; fits = fits; old = omega arith; all = omega arith }

pub long-ends : (first : Files) (calls rest : List Call) (file len : ℕ) → length rest ≡ 0 → LongSoFar first calls rest file len → len ≡ length (seen_after first (reverse calls) file)
long-ends first calls rest file len none so_far =
    let same : length (seen_after first (reverse rest) file) ≡ length (first file) = ap (λ (cs : List Call). length (seen_after first (reverse cs) file)) (nil_from_length rest none) in
    omega (arith, so_far.all, so_far.old)

-- the octets of a part of a piece
pub part-octets : (octets : List ℕ) (from n k : ℕ) → k < length (take n (take (length octets - from) (drop from octets)))
    → (k < n) × (from + k < length octets) × (get_or (take n (take (length octets - from) (drop from octets))) k 0 ≡ get_or octets (from + k) 0)
part-octets octets from n k h =
    let rest : List ℕ = take (length octets - from) (drop from octets) in
    let long : length (take n rest) ≡ min n (length rest) = length-take n rest in
    let rest_long : length rest ≡ min (length octets - from) (length (drop from octets)) = length-take (length octets - from) (drop from octets) in
    let drop_long = length-drop from octets in (
      omega arith,
      omega arith,
      get_or-take n rest k 0 (omega arith)
          ∙ get_or-take (length octets - from) (drop from octets) k 0 (omega arith)
          ∙ get_or-drop from octets k 0,
    )
