-- What may remain of a file, from one written range to the next.
use Rattle.std.proofs.Common.{◌≡◌, ℕ, ◌+◌, ◌-◌, ◌<◌, ◌≤◌, min, max, List, [], ◌∷◌, length, get_or, take, drop, ap, sym, subst, ◌∙◌, arith, ⊎_elim, rules}
use Rattle.std.proofs.lemmas.List.{get_or-take, get_or-drop, length-take, length-drop, length-append, ext_get_or, places}
use Rattle.std.proofs.lemmas.Bool.{cases_lt}
use Rattle.im_disk.specs.Disk.{written, Torn}
use Rattle.im_image.specs.Remains.{IsOutside, furthest_end, MayRemain}
use Rattle.im_image.specs.declared.ranges.WrittenRange.{WrittenRange}

-- lists with one front have the same octets there
pub same_before : (n : ℕ) (xs ys : List ℕ) → take n xs ≡ take n ys → (k : ℕ) → k < n → get_or xs k 0 ≡ get_or ys k 0
same_before n xs ys same k h = sym (get_or-take n xs k 0 h) ∙ ap (λ (l : List ℕ). get_or l k 0) same ∙ get_or-take n ys k 0 h

-- lists with one back have the same octets there
pub same_behind : (n : ℕ) (xs ys : List ℕ) → drop n xs ≡ drop n ys → (k : ℕ) → n ≤ k → get_or xs k 0 ≡ get_or ys k 0
same_behind n xs ys same k h =
    let place : n + (k - n) ≡ k = omega arith in
    subst (λ (j : ℕ). get_or xs j 0 ≡ get_or ys j 0) place
    (sym (get_or-drop n xs (k - n) 0) ∙ ap (λ (l : List ℕ). get_or l (k - n) 0) same ∙ get_or-drop n ys (k - n) 0)

-- and the other way round
pub take_from_octets : (n : ℕ) (xs ys : List ℕ) → min n (length xs) ≡ min n (length ys)
    → ((k : ℕ) → k < n → k < length xs → get_or xs k 0 ≡ get_or ys k 0) → take n xs ≡ take n ys
take_from_octets n xs ys long same =
    ext_get_or 0 (take n xs) (take n ys) (length-take n xs ∙ long ∙ sym (length-take n ys))
    (λ k h.
    let lx = length-take n xs in
    let below : k < n = omega arith in
    get_or-take n xs k 0 below ∙ same k below (omega arith) ∙ sym (get_or-take n ys k 0 below))

pub drop_from_octets : (n : ℕ) (xs ys : List ℕ) → length xs - n ≡ length ys - n
    → ((k : ℕ) → n ≤ k → k < length xs → get_or xs k 0 ≡ get_or ys k 0) → drop n xs ≡ drop n ys
drop_from_octets n xs ys long same =
    ext_get_or 0 (drop n xs) (drop n ys) (length-drop n xs ∙ long ∙ sym (length-drop n ys))
    (λ k h.
    let lx = length-drop n xs in
    get_or-drop n xs k 0 ∙ same (n + k) (omega arith) (omega arith) ∙ sym (get_or-drop n ys k 0))

-- the octets of a list with a piece written over it
pub written-length : (xs : List ℕ) (at : ℕ) (piece : List ℕ) → at ≤ length xs → length (written xs at piece) ≡ max (length xs) (at + length piece)
written-length xs at piece h = simp (length-append, length-take, length-drop) (omega arith)

pub written-before : (xs : List ℕ) (at : ℕ) (piece : List ℕ) (k : ℕ) → at ≤ length xs → k < at → get_or (written xs at piece) k 0 ≡ get_or xs k 0
written-before xs at piece k h before = search (rules, places)

pub written-inside : (xs : List ℕ) (at : ℕ) (piece : List ℕ) (k : ℕ) → at ≤ length xs → at ≤ k → k < at + length piece → get_or (written xs at piece) k 0 ≡ get_or piece (k - at) 0
written-inside xs at piece k h from to = search (rules, places)

pub written-behind : (xs : List ℕ) (at : ℕ) (piece : List ℕ) (k : ℕ) → at ≤ length xs → at + length piece ≤ k → get_or (written xs at piece) k 0 ≡ get_or xs k 0
written-behind xs at piece k h behind = search (rules, places)

-- the furthest end lies behind the old one
pub furthest-old : (end : ℕ) (ranges : List WrittenRange) → end ≤ furthest_end end ranges
furthest-old end [] = omega arith
furthest-old end (range ∷ ranges) = omega (arith, furthest-old end ranges)

-- a write that a crash cuts short adds its range
pub torn-remains : (durable old new : List ℕ) (ranges : List WrittenRange) (range : WrittenRange) → MayRemain durable ranges old
    → Torn range.at range.count old new → MayRemain durable (range ∷ ranges) new
torn-remains durable old new ranges range was torn = record {
  no_shorter = omega (arith, was.no_shorter, torn.no_shorter);
  no_longer = omega (arith, was.no_longer, torn.no_longer);
  elsewhere = λ place within out.
      ⊎_elim
      (λ (before : place < range.at). same_before range.at new old torn.before place before ∙ was.elsewhere place within out.1)
      (λ (from : range.at ≤ place). same_behind (range.at + range.count) new old torn.after place (out.0 from) ∙ was.elsewhere place within out.1)
      (cases_lt place range.at);
}

-- a range that begins behind the durable octets: what lies within the furthest end of the others was there before
behind-old : (durable new : List ℕ) (ranges : List WrittenRange) (range : WrittenRange) → range.at ≤ furthest_end (length durable) ranges
    → length durable < range.at → MayRemain durable (range ∷ ranges) new
    → (old : List ℕ) × MayRemain durable ranges old × Torn range.at range.count old new
behind-old durable new ranges range near behind left =
    let end : ℕ = furthest_end (length durable) ranges in
    let old : List ℕ = take end new in
    let long : length old ≡ min end (length new) = length-take end new in
    let least = furthest-old (length durable) ranges in
    let shorter = left.no_shorter in
    let longer = left.no_longer in
    let same : (k : ℕ) → k < end → get_or old k 0 ≡ get_or new k 0 = λ k h. get_or-take end new k 0 h in (
      old,
      record {
        no_shorter = omega arith;
        no_longer = omega arith;
        elsewhere = λ place within out.
            same place (omega arith) ∙ left.elsewhere place within ((λ from. absurd (omega arith)), out);
      },
      record {
        before = take_from_octets range.at new old (omega arith) (λ k h l. sym (same k (omega arith)));
        after = drop_from_octets (range.at + range.count) new old (omega arith) (λ k h l. sym (same k (omega arith)));
        no_shorter = omega arith;
        no_longer = omega arith;
      },
    )

-- a range that begins within the durable octets: before it was written its place held the durable octets
within-old : (durable new : List ℕ) (ranges : List WrittenRange) (range : WrittenRange) → range.at ≤ length durable
    → MayRemain durable (range ∷ ranges) new
    → (old : List ℕ) × MayRemain durable ranges old × Torn range.at range.count old new
within-old durable new ranges range near left =
    let end : ℕ = furthest_end (length durable) ranges in
    let at : ℕ = range.at in
    let front : List ℕ = take end new in
    let piece : List ℕ = take range.count (drop at durable) in
    let old : List ℕ = written front at piece in
    let least = furthest-old (length durable) ranges in
    let shorter = left.no_shorter in
    let longer = left.no_longer in
    let front_long : length front ≡ min end (length new) = length-take end new in
    let piece_long : length piece ≡ min range.count (length durable - at) = length-take range.count (drop at durable) ∙ ap (λ (n : ℕ). min range.count n) (length-drop at durable) in
    let starts : at ≤ length front = omega arith in
    let long : length old ≡ min end (length new) = written-length front at piece starts ∙ omega arith in
    let same_front : (k : ℕ) → k < end → get_or front k 0 ≡ get_or new k 0 = λ k h. get_or-take end new k 0 h in
    let before : (k : ℕ) → k < at → get_or old k 0 ≡ get_or new k 0 =
    λ k h. written-before front at piece k starts h ∙ same_front k (omega arith) in
    let behind : (k : ℕ) → at + length piece ≤ k → k < end → get_or old k 0 ≡ get_or new k 0 =
    λ k h l. written-behind front at piece k starts h ∙ same_front k l in
    let inside : (k : ℕ) → at ≤ k → k < at + range.count → k < length durable → get_or old k 0 ≡ get_or durable k 0 =
    λ k from to within.
    let place : at + (k - at) ≡ k = omega arith in
    written-inside front at piece k starts from (omega arith)
    ∙ get_or-take range.count (drop at durable) (k - at) 0 (omega arith)
    ∙ get_or-drop at durable (k - at) 0
    ∙ ap (λ (j : ℕ). get_or durable j 0) place in
    let kept : (k : ℕ) → k < length durable → IsOutside ranges k → get_or old k 0 ≡ get_or durable k 0 =
    λ k within out.
    ⊎_elim
    (λ (b : k < at). before k b ∙ left.elsewhere k within ((λ from. absurd (omega arith)), out))
    (λ (from : at ≤ k).
    ⊎_elim
    (λ (to : k < at + range.count). inside k from to within)
    (λ (past : at + range.count ≤ k). behind k (omega arith) (omega arith) ∙ left.elsewhere k within ((λ _. past), out))
    (cases_lt k (at + range.count)))
    (cases_lt k at) in (
      old,
      record { no_shorter = omega arith; no_longer = omega arith; elsewhere = kept },
      record {
        before = take_from_octets at new old (omega arith) (λ k h l. sym (before k h));
        after = drop_from_octets (at + range.count) new old (omega arith) (λ k h l. sym (behind k (omega arith) (omega arith)));
        no_shorter = omega arith;
        no_longer = omega arith;
      },
    )

-- what may remain with one range more comes from a write that a crash cut short
pub remains-torn : (durable new : List ℕ) (ranges : List WrittenRange) (range : WrittenRange) → range.at ≤ furthest_end (length durable) ranges
    → MayRemain durable (range ∷ ranges) new → (old : List ℕ) × MayRemain durable ranges old × Torn range.at range.count old new
remains-torn durable new ranges range near left =
    ⊎_elim
    (λ (behind : length durable < range.at). behind-old durable new ranges range near behind left)
    (λ (within : range.at ≤ length durable). within-old durable new ranges range within left)
    (cases_lt (length durable) range.at)

-- with no range the durable octets alone remain
pub remains-durable : (durable left : List ℕ) → MayRemain durable [] left → left ≡ durable
remains-durable durable left may =
    let shorter = may.no_shorter in
    let longer = may.no_longer in
    ext_get_or 0 left durable (omega arith) (λ k h. may.elsewhere k (omega arith) tt)

pub durable-remains : (durable left : List ℕ) → left ≡ durable → MayRemain durable [] left
durable-remains durable left same =
    let long : length left ≡ length durable = ap length same in
    record { no_shorter = omega arith; no_longer = omega arith; elsewhere = λ place _ _. ap (λ (l : List ℕ). get_or l place 0) same }
