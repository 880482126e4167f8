-- What was added of texts in a row, where memory ran out: a front part of them.
use Rattle.std.proofs.Common.{◌≡◌, ℕ, List, ◌++◌, length, take, drop, refl, sym, ap, ◌∙◌, append_assoc}
use Rattle.std.proofs.Math.Seq.{take-append_seam}
use Rattle.std.proofs.lemmas.List.{append-nil, take-append-drop}
use Rattle.std.specs.Prelude.{OnErr, Result, Ok, Err}

-- what has a rest is a front part
pub part-is : (old now part rest whole : List ℕ) → now ≡ old ++ part → part ++ rest ≡ whole → (n : ℕ) × (now ≡ old ++ take n whole)
part-is old now part rest whole e f =
    let front : part ≡ take (length part) whole = sym (take-append_seam part rest) ∙ ap (λ (l : List ℕ). take (length part) l) f in
    (length part, e ∙ ap (λ (l : List ℕ). old ++ l) front)

-- nothing is a front part
pub part_none : (old now whole : List ℕ) → now ≡ old → (n : ℕ) × (now ≡ old ++ take n whole)
part_none old now whole e = (0, e ∙ sym (append-nil old))

-- the first of two texts is a front part of both
pub part_first : (old now front back : List ℕ) → now ≡ old ++ front → (n : ℕ) × (now ≡ old ++ take n (front ++ back))
part_first old now front back e = part-is old now front back (front ++ back) e refl

-- so are the first two of three
pub part_two : (old now one two back : List ℕ) → now ≡ old ++ one ++ two → (n : ℕ) × (now ≡ old ++ take n (one ++ two ++ back))
part_two old now one two back e = part-is old now (one ++ two) back (one ++ two ++ back) (e ∙ append_assoc old one two) refl

-- and the first three of four
pub part_three : (old now one two three back : List ℕ) → now ≡ old ++ one ++ two ++ three → (n : ℕ) × (now ≡ old ++ take n (one ++ two ++ three ++ back))
part_three old now one two three back e =
    let joined : old ++ one ++ two ++ three ≡ old ++ (one ++ two ++ three) = simp append_assoc in
    part-is old now (one ++ two ++ three) back (one ++ two ++ three ++ back) (e ∙ joined) refl

-- a front part of the first of two texts is one of both
pub part_front : (old now one back : List ℕ) (n : ℕ) → now ≡ old ++ take n one → (k : ℕ) × (now ≡ old ++ take k (one ++ back))
part_front old now one back n e =
    let whole : take n one ++ (drop n one ++ back) ≡ one ++ back =
    sym (append_assoc (take n one) (drop n one) back) ∙ ap (λ (l : List ℕ). l ++ back) (take-append-drop n one) in
    part-is old now (take n one) (drop n one ++ back) (one ++ back) e whole

-- so is a front part of the second, behind the first
pub part_behind : (old mid now front back : List ℕ) (n : ℕ) → mid ≡ old ++ front → now ≡ mid ++ take n back → (k : ℕ) × (now ≡ old ++ take k (front ++ back))
part_behind old mid now front back n first second =
    let added : now ≡ old ++ (front ++ take n back) =
    second ∙ ap (λ (l : List ℕ). l ++ take n back) first ∙ append_assoc old front (take n back) in
    let whole : (front ++ take n back) ++ drop n back ≡ front ++ back =
    append_assoc front (take n back) (drop n back) ∙ ap (λ (l : List ℕ). front ++ l) (take-append-drop n back) in
    part-is old now (front ++ take n back) (drop n back) (front ++ back) added whole

-- and of three texts a front part of the first two
pub part_within : (old now one two back : List ℕ) (n : ℕ) → now ≡ old ++ take n (one ++ two) → (k : ℕ) × (now ≡ old ++ take k (one ++ two ++ back))
part_within old now one two back n e = part_front old now (one ++ two) back n e

-- and of the second of three, behind the first
pub part_between : (old mid now one two back : List ℕ) (n : ℕ) → mid ≡ old ++ one → now ≡ mid ++ take n two → (k : ℕ) × (now ≡ old ++ take k (one ++ two ++ back))
part_between old mid now one two back n first second =
    let both = part_behind old mid now one two n first second in
    part_within old now one two back both.0 both.1

-- and of the fifth, behind the first four
pub part_fifth : (old mid now one two three four back : List ℕ) (n : ℕ) → mid ≡ old ++ one ++ two ++ three ++ four → now ≡ mid ++ take n back
    → (k : ℕ) × (now ≡ old ++ take k (one ++ two ++ three ++ four ++ back))
part_fifth old mid now one two three four back n first second =
    let joined : old ++ one ++ two ++ three ++ four ≡ old ++ (one ++ two ++ three ++ four) = simp append_assoc in
    part_behind old mid now (one ++ two ++ three ++ four) back n (first ∙ joined) second

-- of an answer that is an error
pub on-err : {T E P : Type 0} (r : Result T E) → P → OnErr r P
on-err (Ok x) p = tt
on-err (Err e) p = p

-- a front part of the second of two, where its writing stopped
pub behind-err : {T E : Type 0} (r : Result T E) (old mid now front back : List ℕ) → mid ≡ old ++ front → OnErr r ((n : ℕ) × (now ≡ mid ++ take n back))
    → OnErr r ((k : ℕ) × (now ≡ old ++ take k (front ++ back)))
behind-err (Ok x) old mid now front back first part = tt
behind-err (Err e) old mid now front back first part = part_behind old mid now front back part.0 first part.1

-- of the fifth of five
pub fifth-err : {T E : Type 0} (r : Result T E) (old mid now one two three four back : List ℕ) → mid ≡ old ++ one ++ two ++ three ++ four → OnErr r ((n : ℕ) × (now ≡ mid ++ take n back))
    → OnErr r ((k : ℕ) × (now ≡ old ++ take k (one ++ two ++ three ++ four ++ back)))
fifth-err (Ok x) old mid now one two three four back first part = tt
fifth-err (Err e) old mid now one two three four back first part = part_fifth old mid now one two three four back part.0 first part.1

-- a front part of four texts is one of five
pub part-of-five : (old now one two three four back : List ℕ) (n : ℕ) → now ≡ old ++ take n (one ++ two ++ three ++ four) → (k : ℕ) × (now ≡ old ++ take k (one ++ two ++ three ++ four ++ back))
part-of-five old now one two three four back n e = part_front old now (one ++ two ++ three ++ four) back n e
