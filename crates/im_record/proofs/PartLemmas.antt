-- What was added of a record before writing stopped.
use Rattle.std.proofs.Common.{◌≡◌, ◌<◌, ◌+◌, ◌++◌, ◌∷◌, ℕ, List, length, take, drop, get_or, ap, sym, ◌∙◌, append_assoc}
use Rattle.std.proofs.lemmas.List.{append_cancel_left, drop_more, take-append-drop}
use Rattle.std.specs.Prelude.{OnErr, Result, Ok, Err, is_ok, if◌then◌else◌}
use Rattle.im_octet.proofs.PartLemmas.{part-is, part_three}
use Rattle.im_model.specs.declared.entries.Entry.{Entry}
use Rattle.im_format.specs.Records.{entries_octets, entry_octets}
use Rattle.im_format.specs.declared.references.ValueRef.{ValueRef}

-- the first of four texts is a front part of them
pub part_one_of_four : (old now one two three four : List ℕ) → now ≡ old ++ one → (n : ℕ) × (now ≡ old ++ take n (one ++ two ++ three ++ four))
part_one_of_four old now one two three four e =
    let whole : one ++ (two ++ three ++ four) ≡ one ++ two ++ three ++ four = simp append_assoc in
    part-is old now one (two ++ three ++ four) (one ++ two ++ three ++ four) e whole

-- so are the first two of them
pub part_two_of_four : (old now one two three four : List ℕ) → now ≡ old ++ one ++ two → (n : ℕ) × (now ≡ old ++ take n (one ++ two ++ three ++ four))
part_two_of_four old now one two three four e =
    part-is old now (one ++ two) (three ++ four) (one ++ two ++ three ++ four) (e ∙ append_assoc old one two) (sym (append_assoc (one ++ two) three four))

-- a text that was added behind others
pub added-behind : (mid now x y front : List ℕ) → mid ≡ front → now ≡ mid ++ x → x ≡ y → now ≡ front ++ y
added-behind mid now x y front before more is = more ∙ ap (λ (l : List ℕ). mid ++ l) is ∙ ap (λ (l : List ℕ). l ++ y) before

-- and the first three of them, where the fourth isn't there
pub part_three_of_four : {T E : Type 0} (r : Result T E) (old mid now last one two three four : List ℕ) → mid ≡ old ++ one ++ two ++ three
    → now ≡ (if is_ok r then mid ++ last else mid) → OnErr r ((n : ℕ) × (now ≡ old ++ take n (one ++ two ++ three ++ four)))
part_three_of_four (Ok x) old mid now last one two three four first second = tt
part_three_of_four (Err e) old mid now last one two three four first second = part_three old now one two three four (second ∙ first)

-- behind the entries before place i, of which these are the octets, a front part of the octets of the entry there
pub part_reached : {T E : Type 0} (r : Result T E) (old mid now part : List ℕ) (entries : List Entry) (refs : List ValueRef) (i n : ℕ) (entry : Entry) (ref default : ValueRef)
    → i < length entries → i < length refs → entry ≡ get_or entries i entry → ref ≡ get_or refs i default → mid ≡ old ++ part
    → mid ++ entries_octets (drop i entries) (drop i refs) ≡ old ++ entries_octets entries refs → now ≡ mid ++ take n (entry_octets entry ref)
    → OnErr r ((k : ℕ) × (now ≡ old ++ take k (entries_octets entries refs)))
part_reached (Ok x) old mid now part entries refs i n entry ref default less less2 at at2 first same last = tt
part_reached (Err e) old mid now part entries refs i n entry ref default less less2 at at2 first same last =
    let more : List Entry = drop (i + 1) entries in
    let others : List ValueRef = drop (i + 1) refs in
    let one : List ℕ = entry_octets entry ref in
    let rest : List ℕ = entries_octets more others in
    let all : List ℕ = entries_octets entries refs in
    let cut : drop i entries ≡ entry ∷ more = drop_more entries i entry less ∙ ap (λ (x : Entry). x ∷ more) (sym at) in
    let cut2 : drop i refs ≡ ref ∷ others = drop_more refs i default less2 ∙ ap (λ (x : ValueRef). x ∷ others) (sym at2) in
    let left : entries_octets (drop i entries) (drop i refs) ≡ one ++ rest =
    ap (λ (l : List Entry). entries_octets l (drop i refs)) cut ∙ ap (λ (l : List ValueRef). entries_octets (entry ∷ more) l) cut2 in
    let both : part ++ (one ++ rest) ≡ all =
    append_cancel_left old (part ++ (one ++ rest)) all
    (sym (append_assoc old part (one ++ rest)) ∙ ap (λ (l : List ℕ). l ++ (one ++ rest)) (sym first) ∙ ap (λ (l : List ℕ). mid ++ l) (sym left) ∙ same) in
    let whole : (part ++ take n one) ++ (drop n one ++ rest) ≡ all =
    append_assoc part (take n one) (drop n one ++ rest)
    ∙ ap (λ (l : List ℕ). part ++ l) (sym (append_assoc (take n one) (drop n one) rest) ∙ ap (λ (l : List ℕ). l ++ rest) (take-append-drop n one))
    ∙ both in
    let added : now ≡ old ++ (part ++ take n one) = last ∙ ap (λ (l : List ℕ). l ++ take n one) first ∙ append_assoc old part (take n one) in
    part-is old now (part ++ take n one) (drop n one ++ rest) all added whole
