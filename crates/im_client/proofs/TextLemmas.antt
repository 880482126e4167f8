-- A name stands in front of its values, so its parts may be written one after the other.
use Rattle.std.proofs.Common.{◌≡◌, ℕ, List, [], ◌++◌, Result, ap, sym, subst, ◌∙◌, append_assoc}
use Rattle.std.specs.Prelude.{codes, OnOk}
use Rattle.std.specs.Fmt.{decimal}
use Rattle.hex.specs.Hex.{encode_lower}
use Rattle.im_client.specs.Texts.{with_numbers, with_digests}

in-front : (name a b c d : List ℕ) → name ++ a ++ b ++ c ++ d ≡ name ++ (a ++ b ++ c ++ d)
in-front name a b c d =
    ap (λ (t : List ℕ). t ++ d) (ap (λ (t : List ℕ). t ++ c) (append_assoc name a b) ∙ append_assoc name (a ++ b) c)
    ∙ append_assoc name (a ++ b ++ c) d

numbers-front : (want got : ℕ) (name : List ℕ) → with_numbers name want got ≡ name ++ with_numbers [] want got
unfolding with_numbers
numbers-front want got name = in-front name (codes " ") (decimal want) (codes " ") (decimal got)

digests-front : (want got name : List ℕ) → with_digests name want got ≡ name ++ with_digests [] want got
unfolding with_digests
digests-front want got name = in-front name (codes " ") (encode_lower want) (codes " ") (encode_lower got)

-- a whole name is written first
whole : (f : List ℕ → List ℕ) → ((name : List ℕ) → f name ≡ name ++ f []) → (out mid name : List ℕ) → mid ≡ out ++ name
    → mid ++ f [] ≡ out ++ f name
whole f front out mid name e =
    ap (λ (t : List ℕ). t ++ f []) e ∙ append_assoc out name (f []) ∙ ap (λ (t : List ℕ). out ++ t) (sym (front name))

-- a part of a name is written first
part : (f : List ℕ → List ℕ) → ((name : List ℕ) → f name ≡ name ++ f []) → (out mid a b : List ℕ) → mid ≡ out ++ a
    → mid ++ f b ≡ out ++ f (a ++ b)
part f front out mid a b e =
    ap (λ (t : List ℕ). mid ++ t) (front b)
    ∙ sym (append_assoc mid b (f []))
    ∙ whole f front out (mid ++ b) (a ++ b) (ap (λ (t : List ℕ). t ++ b) e ∙ append_assoc out a b)

pub numbers_behind : (out mid role name : List ℕ) (want got : ℕ) → mid ≡ out ++ role → mid ++ with_numbers name want got ≡ out ++ with_numbers (role ++ name) want got
numbers_behind out mid role name want got e = part (λ n. with_numbers n want got) (numbers-front want got) out mid role name e

pub numbers_of : (out mid name number : List ℕ) (want got : ℕ) → mid ≡ out ++ name ++ number → mid ++ with_numbers [] want got ≡ out ++ with_numbers (name ++ number) want got
numbers_of out mid name number want got e =
    whole (λ n. with_numbers n want got) (numbers-front want got) out mid (name ++ number) (e ∙ append_assoc out name number)

pub digests_of : (out mid name number want got : List ℕ) → mid ≡ out ++ name ++ number → mid ++ with_digests [] want got ≡ out ++ with_digests (name ++ number) want got
digests_of out mid name number want got e =
    whole (λ n. with_digests n want got) (digests-front want got) out mid (name ++ number) (e ∙ append_assoc out name number)

-- what was added is the text of what was looked at
pub said : {A E X : Type 0} (r : Result A E) (after before : List ℕ) (text : X → List ℕ) (x y : X) → x ≡ y → OnOk r (after ≡ before ++ text y)
    → OnOk r (after ≡ before ++ text x)
said r after before text x y is added = subst (λ (z : _). OnOk r (after ≡ before ++ text z)) (sym is) added
