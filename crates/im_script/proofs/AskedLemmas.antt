-- What a set asks for: preconditions, then entries.
use Rattle.std.proofs.Common.{◌≡◌, ℕ, List, [], ◌∷◌, ◌++◌, inr, refl, subst, sym, ap, ◌∙◌, append-nil, append_assoc}
use Rattle.im_text.proofs.CutLemmas.{head-is}
use Rattle.im_draft.specs.declared.drafts.Draft.{Draft}
use Rattle.im_draft.specs.declared.preconditions.Pre.{Pre}
use Rattle.im_script.specs.Script.{IsPre, ArePres, AreFields, AreAsked}
use Rattle.im_script.specs.Arguments.{IsFieldEnd, IsFirstField}
use Rattle.im_script.proofs.FieldLemmas.{field-lacks}
use Rattle.im_script.proofs.PreLemmas.{pre-lacks, pre-no-field, pre-unique}
use Rattle.im_script.proofs.SetLemmas.{fields-end, fields-unique, first-unique, no-space}

-- what is asked for ends a field
asked-end : (front back : List ℕ) (pres : List Pre) (drafts : List Draft) → ArePres front pres → AreFields back drafts → IsFieldEnd (front ++ back)
asked-end front back [] drafts p f = subst (λ (t : List ℕ). IsFieldEnd (t ++ back)) (sym p) (fields-end back drafts f)
asked-end front back (pre ∷ pres) drafts p f = inr (p.0 ++ p.1 ++ back, ap (λ (t : List ℕ). t ++ back) p.2)

-- the first field of what is asked for, where that is a precondition
asked-parts : (text : List ℕ) (pre : Pre) (pres : List Pre) (drafts : List Draft) → AreAsked text (pre ∷ pres) drafts → (field : List ℕ) × (behind : List ℕ) × (text ≡ 32 ∷ field ++ behind) × IsFieldEnd behind × IsPre field pre × AreAsked behind pres drafts
asked-parts text pre pres drafts (front, back, e, (field, more, begins, is, p), f) =
    let whole : text ≡ 32 ∷ field ++ (more ++ back) = e ∙ ap (λ (t : List ℕ). t ++ back) begins ∙ ap (λ (t : List ℕ). 32 ∷ t) (append_assoc field more back) in
    (field, more ++ back, whole, asked-end more back pres drafts p f, is, (more, back, refl, p, f))

-- entries alone are asked for without a precondition
pub asked-fields : (text : List ℕ) (drafts : List Draft) → AreFields text drafts → AreAsked text [] drafts
asked-fields text drafts f = ([], text, refl, refl, f)

fields-asked : (text : List ℕ) (drafts : List Draft) → AreAsked text [] drafts → AreFields text drafts
fields-asked text drafts (front, back, e, p, f) =
    subst (λ (t : List ℕ). AreFields t drafts) (sym (e ∙ ap (λ (t : List ℕ). t ++ back) p)) f

-- no entry is where a precondition is
pre-no-fields : (text fields field behind : List ℕ) (pre : Pre) (drafts : List Draft) → text ≡ 32 ∷ fields → IsFirstField fields field behind → IsPre field pre → AreFields text drafts → ⊥
pre-no-fields text fields field behind pre [] begins first is f = no-space fields (sym f ∙ begins)
pre-no-fields text fields field behind pre (draft ∷ drafts) begins first is (own, more, e, d, f) =
    let tails = (head-is 32 32 (own ++ more) fields (sym e ∙ begins)).1 in
    let parts = first-unique own field more behind (field-lacks own draft d) first.0 (fields-end more drafts f) first.2 (tails ∙ first.1) in
    pre-no-field own pre draft (subst (λ (t : List ℕ). IsPre t pre) (sym parts.0) is) d

first-asked : (text fields field behind : List ℕ) (pre : Pre) (pres : List Pre) (drafts : List Draft) → text ≡ 32 ∷ fields → IsFirstField fields field behind → AreAsked text (pre ∷ pres) drafts → IsPre field pre × AreAsked behind pres drafts
first-asked text fields field behind pre pres drafts begins first asked =
    let (own, more, e, ends, is, rest) = asked-parts text pre pres drafts asked in
    let tails = (head-is 32 32 (own ++ more) fields (sym e ∙ begins)).1 in
    let parts = first-unique own field more behind (pre-lacks own pre is) first.0 ends first.2 (tails ∙ first.1) in
    (subst (λ (t : List ℕ). IsPre t pre) parts.0 is, subst (λ (t : List ℕ). AreAsked t pres drafts) parts.1 rest)

-- where the first field is a precondition, it is the first that is asked for
pub only-next : (text fields field behind : List ℕ) (pre : Pre) → text ≡ 32 ∷ fields → IsFirstField fields field behind → IsPre field pre → (pres : List Pre) (drafts : List Draft) → AreAsked text pres drafts → (more : List Pre) × (pres ≡ pre ∷ more) × AreAsked behind more drafts
only-next text fields field behind pre begins first is [] drafts asked =
    absurd (pre-no-fields text fields field behind pre drafts begins first is (fields-asked text drafts asked))
only-next text fields field behind pre begins first is (p ∷ pres) drafts asked =
    let parts = first-asked text fields field behind p pres drafts begins first asked in
    (pres, ap (λ (q : Pre). q ∷ pres) (pre-unique field p pre parts.0 is), parts.1)

-- where the first field is no precondition, none is asked for
pub none-next : (text fields field behind : List ℕ) → text ≡ 32 ∷ fields → IsFirstField fields field behind → ((pre : Pre) → IsPre field pre → ⊥) → (pres : List Pre) (drafts : List Draft) → AreAsked text pres drafts → (pres ≡ []) × AreFields text drafts
none-next text fields field behind begins first none [] drafts asked = (refl, fields-asked text drafts asked)
none-next text fields field behind begins first none (p ∷ pres) drafts asked =
    absurd (none p (first-asked text fields field behind p pres drafts begins first asked).0)

-- where no space is next, no precondition is asked for
pub none-unspaced : (text : List ℕ) → ((more : List ℕ) → text ≡ 32 ∷ more → ⊥) → (pres : List Pre) (drafts : List Draft) → AreAsked text pres drafts → (pres ≡ []) × AreFields text drafts
none-unspaced text unspaced [] drafts asked = (refl, fields-asked text drafts asked)
none-unspaced text unspaced (p ∷ pres) drafts asked =
    let parts = asked-parts text p pres drafts asked in absurd (unspaced (parts.0 ++ parts.1) parts.2)

-- a precondition more is asked for, in front of what the rest asks for
pub asked-next : (text fields field behind : List ℕ) (pre : Pre) (pres : List Pre) (drafts : List Draft) → text ≡ 32 ∷ fields → IsFirstField fields field behind → IsPre field pre → AreAsked behind pres drafts → AreAsked text (pre ∷ pres) drafts
asked-next text fields field behind pre pres drafts begins first is (front, back, e, p, f) =
    let fields-are : fields ≡ field ++ front ++ back = first.1 ∙ ap (λ (t : List ℕ). field ++ t) e ∙ sym (append_assoc field front back) in
    (32 ∷ field ++ front, back, begins ∙ ap (λ (t : List ℕ). 32 ∷ t) fields-are, (field, front, refl, is, p), f)

-- behind the preconditions before it, what the rest asks for is asked for
abbrev pub IsAskedBehind : List ℕ → List Pre → List ℕ → Type 0
IsAskedBehind text before rest = (more : List Pre) (drafts : List Draft) → AreAsked rest more drafts → AreAsked text (before ++ more) drafts

-- all that is asked for are the preconditions before it and what the rest asks for
abbrev pub IsAskedOnly : List ℕ → List Pre → List ℕ → Type 0
IsAskedOnly text before rest = (all : List Pre) (drafts : List Draft) → AreAsked text all drafts → (more : List Pre) × (all ≡ before ++ more) × AreAsked rest more drafts

-- a precondition more is asked for
pub behind-next : (text rest fields field behind : List ℕ) (before after : List Pre) (pre : Pre) → after ≡ before ++ pre ∷ [] → rest ≡ 32 ∷ fields → IsFirstField fields field behind → IsPre field pre → IsAskedBehind text before rest → IsAskedBehind text after behind
behind-next text rest fields field behind before after pre pushed begins first is asked more drafts h =
    let longer = asked (pre ∷ more) drafts (asked-next rest fields field behind pre more drafts begins first is h) in
    subst (λ (l : List Pre). AreAsked text l drafts) (sym (ap (λ (l : List Pre). l ++ more) pushed ∙ append_assoc before (pre ∷ []) more)) longer

-- no other precondition is asked for
pub only-behind : (text rest fields field behind : List ℕ) (before after : List Pre) (pre : Pre) → after ≡ before ++ pre ∷ [] → rest ≡ 32 ∷ fields → IsFirstField fields field behind → IsPre field pre → IsAskedOnly text before rest → IsAskedOnly text after behind
only-behind text rest fields field behind before after pre pushed begins first is only all drafts h =
    let (more, e, asked) = only all drafts h in
    let (left, same, rest-asked) = only-next rest fields field behind pre begins first is more drafts asked in
    let longer : after ++ left ≡ before ++ pre ∷ left = ap (λ (l : List Pre). l ++ left) pushed ∙ append_assoc before (pre ∷ []) left in
    (left, e ∙ ap (λ (l : List Pre). before ++ l) same ∙ sym longer, rest-asked)

-- the rest are entries
pub behind-end : (text rest : List ℕ) (before : List Pre) → IsAskedBehind text before rest → (drafts : List Draft) → AreFields rest drafts → AreAsked text before drafts
behind-end text rest before asked drafts h =
    subst (λ (l : List Pre). AreAsked text l drafts) (append-nil before) (asked [] drafts (asked-fields rest drafts h))

-- the rest asks for no precondition
pub only-end : (text rest : List ℕ) (before : List Pre) → IsAskedOnly text before rest → ((pres : List Pre) (drafts : List Draft) → AreAsked rest pres drafts → (pres ≡ []) × AreFields rest drafts) → (pres : List Pre) (drafts : List Draft) → AreAsked text pres drafts → (pres ≡ before) × AreFields rest drafts
only-end text rest before only none pres drafts h =
    let (more, e, asked) = only pres drafts h in
    let last = none more drafts asked in
    (e ∙ ap (λ (l : List Pre). before ++ l) last.0 ∙ append-nil before, last.1)

-- a text asks for one thing at most
pub asked-unique : (text : List ℕ) (p q : List Pre) (c d : List Draft) → AreAsked text p c → AreAsked text q d → (p ≡ q) × (c ≡ d)
asked-unique text [] [] c d x y = (refl, fields-unique text c d (fields-asked text c x) (fields-asked text d y))
asked-unique text [] (b ∷ q) c d x y =
    let (own, more, e, ends, is, rest) = asked-parts text b q d y in
    absurd (pre-no-fields text (own ++ more) own more b c e (pre-lacks own b is, refl, ends) is (fields-asked text c x))
asked-unique text (a ∷ p) q c d x y =
    let (own, more, e, ends, is, rest) = asked-parts text a p c x in
    let (left, same, asked) = only-next text (own ++ more) own more a e (pre-lacks own a is, refl, ends) is q d y in
    let both = asked-unique more p left c d rest asked in
    (ap (λ (l : List Pre). a ∷ l) both.0 ∙ sym same, both.1)
