-- Whether a text says what a set asks for, and what that is.
use Rattle.std.proofs.Common.{◌≡◌, ◌≤◌, ℕ, zero, suc, List, [], ◌∷◌, ◌++◌, length, codes, inl, inr, refl, sym, subst, ap, ◌∙◌, arith}
use Rattle.im_text.specs.Words.{IsNumber}
use Rattle.im_draft.specs.Drafts.{no_attributes}
use Rattle.im_draft.specs.declared.drafts.Attrs.{Attrs}
use Rattle.im_draft.specs.declared.drafts.Draft.{Draft}
use Rattle.im_draft.specs.declared.preconditions.Pre.{Pre}
use Rattle.im_draft.specs.declared.preconditions.Pre.TheVariants.{Exists, Missing, Since}
use Rattle.im_text.specs.Fields.{IsOctets}
use Rattle.im_script.specs.Script.{hidden, AreAsked, AreFields, IsField, IsPre}
use Rattle.im_script.proofs.Decisions.{Decided, after-decided, behind-shorter, by-cut, decided-by, decided-else, first-field, number-decided, octets-decided}
use Rattle.im_script.proofs.FieldLemmas.{IsMarkCut, field-bad-key, field-bad-value, field-no-cut, field-of}
use Rattle.im_script.proofs.PreLemmas.{exists-no-key, missing-no-key, since-no-cut, since-no-key, since-no-number}
use Rattle.im_script.proofs.SetLemmas.{fields-bad-behind, fields-bad-field, fields-unspaced, no-space}
use Rattle.im_script.proofs.AskedLemmas.{asked-fields, asked-next, none-next, none-unspaced, only-next}

-- a text is cut behind its mark
mark-cut : (text : List ℕ) → (entry : List ℕ) × (attrs : Attrs) × IsMarkCut text entry attrs
mark-cut text = go (after-decided (codes "~") text)
  where
    go : Decided (λ (rest : List ℕ). text ≡ codes "~" ++ rest) → (entry : List ℕ) × (attrs : Attrs) × IsMarkCut text entry attrs
    go (inl h) = (h.0, hidden, inl (h.1, refl))
    go (inr none) = (text, no_attributes, inr (none, refl, refl))

field-decided : (text : List ℕ) → Decided (IsField text)
field-decided text =
    let (entry, attrs, mark) = mark-cut text in
    by-cut (IsField text) 61 entry
    (λ front back cut. decided-by (IsOctets front) (IsField text)
    (λ key k. decided-by (IsOctets back) (IsField text)
    (λ value v. inl (record { attrs = attrs; key = key; value = value }, field-of text entry front back key value attrs mark cut k v))
    (field-bad-value text entry front back attrs mark cut) (octets-decided back))
    (field-bad-key text entry front back attrs mark cut) (octets-decided front))
    (field-no-cut text entry attrs mark)

fields-in : (most : ℕ) (text : List ℕ) → length text ≤ most → Decided (AreFields text)
fields-in most [] few = inl ([], refl)
fields-in zero (o ∷ text) few = absurd (omega (arith, few))
fields-in (suc most) (o ∷ text) few = decided-by (λ (rest : List ℕ). o ∷ text ≡ codes " " ++ rest) (AreFields (o ∷ text)) (next (fields-in most))
    (λ none. fields-unspaced (o ∷ text) none (λ e. cc)) (after-decided (codes " ") (o ∷ text))
  where
    next : ((t : List ℕ) → length t ≤ most → Decided (AreFields t)) → (fields : List ℕ) → o ∷ text ≡ 32 ∷ fields → Decided (AreFields (o ∷ text))
    next rest fields begins =
        let (field, behind, first) = first-field fields in
        decided-by (IsField field) (AreFields (o ∷ text))
        (λ draft is. decided-by (AreFields behind) (AreFields (o ∷ text))
        (λ drafts h. inl (draft ∷ drafts, (field, behind, begins ∙ ap (λ (t : List ℕ). 32 ∷ t) first.1, is, h)))
        (fields-bad-behind (o ∷ text) fields field behind begins first)
        (rest behind (behind-shorter (o ∷ text) fields field behind most begins first few)))
        (fields-bad-field (o ∷ text) fields field behind begins first) (field-decided field)

fields-decided : (text : List ℕ) → Decided (AreFields text)
fields-decided text = fields-in (length text) text (omega arith)

exists-decided : (word : List ℕ) → Decided (IsPre (codes "exists:" ++ word))
exists-decided word =
    decided-by (IsOctets word) (IsPre (codes "exists:" ++ word)) (λ key k. inl (Exists key, (word, refl, k))) (exists-no-key word) (octets-decided word)

missing-decided : (word : List ℕ) → Decided (IsPre (codes "missing:" ++ word))
missing-decided word =
    decided-by (IsOctets word) (IsPre (codes "missing:" ++ word)) (λ key k. inl (Missing key, (word, refl, k))) (missing-no-key word) (octets-decided word)

since-decided : (text : List ℕ) → Decided (IsPre (codes "since:" ++ text))
since-decided text = by-cut (IsPre (codes "since:" ++ text)) 64 text
    (λ word digits cut. decided-by (IsNumber digits) (IsPre (codes "since:" ++ text))
    (λ n d. decided-by (IsOctets word) (IsPre (codes "since:" ++ text))
    (λ key k. inl (Since key n, (word, digits, ap (λ (t : List ℕ). codes "since:" ++ t) cut.1, k, d)))
    (since-no-key text word digits cut) (octets-decided word))
    (since-no-number text word digits cut) (number-decided digits))
    (since-no-cut text)

no-pre : (text : List ℕ) → ((rest : List ℕ) → text ≡ codes "exists:" ++ rest → ⊥) → ((rest : List ℕ) → text ≡ codes "missing:" ++ rest → ⊥) → ((rest : List ℕ) → text ≡ codes "since:" ++ rest → ⊥) → (pre : Pre) → IsPre text pre → ⊥
no-pre text exists missing since (Exists key) h = exists h.0 h.1
no-pre text exists missing since (Missing key) h = missing h.0 h.1
no-pre text exists missing since (Since key n) h = since (h.0 ++ 64 ∷ h.1) h.2

pre-decided : (text : List ℕ) → Decided (IsPre text)
pre-decided text =
    decided-else (λ (rest : List ℕ). text ≡ codes "exists:" ++ rest) (IsPre text) (λ rest e. says (codes "exists:") rest e (exists-decided rest))
    (λ exists. decided-else (λ (rest : List ℕ). text ≡ codes "missing:" ++ rest) (IsPre text) (λ rest e. says (codes "missing:") rest e (missing-decided rest))
    (λ missing. decided-by (λ (rest : List ℕ). text ≡ codes "since:" ++ rest) (IsPre text) (λ rest e. says (codes "since:") rest e (since-decided rest))
    (no-pre text exists missing) (after-decided (codes "since:") text))
    (after-decided (codes "missing:") text))
    (after-decided (codes "exists:") text)
  where
    says : (word rest : List ℕ) → text ≡ word ++ rest → Decided (IsPre (word ++ rest)) → Decided (IsPre text)
    says word rest e d = subst (λ (t : List ℕ). Decided (IsPre t)) (sym e) d

-- preconditions and entries that a text asks for
abbrev pub AsksBoth : List ℕ → List Pre × List Draft → Type 0
AsksBoth text asked = AreAsked text asked.0 asked.1

-- where no precondition is asked for, entries alone decide
fields-alone : (text : List ℕ) → ((pres : List Pre) (drafts : List Draft) → AreAsked text pres drafts → (pres ≡ []) × AreFields text drafts) → Decided (AsksBoth text)
fields-alone text only = decided-by (AreFields text) (AsksBoth text) (λ drafts f. inl (([], drafts), asked-fields text drafts f))
    (λ none asked h. none asked.1 (only asked.0 asked.1 h).1) (fields-decided text)

asked-in : (most : ℕ) (text : List ℕ) → length text ≤ most → Decided (AsksBoth text)
asked-in most [] few = fields-alone [] (none-unspaced [] no-space)
asked-in zero (o ∷ text) few = absurd (omega (arith, few))
asked-in (suc most) (o ∷ text) few = decided-else (λ (rest : List ℕ). o ∷ text ≡ codes " " ++ rest) (AsksBoth (o ∷ text)) (next (asked-in most))
    (λ none. fields-alone (o ∷ text) (none-unspaced (o ∷ text) none)) (after-decided (codes " ") (o ∷ text))
  where
    next : ((t : List ℕ) → length t ≤ most → Decided (AsksBoth t)) → (fields : List ℕ) → o ∷ text ≡ 32 ∷ fields → Decided (AsksBoth (o ∷ text))
    next rest fields begins =
        let (field, behind, first) = first-field fields in
        decided-else (IsPre field) (AsksBoth (o ∷ text))
        (λ pre is. decided-by (AsksBoth behind) (AsksBoth (o ∷ text))
        (λ asked h. inl ((pre ∷ asked.0, asked.1), asked-next (o ∷ text) fields field behind pre asked.0 asked.1 begins first is h))
        (λ none asked h.
        let more = only-next (o ∷ text) fields field behind pre begins first is asked.0 asked.1 h in
        none (more.0, asked.1) more.2)
        (rest behind (behind-shorter (o ∷ text) fields field behind most begins first few)))
        (λ none. fields-alone (o ∷ text) (none-next (o ∷ text) fields field behind begins first none)) (pre-decided field)

-- what a set asks for
pub asked-decided : (text : List ℕ) → Decided (AsksBoth text)
asked-decided text = asked-in (length text) text (omega arith)
