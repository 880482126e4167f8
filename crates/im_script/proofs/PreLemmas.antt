-- Preconditions, and where a text is none.
use Rattle.std.proofs.Common.{◌≡◌, ℕ, List, ◌∷◌, ◌++◌, codes, refl, subst, sym, ap, ap₂, ◌∙◌}
use Rattle.std.specs.Char.{is_ascii_digit}
use Rattle.im_text.specs.Cuts.{Lacks, IsCut}
use Rattle.im_text.specs.Words.{IsNumber}
use Rattle.im_text.proofs.CutLemmas.{Lacks-append, Lacks-mark, append-same, cut-unique, heads-differ}
use Rattle.im_text.proofs.WordLemmas.{Lacks-word, number-unique}
use Rattle.im_draft.specs.declared.drafts.Draft.{Draft}
use Rattle.im_draft.specs.declared.preconditions.Pre.{Pre}
use Rattle.im_draft.specs.declared.preconditions.Pre.TheVariants.{Exists, Missing, Since}
use Rattle.im_text.specs.Fields.{IsOctets}
use Rattle.im_script.specs.Script.{IsField, IsPre}
use Rattle.im_script.proofs.FieldLemmas.{field-lacks-colon, octets-lack-at, octets-lack-space, octets-unique}

-- a precondition's text has no space
pub pre-lacks : (text : List ℕ) (pre : Pre) → IsPre text pre → Lacks 32 text
pre-lacks text (Exists key) (word, e, k) =
    subst (λ (t : List ℕ). Lacks 32 t) (sym e) (Lacks-append 32 (codes "exists:") word refl (octets-lack-space word key k))
pre-lacks text (Missing key) (word, e, k) =
    subst (λ (t : List ℕ). Lacks 32 t) (sym e) (Lacks-append 32 (codes "missing:") word refl (octets-lack-space word key k))
pre-lacks text (Since key n) (word, digits, e, k, d) =
    let behind = Lacks-append 32 (codes "@") digits refl (Lacks-word 20 is_ascii_digit 32 digits refl d.0) in
    let whole = Lacks-append 32 word (64 ∷ digits) (octets-lack-space word key k) behind in
    subst (λ (t : List ℕ). Lacks 32 t) (sym e) (Lacks-append 32 (codes "since:") (word ++ 64 ∷ digits) refl whole)

pre-colon : (text : List ℕ) (pre : Pre) → IsPre text pre → Lacks 58 text → ⊥
pre-colon text (Exists key) h l = Lacks-mark 58 (codes "exists") h.0 (subst (λ (t : List ℕ). Lacks 58 t) h.1 l)
pre-colon text (Missing key) h l = Lacks-mark 58 (codes "missing") h.0 (subst (λ (t : List ℕ). Lacks 58 t) h.1 l)
pre-colon text (Since key n) h l =
    Lacks-mark 58 (codes "since") (h.0 ++ 64 ∷ h.1) (subst (λ (t : List ℕ). Lacks 58 t) h.2 l)

-- a precondition is no entry
pub pre-no-field : (text : List ℕ) (pre : Pre) (draft : Draft) → IsPre text pre → IsField text draft → ⊥
pre-no-field text pre draft p f = pre-colon text pre p (field-lacks-colon text draft f)

-- behind `exists:` a precondition's key stands
pub only-exists : (word : List ℕ) (pre : Pre) → IsPre (codes "exists:" ++ word) pre → (key : List ℕ) × (pre ≡ Exists key) × IsOctets word key
only-exists word (Exists key) h = (key, refl, subst (λ (t : List ℕ). IsOctets t key) (append-same (codes "exists:") h.0 word (sym h.1)) h.2)
only-exists word (Missing key) h = absurd (heads-differ 101 109 _ _ refl h.1)
only-exists word (Since key n) h = absurd (heads-differ 101 115 _ _ refl h.2)

-- behind `missing:` a precondition's key stands
pub only-missing : (word : List ℕ) (pre : Pre) → IsPre (codes "missing:" ++ word) pre → (key : List ℕ) × (pre ≡ Missing key) × IsOctets word key
only-missing word (Missing key) h = (key, refl, subst (λ (t : List ℕ). IsOctets t key) (append-same (codes "missing:") h.0 word (sym h.1)) h.2)
only-missing word (Exists key) h = absurd (heads-differ 109 101 _ _ refl h.1)
only-missing word (Since key n) h = absurd (heads-differ 109 115 _ _ refl h.2)

-- behind `since:` a precondition's key and number stand
pub only-since : (text : List ℕ) (pre : Pre) → IsPre (codes "since:" ++ text) pre → (key : List ℕ) × (n : ℕ) × (word : List ℕ) × (digits : List ℕ) × (pre ≡ Since key n) × (text ≡ word ++ 64 ∷ digits) × IsOctets word key × IsNumber digits n
only-since text (Since key n) (word, digits, e, k, d) =
    (key, n, word, digits, refl, append-same (codes "since:") text (word ++ 64 ∷ digits) e, k, d)
only-since text (Exists key) h = absurd (heads-differ 115 101 _ _ refl h.1)
only-since text (Missing key) h = absurd (heads-differ 115 109 _ _ refl h.1)

-- no key stands behind `exists:`
pub exists-no-key : (word : List ℕ) → ((o : List ℕ) → IsOctets word o → ⊥) → (pre : Pre) → IsPre (codes "exists:" ++ word) pre → ⊥
exists-no-key word none pre h = let z = only-exists word pre h in none z.0 z.2

-- no key stands behind `missing:`
pub missing-no-key : (word : List ℕ) → ((o : List ℕ) → IsOctets word o → ⊥) → (pre : Pre) → IsPre (codes "missing:" ++ word) pre → ⊥
missing-no-key word none pre h = let z = only-missing word pre h in none z.0 z.2

-- no at sign stands behind `since:`
pub since-no-cut : (text : List ℕ) → Lacks 64 text → (pre : Pre) → IsPre (codes "since:" ++ text) pre → ⊥
since-no-cut text lacks pre h =
    let z = only-since text pre h in Lacks-mark 64 z.2 z.3 (subst (λ (t : List ℕ). Lacks 64 t) z.5 lacks)

since-parts : (text word digits : List ℕ) → IsCut 64 text word digits → (pre : Pre) → IsPre (codes "since:" ++ text) pre → (key : List ℕ) × (n : ℕ) × (pre ≡ Since key n) × IsOctets word key × IsNumber digits n
since-parts text word digits cut pre h =
    let (key, n, w, d, is, e, k, number) = only-since text pre h in
    let parts = cut-unique 64 w word d digits (octets-lack-at w key k) cut.0 (sym e ∙ cut.1) in
    (key, n, is, subst (λ (t : List ℕ). IsOctets t key) parts.0 k, subst (λ (t : List ℕ). IsNumber t n) parts.1 number)

-- no number stands behind the first at sign
pub since-no-number : (text word digits : List ℕ) → IsCut 64 text word digits → ((n : ℕ) → IsNumber digits n → ⊥) → (pre : Pre) → IsPre (codes "since:" ++ text) pre → ⊥
since-no-number text word digits cut none pre h = let z = since-parts text word digits cut pre h in none z.1 z.4

-- no key stands before the first at sign
pub since-no-key : (text word digits : List ℕ) → IsCut 64 text word digits → ((o : List ℕ) → IsOctets word o → ⊥) → (pre : Pre) → IsPre (codes "since:" ++ text) pre → ⊥
since-no-key text word digits cut none pre h = let z = since-parts text word digits cut pre h in none z.0 z.3

-- a text says one precondition at most
pub pre-unique : (text : List ℕ) (a b : Pre) → IsPre text a → IsPre text b → a ≡ b
pre-unique text (Exists k) b x y =
    let z = only-exists x.0 b (subst (λ (t : List ℕ). IsPre t b) x.1 y) in
    ap Exists (octets-unique x.0 k z.0 x.2 z.2) ∙ sym z.1
pre-unique text (Missing k) b x y =
    let z = only-missing x.0 b (subst (λ (t : List ℕ). IsPre t b) x.1 y) in
    ap Missing (octets-unique x.0 k z.0 x.2 z.2) ∙ sym z.1
pre-unique text (Since k n) b (word, digits, e, o, d) y =
    let z = since-parts (word ++ 64 ∷ digits) word digits (octets-lack-at word k o, refl) b (subst (λ (t : List ℕ). IsPre t b) e y) in
    ap₂ (λ (key : List ℕ) (m : ℕ). Since key m) (octets-unique word k z.0 o z.3) (number-unique digits n z.1 d z.4) ∙ sym z.2
