-- Fields, and where a text is none.
use Rattle.std.proofs.Common.{◌≡◌, ◌⊎◌, ◌==◌, not, ℕ, List, [], ◌∷◌, ◌++◌, true, false, Ok, codes, inl, inr, refl, subst, sym, ap, ap₂, ◌∙◌}
use Rattle.std.proofs.lemmas.Bool.{and_parts, and_from, both_ways}
use Rattle.std.proofs.lemmas.List.Sums.{list_all-from_AllPass}
use Rattle.std.specs.List.{list_all}
use Rattle.hex.specs.Hex.{is_hex_digit, decode_of}
use Rattle.hex.proofs.HexLemmas.{decode_of-ok, decode_of-same}
use Rattle.im_text.specs.Cuts.{Lacks, IsCut}
use Rattle.im_text.proofs.CutLemmas.{Lacks-of, Lacks-append, Lacks-mark, append-same, cut-unique, head-is, heads-differ}
use Rattle.im_text.proofs.WordLemmas.{Lacks-word}
use Rattle.im_draft.specs.Drafts.{no_attributes}
use Rattle.im_draft.specs.declared.drafts.Attrs.{Attrs}
use Rattle.im_draft.specs.declared.drafts.Draft.{Draft}
use Rattle.im_text.specs.Fields.{is_bare, is_bare_octet, is_session_octet, IsSession, IsOctets}
use Rattle.im_script.specs.Script.{hidden, IsField, IsMark}

bare-each : (text : List ℕ) → is_bare text ≡ true → list_all is_bare_octet text ≡ true
unfolding is_bare
bare-each text h = (and_parts _ _ (and_parts _ _ h).0).1

bare-hex : (digits : List ℕ) → is_bare (codes "0x" ++ digits) ≡ true → ⊥
unfolding is_bare
bare-hex digits h = both_ways false refl (and_parts _ _ h).1

-- a session's name has no colon
pub session-lacks : (text : List ℕ) → IsSession text → Lacks 58 text
session-lacks text h = Lacks-word 16 is_session_octet 58 text refl h

hex-lacks : (mark : ℕ) (digits octets : List ℕ) → is_hex_digit mark ≡ false → decode_of digits ≡ Ok octets → Lacks mark digits
hex-lacks mark digits octets other h = Lacks-of is_hex_digit mark digits other (list_all-from_AllPass is_hex_digit digits (decode_of-ok digits octets h).1)

octets-lack : (mark : ℕ) (text octets : List ℕ) → is_bare_octet mark ≡ false → is_hex_digit mark ≡ false → Lacks mark (codes "0x") → IsOctets text octets → Lacks mark text
octets-lack mark text octets bare hex zero (inl h) = Lacks-of is_bare_octet mark text bare (bare-each text h.0)
octets-lack mark text octets bare hex zero (inr h) =
    subst (λ (t : List ℕ). Lacks mark t) (sym h.1) (Lacks-append mark (codes "0x") h.0 zero (hex-lacks mark h.0 octets hex h.2))

-- the text of octets has no equals sign
pub octets-lack-equals : (text octets : List ℕ) → IsOctets text octets → Lacks 61 text
octets-lack-equals text octets h = octets-lack 61 text octets refl refl refl h

-- the text of octets has no space
pub octets-lack-space : (text octets : List ℕ) → IsOctets text octets → Lacks 32 text
octets-lack-space text octets h = octets-lack 32 text octets refl refl refl h

-- the text of octets has no at sign
pub octets-lack-at : (text octets : List ℕ) → IsOctets text octets → Lacks 64 text
octets-lack-at text octets h = octets-lack 64 text octets refl refl refl h

-- a text says one octet string at most
pub octets-unique : (text a b : List ℕ) → IsOctets text a → IsOctets text b → a ≡ b
octets-unique text a b (inl x) (inl y) = x.1 ∙ sym y.1
octets-unique text a b (inl x) (inr y) = absurd (bare-hex y.0 (subst (λ (t : List ℕ). is_bare t ≡ true) y.1 x.0))
octets-unique text a b (inr x) (inl y) = absurd (bare-hex x.0 (subst (λ (t : List ℕ). is_bare t ≡ true) x.1 y.0))
octets-unique text a b (inr x) (inr y) =
    let same = append-same (codes "0x") y.0 x.0 (sym y.1 ∙ x.1) in
    decode_of-same x.0 a b x.2 (subst (λ (t : List ℕ). decode_of t ≡ Ok b) same y.2)

mark-lacks : (o : ℕ) (mark : List ℕ) (attrs : Attrs) → Lacks o (codes "~") → IsMark mark attrs → Lacks o mark
mark-lacks o mark attrs tilde (inl h) = subst (λ (t : List ℕ). Lacks o t) (sym h.0) refl
mark-lacks o mark attrs tilde (inr h) = subst (λ (t : List ℕ). Lacks o t) (sym h.0) tilde

field-lack : (o : ℕ) (text : List ℕ) (draft : Draft) → is_bare_octet o ≡ false → is_hex_digit o ≡ false → Lacks o (codes "0x") → Lacks o (codes "~") → not (61 == o) ≡ true → IsField text draft → Lacks o text
field-lack o text draft bare hex zero tilde equals (mark, key, value, e, m, k, v) =
    let behind = and_from _ _ equals (octets-lack o value draft.value bare hex zero v) in
    let front = Lacks-append o mark key (mark-lacks o mark draft.attrs tilde m) (octets-lack o key draft.key bare hex zero k) in
    subst (λ (t : List ℕ). Lacks o t) (sym e) (Lacks-append o (mark ++ key) (61 ∷ value) front behind)

-- a field's text has no space
pub field-lacks : (text : List ℕ) (draft : Draft) → IsField text draft → Lacks 32 text
field-lacks text draft h = field-lack 32 text draft refl refl refl refl refl h

-- a field's text has no colon
pub field-lacks-colon : (text : List ℕ) (draft : Draft) → IsField text draft → Lacks 58 text
field-lacks-colon text draft h = field-lack 58 text draft refl refl refl refl refl h

-- a text is cut behind its mark, where it has one
abbrev pub IsMarkCut : List ℕ → List ℕ → Attrs → Type 0
IsMarkCut text entry attrs =
    ((text ≡ 126 ∷ entry) × (attrs ≡ hidden))
    ⊎ (((more : List ℕ) → text ≡ 126 ∷ more → ⊥) × (text ≡ entry) × (attrs ≡ no_attributes))

no-tilde : (key value more : List ℕ) → Lacks 126 key → 126 ∷ more ≡ key ++ 61 ∷ value → ⊥
no-tilde [] value more lacks e = heads-differ 126 61 more value refl e
no-tilde (o ∷ key) value more lacks e =
    Lacks-mark 126 [] key (subst (λ (p : ℕ). Lacks 126 (p ∷ key)) (sym (head-is 126 o more (key ++ 61 ∷ value) e).0) lacks)

key-no-tilde : (text key value octets : List ℕ) → text ≡ key ++ 61 ∷ value → IsOctets key octets → (more : List ℕ) → text ≡ 126 ∷ more → ⊥
key-no-tilde text key value octets e k more begins = no-tilde key value more (octets-lack 126 key octets refl refl refl k) (sym begins ∙ e)

-- a field's key and value stand behind its mark
mark-parts : (text entry : List ℕ) (attrs : Attrs) (draft : Draft) → IsMarkCut text entry attrs → (h : IsField text draft) → (draft.attrs ≡ attrs) × (entry ≡ h.1 ++ 61 ∷ h.2)
mark-parts text entry attrs draft (inl c) (mark, key, value, e, inl m, k, v) =
    let plain = e ∙ ap (λ (t : List ℕ). t ++ key ++ 61 ∷ value) m.0 in
    absurd (key-no-tilde text key value draft.key plain k entry c.0)
mark-parts text entry attrs draft (inl c) (mark, key, value, e, inr m, k, v) =
    let whole = e ∙ ap (λ (t : List ℕ). t ++ key ++ 61 ∷ value) m.0 in
    (m.1 ∙ sym c.1, (head-is 126 126 entry (key ++ 61 ∷ value) (sym c.0 ∙ whole)).1)
mark-parts text entry attrs draft (inr c) (mark, key, value, e, inl m, k, v) =
    let plain = e ∙ ap (λ (t : List ℕ). t ++ key ++ 61 ∷ value) m.0 in
    (m.1 ∙ sym c.2, sym c.1 ∙ plain)
mark-parts text entry attrs draft (inr c) (mark, key, value, e, inr m, k, v) =
    absurd (c.0 (key ++ 61 ∷ value) (e ∙ ap (λ (t : List ℕ). t ++ key ++ 61 ∷ value) m.0))

field-mark : (text : List ℕ) (draft : Draft) → (h : IsField text draft) → IsMarkCut text (h.1 ++ 61 ∷ h.2) draft.attrs
field-mark text draft (mark, key, value, e, inl m, k, v) =
    let plain = e ∙ ap (λ (t : List ℕ). t ++ key ++ 61 ∷ value) m.0 in
    inr (key-no-tilde text key value draft.key plain k, plain, m.1)
field-mark text draft (mark, key, value, e, inr m, k, v) =
    inl (e ∙ ap (λ (t : List ℕ). t ++ key ++ 61 ∷ value) m.0, m.1)

field-parts : (text entry front back : List ℕ) (attrs : Attrs) (draft : Draft) → IsMarkCut text entry attrs → IsCut 61 entry front back → (h : IsField text draft) → (h.1 ≡ front) × (h.2 ≡ back)
field-parts text entry front back attrs draft mark cut h =
    cut-unique 61 h.1 front h.2 back (octets-lack-equals h.1 draft.key h.5) cut.0 (sym (mark-parts text entry attrs draft mark h).1 ∙ cut.1)

-- a field by its parts
pub field-of : (text entry front back key value : List ℕ) (attrs : Attrs) → IsMarkCut text entry attrs → IsCut 61 entry front back → IsOctets front key → IsOctets back value → IsField text (record { attrs = attrs; key = key; value = value })
field-of text entry front back key value attrs (inl c) cut k v =
    (codes "~", front, back, c.0 ∙ ap (λ (t : List ℕ). 126 ∷ t) cut.1, inr (refl, c.1), k, v)
field-of text entry front back key value attrs (inr c) cut k v = ([], front, back, c.1 ∙ cut.1, inl (refl, c.2), k, v)

-- a text without `=` behind its mark is no field
pub field-no-cut : (text entry : List ℕ) (attrs : Attrs) → IsMarkCut text entry attrs → Lacks 61 entry → (draft : Draft) → IsField text draft → ⊥
field-no-cut text entry attrs mark lacks draft h =
    Lacks-mark 61 h.1 h.2 (subst (λ (t : List ℕ). Lacks 61 t) (mark-parts text entry attrs draft mark h).1 lacks)

-- a text is no field where no octets stand between its mark and the first `=`
pub field-bad-key : (text entry front back : List ℕ) (attrs : Attrs) → IsMarkCut text entry attrs → IsCut 61 entry front back → ((o : List ℕ) → IsOctets front o → ⊥) → (draft : Draft) → IsField text draft → ⊥
field-bad-key text entry front back attrs mark cut none draft h =
    none draft.key (subst (λ (t : List ℕ). IsOctets t draft.key) (field-parts text entry front back attrs draft mark cut h).0 h.5)

-- a text is no field where no octets stand behind the first `=`
pub field-bad-value : (text entry front back : List ℕ) (attrs : Attrs) → IsMarkCut text entry attrs → IsCut 61 entry front back → ((o : List ℕ) → IsOctets back o → ⊥) → (draft : Draft) → IsField text draft → ⊥
field-bad-value text entry front back attrs mark cut none draft h =
    none draft.value (subst (λ (t : List ℕ). IsOctets t draft.value) (field-parts text entry front back attrs draft mark cut h).1 h.6)

same-draft : (a b : Draft) → a.attrs ≡ b.attrs → a.key ≡ b.key → a.value ≡ b.value → a ≡ b
same-draft a b attrs key value =
    ap (λ (t : Attrs). record { attrs = t; key = a.key; value = a.value }) attrs
    ∙ ap₂ (λ (k v : List ℕ). record { attrs = b.attrs; key = k; value = v }) key value

-- a text is one field at most
pub field-unique : (text : List ℕ) (a b : Draft) → IsField text a → IsField text b → a ≡ b
field-unique text a b x y =
    let mark = field-mark text b y in
    let cut : IsCut 61 (y.1 ++ 61 ∷ y.2) y.1 y.2 = (octets-lack-equals y.1 b.key y.5, refl) in
    let e = field-parts text (y.1 ++ 61 ∷ y.2) y.1 y.2 b.attrs a mark cut x in
    same-draft a b (mark-parts text (y.1 ++ 61 ∷ y.2) b.attrs a mark x).0
    (octets-unique y.1 a.key b.key (subst (λ (t : List ℕ). IsOctets t a.key) e.0 x.5) y.5)
    (octets-unique y.2 a.value b.value (subst (λ (t : List ℕ). IsOctets t a.value) e.1 x.6) y.6)
