-- Lists of fields, and where a text is none.
use Rattle.std.proofs.Common.{◌≡◌, ◌==◌, ℕ, List, [], ◌∷◌, ◌++◌, length, true, inl, inr, refl, subst, sym, ap, ap₂, ◌∙◌, append-nil, append_assoc, arith}
use Rattle.std.proofs.lemmas.Bool.{eqb-true}
use Rattle.im_text.specs.Cuts.{Lacks}
use Rattle.im_text.proofs.CutLemmas.{Lacks-mark, cut-unique, head-is}
use Rattle.im_draft.specs.declared.drafts.Draft.{Draft}
use Rattle.im_script.specs.Script.{IsField, AreFields}
use Rattle.im_script.specs.Arguments.{IsFieldEnd, IsFirstField}
use Rattle.im_script.proofs.FieldLemmas.{field-lacks, field-unique}

-- what is left behind a field, where it is fields, ends the field
pub fields-end : (text : List ℕ) (drafts : List Draft) → AreFields text drafts → IsFieldEnd text
fields-end text [] h = inl h
fields-end text (draft ∷ drafts) h = inr (h.0 ++ h.1, h.2)

-- where a text ends a field, it has no space
ended-none : (a b more : List ℕ) → Lacks 32 a → a ++ [] ≡ b ++ 32 ∷ more → ⊥
ended-none a b more lacks e = Lacks-mark 32 b more (subst (λ (t : List ℕ). Lacks 32 t) (sym (append-nil a) ∙ e) lacks)

-- a text has one first field, and one text behind it
pub first-unique : (a b x y : List ℕ) → Lacks 32 a → Lacks 32 b → IsFieldEnd x → IsFieldEnd y → a ++ x ≡ b ++ y → (a ≡ b) × (x ≡ y)
first-unique a b x y la lb (inl p) (inl q) e =
    let plain = subst (λ (t : List ℕ). a ++ t ≡ b ++ y) p e in
    let both = subst (λ (t : List ℕ). a ++ [] ≡ b ++ t) q plain in
    (sym (append-nil a) ∙ both ∙ append-nil b, p ∙ sym q)
first-unique a b x y la lb (inl p) (inr q) e =
    let plain = subst (λ (t : List ℕ). a ++ t ≡ b ++ y) p e in
    absurd (ended-none a b q.0 la (subst (λ (t : List ℕ). a ++ [] ≡ b ++ t) q.1 plain))
first-unique a b x y la lb (inr p) (inl q) e =
    let plain = subst (λ (t : List ℕ). a ++ t ≡ b ++ y) p.1 e in
    absurd (ended-none b a p.0 lb (sym (subst (λ (t : List ℕ). a ++ 32 ∷ p.0 ≡ b ++ t) q plain)))
first-unique a b x y la lb (inr p) (inr q) e =
    let plain = subst (λ (t : List ℕ). a ++ t ≡ b ++ y) p.1 e in
    let both = subst (λ (t : List ℕ). a ++ 32 ∷ p.0 ≡ b ++ t) q.1 plain in
    let same = cut-unique 32 a b p.0 q.0 la lb both in
    (same.0, p.1 ∙ ap (λ (t : List ℕ). 32 ∷ t) same.1 ∙ sym q.1)

-- a text that begins with a space is not empty
pub no-space : (text : List ℕ) → [] ≡ 32 ∷ text → ⊥
no-space text e = cc

-- a text is one list of fields at most
pub fields-unique : (text : List ℕ) (a b : List Draft) → AreFields text a → AreFields text b → a ≡ b
fields-unique text [] [] x y = refl
fields-unique text [] (d ∷ ds) x y = absurd (no-space (y.0 ++ y.1) (sym x ∙ y.2))
fields-unique text (c ∷ cs) [] x y = absurd (no-space (x.0 ++ x.1) (sym y ∙ x.2))
fields-unique text (c ∷ cs) (d ∷ ds) x y =
    let tails = (head-is 32 32 (x.0 ++ x.1) (y.0 ++ y.1) (sym x.2 ∙ y.2)).1 in
    let e = first-unique x.0 y.0 x.1 y.1 (field-lacks x.0 c x.3) (field-lacks y.0 d y.3) (fields-end x.1 cs x.4) (fields-end y.1 ds y.4) tails in
    let draft = field-unique y.0 c d (subst (λ (t : List ℕ). IsField t c) e.0 x.3) y.3 in
    ap₂ (λ (h : Draft) (r : List Draft). h ∷ r) draft (fields-unique y.1 cs ds (subst (λ (t : List ℕ). AreFields t cs) e.1 x.4) y.4)

next-parts : (rest fields field behind : List ℕ) (draft : Draft) (drafts : List Draft) → rest ≡ 32 ∷ fields → IsFirstField fields field behind → (h : AreFields rest (draft ∷ drafts)) → (h.0 ≡ field) × (h.1 ≡ behind)
next-parts rest fields field behind draft drafts begins first h =
    let tails = (head-is 32 32 (h.0 ++ h.1) fields (sym h.2 ∙ begins)).1 in
    first-unique h.0 field h.1 behind (field-lacks h.0 draft h.3) first.0 (fields-end h.1 drafts h.4) first.2 (tails ∙ first.1)

-- a text is no list of fields where its first field is none
pub fields-bad-field : (rest fields field behind : List ℕ) → rest ≡ 32 ∷ fields → IsFirstField fields field behind → ((draft : Draft) → IsField field draft → ⊥) → (all : List Draft) → AreFields rest all → ⊥
fields-bad-field rest fields field behind begins first none [] h = no-space fields (sym h ∙ begins)
fields-bad-field rest fields field behind begins first none (draft ∷ drafts) h =
    none draft (subst (λ (t : List ℕ). IsField t draft) (next-parts rest fields field behind draft drafts begins first h).0 h.3)

-- nor where what stands behind that is none
pub fields-bad-behind : (rest fields field behind : List ℕ) → rest ≡ 32 ∷ fields → IsFirstField fields field behind → ((tail : List Draft) → AreFields behind tail → ⊥) → (all : List Draft) → AreFields rest all → ⊥
fields-bad-behind rest fields field behind begins first none [] h = no-space fields (sym h ∙ begins)
fields-bad-behind rest fields field behind begins first none (draft ∷ drafts) h =
    none drafts (subst (λ (t : List ℕ). AreFields t drafts) (next-parts rest fields field behind draft drafts begins first h).1 h.4)

-- a text that is left and doesn't begin with a space is no list of fields
pub fields-unspaced : (rest : List ℕ) → ((more : List ℕ) → rest ≡ 32 ∷ more → ⊥) → (rest ≡ [] → ⊥) → (all : List Draft) → AreFields rest all → ⊥
fields-unspaced rest unspaced some [] h = some h
fields-unspaced rest unspaced some (draft ∷ drafts) h = unspaced (h.0 ++ h.1) h.2

-- a field more is read
pub fields-next : (text rest fields field behind : List ℕ) (before after : List Draft) (draft : Draft) → after ≡ before ++ draft ∷ [] → rest ≡ 32 ∷ fields → IsFirstField fields field behind → IsField field draft → ((tail : List Draft) → AreFields rest tail → AreFields text (before ++ tail)) → (tail : List Draft) → AreFields behind tail → AreFields text (after ++ tail)
fields-next text rest fields field behind before after draft pushed begins first is read tail h =
    let more : AreFields rest (draft ∷ tail) = (field, behind, begins ∙ ap (λ (t : List ℕ). 32 ∷ t) first.1, is, h) in
    subst (λ (l : List Draft). AreFields text l) (sym (ap (λ (l : List Draft). l ++ tail) pushed ∙ append_assoc before (draft ∷ []) tail)) (read (draft ∷ tail) more)

-- the whole is refused where what stands behind a field is
pub refuse-next : (text rest fields field behind : List ℕ) → rest ≡ 32 ∷ fields → IsFirstField fields field behind → (((tail : List Draft) → AreFields rest tail → ⊥) → (all : List Draft) → AreFields text all → ⊥) → ((tail : List Draft) → AreFields behind tail → ⊥) → (all : List Draft) → AreFields text all → ⊥
refuse-next text rest fields field behind begins first refuse none = refuse (fields-bad-behind rest fields field behind begins first none)

-- all fields are read
pub fields-all : (text rest : List ℕ) (drafts : List Draft) → (length rest == 0) ≡ true → ((tail : List Draft) → AreFields rest tail → AreFields text (drafts ++ tail)) → AreFields text drafts
fields-all text [] drafts e read = subst (λ (l : List Draft). AreFields text l) (append-nil drafts) (read [] refl)
fields-all text (o ∷ rest) drafts e read = absurd (let z : length (o ∷ rest) ≡ 0 = eqb-true _ _ e in omega arith)
