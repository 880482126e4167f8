-- Drafts have one refusal at most, and none where they are the entries of a transaction.
use Rattle.std.proofs.Common.{◌≡◌, ◌≢◌, ◌⊎◌, inl, inr, ◌<◌, ◌≤◌, ℕ, List, [], length, take, arith, refl, sym, ◌∙◌, ap, subst, ◌==◌, nat_lt, true, false, if◌then◌else◌}
use Rattle.std.specs.Prelude.{All}
use Rattle.std.proofs.lemmas.List.{get_or-take, length-take}
use Rattle.std.proofs.lemmas.Bool.{cases_order, lt-ltb, le-ltb, ne_eqb}
use Rattle.im_draft.specs.Drafts.{draft_of, no_draft, IsFine, HaveDistinctKeys, AreEntries, IsFirstAtFault, Refuses}
use Rattle.im_draft.specs.declared.drafts.Draft.{Draft}
use Rattle.im_draft.specs.declared.refusals.PrepareError.{PrepareError}
use Rattle.im_draft.specs.declared.refusals.PrepareError.TheVariants.{Memory, NoEntries, TooMany, KeyEmpty, KeyLong, ValueLong, Twice}

-- what is wrong with draft i, where it isn't fine
abbrev pub fault_of : ℕ → Draft → PrepareError
fault_of i draft =
    if length draft.key == 0 then KeyEmpty i
    else (if nat_lt 1024 (length draft.key) then KeyLong i (length draft.key) else ValueLong i (length draft.value))

-- some draft is the first that isn't fine, and this is what is wrong with it
pub record Fault (drafts : List Draft) (e : PrepareError) : Type 0 where
  pub i : ℕ
  pub first : IsFirstAtFault drafts i
  pub bad : IsFine (draft_of drafts i) → ⊥
  pub same : e ≡ fault_of i (draft_of drafts i)

-- each draft is fine, and some key is the first that stood earlier
pub record Double (drafts : List Draft) (e : PrepareError) : Type 0 where
  pub i : ℕ
  pub j : ℕ
  pub few : length drafts ≤ 1024
  pub fine : All IsFine drafts
  pub earlier : i < j
  pub within : j < length drafts
  pub equal : (draft_of drafts i).key ≡ (draft_of drafts j).key
  pub distinct : HaveDistinctKeys (take j drafts)
  pub same : e ≡ Twice i j

-- where drafts are refused, in the order in which they are judged
abbrev pub Stage : List Draft → PrepareError → Type 0
Stage drafts e =
    ((drafts ≡ []) × (e ≡ NoEntries))
    ⊎ (((1024 < length drafts) × (e ≡ TooMany (length drafts))) ⊎ (Fault drafts e ⊎ Double drafts e))

-- the fault of an empty key
fault_of-empty : (i : ℕ) (draft : Draft) → draft.key ≡ [] → KeyEmpty i ≡ fault_of i draft
fault_of-empty i draft h = rw h refl

-- the fault of a long key
fault_of-key : (i len : ℕ) (draft : Draft) → 1024 < len → len ≡ length draft.key → KeyLong i len ≡ fault_of i draft
fault_of-key i len draft h e =
    let given : (length draft.key == 0) ≡ false = ne_eqb (length draft.key) 0 (λ z. omega (arith, z)) in
    let long : nat_lt 1024 (length draft.key) ≡ true = lt-ltb 1024 (length draft.key) (omega arith) in
    rw (given, long) (ap (KeyLong i) e)

-- the fault of a long value
fault_of-value : (i len : ℕ) (draft : Draft) → 1 ≤ length draft.key → length draft.key ≤ 1024 → len ≡ length draft.value
    → ValueLong i len ≡ fault_of i draft
fault_of-value i len draft p h e =
    let given : (length draft.key == 0) ≡ false = ne_eqb (length draft.key) 0 (λ z. omega (arith, z)) in
    let short : nat_lt 1024 (length draft.key) ≡ false = le-ltb 1024 (length draft.key) h in
    rw (given, short) (ap (ValueLong i) e)

-- a refusal has its stage
pub stage-of : (drafts : List Draft) (e : PrepareError) → Refuses drafts e → Stage drafts e
stage-of drafts Memory h = absurd h
stage-of drafts NoEntries h = inl (h, refl)
stage-of drafts (TooMany n) h = inr (inl (omega (arith, h.0, h.1), ap TooMany h.1))
stage-of drafts (KeyEmpty i) h = inr (inr (inl (record {
  i = i;
  first = h.0;
  bad = λ fine. omega (arith, fine.key_given, ap length h.1);
  same = fault_of-empty i (draft_of drafts i) h.1;
})))
stage-of drafts (KeyLong i len) h = inr (inr (inl (record {
  i = i;
  first = h.0;
  bad = λ fine. omega (arith, fine.key_short, h.1, h.2);
  same = fault_of-key i len (draft_of drafts i) h.1 h.2;
})))
stage-of drafts (ValueLong i len) h = inr (inr (inl (record {
  i = i;
  first = h.0;
  bad = λ fine. omega (arith, fine.value_short, h.3, h.4);
  same = fault_of-value i len (draft_of drafts i) h.1 h.2 h.4;
})))
stage-of drafts (Twice i j) h = inr (inr (inr (record {
  i = i;
  j = j;
  few = h.0;
  fine = h.1;
  earlier = h.2;
  within = h.3;
  equal = h.4;
  distinct = h.5;
  same = refl;
})))

-- a draft before the first that isn't fine is fine
fine-before : (drafts : List Draft) (i j : ℕ) → i < j → j < length drafts → All IsFine (take j drafts) → IsFine (draft_of drafts i)
fine-before drafts i j h k all =
    subst IsFine (get_or-take j drafts i no_draft h) (all i no_draft (omega (arith, length-take j drafts)))

-- two drafts before a place up to which keys are distinct have other keys
keys-differ : (drafts : List Draft) (i k j : ℕ) → i < k → k < j → j < length drafts → HaveDistinctKeys (take j drafts)
    → (draft_of drafts i).key ≢ (draft_of drafts k).key
keys-differ drafts i k j h m n distinct e =
    distinct i k no_draft h (omega (arith, length-take j drafts))
    (ap (λ (d : Draft). d.key) (get_or-take j drafts i no_draft (omega arith)) ∙ e
    ∙ sym (ap (λ (d : Draft). d.key) (get_or-take j drafts k no_draft m)))

-- one draft is the first that isn't fine
fault-same : (drafts : List Draft) (a b : PrepareError) → Fault drafts a → Fault drafts b → a ≡ b
fault-same drafts a b f g =
    let one : f.i ≡ g.i = elim (cases_order f.i g.i) [
      | inl same ↦ same
      | inr (inl less) ↦ absurd (f.bad (fine-before drafts f.i g.i less g.first.within g.first.before))
      | inr (inr more) ↦ absurd (g.bad (fine-before drafts g.i f.i more f.first.within f.first.before))
    ] in
    f.same ∙ ap (λ (i : ℕ). fault_of i (draft_of drafts i)) one ∙ sym g.same

-- one key is the first that stood earlier, and it stood at one place
double-same : (drafts : List Draft) (a b : PrepareError) → Double drafts a → Double drafts b → a ≡ b
double-same drafts a b f g =
    let later : f.j ≡ g.j = elim (cases_order f.j g.j) [
      | inl same ↦ same
      | inr (inl less) ↦ absurd (keys-differ drafts f.i f.j g.j f.earlier less g.within g.distinct f.equal)
      | inr (inr more) ↦ absurd (keys-differ drafts g.i g.j f.j g.earlier more f.within f.distinct g.equal)
    ] in
    let key : (draft_of drafts f.i).key ≡ (draft_of drafts g.i).key =
    f.equal ∙ ap (λ (j : ℕ). (draft_of drafts j).key) later ∙ sym g.equal in
    let first : f.i ≡ g.i = elim (cases_order f.i g.i) [
      | inl same ↦ same
      | inr (inl less) ↦ absurd (keys-differ drafts f.i g.i f.j less (omega (arith, g.earlier)) f.within f.distinct key)
      | inr (inr more) ↦ absurd (keys-differ drafts g.i f.i f.j more f.earlier f.within f.distinct (sym key))
    ] in
    f.same ∙ ap (λ (i : ℕ). Twice i f.j) first ∙ ap (λ (j : ℕ). Twice g.i j) later ∙ sym g.same

-- some draft at fault, or a key that stood earlier, is among drafts that are few
fault-length : (drafts : List Draft) (e : PrepareError) → Fault drafts e ⊎ Double drafts e
    → (1 ≤ length drafts) × (length drafts ≤ 1024)
fault-length drafts e (inl f) = (omega (arith, f.first.within), f.first.few)
fault-length drafts e (inr g) = (omega (arith, g.within), g.few)

-- no draft is at fault where each is fine
fault-apart : (drafts : List Draft) (a : PrepareError) → Fault drafts a → All IsFine drafts → ⊥
fault-apart drafts a f fine = f.bad (fine f.i no_draft f.first.within)

-- one thing is wrong with the drafts themselves
draft-same : (drafts : List Draft) (a b : PrepareError) → Fault drafts a ⊎ Double drafts a → Fault drafts b ⊎ Double drafts b → a ≡ b
draft-same drafts a b (inl f) (inl g) = fault-same drafts a b f g
draft-same drafts a b (inl f) (inr g) = absurd (fault-apart drafts a f g.fine)
draft-same drafts a b (inr f) (inl g) = absurd (fault-apart drafts b g f.fine)
draft-same drafts a b (inr f) (inr g) = double-same drafts a b f g

-- two refusals have one stage, and are one
stage-same : (drafts : List Draft) (a b : PrepareError) → Stage drafts a → Stage drafts b → a ≡ b
stage-same drafts a b (inl f) (inl g) = f.1 ∙ sym g.1
stage-same drafts a b (inl f) (inr (inl g)) = absurd (omega (arith, ap length f.0, g.0))
stage-same drafts a b (inl f) (inr (inr g)) = absurd (omega (arith, ap length f.0, (fault-length drafts b g).0))
stage-same drafts a b (inr (inl f)) (inl g) = absurd (omega (arith, ap length g.0, f.0))
stage-same drafts a b (inr (inl f)) (inr (inl g)) = f.1 ∙ sym g.1
stage-same drafts a b (inr (inl f)) (inr (inr g)) = absurd (omega (arith, f.0, (fault-length drafts b g).1))
stage-same drafts a b (inr (inr f)) (inl g) = absurd (omega (arith, ap length g.0, (fault-length drafts a f).0))
stage-same drafts a b (inr (inr f)) (inr (inl g)) = absurd (omega (arith, g.0, (fault-length drafts a f).1))
stage-same drafts a b (inr (inr f)) (inr (inr g)) = draft-same drafts a b f g

-- drafts have one refusal at most
pub Refuses-unique : (drafts : List Draft) (a b : PrepareError) → Refuses drafts a → Refuses drafts b → a ≡ b
Refuses-unique drafts a b f g = stage-same drafts a b (stage-of drafts a f) (stage-of drafts b g)

-- drafts that are the entries of a transaction have no stage of refusal
stage-apart : (drafts : List Draft) (e : PrepareError) → AreEntries drafts → Stage drafts e → ⊥
stage-apart drafts e are (inl f) = omega (arith, are.some, ap length f.0)
stage-apart drafts e are (inr (inl f)) = omega (arith, are.few, f.0)
stage-apart drafts e are (inr (inr (inl f))) = fault-apart drafts e f are.each
stage-apart drafts e are (inr (inr (inr g))) = are.distinct g.i g.j no_draft g.earlier g.within g.equal

-- and are never refused
pub Refuses-apart : (drafts : List Draft) (e : PrepareError) → AreEntries drafts → Refuses drafts e → ⊥
Refuses-apart drafts e are h = stage-apart drafts e are (stage-of drafts e h)
