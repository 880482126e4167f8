-- The fields of an entry are read back from the strings that are hashed.
use Rattle.std.proofs.Common.{◌≡◌, ◌⊎◌, length, ℕ, List, ◌++◌, refl, arith, ◌∙◌, sym, inl, inr, append_assoc}
use Rattle.im_octet.specs.Fields.{field2}
use Rattle.im_digest.specs.Digests.{Hash, GivesDigests}
use Rattle.im_model.specs.Entries.{entry_string, entry_digest, entry_strings, EntryFits}
use Rattle.im_model.specs.declared.entries.Entry.{Entry}
use Rattle.im_pairs.specs.Pairs.{HasPair, AreAmong}
use Rattle.im_pairs.specs.Leads.{Leads}
use Rattle.im_pairs.proofs.PairLemmas.{parts, same_or_pair}
use Rattle.im_octet.proofs.FieldLemmas.{length-field2, same-field2}
use Rattle.im_pairs.proofs.UpLemmas.{same_lead}

-- entries are equal by their fields
pub same-entry-fields : (a b : Entry) → a.md ≡ b.md → a.key ≡ b.key → a.value ≡ b.value → a ≡ b
same-entry-fields a b p q r = λ i. record { md = p i; key = q i; value = r i }

-- what equal strings of an entry tell
pub record SameHead (hash : Hash) (a b : Entry) : Type 0 where
  pub md : a.md ≡ b.md
  pub key : a.key ≡ b.key
  pub value : hash a.value ≡ hash b.value

-- an entry's string by its parts
string-parts : (hash : Hash) (a : Entry) → entry_string hash a ≡ field2 (length a.md) ++ (a.md ++ (field2 (length a.key) ++ (a.key ++ hash a.value)))
string-parts hash a =
    append_assoc (field2 (length a.md) ++ a.md ++ field2 (length a.key)) a.key (hash a.value)
    ∙ append_assoc (field2 (length a.md) ++ a.md) (field2 (length a.key)) (a.key ++ hash a.value)
    ∙ append_assoc (field2 (length a.md)) a.md (field2 (length a.key) ++ (a.key ++ hash a.value))

-- equal strings of an entry have equal fields
pub entry-parts : (hash : Hash) (a b : Entry) → EntryFits a → EntryFits b → entry_string hash a ≡ entry_string hash b → SameHead hash a b
entry-parts hash a b f g e =
    let a-end : List ℕ = field2 (length a.key) ++ (a.key ++ hash a.value) in
    let b-end : List ℕ = field2 (length b.key) ++ (b.key ++ hash b.value) in
    let one = parts (field2 (length a.md)) (a.md ++ a-end) (field2 (length b.md)) (b.md ++ b-end) (length-field2 (length a.md) ∙ sym (length-field2 (length b.md))) (sym (string-parts hash a) ∙ e ∙ string-parts hash b) in
    let two = parts a.md a-end b.md b-end (same-field2 (length a.md) (length b.md) f.md g.md one.0) one.1 in
    let three = parts (field2 (length a.key)) (a.key ++ hash a.value) (field2 (length b.key)) (b.key ++ hash b.value) (length-field2 (length a.key) ∙ sym (length-field2 (length b.key))) two.1 in
    let four = parts a.key (hash a.value) b.key (hash b.value) (same-field2 (length a.key) (length b.key) f.key g.key three.0) three.1 in
    record { md = two.0; key = four.0; value = four.1 }

-- entries of equal strings and values are equal
pub entry-read : (hash : Hash) (a b : Entry) → EntryFits a → EntryFits b → entry_string hash a ≡ entry_string hash b → a.value ≡ b.value → a ≡ b
entry-read hash a b f g e value = let head = entry-parts hash a b f g e in same-entry-fields a b head.md head.key value

-- two entries of one digest are equal, or there is a pair
pub same_entry : (hash : Hash) (a b : Entry) (strings : List (List ℕ)) → EntryFits a → EntryFits b → entry_digest hash a ≡ entry_digest hash b
    → AreAmong (entry_strings hash a) strings → AreAmong (entry_strings hash b) strings → (a ≡ b) ⊎ HasPair hash strings
same_entry hash a b strings f g e x y =
    elim (same_or_pair hash (entry_string hash a) (entry_string hash b) strings e (x (entry_string hash a) (0, omega arith, refl)) (y (entry_string hash b) (0, omega arith, refl))) [
      | inl same ↦ elim (same_or_pair hash a.value b.value strings (entry-parts hash a b f g same).value (x a.value (1, omega arith, refl)) (y b.value (1, omega arith, refl))) [
        | inl value ↦ inl (entry-read hash a b f g same value)
        | inr pair ↦ inr pair
      ]
      | inr pair ↦ inr pair
    ]

-- two entries whose paths of one width and index lead to one root are equal, or there is a pair
pub same_entry_led : (hash : Hash) → GivesDigests hash → (width i : ℕ) (root : List ℕ) (a b : Entry) (ps qs : List (List ℕ)) (strings : List (List ℕ)) → EntryFits a → EntryFits b
    → Leads hash width i (entry_digest hash a) ps root strings → Leads hash width i (entry_digest hash b) qs root strings
    → AreAmong (entry_strings hash a) strings → AreAmong (entry_strings hash b) strings → (a ≡ b) ⊎ HasPair hash strings
same_entry_led hash size width i root a b ps qs strings f g l r x y =
    elim (same_lead hash size width i (entry_digest hash a) (entry_digest hash b) ps qs root strings l r) [
      | inl same ↦ same_entry hash a b strings f g same.0 x y
      | inr pair ↦ inr pair
    ]
