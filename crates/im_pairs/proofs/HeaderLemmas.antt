-- The fields of a header are read back from the strings that are hashed.
use Rattle.std.proofs.Common.{◌≡◌, ◌⊎◌, length, ℕ, ◌+◌, List, ◌++◌, refl, arith, ap, ◌∙◌, sym, inl, inr, append_assoc}
use Rattle.im_octet.specs.Fields.{field2, field4, field8, signed_field8}
use Rattle.im_digest.specs.Digests.{Hash}
use Rattle.im_model.specs.Headers.{inner_string, alh_string, alh, header_strings}
use Rattle.im_model.specs.declared.headers.Header.{Header}
use Rattle.im_pairs.specs.Pairs.{HasPair, AreAmong}
use Rattle.im_pairs.specs.Ranges.{HeaderFits}
use Rattle.im_pairs.proofs.PairLemmas.{parts, length-three, three, same_or_pair}
use Rattle.im_octet.proofs.FieldLemmas.{length-field2, length-field4, length-field8, length-signed, same-field2, same-field4, same-field8, same-signed8}

-- headers are equal by their fields
pub same-fields : (h k : Header) → h.id ≡ k.id → h.ts ≡ k.ts → h.bl_tx_id ≡ k.bl_tx_id → h.bl_root ≡ k.bl_root → h.prev_alh ≡ k.prev_alh
    → h.version ≡ k.version → h.md ≡ k.md → h.nentries ≡ k.nentries → h.eh ≡ k.eh → h ≡ k
same-fields h k a b c d e f g m n = λ i. record { id = a i; ts = b i; bl_tx_id = c i; bl_root = d i; prev_alh = e i; version = f i; md = g i; nentries = m i; eh = n i }

-- what the string of the inner hash tells
record SameInner (h k : Header) : Type 0 where
  ts : h.ts ≡ k.ts
  version : h.version ≡ k.version
  md : h.md ≡ k.md
  nentries : h.nentries ≡ k.nentries
  eh : h.eh ≡ k.eh
  bl_tx_id : h.bl_tx_id ≡ k.bl_tx_id
  bl_root : h.bl_root ≡ k.bl_root

-- the fields before the metadata
abbrev front : Header → List ℕ
front h = signed_field8 h.ts ++ field2 h.version ++ field2 (length h.md)

-- and those behind it
abbrev back : Header → List ℕ
back h = field4 h.nentries ++ h.eh ++ field8 h.bl_tx_id ++ h.bl_root

-- equal inner strings have equal fields
inner-parts : (h k : Header) → HeaderFits h → HeaderFits k → inner_string h ≡ inner_string k → SameInner h k
inner-parts h k f g e =
    let whole : front h ++ (h.md ++ back h) ≡ front k ++ (k.md ++ back k) =
    sym (append_assoc (front h) h.md (back h)) ∙ e ∙ append_assoc (front k) k.md (back k) in
    let first = parts (front h) (h.md ++ back h) (front k) (k.md ++ back k)
    (length-three _ _ _ ∙ ap (λ n. n + length (field2 h.version) + length (field2 (length h.md))) (length-signed h.ts ∙ sym (length-signed k.ts))
    ∙ ap (λ n. length (signed_field8 k.ts) + n + length (field2 (length h.md))) (length-field2 h.version ∙ sym (length-field2 k.version))
    ∙ ap (λ n. length (signed_field8 k.ts) + length (field2 k.version) + n) (length-field2 (length h.md) ∙ sym (length-field2 (length k.md)))
    ∙ sym (length-three _ _ _)) whole in
    let head = three (signed_field8 h.ts) (field2 h.version) (field2 (length h.md)) (signed_field8 k.ts) (field2 k.version) (field2 (length k.md))
    (length-signed h.ts ∙ sym (length-signed k.ts)) (length-field2 h.version ∙ sym (length-field2 k.version)) first.0 in
    let long : length h.md ≡ length k.md = same-field2 (length h.md) (length k.md) f.md g.md head.2 in
    let second = parts h.md (back h) k.md (back k) long first.1 in
    let third = parts (field4 h.nentries ++ h.eh ++ field8 h.bl_tx_id) h.bl_root (field4 k.nentries ++ k.eh ++ field8 k.bl_tx_id) k.bl_root
    (length-three _ _ _ ∙ ap (λ n. n + length h.eh + length (field8 h.bl_tx_id)) (length-field4 h.nentries ∙ sym (length-field4 k.nentries))
    ∙ ap (λ n. length (field4 k.nentries) + n + length (field8 h.bl_tx_id)) (f.eh ∙ sym g.eh)
    ∙ ap (λ n. length (field4 k.nentries) + length k.eh + n) (length-field8 h.bl_tx_id ∙ sym (length-field8 k.bl_tx_id))
    ∙ sym (length-three _ _ _)) second.1 in
    let last = three (field4 h.nentries) h.eh (field8 h.bl_tx_id) (field4 k.nentries) k.eh (field8 k.bl_tx_id)
    (length-field4 h.nentries ∙ sym (length-field4 k.nentries)) (f.eh ∙ sym g.eh) third.0 in
    record {
      ts = same-signed8 h.ts k.ts f.ts g.ts head.0;
      version = same-field2 h.version k.version f.version g.version head.1;
      md = second.0;
      nentries = same-field4 h.nentries k.nentries f.nentries g.nentries last.0;
      eh = last.1;
      bl_tx_id = same-field8 h.bl_tx_id k.bl_tx_id f.bl_tx_id g.bl_tx_id last.2;
      bl_root = third.1;
    }

-- what equal strings of the Alh tell
pub record SameAlh (hash : Hash) (h k : Header) : Type 0 where
  pub id : h.id ≡ k.id
  pub prev_alh : h.prev_alh ≡ k.prev_alh
  pub inside : hash (inner_string h) ≡ hash (inner_string k)

-- equal strings of the Alh have equal fields
pub alh-parts : (hash : Hash) (h k : Header) → HeaderFits h → HeaderFits k → alh_string hash h ≡ alh_string hash k → SameAlh hash h k
alh-parts hash h k f g e =
    let outer = three (field8 h.id) h.prev_alh (hash (inner_string h)) (field8 k.id) k.prev_alh (hash (inner_string k))
    (length-field8 h.id ∙ sym (length-field8 k.id)) (f.prev_alh ∙ sym g.prev_alh) e in
    record { id = same-field8 h.id k.id f.id g.id outer.0; prev_alh = outer.1; inside = outer.2 }

-- headers of equal strings are equal
pub header-read : (hash : Hash) (h k : Header) → HeaderFits h → HeaderFits k → alh_string hash h ≡ alh_string hash k → inner_string h ≡ inner_string k → h ≡ k
header-read hash h k f g e inside =
    let outer = alh-parts hash h k f g e in
    let all = inner-parts h k f g inside in
    same-fields h k outer.id all.ts all.bl_tx_id all.bl_root outer.prev_alh all.version all.md all.nentries all.eh

-- two headers of one Alh are equal, or there is a pair
pub same_header : (hash : Hash) (h k : Header) (strings : List (List ℕ)) → HeaderFits h → HeaderFits k → alh hash h ≡ alh hash k
    → AreAmong (header_strings hash h) strings → AreAmong (header_strings hash k) strings → (h ≡ k) ⊎ HasPair hash strings
same_header hash h k strings f g e a b =
    elim (same_or_pair hash (alh_string hash h) (alh_string hash k) strings e (a (alh_string hash h) (0, omega arith, refl)) (b (alh_string hash k) (0, omega arith, refl))) [
      | inl same ↦ elim (same_or_pair hash (inner_string h) (inner_string k) strings (alh-parts hash h k f g same).inside (a (inner_string h) (1, omega arith, refl)) (b (inner_string k) (1, omega arith, refl))) [
        | inl inside ↦ inl (header-read hash h k f g same inside)
        | inr pair ↦ inr pair
      ]
      | inr pair ↦ inr pair
    ]
