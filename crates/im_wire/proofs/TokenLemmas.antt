-- The tokens of an object in parts.
use Rattle.std.proofs.Common.{◌≡◌, ◌<◌, ◌+◌, List, [], ◌∷◌, ◌++◌, length, map, drop, get_or, refl, sym, ap, ◌∙◌, append_assoc}
use Rattle.std.proofs.lemmas.List.{at_drop_more}
use Rattle.json.specs.Token.{Token, begin_object, end_object}
use Rattle.json.specs.Print.{print}
use Rattle.serde_json.specs.Data.{Data, string}
use Rattle.serde_json.specs.Written.{compact_text}
use Rattle.serde_json.proofs.Texts.{print-outline}
use Rattle.std.specs.Prelude.{ℕ, codes, Option}
use Rattle.im_model.specs.declared.headers.Header.{Header}
use Rattle.im_model.specs.declared.entries.Entry.{Entry}
use Rattle.im_proof.specs.declared.proofs.AdvanceProof.{AdvanceProof}
use Rattle.im_proof.specs.declared.proofs.DualProof.{DualProof}
use Rattle.im_wire.specs.declared.messages.Message.TheVariants.{State, Dual, Advance, Item}
use Rattle.im_wire.specs.Texts.{hex_data, number_data, digests_data, digest_lists_data, header_data, entry_data, advance_proof_data, dual_proof_data, anchor_data, message_data}
use Rattle.im_wire.specs.Tokens.{tokens_of, tail_tokens, field_tokens, header_front_tokens, header_middle_tokens, header_back_tokens, entry_tokens, dual_front_tokens, dual_middle_tokens, dual_back_tokens, item_tokens}

-- what two parts add
pub added2 : (o t1 t2 a b : List Token) → t1 ≡ o ++ a → t2 ≡ t1 ++ b → t2 ≡ o ++ (a ++ b)
added2 o t1 t2 a b e1 e2 = rw (e2, e1) (append_assoc o a b)

-- what three parts add
pub added3 : (o t1 t2 t3 a b c : List Token) → t1 ≡ o ++ a → t2 ≡ t1 ++ b → t3 ≡ t2 ++ c → t3 ≡ o ++ (a ++ (b ++ c))
added3 o t1 t2 t3 a b c e1 e2 e3 = rw (e3, e2, e1) (simp append_assoc)

-- what an object of one part adds
pub joined1 : (o t0 t1 t2 a w : List Token) (x y : Token) → w ≡ x ∷ (a ++ y ∷ []) → t0 ≡ o ++ x ∷ [] → t1 ≡ t0 ++ a → t2 ≡ t1 ++ y ∷ []
    → t2 ≡ o ++ w
joined1 o t0 t1 t2 a w x y is e0 e1 e2 = rw (e2, e1, e0, is) (simp append_assoc)

-- of two parts
pub joined2 : (o t0 t1 t2 t3 a b w : List Token) (x y : Token) → w ≡ x ∷ (a ++ (b ++ y ∷ [])) → t0 ≡ o ++ x ∷ [] → t1 ≡ t0 ++ a → t2 ≡ t1 ++ b
    → t3 ≡ t2 ++ y ∷ [] → t3 ≡ o ++ w
joined2 o t0 t1 t2 t3 a b w x y is e0 e1 e2 e3 = rw (e3, e2, e1, e0, is) (simp append_assoc)

-- of three parts
pub joined3 : (o t0 t1 t2 t3 t4 a b c w : List Token) (x y : Token) → w ≡ x ∷ (a ++ (b ++ (c ++ y ∷ []))) → t0 ≡ o ++ x ∷ [] → t1 ≡ t0 ++ a → t2 ≡ t1 ++ b
    → t3 ≡ t2 ++ c → t4 ≡ t3 ++ y ∷ [] → t4 ≡ o ++ w
joined3 o t0 t1 t2 t3 t4 a b c w x y is e0 e1 e2 e3 e4 = rw (e4, e3, e2, e1, e0, is) (simp append_assoc)

-- an array's item is put behind the others
pub item_put : {A : Type 0} (said : A → Data) (xs : List A) (i : ℕ) (x : A) (before after whole : List Token) → i < length xs
    → after ≡ before ++ tokens_of (said (get_or xs i x))
    → before ++ tail_tokens (map said (drop i xs)) ≡ whole → after ++ tail_tokens (map said (drop (i + 1) xs)) ≡ whole
unfolding tokens_of tail_tokens
item_put {A} said xs i x before after whole less put so_far =
    ap (λ (ts : List Token). ts ++ tail_tokens (map said (drop (i + 1) xs))) put
    ∙ append_assoc before (tokens_of (said (get_or xs i x))) (tail_tokens (map said (drop (i + 1) xs)))
    ∙ sym (at_drop_more (λ (ys : List A). before ++ tail_tokens (map said ys)) xs i x less)
    ∙ so_far

-- a header's tokens
pub header_parts : (h : Header) → tokens_of (header_data h) ≡ begin_object ∷ (header_front_tokens h ++ (header_middle_tokens h ++ (header_back_tokens h ++ end_object ∷ [])))
unfolding tokens_of field_tokens header_data header_front_tokens header_middle_tokens header_back_tokens
header_parts h = refl

-- an entry's
pub entry_parts : (e : Entry) → tokens_of (entry_data e) ≡ begin_object ∷ (entry_tokens e ++ end_object ∷ [])
unfolding tokens_of field_tokens entry_data entry_tokens
entry_parts e = refl

-- a linear advance's
pub advance_proof_parts : (a : AdvanceProof) → tokens_of (advance_proof_data a)
    ≡ begin_object ∷ (field_tokens (codes "inclusions") (digest_lists_data a.inclusions) ++ (field_tokens (codes "terms") (digests_data a.terms) ++ end_object ∷ []))
unfolding tokens_of field_tokens advance_proof_data
advance_proof_parts a = refl

eight : (x y : Token) (a b c d e f g h : List Token)
    → x ∷ (a ++ (b ++ (c ++ (d ++ (e ++ (f ++ (g ++ (h ++ y ∷ [])))))))) ≡ x ∷ ((a ++ (b ++ c)) ++ ((d ++ e) ++ ((f ++ (g ++ h)) ++ y ∷ [])))
eight x y a b c d e f g h = simp append_assoc

-- a dual proof's
pub dual_proof_parts : (p : DualProof) → tokens_of (dual_proof_data p)
    ≡ begin_object ∷ (dual_front_tokens p ++ (dual_middle_tokens p ++ (dual_back_tokens p ++ end_object ∷ [])))
unfolding tokens_of field_tokens dual_proof_data dual_front_tokens dual_middle_tokens dual_back_tokens
dual_proof_parts p =
    eight begin_object end_object
    (field_tokens (codes "consistency") (digests_data p.consistency)) (field_tokens (codes "inclusion") (digests_data p.inclusion))
    (field_tokens (codes "lastInclusion") (digests_data p.last_inclusion)) (field_tokens (codes "linear") (digests_data p.linear))
    (field_tokens (codes "linearAdvance") (advance_proof_data p.linear_advance)) (field_tokens (codes "source") (header_data p.source))
    (field_tokens (codes "target") (header_data p.target)) (field_tokens (codes "targetBlTxAlh") (hex_data p.target_bl_tx_alh))

-- a state's
pub state_parts : (h : Header) → tokens_of (message_data (State h))
    ≡ begin_object ∷ (field_tokens (codes "header") (header_data h) ++ (field_tokens (codes "type") (string (codes "state")) ++ end_object ∷ []))
unfolding tokens_of field_tokens
state_parts h = refl

-- a dual line's
pub dual_parts : (p : DualProof) → tokens_of (message_data (Dual p))
    ≡ begin_object ∷ (field_tokens (codes "dual") (dual_proof_data p) ++ (field_tokens (codes "type") (string (codes "dual")) ++ end_object ∷ []))
unfolding tokens_of field_tokens
dual_parts p = refl

-- an advance's
pub advance_parts : (p : DualProof) (a : Option DualProof) → tokens_of (message_data (Advance p a))
    ≡ begin_object ∷ (field_tokens (codes "anchor") (anchor_data a) ++ (field_tokens (codes "dual") (dual_proof_data p)
    ++ (field_tokens (codes "type") (string (codes "advance")) ++ end_object ∷ [])))
unfolding tokens_of field_tokens
advance_parts p a = refl

five : (x y : Token) (a b c d e : List Token) → x ∷ (a ++ (b ++ (c ++ (d ++ (e ++ y ∷ []))))) ≡ x ∷ (a ++ ((b ++ (c ++ d)) ++ (e ++ y ∷ [])))
five x y a b c d e = simp append_assoc

-- an item's
pub item_parts : (p : DualProof) (e : Entry) (i : ℕ) (ds : List (List ℕ)) → tokens_of (message_data (Item p e i ds))
    ≡ begin_object ∷ (field_tokens (codes "dual") (dual_proof_data p) ++ (item_tokens e i ds ++ (field_tokens (codes "type") (string (codes "item")) ++ end_object ∷ [])))
unfolding tokens_of field_tokens item_tokens
item_parts p e i ds =
    five begin_object end_object
    (field_tokens (codes "dual") (dual_proof_data p)) (field_tokens (codes "entry") (entry_data e)) (field_tokens (codes "index") (number_data i))
    (field_tokens (codes "path") (digests_data ds)) (field_tokens (codes "type") (string (codes "item")))

-- the text of the tokens of a value
pub print_is : (d : Data) → print (tokens_of d) ≡ compact_text d
unfolding tokens_of
print_is d = print-outline d
