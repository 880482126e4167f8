-- The text of a header in a message is the text of a header in a reply.
use Rattle.std.proofs.Common.{◌≡◌, ℕ, ℤ, pos, negsuc, zero, suc, ◌<◌, ◌/◌, ◌%◌, ◌&&◌, ◌==◌, not, Bool, true, List, [], ◌∷◌, ◌++◌, length, slice_index, refl, append_assoc, arith, ap, ◌∙◌}
use Rattle.std.specs.Prelude.{codes, nat_le}
use Rattle.std.specs.Fmt.{decimal, signed_decimal}
use Rattle.std.specs.List.{list_all}
use Rattle.std.proofs.lemmas.Bool.{and_parts, eqb-false, not-true, leb-true}
use Rattle.hex.specs.Hex.{IsBytes, encode_with, encode_lower, lower_digits}
use Rattle.json.specs.Print.{escape, escape_byte, print}
use Rattle.json.specs.Token.{Token}
use Rattle.json.proofs.Printed.Strings.{escape_byte_plain}
use Rattle.serde_json.specs.Data.{number}
use Rattle.serde_json.specs.Find.{of_integer}
use Rattle.serde_json.specs.Written.{compact_text}
use Rattle.im_model.specs.declared.headers.Header.{Header}
use Rattle.im_wire.specs.Headers.{header_front, header_middle, header_back, header_text}
use Rattle.im_wire.specs.declared.messages.Message.TheVariants.{State}
use Rattle.im_wire.specs.Fits.{IsHeader}
use Rattle.im_wire.specs.Texts.{header_data, text}
use Rattle.im_wire.specs.Tokens.{tokens_of}
use Rattle.im_wire.proofs.TokenLemmas.{print_is}

is_plain : ℕ → Bool
is_plain x = not (x == 34) && not (x == 92) && nat_le 32 x

plain-octet : (x : ℕ) → is_plain x ≡ true → escape_byte x ≡ x ∷ []
unfolding is_plain
plain-octet x h =
    let all = and_parts (not (x == 34) && not (x == 92)) (nat_le 32 x) h in
    let marks = and_parts (not (x == 34)) (not (x == 92)) all.0 in
    escape_byte_plain x (eqb-false x 34 (not-true (x == 34) marks.0)) (eqb-false x 92 (not-true (x == 92) marks.1)) (leb-true 32 x all.1)

plain-at : (t : List ℕ) → list_all is_plain t ≡ true → (n : ℕ) → n < length t → escape_byte (slice_index t n) ≡ slice_index t n ∷ []
plain-at [] h n within = absurd (omega arith)
plain-at (x ∷ t) h zero within = plain-octet x (and_parts _ _ h).0
plain-at (x ∷ t) h (suc n) within = plain-at t (and_parts _ _ h).1 n (omega arith)

digits-plain : list_all is_plain lower_digits ≡ true
unfolding is_plain
digits-plain = refl

-- hex has no escapes
pub escape-hex : (xs : List ℕ) → IsBytes xs → escape (encode_lower xs) ≡ encode_lower xs
unfolding encode_with
escape-hex [] h = refl
escape-hex (b ∷ xs) h =
    let small : b < 256 = h 0 in
    rw (plain-at lower_digits digits-plain (b / 16) (omega (arith, small)), plain-at lower_digits digits-plain (b % 16) (omega (arith, small)), escape-hex xs (λ i. h (suc i))) refl

grouped : (q c1 c2 c3 c4 c5 c6 c7 c8 c9 c10 r t e i m n p s v : List ℕ)
    → c1 ++ ((r ++ q) ++ (c2 ++ (t ++ (c3 ++ ((e ++ q) ++ (c4 ++ (i ++ (c5 ++ ((m ++ q) ++ (c6 ++ (n ++ (c7 ++ ((p ++ q) ++ (c8 ++ (s ++ (c9 ++ (v ++ c10)))))))))))))))))
    ≡ (c1 ++ r ++ (q ++ c2) ++ t ++ c3 ++ e ++ (q ++ c4) ++ i) ++ (c5 ++ m ++ (q ++ c6) ++ n) ++ (c7 ++ p ++ (q ++ c8) ++ s ++ c9 ++ v ++ c10)
grouped q c1 c2 c3 c4 c5 c6 c7 c8 c9 c10 r t e i m n p s v = simp append_assoc

signed-text : (z : ℤ) → compact_text (number (of_integer z)) ≡ signed_decimal z
signed-text (pos n) = refl
signed-text (negsuc n) = refl

-- the text of a header
pub header-text : (h : Header) → IsHeader h → compact_text (header_data h) ≡ header_text h
unfolding header_data header_front header_middle header_back escape_byte
header-text h fits =
    rw (escape-hex h.bl_root fits.bl_root.bytes, escape-hex h.eh fits.eh.bytes, escape-hex h.md fits.md.bytes, escape-hex h.prev_alh fits.prev_alh.bytes, signed-text h.ts)
    (grouped (codes "\"") (codes "{\"blRoot\":\"") (codes ",\"blTxId\":") (codes ",\"eh\":\"") (codes ",\"id\":") (codes ",\"md\":\"") (codes ",\"nentries\":")
    (codes ",\"prevAlh\":\"") (codes ",\"ts\":") (codes ",\"version\":") (codes "}")
    (encode_lower h.bl_root) (decimal h.bl_tx_id) (encode_lower h.eh) (decimal h.id) (encode_lower h.md) (decimal h.nentries)
    (encode_lower h.prev_alh) (signed_decimal h.ts) (decimal h.version))

-- what a writer printed is the text of the header
pub printed-header : (h : Header) (items before : List ℕ) (ts : List Token) → IsHeader h → items ≡ before ++ print ts → before ≡ [] → ts ≡ tokens_of (header_data h) → items ≡ header_text h
printed-header h items before ts fits e b t = e ∙ (rw (b, t) (print_is (header_data h))) ∙ header-text h fits

-- the text of a state line
pub state-text : (h : Header) → IsHeader h → text (State h) ≡ codes "{\"header\":" ++ header_text h ++ codes ",\"type\":\"state\"}"
unfolding text escape_byte
state-text h fits = ap (λ (t : List ℕ). codes "{\"header\":" ++ (t ++ codes ",\"type\":\"state\"}")) (header-text h fits)
