-- No octet of an answered line is LF.
use Rattle.std.proofs.Common.{◌≡◌, ℕ, ◌/◌, ◌%◌, ◌==◌, not, List, [], ◌∷◌, ◌++◌, Bool, true, false, cond, refl, arith, nat_lt, codes}
use Rattle.std.specs.Char.{digit_char}
use Rattle.std.proofs.lemmas.Bool.{and_parts, and_from, cond_both, ltb-false}
use Rattle.std.proofs.lemmas.Bool.Decides.{nat_tests}
use Rattle.std.proofs.lemmas.List.Folds.{list_all-append}
use Rattle.hex.specs.Hex.{encode_lower}
use Rattle.json.specs.Print.{escape, escape_byte, escape_letter, quoted}
use Rattle.serde_json.specs.Data.{Data, Items, Members, no_items, item, no_members, member, null, boolean, number, string, array, object, unsigned, negative, float, Num}
use Rattle.serde_json.specs.Written.{comma_if, compact_text, items_text, members_text, number_text}
use Rattle.im_text.specs.Cuts.{Lacks}
use Rattle.im_text.proofs.CutLemmas.{Lacks-append, Lacks-of}
use Rattle.im_model.specs.declared.headers.Header.{Header as TheHeader}
use Rattle.im_text.specs.Fields.{is_bare, is_bare_octet}
use Rattle.im_wire.specs.Headers.{header_text, header_front, header_middle, header_back}
use Rattle.im_wire.specs.Texts.{text, message_data}
use Rattle.im_wire.specs.declared.messages.Message.{Message}
use Rattle.im_sqlreply.proofs.DigitLemmas.{above-lacks, digits-lack, hex-lacks, signed-lacks}
use Rattle.im_report.specs.Reads.{bare_or_hex}

letter-other : (x : ℕ) → not (escape_letter x == 10) ≡ true
letter-other x = grind (arith, nat_tests)

digit-other : (d : ℕ) → not (digit_char d == 10) ≡ true
digit-other d = grind (arith, nat_tests)

-- what stands in a string for an octet
escaped-lacks : (x : ℕ) → Lacks 10 (escape_byte x)
unfolding escape_byte
escaped-lacks x =
    cond_both (nat_lt 0 (escape_letter x)) (92 ∷ escape_letter x ∷ [])
    (cond (nat_lt x 32) (92 ∷ 117 ∷ 48 ∷ 48 ∷ digit_char (x / 16) ∷ digit_char (x % 16) ∷ []) (x ∷ [])) (λ t. Lacks 10 t)
    (λ e. and_from (not (escape_letter x == 10)) true (letter-other x) refl)
    (λ e. cond_both (nat_lt x 32) (92 ∷ 117 ∷ 48 ∷ 48 ∷ digit_char (x / 16) ∷ digit_char (x % 16) ∷ []) (x ∷ []) (λ t. Lacks 10 t)
    (λ f. and_from (not (digit_char (x / 16) == 10)) _ (digit-other (x / 16)) (and_from (not (digit_char (x % 16) == 10)) true (digit-other (x % 16)) refl))
    (λ f. and_from (not (x == 10)) true (above-lacks x (ltb-false x 32 f)) refl))

escape-lacks : (s : List ℕ) → Lacks 10 (escape s)
escape-lacks [] = refl
escape-lacks (x ∷ s) = Lacks-append 10 (escape_byte x) (escape s) (escaped-lacks x) (escape-lacks s)

quoted-lacks : (s : List ℕ) → Lacks 10 (quoted s)
quoted-lacks s = Lacks-append 10 (escape s) (34 ∷ []) (escape-lacks s) refl

number-lacks : (n : Num) → Lacks 10 (number_text n)
number-lacks (unsigned n) = digits-lack n
number-lacks (negative z) = signed-lacks z
number-lacks (float x) = refl

comma-lacks : (later : Bool) → Lacks 10 (comma_if later)
comma-lacks true = refl
comma-lacks false = refl

-- the text of a value
mutual
  data-lacks : (d : Data) → Lacks 10 (compact_text d)
  data-lacks null = refl
  data-lacks (boolean true) = refl
  data-lacks (boolean false) = refl
  data-lacks (number n) = number-lacks n
  data-lacks (string s) = quoted-lacks s
  data-lacks (array ds) = items-lack false ds
  data-lacks (object ms) = members-lack false ms

  items-lack : (later : Bool) (ds : Items) → Lacks 10 (items_text later ds)
  items-lack later no_items = refl
  items-lack later (item d ds) =
      Lacks-append 10 (comma_if later) (compact_text d ++ items_text true ds) (comma-lacks later)
      (Lacks-append 10 (compact_text d) (items_text true ds) (data-lacks d) (items-lack true ds))

  members-lack : (later : Bool) (ms : Members) → Lacks 10 (members_text later ms)
  members-lack later no_members = refl
  members-lack later (member k d ms) =
      Lacks-append 10 (comma_if later) (quoted k ++ 58 ∷ (compact_text d ++ members_text true ms)) (comma-lacks later)
      (Lacks-append 10 (quoted k) (58 ∷ (compact_text d ++ members_text true ms)) (quoted-lacks k)
      (Lacks-append 10 (compact_text d) (members_text true ms) (data-lacks d) (members-lack true ms)))

-- the text of a message
pub text-lacks : (m : Message) → Lacks 10 (text m)
unfolding text
text-lacks m = data-lacks (message_data m)

-- a bare word has none
bare-lacks : (octets : List ℕ) → is_bare octets ≡ true → Lacks 10 octets
unfolding is_bare
bare-lacks octets h = Lacks-of is_bare_octet 10 octets refl (and_parts _ _ (and_parts _ _ h).0).1

-- octets as they are printed
pub octets-lack : (octets : List ℕ) → Lacks 10 (bare_or_hex octets)
unfolding bare_or_hex
octets-lack octets =
    cond_both (is_bare octets) octets (codes "0x" ++ encode_lower octets) (λ t. Lacks 10 t) (bare-lacks octets) (λ e. hex-lacks octets)

-- the text of a header
pub header-lacks : (header : TheHeader) → Lacks 10 (header_text header)
unfolding header_front header_middle header_back
header-lacks header = simp (list_all-append, hex-lacks, digits-lack, signed-lacks)
