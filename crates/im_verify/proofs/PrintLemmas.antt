-- A message of these types is read again from its text.
use Rattle.std.proofs.Common.{◌≡◌, ◌++◌, ℕ, pos, negsuc, List, [], ◌∷◌, Bool, true, false, codes, map, Option, Some, None, IsUtf8, refl, sym, subst}
use Rattle.std.specs.Prelude.{⊤}
use Rattle.std.proofs.lemmas.Fmt.{IsAscii-decimal, IsAscii-signed}
use Rattle.std.proofs.lemmas.Str.{IsUtf8-append, IsUtf8-nil, IsUtf8-from_ascii}
use Rattle.json.specs.Print.{IsNumber, print, quoted}
use Rattle.json.specs.Tree.{HasNumbers, ItemsHaveNumbers, MembersHaveNumbers}
use Rattle.json.proofs.Printed.Decimals.{IsNumber-decimal, IsNumber-signed_decimal}
use Rattle.json.proofs.Printed.Tokens.{tokens-print}
use Rattle.json.proofs.Printed.Trees.{ArePrintable-json_tokens}
use Rattle.json.proofs.Printed.Utf8.{are_ascii, IsUtf8-are_ascii, IsUtf8-boolean, IsUtf8-quoted}
use Rattle.serde_json.specs.Data.{Num, unsigned, negative, float, Data, null, boolean, number, string, array, object, Items, no_items, item, Members, no_members, member}
use Rattle.serde_json.specs.View.{items_of}
use Rattle.serde_json.specs.Written.{comma_if, compact_text, items_outline, items_text, members_outline, members_text, number_text, outline}
use Rattle.im_model.specs.declared.headers.Header.{Header}
use Rattle.im_model.specs.declared.entries.Entry.{Entry}
use Rattle.im_proof.specs.declared.proofs.AdvanceProof.{AdvanceProof}
use Rattle.im_proof.specs.declared.proofs.DualProof.{DualProof}
use Rattle.im_wire.specs.declared.messages.Message.{Message}
use Rattle.im_wire.specs.declared.messages.Message.TheVariants.{State, Dual, Advance, Item}
use Rattle.im_wire.specs.Fits.{IsMessage}
use Rattle.im_wire.specs.Messages.{HasMessage}
use Rattle.im_wire.specs.Texts.{advance_proof_data, anchor_data, digest_lists_data, digests_data, dual_proof_data, entry_data, header_data, hex_data, message_data, text}
use Rattle.im_wire.specs.Tokens.{tokens_of}
use Rattle.im_wire.proofs.DigitLemmas.{hex-utf8}
use Rattle.im_wire.proofs.MessageAgain.{message-is-read, message-plain}
use Rattle.im_wire.proofs.ReadAgain.{ArePlain, ArePlainMembers, IsPlain, IsPlainNumber}
use Rattle.im_wire.proofs.TokenLemmas.{print_is}

number-is : (n : Num) → IsPlainNumber n → IsNumber (number_text n)
number-is (unsigned n) h = IsNumber-decimal n h
number-is (negative (pos n)) h = absurd h
number-is (negative (negsuc n)) h = IsNumber-signed_decimal (negsuc n) h
number-is (float x) h = absurd h

number-utf8 : (n : Num) → IsPlainNumber n → IsUtf8 (number_text n)
number-utf8 (unsigned n) h = IsUtf8-from_ascii _ (IsAscii-decimal n h)
number-utf8 (negative (pos n)) h = absurd h
number-utf8 (negative (negsuc n)) h = IsUtf8-from_ascii _ (IsAscii-signed (negsuc n) h)
number-utf8 (float x) h = absurd h

mutual
  value-numbers : (d : Data) → IsPlain d → HasNumbers (outline d)
  value-numbers null h = tt
  value-numbers (boolean b) h = tt
  value-numbers (number n) h = number-is n h
  value-numbers (string s) h = tt
  value-numbers (array ds) h = items-numbers ds h
  value-numbers (object ms) h = members-numbers ms h.1

  items-numbers : (ds : Items) → ArePlain ds → ItemsHaveNumbers (items_outline ds)
  items-numbers no_items h = tt
  items-numbers (item d ds) h = (value-numbers d h.0, items-numbers ds h.1)

  members-numbers : (ms : Members) → ArePlainMembers ms → MembersHaveNumbers (members_outline ms)
  members-numbers no_members h = tt
  members-numbers (member k d ms) h = (value-numbers d h.0, members-numbers ms h.1)

-- the strings of a value are UTF-8, and its names ASCII
abbrev mutual
  HasTexts : Data → Type 0
  HasTexts null = ⊤
  HasTexts (boolean b) = ⊤
  HasTexts (number n) = ⊤
  HasTexts (string s) = IsUtf8 s
  HasTexts (array ds) = ItemsHaveTexts ds
  HasTexts (object ms) = MembersHaveTexts ms

  ItemsHaveTexts : Items → Type 0
  ItemsHaveTexts no_items = ⊤
  ItemsHaveTexts (item d ds) = HasTexts d × ItemsHaveTexts ds

  MembersHaveTexts : Members → Type 0
  MembersHaveTexts no_members = ⊤
  MembersHaveTexts (member k d ms) = (are_ascii k ≡ true) × HasTexts d × MembersHaveTexts ms

comma-utf8 : (later : Bool) → IsUtf8 (comma_if later)
comma-utf8 true = IsUtf8-are_ascii (44 ∷ []) refl
comma-utf8 false = IsUtf8-nil

mutual
  value-utf8 : (d : Data) → IsPlain d → HasTexts d → IsUtf8 (compact_text d)
  value-utf8 null p h = IsUtf8-are_ascii _ refl
  value-utf8 (boolean b) p h = IsUtf8-boolean b
  value-utf8 (number n) p h = number-utf8 n p
  value-utf8 (string s) p h = IsUtf8-quoted s h
  value-utf8 (array ds) p h = IsUtf8-append (91 ∷ []) (items_text false ds) (IsUtf8-are_ascii (91 ∷ []) refl) (items-utf8 false ds p h)
  value-utf8 (object ms) p h = IsUtf8-append (123 ∷ []) (members_text false ms) (IsUtf8-are_ascii (123 ∷ []) refl) (members-utf8 false ms p.1 h)

  items-utf8 : (later : Bool) (ds : Items) → ArePlain ds → ItemsHaveTexts ds → IsUtf8 (items_text later ds)
  items-utf8 later no_items p h = IsUtf8-are_ascii (93 ∷ []) refl
  items-utf8 later (item d ds) p h =
      IsUtf8-append (comma_if later) (compact_text d ++ items_text true ds) (comma-utf8 later)
      (IsUtf8-append (compact_text d) (items_text true ds) (value-utf8 d p.0 h.0) (items-utf8 true ds p.1 h.1))

  members-utf8 : (later : Bool) (ms : Members) → ArePlainMembers ms → MembersHaveTexts ms → IsUtf8 (members_text later ms)
  members-utf8 later no_members p h = IsUtf8-are_ascii (125 ∷ []) refl
  members-utf8 later (member k d ms) p h =
      IsUtf8-append (comma_if later) (quoted k ++ 58 ∷ (compact_text d ++ members_text true ms)) (comma-utf8 later)
      (IsUtf8-append (quoted k) (58 ∷ (compact_text d ++ members_text true ms)) (IsUtf8-quoted k (IsUtf8-are_ascii k h.0))
      (IsUtf8-append (58 ∷ []) (compact_text d ++ members_text true ms) (IsUtf8-are_ascii (58 ∷ []) refl)
      (IsUtf8-append (compact_text d) (members_text true ms) (value-utf8 d p.0 h.1) (members-utf8 true ms p.1 h.2))))

each-texts : {A : Type 0} (write : A → Data) → ((x : A) → HasTexts (write x)) → (xs : List A) → ItemsHaveTexts (items_of (map write xs))
each-texts write one [] = tt
each-texts write one (x ∷ xs) = (one x, each-texts write one xs)

digests-texts : (ds : List (List ℕ)) → HasTexts (digests_data ds)
unfolding digests_data
digests-texts ds = each-texts hex_data hex-utf8 ds

digest_lists-texts : (dss : List (List (List ℕ))) → HasTexts (digest_lists_data dss)
unfolding digest_lists_data
digest_lists-texts dss = each-texts digests_data digests-texts dss

header-texts : (h : Header) → HasTexts (header_data h)
unfolding header_data
header-texts h =
    (refl, hex-utf8 h.bl_root, (refl, tt, (refl, hex-utf8 h.eh, (refl, tt, (refl, hex-utf8 h.md, (refl, tt, (refl, hex-utf8 h.prev_alh, (refl, tt, (refl, tt, tt)))))))))

entry-texts : (e : Entry) → HasTexts (entry_data e)
unfolding entry_data
entry-texts e = (refl, hex-utf8 e.key, (refl, hex-utf8 e.md, (refl, hex-utf8 e.value, tt)))

advance_proof-texts : (a : AdvanceProof) → HasTexts (advance_proof_data a)
unfolding advance_proof_data
advance_proof-texts a = (refl, digest_lists-texts a.inclusions, (refl, digests-texts a.terms, tt))

dual_proof-texts : (p : DualProof) → HasTexts (dual_proof_data p)
unfolding dual_proof_data
dual_proof-texts p = (
  refl,
  digests-texts p.consistency,
  (
    refl,
    digests-texts p.inclusion,
    (
      refl,
      digests-texts p.last_inclusion,
      (
        refl,
        digests-texts p.linear,
        (refl, advance_proof-texts p.linear_advance, (refl, header-texts p.source, (refl, header-texts p.target, (refl, hex-utf8 p.target_bl_tx_alh, tt)))),
      ),
    ),
  ),
)

anchor-texts : (a : Option DualProof) → HasTexts (anchor_data a)
anchor-texts None = tt
anchor-texts (Some p) = dual_proof-texts p

message-texts : (m : Message) → HasTexts (message_data m)
message-texts (State h) = (refl, header-texts h, (refl, IsUtf8-are_ascii (codes "state") refl, tt))
message-texts (Dual p) = (refl, dual_proof-texts p, (refl, IsUtf8-are_ascii (codes "dual") refl, tt))
message-texts (Advance p a) = (refl, anchor-texts a, (refl, dual_proof-texts p, (refl, IsUtf8-are_ascii (codes "advance") refl, tt)))
message-texts (Item p e i ds) =
    (refl, dual_proof-texts p, (refl, entry-texts e, (refl, tt, (refl, digests-texts ds, (refl, IsUtf8-are_ascii (codes "item") refl, tt)))))

-- the text of a message says the message
pub text-again : (m : Message) → IsMessage m → HasMessage (text m) m
unfolding text tokens_of
text-again m fits =
    let d : Data = message_data m in
    let plain : IsPlain d = message-plain m fits in
    let same : print (tokens_of d) ≡ compact_text d = print_is d in
    message-is-read m (text m) [] (tokens_of d) (sym same) refl refl
    (tokens-print (tokens_of d) (ArePrintable-json_tokens (outline d) (value-numbers d plain)))
    (subst IsUtf8 (sym same) (value-utf8 d plain (message-texts m))) fits
