-- A value that is written is read again: one with no float, with integers of 64 bits, and with the members
-- of each object in order.
use Rattle.std.proofs.Common.{◌≡◌, ℕ, pos, negsuc, ◌<◌, ◌≤◌, ◌^◌, suc, List, [], Option, Some, option_map, option_and_then, refl, sym, ap, ◌∙◌, arith, append-nil}
use Rattle.std.specs.Prelude.{⊤}
use Rattle.json.specs.Token.{Token}
use Rattle.json.specs.Lex.{tokens}
use Rattle.json.specs.Json as json
use Rattle.json.specs.Tree as tree
use Rattle.json.proofs.Printed.Trees.{value-json_tokens}
use Rattle.serde_json.specs.Data.{Num, unsigned, negative, float, Data, null, boolean, number, string, array, object, Items, no_items, item, Members, no_members, member, put, depth, items_depth, members_depth}
use Rattle.serde_json.specs.Read.{number_of, of_json, of_items, of_members, read, max_depth}
use Rattle.serde_json.specs.Written.{outline, items_outline, members_outline, number_text}
use Rattle.serde_json.proofs.Numbers.{number_of-decimal, number_of-negative}

-- the members, put one after another
abbrev pub put_all : Members → Members → Members
put_all found no_members = found
put_all found (member k d ms) = put_all (put k d found) ms

-- an integer of 64 bits
abbrev pub IsPlainNumber : Num → Type 0
IsPlainNumber (unsigned n) = n < 2 ^ 64
IsPlainNumber (negative (pos n)) = ⊥
IsPlainNumber (negative (negsuc n)) = n < 2 ^ 63
IsPlainNumber (float x) = ⊥

-- the value is as above
abbrev mutual
  pub IsPlain : Data → Type 0
  IsPlain null = ⊤
  IsPlain (boolean b) = ⊤
  IsPlain (number n) = IsPlainNumber n
  IsPlain (string s) = ⊤
  IsPlain (array ds) = ArePlain ds
  IsPlain (object ms) = (put_all no_members ms ≡ ms) × ArePlainMembers ms

  pub ArePlain : Items → Type 0
  ArePlain no_items = ⊤
  ArePlain (item d ds) = IsPlain d × ArePlain ds

  pub ArePlainMembers : Members → Type 0
  ArePlainMembers no_members = ⊤
  ArePlainMembers (member k d ms) = IsPlain d × ArePlainMembers ms

number-again : (n : Num) → IsPlainNumber n → number_of (number_text n) ≡ Some n
number-again (unsigned n) h = number_of-decimal n h
number-again (negative (pos n)) h = absurd h
number-again (negative (negsuc n)) h = number_of-negative n h
number-again (float x) h = absurd h

mutual
  -- the value of the JSON that is written
  pub of_json-outline : (d : Data) → IsPlain d → of_json (outline d) ≡ Some d
  of_json-outline null h = refl
  of_json-outline (boolean b) h = refl
  of_json-outline (number n) h = ap (option_map number) (number-again n h)
  of_json-outline (string s) h = refl
  of_json-outline (array ds) h = ap (option_map array) (of_items-outline ds h)
  of_json-outline (object ms) h = ap (option_map object) (of_members-outline ms no_members h.1 ∙ ap Some h.0)

  of_items-outline : (ds : Items) → ArePlain ds → of_items (items_outline ds) ≡ Some ds
  of_items-outline no_items h = refl
  of_items-outline (item d ds) h = rw (of_json-outline d h.0, of_items-outline ds h.1) refl

  of_members-outline : (ms found : Members) → ArePlainMembers ms → of_members (members_outline ms) found ≡ Some (put_all found ms)
  of_members-outline no_members found h = refl
  of_members-outline (member k d ms) found h = rw (of_json-outline d h.0) (of_members-outline ms (put k d found) h.1)

mutual
  depth-outline : (d : Data) → tree.depth (outline d) ≡ depth d
  depth-outline null = refl
  depth-outline (boolean b) = refl
  depth-outline (number n) = refl
  depth-outline (string s) = refl
  depth-outline (array ds) = ap suc (items_depth-outline ds)
  depth-outline (object ms) = ap suc (members_depth-outline ms)

  items_depth-outline : (ds : Items) → tree.items_depth (items_outline ds) ≡ items_depth ds
  items_depth-outline no_items = refl
  items_depth-outline (item d ds) = rw (depth-outline d, items_depth-outline ds) refl

  members_depth-outline : (ms : Members) → tree.members_depth (members_outline ms) ≡ members_depth ms
  members_depth-outline no_members = refl
  members_depth-outline (member k d ms) = rw (depth-outline d, members_depth-outline ms) refl

one-value : (j : json.Json) → tree.depth j ≤ max_depth → json.value max_depth (tree.json_tokens j) ≡ Some (j, [])
one-value j shallow = ap (json.value max_depth) (sym (append-nil (tree.json_tokens j))) ∙ value-json_tokens j max_depth [] shallow

-- a text of a value's tokens reads as the value
pub read-again : (d : Data) (text : List ℕ) → tokens text ≡ tree.json_tokens (outline d) → IsPlain d → depth d ≤ max_depth → read text ≡ Some d
read-again d text same plain shallow =
    let e = depth-outline d in
    let value : json.value max_depth (tokens text) ≡ Some (outline d, []) = ap (json.value max_depth) same ∙ one-value (outline d) (omega (arith, e)) in
    ap (λ (o : Option (json.Json × List Token)). option_and_then of_json (option_and_then (λ p. json.if_last p.0 p.1) o)) value ∙ of_json-outline d plain
