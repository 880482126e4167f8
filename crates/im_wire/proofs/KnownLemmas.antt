-- The negative integers of a value that is read have 64 bits with a sign.
use Rattle.std.proofs.Common.{◌≡◌, ◌<◌, ◌≤◌, ◌^◌, ◌&&◌, ◌==◌, ℕ, zero, suc, List, Bool, true, false, if◌then◌else◌, nat_lt, Option, Some, option_map, option_and_then, drop, Ordering, Less, Equal, Greater, refl, subst, arith}
use Rattle.std.specs.Prelude.{⊤, nat_le, slice_index}
use Rattle.std.specs.Ordering.{nat_cmp, match_ordering}
use Rattle.std.specs.Cmp.Lexicographic.{slice_cmp}
use Rattle.std.specs.Float.{binary64, float_is_finite}
use Rattle.std.proofs.lemmas.Bool.{and_parts, leb-true, ltb-true}
use Rattle.fast_float.specs.Text.{minus, Parts, scan, digits_of, nearest, with_sign}
use Rattle.json.specs.Lex.{tokens}
use Rattle.json.specs.Json as json
use Rattle.serde_json.specs.Data.{Num, unsigned, negative, float, Data, null, boolean, number, string, array, object, Items, no_items, item, Members, no_members, member, put}
use Rattle.serde_json.specs.Read.{float_of, is_integer, number_from, number_of, of_json, of_items, of_members, max_depth, read}
use Rattle.serde_json.specs.Find.{get, get_member}
use Rattle.im_wire.specs.Fits.{IsSigned}
use Rattle.im_octet.proofs.Common.{some-is}
use Rattle.im_wire.proofs.OptionLemmas.{if-some, map-some, then-some}

-- a negative integer has 64 bits with a sign
abbrev pub IsKnown : Num → Type 0
IsKnown (unsigned n) = ⊤
IsKnown (negative z) = IsSigned z
IsKnown (float x) = ⊤

-- each negative integer of a value has
abbrev mutual
  pub AllKnown : Data → Type 0
  AllKnown null = ⊤
  AllKnown (boolean b) = ⊤
  AllKnown (number n) = IsKnown n
  AllKnown (string s) = ⊤
  AllKnown (array ds) = ItemsKnown ds
  AllKnown (object ms) = MembersKnown ms

  pub ItemsKnown : Items → Type 0
  ItemsKnown no_items = ⊤
  ItemsKnown (item d ds) = AllKnown d × ItemsKnown ds

  pub MembersKnown : Members → Type 0
  MembersKnown no_members = ⊤
  MembersKnown (member k d ms) = AllKnown d × MembersKnown ms

float-known : (sign : Bool) (p : Parts) (n : Num) → float_of sign p ≡ Some n → IsKnown n
float-known sign p n e =
    let is = if-some (float_is_finite (nearest binary64 sign p)) (float (nearest binary64 sign p)) n e in
    subst IsKnown is.1 tt

unsigned-known : (b : Bool) (k : ℕ) (rest : Option Num) (n : Num) → (rest ≡ Some n → IsKnown n) → (if b then Some (unsigned k) else rest) ≡ Some n → IsKnown n
unsigned-known true k rest n other e = subst IsKnown (some-is (unsigned k) n e) tt
unsigned-known false k rest n other e = other e

signed-known : (k : ℕ) → 0 < k → k ≤ 2 ^ 63 → IsSigned (with_sign true k)
signed-known zero some few = absurd (omega arith)
signed-known (suc k) some few = let is : k < 2 ^ 63 = omega arith in is

negative-known : (b : Bool) (k : ℕ) (rest : Option Num) (n : Num) → (b ≡ true → (0 < k) × (k ≤ 2 ^ 63)) → (rest ≡ Some n → IsKnown n)
    → (if b then Some (negative (with_sign true k)) else rest) ≡ Some n → IsKnown n
negative-known true k rest n fits other e = let f = fits refl in subst IsKnown (some-is (negative (with_sign true k)) n e) (signed-known k f.0 f.1)
negative-known false k rest n fits other e = other e

from-known : (sign : Bool) (p : Parts) (n : Num) → number_from sign p ≡ Some n → IsKnown n
from-known false p n e = unsigned-known (is_integer p && nat_lt (digits_of p) (2 ^ 64)) (digits_of p) (float_of false p) n (float-known false p n) e
from-known true p n e =
    negative-known (is_integer p && nat_lt 0 (digits_of p) && nat_le (digits_of p) (2 ^ 63)) (digits_of p) (float_of true p) n
    (λ h.
    let all = and_parts (is_integer p && nat_lt 0 (digits_of p)) (nat_le (digits_of p) (2 ^ 63)) h in
    (ltb-true 0 (digits_of p) (and_parts (is_integer p) (nat_lt 0 (digits_of p)) all.0).1, leb-true (digits_of p) (2 ^ 63) all.1))
    (float-known true p n) e

either-known : (b : Bool) (x y : Option Num) (n : Num) → (x ≡ Some n → IsKnown n) → (y ≡ Some n → IsKnown n) → (if b then x else y) ≡ Some n → IsKnown n
either-known true x y n one two e = one e
either-known false x y n one two e = two e

number-known : (s : List ℕ) (n : Num) → number_of s ≡ Some n → IsKnown n
unfolding number_of
number-known s n e = either-known (slice_index s 0 == minus) (number_from true (scan (drop 1 s))) (number_from false (scan s)) n (from-known true (scan (drop 1 s)) n) (from-known false (scan s) n) e

by-order : {A : Type 0} (P : A → Type 0) (o : Ordering) (x y z : A) → P x → P y → P z → P (match_ordering o x y z)
by-order P Less x y z a b c = a
by-order P Equal x y z a b c = b
by-order P Greater x y z a b c = c

put-known : (k : List ℕ) (d : Data) (ms : Members) → AllKnown d → MembersKnown ms → MembersKnown (put k d ms)
put-known k d no_members h known = (h, tt)
put-known k d (member l e ms) h known =
    by-order MembersKnown (slice_cmp nat_cmp k l) (member k d (member l e ms)) (member l d ms) (member l e (put k d ms))
    (h, known) (h, known.1) (known.0, put-known k d ms h known.1)

mutual
  json-known : (j : json.Json) (d : Data) → of_json j ≡ Some d → AllKnown d
  json-known json.null d e = subst AllKnown (some-is null d e) tt
  json-known (json.boolean b) d e = subst AllKnown (some-is (boolean b) d e) tt
  json-known (json.number s) d e = let a = map-some (number_of s) number d e in subst AllKnown a.2 (number-known s a.0 a.1)
  json-known (json.string s) d e = subst AllKnown (some-is (string s) d e) tt
  json-known (json.array js) d e = let a = map-some (of_items js) array d e in subst AllKnown a.2 (items-known js a.0 a.1)
  json-known (json.object ms) d e = let a = map-some (of_members ms no_members) object d e in subst AllKnown a.2 (members-known ms no_members a.0 tt a.1)

  items-known : (js : json.Items) (ds : Items) → of_items js ≡ Some ds → ItemsKnown ds
  items-known json.no_items ds e = subst ItemsKnown (some-is no_items ds e) tt
  items-known (json.item j js) ds e =
      let a = then-some (of_json j) (λ d. option_map (item d) (of_items js)) ds e in
      let b = map-some (of_items js) (item a.0) ds a.2 in
      subst ItemsKnown b.2 (json-known j a.0 a.1, items-known js b.0 b.1)

  members-known : (ms : json.Members) (found all : Members) → MembersKnown found → of_members ms found ≡ Some all → MembersKnown all
  members-known json.no_members found all known e = subst MembersKnown (some-is found all e) known
  members-known (json.member k j ms) found all known e =
      let a = then-some (of_json j) (λ d. of_members ms (put k d found)) all e in
      members-known ms (put k a.0 found) all (put-known k a.0 found (json-known j a.0 a.1) known) a.2

-- so have those of a value that a text reads as
pub read-known : (text : List ℕ) (d : Data) → read text ≡ Some d → AllKnown d
read-known text d e =
    let a = then-some (option_and_then (λ p. json.if_last p.0 p.1) (json.value max_depth (tokens text))) of_json d e in
    json-known a.0 d a.2

get_member-known : (k : List ℕ) (ms : Members) (d : Data) → MembersKnown ms → get_member k ms ≡ Some d → AllKnown d
get_member-known k no_members d known e = cc e
get_member-known k (member l x ms) d known e =
    by-order (λ (o : Option Data). o ≡ Some d → AllKnown d) (slice_cmp nat_cmp k l) (get_member k ms) (Some x) (get_member k ms)
    (get_member-known k ms d known.1) (λ is. subst AllKnown (some-is x d is) known.0) (get_member-known k ms d known.1) e

-- and those of a member
pub get-known : (k : List ℕ) (d m : Data) → AllKnown d → get k d ≡ Some m → AllKnown m
get-known k null m known e = cc e
get-known k (boolean b) m known e = cc e
get-known k (number n) m known e = cc e
get-known k (string s) m known e = cc e
get-known k (array ds) m known e = cc e
get-known k (object ms) m known e = get_member-known k ms m known e
