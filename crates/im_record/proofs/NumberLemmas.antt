-- The numbers of keys, behind one more.
use Rattle.std.specs.BTreeMap.{BTreeMap}
use Rattle.std.specs.Borrow.{Bor}
use Rattle.std.specs.Map.{update}
use Rattle.std.specs.Str.{bytes_eq}
use Rattle.std.proofs.Common.{◌≡◌, inl, inr, ◌<◌, ◌≤◌, ◌+◌, ℕ, suc, List, [], ◌∷◌, ◌++◌, length, length-append, arith, refl, sym, ◌∙◌, ap, subst, true, false, Bool, Option, Some, None, cond, nat_lt, if◌then◌else◌}
use Rattle.std.proofs.lemmas.Bool.{cases_lt, lt-ltb, le-ltb}
use Rattle.std.proofs.lemmas.List.{map-append, length-map}
use Rattle.std.proofs.lemmas.Slice.Eq.{bytes_eq-Decides}
use Rattle.im_format.specs.Damages.{index_of}
use Rattle.im_octet.specs.Places.{PutsPlace}
use Rattle.im_record.specs.Keys.{AreNumbered, lent, key_number}

-- where a key stands when one more is put behind
pub record Put (key put : List ℕ) (keys : List (List ℕ)) : Type 0 where
  pub low : index_of key keys ≤ length keys
  pub among : index_of key keys < length keys → index_of key (keys ++ put ∷ []) ≡ index_of key keys
  pub absent : index_of key keys ≡ length keys → index_of key (keys ++ put ∷ []) ≡ length keys + (if bytes_eq put key then 0 else 1)

Put-nil : (key put : List ℕ) → Put key put []
Put-nil key put = record {
  low = omega arith;
  among = λ h. absurd (omega arith);
  absent = λ h. elim (bytes_eq put key) as (λ (b : Bool). (if b then 0 else 0 + 1) ≡ 0 + (if b then 0 else 1)) [ true ↦ refl | false ↦ refl ];
}

Put-step : (b : Bool) (i j n m : ℕ) → i ≤ n → (i < n → j ≡ i) → (i ≡ n → j ≡ n + m)
    → ((if b then 0 else i + 1) ≤ suc n) × ((if b then 0 else i + 1) < suc n → (if b then 0 else j + 1) ≡ (if b then 0 else i + 1))
    × ((if b then 0 else i + 1) ≡ suc n → (if b then 0 else j + 1) ≡ suc n + m)
Put-step true i j n m low same out = (omega arith, λ h. refl, λ h. omega arith)
Put-step false i j n m low same out = (omega arith, λ h. omega (arith, same (omega arith)), λ h. omega (arith, out (omega arith)))

pub put : (key new : List ℕ) (keys : List (List ℕ)) → Put key new keys
put key new [] = Put-nil key new
put key new (other ∷ keys) =
    let p : Put key new keys = put key new keys in
    let q = Put-step (bytes_eq other key) (index_of key keys) (index_of key (keys ++ new ∷ [])) (length keys)
    (if bytes_eq new key then 0 else 1) p.low p.among p.absent in
    record { low = q.0; among = q.1; absent = q.2 }

-- a number that is below, or isn't
some_below : (i n : ℕ) → i < n → (if nat_lt i n then Some i else None) ≡ Some i
some_below i n h = ap (λ (b : Bool). if b then Some i else None) (lt-ltb i n h)

none_from : (i n : ℕ) → n ≤ i → (if nat_lt i n then Some i else None) ≡ None
none_from i n h = ap (λ (b : Bool). if b then Some i else None) (le-ltb i n h)

-- the numbers of keys behind which one more is put that isn't among them
pub number_of-put : (keys : List (List ℕ)) (new key : List ℕ) → index_of new keys ≡ length keys
    → key_number (keys ++ new ∷ []) key ≡ update bytes_eq (key_number keys) new (Some (length keys)) key
number_of-put keys new key fresh =
    let p : Put key new keys = put key new keys in
    let all : List (List ℕ) = keys ++ new ∷ [] in
    let long : length (keys ++ new ∷ []) ≡ length keys + 1 = length-append keys (new ∷ []) in
    elim (bytes_eq new key) as (λ (b : Bool). bytes_eq new key ≡ b
    → (index_of key keys ≡ length keys → index_of key (keys ++ new ∷ []) ≡ length keys + (if b then 0 else 1))
    → key_number (keys ++ new ∷ []) key ≡ cond b (Some (length keys)) (key_number keys key)) [
      | true ↦ λ t absent.
          let here : index_of key keys ≡ length keys =
          subst (λ (k : List ℕ). index_of k keys ≡ length keys) ((bytes_eq-Decides new key).0 t) fresh in
          let at : index_of key (keys ++ new ∷ []) ≡ length keys = omega (arith, absent here) in
          some_below (index_of key (keys ++ new ∷ [])) (length (keys ++ new ∷ [])) (omega arith) ∙ ap Some at
      | false ↦ λ f absent. elim (cases_lt (index_of key keys) (length keys)) [
        | inl among ↦ (
            let at : index_of key (keys ++ new ∷ []) ≡ index_of key keys = p.among among in
            some_below (index_of key (keys ++ new ∷ [])) (length (keys ++ new ∷ [])) (omega arith) ∙ ap Some at
            ∙ sym (some_below (index_of key keys) (length keys) among))
        | inr not ↦ (
            let end : index_of key keys ≡ length keys = omega (arith, p.low) in
            none_from (index_of key (keys ++ new ∷ [])) (length (keys ++ new ∷ [])) (omega (arith, absent end))
            ∙ sym (none_from (index_of key keys) (length keys) not))
      ]
    ] refl p.absent

-- lent keys behind which one more is put that isn't among them are numbered, where the map has that one's number
pub AreNumbered-put : (keys : List (Bor (List ℕ))) (new : Bor (List ℕ)) (old next : BTreeMap (Bor (List ℕ)) ℕ) (n : ℕ)
    → AreNumbered (lent keys) old → index_of new.now (lent keys) ≡ length (lent keys) → n ≡ length keys
    → PutsPlace old next new.now n
    → AreNumbered (lent (keys ++ new ∷ [])) next
AreNumbered-put keys new old next n are fresh count steps = record {
  each = λ key.
      let long : n ≡ length (lent keys) = omega (arith, length-map {A = Bor (List ℕ)} {B = List ℕ}) in
      let all : lent (keys ++ new ∷ []) ≡ lent keys ++ new.now ∷ [] = map-append (λ (k : Bor (List ℕ)). k.now) keys (new ∷ []) in
      steps key
      ∙ ap (λ (o : Option ℕ). cond (bytes_eq new.now key) (Some n) o) (are.each key)
      ∙ ap (λ (i : ℕ). cond (bytes_eq new.now key) (Some i) (key_number (lent keys) key)) long
      ∙ sym (number_of-put (lent keys) new.now key fresh)
      ∙ ap (λ (ks : List (List ℕ)). key_number ks key) (sym all);
}

-- a key without a number is none of them
pub absent_key : (keys : List (List ℕ)) (key : List ℕ) → key_number keys key ≡ None → index_of key keys ≡ length keys
absent_key keys key none = elim (cases_lt (index_of key keys) (length keys)) [
  | inl among ↦ absurd (let some = some_below (index_of key keys) (length keys) among in cc)
  | inr not ↦ omega (arith, (put key [] keys).low)
]
