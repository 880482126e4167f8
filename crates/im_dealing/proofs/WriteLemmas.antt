-- The texts of a phase, one after the other: where the next ones of each session stand.
use Rattle.std.proofs.Common.{◌≡◌, ℕ, zero, suc, ◌+◌, ◌<◌, ◌≤◌, ◌++◌, List, [], ◌∷◌, length, take, drop, Option, Some, None, Result, Ok, Err, OnErr, slice_get, slice_index_or, refl, ap, ap₂, sym, subst, ◌∙◌, arith, get_or, append_assoc, append-nil, length-append}
use Rattle.std.proofs.KnownBytes.{Appends-nil, Appends-trans}
use Rattle.std.proofs.Math.ListN.{set}
use Rattle.std.proofs.Math.Seq.{take-append-add}
use Rattle.std.specs.Io.KnownBytes.{Appends}
use Rattle.std.specs.List.{flat_map}
use Rattle.std.specs.Prelude.{All}
use Rattle.std.proofs.lemmas.Grind.{flat_map-append}
use Rattle.std.proofs.lemmas.List.{drop_all, drop_more, get_or-map, take-append-le}
use Rattle.std.proofs.lemmas.List.Elements.{All-cons, All-nil}
use Rattle.std.proofs.lemmas.Option.{slice_get-get_or}
use Rattle.im_dealing.specs.Written.{next_text, stop_in_order, stop_or, text_before, texts_in_order, texts_left, without_first, why_at, why_of}
use Rattle.im_dealing.specs.declared.sessions.Ended.{Ended}

-- of each session the texts behind the first ones, as many as its number tells
abbrev pub behind_each : List ℕ → List (List (List ℕ)) → List (List (List ℕ))
behind_each next [] = []
behind_each [] (texts ∷ more) = texts ∷ more
behind_each (n ∷ next) (texts ∷ more) = drop n texts ∷ behind_each next more

-- at first these are all
pub behind_none : (next : List ℕ) (lists : List (List (List ℕ))) → All (λ n. n ≡ 0) next → behind_each next lists ≡ lists
behind_none next [] all = refl
behind_none [] (texts ∷ more) all = refl
behind_none (n ∷ next) (texts ∷ more) all =
    ap₂ (λ (x : List (List ℕ)) (xs : List (List (List ℕ))). x ∷ xs) (ap (λ (k : ℕ). drop k texts) (all 0 n (omega arith))) (behind_none next more (λ i d lt. all (suc i) d (omega (arith, lt))))

-- the texts of one session behind its first ones
pub behind_at : (next : List ℕ) (lists : List (List (List ℕ))) (number : ℕ) → number < length lists → number < length next
    → slice_index_or (behind_each next lists) number [] ≡ drop (get_or next number 0) (slice_index_or lists number [])
behind_at next [] number few room = absurd (omega (arith, few))
behind_at [] (texts ∷ more) number few room = absurd (omega (arith, room))
behind_at (n ∷ next) (texts ∷ more) zero few room = refl
behind_at (n ∷ next) (texts ∷ more) (suc number) few room = behind_at next more number (omega (arith, few)) (omega (arith, room))

-- the next text of a session, and none where it has no more
next_of : (texts : List (List ℕ)) (n : ℕ) (text : List ℕ) → n < length texts → text ≡ get_or texts n [] → slice_get (drop n texts) 0 ≡ Some text
next_of texts n text less is = ap (λ (l : List (List ℕ)). slice_get l 0) (drop_more texts n [] less) ∙ ap Some (sym is)

pub next_some : (next : List ℕ) (lists : List (List (List ℕ))) (number : ℕ) (text : List ℕ) → number < length lists → number < length next → get_or next number 0 < length (slice_index_or lists number [])
    → text ≡ get_or (slice_index_or lists number []) (get_or next number 0) [] → next_text number (behind_each next lists) ≡ Some text
next_some next lists number text few room less is =
    ap (λ (l : List (List ℕ)). slice_get l 0) (behind_at next lists number few room) ∙ next_of (slice_index_or lists number []) (get_or next number 0) text less is

pub next_none : (next : List ℕ) (lists : List (List (List ℕ))) (number : ℕ) → number < length lists → number < length next → length (slice_index_or lists number []) ≤ get_or next number 0
    → next_text number (behind_each next lists) ≡ None
next_none next lists number few room all =
    ap (λ (l : List (List ℕ)). slice_get l 0) (behind_at next lists number few room ∙ drop_all (get_or next number 0) (slice_index_or lists number []) all)

-- one text of a session more was taken
drop_next : (texts : List (List ℕ)) (n : ℕ) → drop 1 (drop n texts) ≡ drop (n + 1) texts
drop_next texts zero = refl
drop_next [] (suc n) = sym (drop_all (suc n + 1) [] (omega arith))
drop_next (t ∷ texts) (suc n) = let e : suc (n + 1) ≡ suc n + 1 = omega arith in drop_next texts n ∙ ap (λ (m : ℕ). drop m (t ∷ texts)) e

pub behind_next : (next : List ℕ) (lists : List (List (List ℕ))) (number : ℕ) → number < length next → without_first number (behind_each next lists) ≡ behind_each (set next number (get_or next number 0 + 1)) lists
behind_next next [] number room = refl
behind_next [] (texts ∷ more) number room = absurd (omega (arith, room))
behind_next (n ∷ next) (texts ∷ more) zero room = ap (λ (x : List (List ℕ)). x ∷ behind_each next more) (drop_next texts n)
behind_next (n ∷ next) (texts ∷ more) (suc number) room = ap (λ (xs : List (List (List ℕ))). drop n texts ∷ xs) (behind_next next more number (omega (arith, room)))

-- the first of some lines has a text
pub order_some : (number : ℕ) (order : List ℕ) (left : List (List (List ℕ))) (text : List ℕ) → next_text number left ≡ Some text → texts_in_order (number ∷ order) left ≡ text ∷ texts_in_order order (without_first number left)
order_some number order left text is = ap (λ (t : Option (List ℕ)). text_before t (texts_in_order order (without_first number left))) is

pub stop_some : (number : ℕ) (order : List ℕ) (left : List (List (List ℕ))) (text : List ℕ) → next_text number left ≡ Some text → stop_in_order (number ∷ order) left ≡ stop_in_order order (without_first number left)
stop_some number order left text is = ap (λ (t : Option (List ℕ)). stop_or t number (stop_in_order order (without_first number left))) is

-- or it has none
pub order_none : (number : ℕ) (order : List ℕ) (left : List (List (List ℕ))) → next_text number left ≡ None → texts_in_order (number ∷ order) left ≡ []
order_none number order left is = ap (λ (t : Option (List ℕ)). text_before t (texts_in_order order (without_first number left))) is

pub stop_none : (number : ℕ) (order : List ℕ) (left : List (List (List ℕ))) → next_text number left ≡ None → stop_in_order (number ∷ order) left ≡ Some number
stop_none number order left is = ap (λ (t : Option (List ℕ)). stop_or t number (stop_in_order order (without_first number left))) is

-- one line more has its text: what is left is left behind it
pub front_more : (order next : List ℕ) (lists : List (List (List ℕ))) (count number : ℕ) (text : List ℕ) → drop count order ≡ number ∷ drop (count + 1) order → number < length next
    → next_text number (behind_each next lists) ≡ Some text
    → (texts_in_order (drop count order) (behind_each next lists) ≡ text ∷ texts_in_order (drop (count + 1) order) (behind_each (set next number (get_or next number 0 + 1)) lists))
    × (stop_in_order (drop count order) (behind_each next lists) ≡ stop_in_order (drop (count + 1) order) (behind_each (set next number (get_or next number 0 + 1)) lists))
front_more order next lists count number text here room is =
    let rest : List ℕ = drop (count + 1) order in
    let left : List (List (List ℕ)) = behind_each next lists in
    let after = behind_next next lists number room in (
      ap (λ (o : List ℕ). texts_in_order o left) here ∙ (order_some number rest left text is ∙ ap (λ (l : List (List (List ℕ))). text ∷ texts_in_order rest l) after),
      ap (λ (o : List ℕ). stop_in_order o left) here ∙ (stop_some number rest left text is ∙ ap (λ (l : List (List (List ℕ))). stop_in_order rest l) after),
    )

-- or it is the first without one
pub front_stop : (order next : List ℕ) (lists : List (List (List ℕ))) (count number : ℕ) → drop count order ≡ number ∷ drop (count + 1) order → next_text number (behind_each next lists) ≡ None
    → (texts_in_order (drop count order) (behind_each next lists) ≡ []) × (stop_in_order (drop count order) (behind_each next lists) ≡ Some number)
front_stop order next lists count number here is =
    let rest : List ℕ = drop (count + 1) order in
    let left : List (List (List ℕ)) = behind_each next lists in
    (ap (λ (o : List ℕ). texts_in_order o left) here ∙ order_none number rest left is, ap (λ (o : List ℕ). stop_in_order o left) here ∙ stop_none number rest left is)

-- the line in a place, and those behind it
here_is : (order : List ℕ) (count number : ℕ) → count < length order → number ≡ get_or order count 0 → drop count order ≡ number ∷ drop (count + 1) order
here_is order count number less is = drop_more order count 0 less ∙ ap (λ (k : ℕ). k ∷ drop (count + 1) order) (sym is)

-- the texts of a session are those that it left
pub left_at : (ended : List Ended) (number : ℕ) (d : Ended) → number < length ended → slice_index_or (texts_left ended) number [] ≡ (get_or ended number d).texts
left_at ended number d few = get_or-map (λ (x : Ended). x.texts) ended number d [] few

pub left_texts : (ended : List Ended) (number : ℕ) (e : Ended) → number < length ended → e ≡ get_or ended number e → slice_index_or (texts_left ended) number [] ≡ e.texts
left_texts ended number e few is = left_at ended number e few ∙ ap (λ (x : Ended). x.texts) (sym is)

pub left_why : (ended : List Ended) (number : ℕ) (e : Ended) → number < length ended → e ≡ get_or ended number e → why_of ended (Some number) ≡ e.why
left_why ended number e few is = ap why_at (slice_get-get_or ended number e few ∙ ap Some (sym is))

-- at first each session's number is 0
abbrev zeros : ℕ → List ℕ
zeros zero = []
zeros (suc n) = 0 ∷ zeros n

all_zeros : (n : ℕ) → All (λ k. k ≡ 0) (zeros n)
all_zeros zero = All-nil (λ (k : ℕ). k ≡ 0)
all_zeros (suc n) = All-cons (λ (k : ℕ). k ≡ 0) 0 (zeros n) refl (all_zeros n)

pub eight_zeros : All {X = ℕ} (λ k. k ≡ 0) (0 ∷ 0 ∷ 0 ∷ 0 ∷ 0 ∷ 0 ∷ 0 ∷ 0 ∷ [])
eight_zeros = all_zeros 8

pub small_zeros : (next : List ℕ) → All (λ n. n ≡ 0) next → (i : ℕ) → get_or next i 0 ≤ 0
small_zeros [] all i = omega arith
small_zeros (n ∷ next) all zero = omega (arith, all 0 n (omega arith))
small_zeros (n ∷ next) all (suc i) = small_zeros next (λ k d lt. all (suc k) d (omega (arith, lt))) i

-- none of the numbers is above the count, where each rises by one at most
pub small_next : (next : List ℕ) (number count : ℕ) (v : ℕ) → ((i : ℕ) → get_or next i 0 ≤ count) → v ≤ count + 1 → (i : ℕ) → get_or (set next number v) i 0 ≤ count + 1
small_next [] number count v small le i = omega arith
small_next (n ∷ next) zero count v small le zero = le
small_next (n ∷ next) zero count v small le (suc i) = omega (arith, small (suc i))
small_next (n ∷ next) (suc number) count v small le zero = omega (arith, small 0)
small_next (n ∷ next) (suc number) count v small le (suc i) = small_next next number count v (λ k. small (suc k)) le i

-- So many lines have a text, and what is behind them is what is left: their number, and where it stops.
pub record IsFront (order next : List ℕ) (lists : List (List (List ℕ))) (count : ℕ) : Type 0 where
  pub within : count ≤ length order
  pub many : count + length (texts_in_order (drop count order) (behind_each next lists)) ≡ length (texts_in_order order lists)
  pub stop : stop_in_order (drop count order) (behind_each next lists) ≡ stop_in_order order lists

pub front_none : (order next : List ℕ) (lists : List (List (List ℕ))) → All (λ n. n ≡ 0) next → IsFront order next lists 0
front_none order next lists zeros =
    let all = behind_none next lists zeros in
    let many : length (texts_in_order order (behind_each next lists)) ≡ length (texts_in_order order lists) = ap (λ (l : List (List (List ℕ))). length (texts_in_order order l)) all in
    record { within = omega arith; many = omega (arith, many); stop = ap (stop_in_order order) all }

pub front_next : (order next : List ℕ) (lists : List (List (List ℕ))) (count number : ℕ) → IsFront order next lists count → count < length order → number ≡ get_or order count 0
    → number < length lists → number < length next → get_or next number 0 < length (slice_index_or lists number []) → IsFront order (set next number (get_or next number 0 + 1)) lists (count + 1)
front_next order next lists count number front less is few room text =
    let next_is = next_some next lists number (get_or (slice_index_or lists number []) (get_or next number 0) []) few room text refl in
    let more = front_more order next lists count number (get_or (slice_index_or lists number []) (get_or next number 0) []) (here_is order count number less is) room next_is in
    let many = ap (λ (l : List (List ℕ)). length l) more.0 in
    record { within = omega arith; many = omega (arith, many, front.many); stop = sym more.1 ∙ front.stop }

-- the line behind them has none
pub front_ends : (order next : List ℕ) (lists : List (List (List ℕ))) (count number : ℕ) → IsFront order next lists count → count < length order → number ≡ get_or order count 0
    → number < length lists → number < length next → length (slice_index_or lists number []) ≤ get_or next number 0 → (length (texts_in_order order lists) ≡ count) × (stop_in_order order lists ≡ Some number)
front_ends order next lists count number front less is few room none =
    let ends = front_stop order next lists count number (here_is order count number less is) (next_none next lists number few room none) in
    let many = ap (λ (l : List (List ℕ)). length l) ends.0 in
    (omega (arith, many, front.many), sym front.stop ∙ ends.1)

-- So many lines have a text, which is written; each of the others has one too.
pub record IsWritten (order next : List ℕ) (lists : List (List (List ℕ))) (count : ℕ) (before now : Option (List ℕ)) : Type 0 where
  pub written : List (List ℕ)
  pub texts : texts_in_order order lists ≡ written ++ texts_in_order (drop count order) (behind_each next lists)
  pub many : length (texts_in_order (drop count order) (behind_each next lists)) ≡ length (drop count order)
  pub wrote : Appends before now (flat_map (λ text. text) written)

pub written_none : (order next : List ℕ) (lists : List (List (List ℕ))) (before : Option (List ℕ)) → All (λ n. n ≡ 0) next → length (texts_in_order order lists) ≡ length order
    → IsWritten order next lists 0 before before
written_none order next lists before zeros many =
    let all = ap (texts_in_order order) (behind_none next lists zeros) in
    record { written = []; texts = sym all; many = ap (λ (l : List (List ℕ)). length l) all ∙ many; wrote = Appends-nil before }

-- the next line has a text
next_has : (order next : List ℕ) (lists : List (List (List ℕ))) (number : ℕ) → number < length lists → number < length next
    → length (texts_in_order (number ∷ order) (behind_each next lists)) ≡ suc (length order) → length (slice_index_or lists number []) ≤ get_or next number 0 → ⊥
next_has order next lists number few room many none =
    let no_text = order_none number order (behind_each next lists) (next_none next lists number few room none) in
    let no_length = ap (λ (l : List (List ℕ)). length l) no_text in
    omega (arith, many, no_length)

pub written_within : (order next : List ℕ) (lists : List (List (List ℕ))) (count number : ℕ) (before now : Option (List ℕ)) → IsWritten order next lists count before now
    → count < length order → number ≡ get_or order count 0 → number < length lists → number < length next → get_or next number 0 < length (slice_index_or lists number [])
written_within order next lists count number before now so_far less is few room =
    let here = here_is order count number less is in
    let many : length (texts_in_order (number ∷ drop (count + 1) order) (behind_each next lists)) ≡ suc (length (drop (count + 1) order)) =
    subst (λ (o : List ℕ). length (texts_in_order o (behind_each next lists)) ≡ length o) here so_far.many in
    let some = next_has (drop (count + 1) order) next lists number few room many in
    omega (arith, some)

pub written_next : (order next : List ℕ) (lists : List (List (List ℕ))) (count number : ℕ) (text : List ℕ) (before middle now : Option (List ℕ)) → IsWritten order next lists count before middle
    → count < length order → number ≡ get_or order count 0 → number < length lists → number < length next → get_or next number 0 < length (slice_index_or lists number [])
    → text ≡ get_or (slice_index_or lists number []) (get_or next number 0) [] → Appends middle now text → IsWritten order (set next number (get_or next number 0 + 1)) lists (count + 1) before now
written_next order next lists count number text before middle now so_far less is few room within text_is wrote =
    let here = here_is order count number less is in
    let more = front_more order next lists count number text here room (next_some next lists number text few room within text_is) in
    let rest : List (List ℕ) = texts_in_order (drop (count + 1) order) (behind_each (set next number (get_or next number 0 + 1)) lists) in
    let lengths = ap (λ (l : List (List ℕ)). length l) more.0 in
    let places = ap (λ (o : List ℕ). length o) here in
    record {
      written = so_far.written ++ text ∷ [];
      texts = so_far.texts ∙ ap (λ (l : List (List ℕ)). so_far.written ++ l) more.0 ∙ sym (append_assoc so_far.written (text ∷ []) rest);
      many = omega (arith, so_far.many, lengths, places);
      wrote = subst (Appends before now) (one_text so_far.written text) (Appends-trans before middle now (flat_map (λ t. t) so_far.written) text so_far.wrote wrote);
    }
  where
    one_text : (texts : List (List ℕ)) (one : List ℕ) → flat_map (λ t. t) texts ++ one ≡ flat_map (λ t. t) (texts ++ one ∷ [])
    one_text texts one = sym (flat_map-append (λ (t : List ℕ). t) texts (one ∷ []) ∙ ap (λ (l : List ℕ). flat_map (λ t. t) texts ++ l) (append-nil one))

-- a front part of the next text was written
pub written_part : (order next : List ℕ) (lists : List (List (List ℕ))) (count number : ℕ) (text : List ℕ) (before middle now : Option (List ℕ)) → IsWritten order next lists count before middle
    → count < length order → number ≡ get_or order count 0 → number < length lists → number < length next → get_or next number 0 < length (slice_index_or lists number [])
    → text ≡ get_or (slice_index_or lists number []) (get_or next number 0) [] → (n : ℕ) × (n < length text) × Appends middle now (take n text)
    → (n : ℕ) × (n < length (flat_map (λ text. text) (texts_in_order order lists))) × Appends before now (take n (flat_map (λ text. text) (texts_in_order order lists)))
written_part order next lists count number text before middle now so_far less is few room within text_is (n, short, wrote) =
    let here = here_is order count number less is in
    let more = front_more order next lists count number text here room (next_some next lists number text few room within text_is) in
    let rest : List (List ℕ) = texts_in_order (drop (count + 1) order) (behind_each (set next number (get_or next number 0 + 1)) lists) in
    let first : List ℕ = flat_map (λ t. t) so_far.written in
    let behind : List ℕ = flat_map (λ t. t) rest in
    let texts : texts_in_order order lists ≡ so_far.written ++ text ∷ rest = so_far.texts ∙ ap (λ (l : List (List ℕ)). so_far.written ++ l) more.0 in
    let whole : flat_map (λ t. t) (texts_in_order order lists) ≡ first ++ (text ++ behind) =
    ap (λ (l : List (List ℕ)). flat_map (λ t. t) l) texts ∙ flat_map-append (λ (t : List ℕ). t) so_far.written (text ∷ rest) in
    let part : take (length first + n) (first ++ (text ++ behind)) ≡ first ++ take n text =
    take-append-add first (text ++ behind) n ∙ ap (λ (l : List ℕ). first ++ l) (take-append-le n text behind (omega (arith, short))) in
    let so_long : length first + n < length (first ++ (text ++ behind)) = omega (arith, short, length-append first (text ++ behind), length-append text behind) in
    subst (λ (w : List ℕ). (m : ℕ) × (m < length w) × Appends before now (take m w)) (sym whole)
    (length first + n, so_long, subst (Appends before now) (sym part) (Appends-trans before middle now first (take n text) so_far.wrote wrote))

-- what is so holds of an error
pub on_err : {A E : Type 0} (P : Type 0) (r : Result A E) → P → OnErr r P
on_err P (Ok x) p = tt
on_err P (Err e) p = p
