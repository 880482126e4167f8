-- The parts of the texts of tables and indexes, at the front of a text.
use Rattle.std.proofs.Common.{◌≡◌, ◌≢◌, ◌≤◌, ◌<◌, ◌+◌, ◌^◌, ℕ, Bool, true, false, List, ◌∷◌, ◌++◌, length, take, drop, get_or, refl, sym, ap, ◌∙◌, subst, length-append, arith}
use Rattle.std.proofs.lemmas.List.{length-take-le, take-append-drop}
use Rattle.im_octet.specs.Fields.{field2}
use Rattle.im_octet.proofs.FieldLemmas.{length-field2, same-field2}
use Rattle.im_sqltype.specs.declared.columns.ColumnType.{ColumnType}
use Rattle.im_sqltype.specs.declared.columns.ColumnType.TheVariants as types
use Rattle.im_sqlparse.specs.Formed.{IsName}
use Rattle.im_sqlmodel.specs.Tables.{IsTyped, type_code, limit_of}
use Rattle.im_catalog.specs.Fronts.{StandsFirst, NoneStandsFirst}
use Rattle.im_catalog.specs.Parts.{IsFlag, flag_text, FitsTwo, name_text, held_text, MayNotLimit, IsHeldBy, NoneIsHeldBy}
use Rattle.im_catalog.proofs.CutLemmas.{Cuts, same-fronts}

first : (m n : ℕ) (s t : List ℕ) → m ∷ s ≡ n ∷ t → m ≡ n
first m n s t e = ap (λ u. get_or u 0 0) e

behind : (m n : ℕ) (s t : List ℕ) → m ∷ s ≡ n ∷ t → s ≡ t
behind m n s t e = ap (λ u. drop 1 u) e

no-octet : (n : ℕ) (s text : List ℕ) → text ≡ n ∷ s → length text < 1 → ⊥
no-octet n s text e short = let same : length text ≡ length (n ∷ s) = ap length e in omega (arith, same, short)

-- ---- flags

pub flag-stands : (flag : Bool) (text rest : List ℕ) → text ≡ flag_text flag ++ rest → StandsFirst IsFlag flag_text text flag rest
flag-stands flag text rest e = record { is = tt; split = e }

pub flag-none_in_nothing : (text : List ℕ) → length text < 1 → NoneStandsFirst IsFlag flag_text text
flag-none_in_nothing text short = record { none = λ flag rest p e. no-octet _ rest text e short }

pub flag-none_at_other : (text : List ℕ) → 1 ≤ length text → get_or text 0 0 ≢ 0 → get_or text 0 0 ≢ 1 → NoneStandsFirst IsFlag flag_text text
flag-none_at_other text some h k = record { none = other }
  where
    other : (flag : Bool) (rest : List ℕ) → IsFlag flag → text ≡ flag_text flag ++ rest → ⊥
    other true rest p e = k (ap (λ u. get_or u 0 0) e)
    other false rest p e = h (ap (λ u. get_or u 0 0) e)

pub flag-cut : Cuts IsFlag flag_text
flag-cut true true a b p q e = (refl, behind 1 1 a b e)
flag-cut false false a b p q e = (refl, behind 0 0 a b e)
flag-cut true false a b p q e = absurd (let no : 1 ≡ 0 = first 1 0 a b e in omega (arith, no))
flag-cut false true a b p q e = absurd (let no : 0 ≡ 1 = first 0 1 a b e in omega (arith, no))

pub ruleset flags = (flag-stands, flag-none_in_nothing, flag-none_at_other)

-- ---- numbers

pub number-stands : (n : ℕ) (text rest : List ℕ) → n < 2 ^ 16 → text ≡ field2 n ++ rest → StandsFirst FitsTwo field2 text n rest
number-stands n text rest p e = record { is = p; split = e }

pub number-none : (text : List ℕ) → length text < 2 → NoneStandsFirst FitsTwo field2 text
number-none text short = record {
  none = λ n rest p e.
      let same : length text ≡ length (field2 n) + length rest = ap length e ∙ length-append (field2 n) rest in
      omega (arith, same, short, length-field2 n);
}

pub number-cut : Cuts FitsTwo field2
number-cut m n a b p q e =
    let parts = same-fronts (field2 m) (field2 n) a b (length-field2 m ∙ sym (length-field2 n)) e in
    (same-field2 m n p q parts.0, parts.1)

pub ruleset numbers = (number-stands, number-none)

-- ---- names

pub name-cut : Cuts IsName name_text
name-cut x y a b p q e = same-fronts x y a b (first (length x) (length y) (x ++ a) (y ++ b) e) (behind (length x) (length y) (x ++ a) (y ++ b) e)

pub name-none_in_nothing : (text : List ℕ) → length text < 1 → NoneStandsFirst IsName name_text text
name-none_in_nothing text short = record { none = λ name rest p e. no-octet (length name) (name ++ rest) text e short }

pub name-none_in_short : (text more : List ℕ) (n : ℕ) → text ≡ n ∷ more → length more < n → NoneStandsFirst IsName name_text text
name-none_in_short text more n e short = record {
  none = λ name rest p f.
      let here : n ≡ length name = first n (length name) more (name ++ rest) (sym e ∙ f) in
      let there : length more ≡ length name + length rest = ap length (behind n (length name) more (name ++ rest) (sym e ∙ f)) ∙ length-append name rest in
      omega (arith, here, there, short);
}

pub name-none_at_other : (text more front rest : List ℕ) (n : ℕ) → text ≡ n ∷ more → n ≤ length more → front ≡ take n more → rest ≡ drop n more
    → (IsName front → ⊥) → NoneStandsFirst IsName name_text text
name-none_at_other text more front rest n e within f g other = record {
  none = λ name others p h.
      let here : n ≡ length name = first n (length name) more (name ++ others) (sym e ∙ h) in
      let long : length front ≡ n = ap length f ∙ length-take-le n more within in
      let whole : front ++ rest ≡ more = (λ i. f i ++ g i) ∙ take-append-drop n more in
      let same = same-fronts front name rest others (long ∙ here) (whole ∙ behind n (length name) more (name ++ others) (sym e ∙ h)) in
      other (subst IsName (sym same.0) p);
}

pub name-stands : (text more front rest : List ℕ) (n : ℕ) → text ≡ n ∷ more → n ≤ length more → front ≡ take n more → rest ≡ drop n more
    → IsName front → StandsFirst IsName name_text text front rest
name-stands text more front rest n e within f g is =
    let long : length front ≡ n = ap length f ∙ length-take-le n more within in
    let whole : front ++ rest ≡ more = (λ i. f i ++ g i) ∙ take-append-drop n more in
    record { is = is; split = e ∙ (λ i. sym long i ∷ sym whole i) }

pub ruleset names = (name-none_in_nothing, name-none_in_short, name-none_at_other, name-stands)

-- ---- types

pub none-integer : (code n : ℕ) → code ≡ 1 → n ≢ 0 → NoneIsHeldBy code n
none-integer code n e h = record { none = other }
  where
    other : (holds : ColumnType) → IsHeldBy code n holds → ⊥
    other types.Integer is = h is.says_limit
    other types.Boolean is = let no : code ≡ 2 = is.says_code in omega (arith, e, no)
    other (types.Varchar limit) is = let no : code ≡ 3 = is.says_code in omega (arith, e, no)
    other (types.Blob limit) is = let no : code ≡ 4 = is.says_code in omega (arith, e, no)

pub none-boolean : (code n : ℕ) → code ≡ 2 → n ≢ 0 → NoneIsHeldBy code n
none-boolean code n e h = record { none = other }
  where
    other : (holds : ColumnType) → IsHeldBy code n holds → ⊥
    other types.Integer is = let no : code ≡ 1 = is.says_code in omega (arith, e, no)
    other types.Boolean is = h is.says_limit
    other (types.Varchar limit) is = let no : code ≡ 3 = is.says_code in omega (arith, e, no)
    other (types.Blob limit) is = let no : code ≡ 4 = is.says_code in omega (arith, e, no)

pub none-varchar : (code n : ℕ) → code ≡ 3 → MayNotLimit n → NoneIsHeldBy code n
none-varchar code n e h = record { none = other }
  where
    other : (holds : ColumnType) → IsHeldBy code n holds → ⊥
    other types.Integer is = let no : code ≡ 1 = is.says_code in omega (arith, e, no)
    other types.Boolean is = let no : code ≡ 2 = is.says_code in omega (arith, e, no)
    other (types.Varchar limit) is =
        let same : n ≡ limit = is.says_limit in
        let least : 1 ≤ limit = is.is.0 in
        let most : limit ≤ 1024 = is.is.1 in
        h (let l : 1 ≤ n = omega (arith, same, least) in l) (let l : n ≤ 1024 = omega (arith, same, most) in l)
    other (types.Blob limit) is = let no : code ≡ 4 = is.says_code in omega (arith, e, no)

pub none-blob : (code n : ℕ) → code ≡ 4 → MayNotLimit n → NoneIsHeldBy code n
none-blob code n e h = record { none = other }
  where
    other : (holds : ColumnType) → IsHeldBy code n holds → ⊥
    other types.Integer is = let no : code ≡ 1 = is.says_code in omega (arith, e, no)
    other types.Boolean is = let no : code ≡ 2 = is.says_code in omega (arith, e, no)
    other (types.Varchar limit) is = let no : code ≡ 3 = is.says_code in omega (arith, e, no)
    other (types.Blob limit) is =
        let same : n ≡ limit = is.says_limit in
        let least : 1 ≤ limit = is.is.0 in
        let most : limit ≤ 1024 = is.is.1 in
        h (let l : 1 ≤ n = omega (arith, same, least) in l) (let l : n ≤ 1024 = omega (arith, same, most) in l)

pub none-code : (code n : ℕ) → code ≢ 1 → code ≢ 2 → code ≢ 3 → code ≢ 4 → NoneIsHeldBy code n
none-code code n a b c d = record { none = other }
  where
    other : (holds : ColumnType) → IsHeldBy code n holds → ⊥
    other types.Integer is = a is.says_code
    other types.Boolean is = b is.says_code
    other (types.Varchar limit) is = c is.says_code
    other (types.Blob limit) is = d is.says_code

pub held-by : (code n : ℕ) (holds : ColumnType) → IsTyped holds → code ≡ type_code holds → n ≡ limit_of holds → IsHeldBy code n holds
held-by code n holds is c l = record { is = is; says_code = c; says_limit = l }

pub ruleset kinds = (none-integer, none-boolean, none-varchar, none-blob, none-code, held-by)

limit-number : (holds : ColumnType) → IsTyped holds → FitsTwo (limit_of holds)
limit-number types.Integer is = omega arith
limit-number types.Boolean is = omega arith
limit-number (types.Varchar limit) is = let l : limit ≤ 1024 = is.1 in omega (arith, l)
limit-number (types.Blob limit) is = let l : limit ≤ 1024 = is.1 in omega (arith, l)

same-held : (x y : ColumnType) → IsTyped x → IsTyped y → type_code x ≡ type_code y → limit_of x ≡ limit_of y → x ≡ y
same-held types.Integer types.Integer p q c l = refl
same-held types.Boolean types.Boolean p q c l = refl
same-held (types.Varchar m) (types.Varchar n) p q c l = ap types.Varchar l
same-held (types.Blob m) (types.Blob n) p q c l = ap types.Blob l
same-held types.Integer types.Boolean p q c l = absurd (let no : 1 ≡ 2 = c in omega (arith, no))
same-held types.Integer (types.Varchar n) p q c l = absurd (let no : 1 ≡ 3 = c in omega (arith, no))
same-held types.Integer (types.Blob n) p q c l = absurd (let no : 1 ≡ 4 = c in omega (arith, no))
same-held types.Boolean types.Integer p q c l = absurd (let no : 2 ≡ 1 = c in omega (arith, no))
same-held types.Boolean (types.Varchar n) p q c l = absurd (let no : 2 ≡ 3 = c in omega (arith, no))
same-held types.Boolean (types.Blob n) p q c l = absurd (let no : 2 ≡ 4 = c in omega (arith, no))
same-held (types.Varchar m) types.Integer p q c l = absurd (let no : 3 ≡ 1 = c in omega (arith, no))
same-held (types.Varchar m) types.Boolean p q c l = absurd (let no : 3 ≡ 2 = c in omega (arith, no))
same-held (types.Varchar m) (types.Blob n) p q c l = absurd (let no : 3 ≡ 4 = c in omega (arith, no))
same-held (types.Blob m) types.Integer p q c l = absurd (let no : 4 ≡ 1 = c in omega (arith, no))
same-held (types.Blob m) types.Boolean p q c l = absurd (let no : 4 ≡ 2 = c in omega (arith, no))
same-held (types.Blob m) (types.Varchar n) p q c l = absurd (let no : 4 ≡ 3 = c in omega (arith, no))

pub held-cut : Cuts IsTyped held_text
held-cut x y a b p q e =
    let more = number-cut (limit_of x) (limit_of y) a b (limit-number x p) (limit-number y q)
    (behind (type_code x) (type_code y) (field2 (limit_of x) ++ a) (field2 (limit_of y) ++ b) e) in
    (same-held x y p q (first (type_code x) (type_code y) (field2 (limit_of x) ++ a) (field2 (limit_of y) ++ b) e) more.0, more.1)

pub held-none_in_nothing : (text : List ℕ) → length text < 1 → NoneStandsFirst IsTyped held_text text
held-none_in_nothing text short = record { none = λ holds rest p e. no-octet (type_code holds) (field2 (limit_of holds) ++ rest) text e short }

pub held-none_without_number : (text more : List ℕ) (code : ℕ) → text ≡ code ∷ more → NoneStandsFirst FitsTwo field2 more → NoneStandsFirst IsTyped held_text text
held-none_without_number text more code e absent = record {
  none = λ holds rest p f.
      absent.none (limit_of holds) rest (limit-number holds p) (behind code (type_code holds) more (field2 (limit_of holds) ++ rest) (sym e ∙ f));
}

pub held-none_at_other : (text more others : List ℕ) (code n : ℕ) → text ≡ code ∷ more → StandsFirst FitsTwo field2 more n others → NoneIsHeldBy code n → NoneStandsFirst IsTyped held_text text
held-none_at_other text more others code n e number absent = record {
  none = λ holds rest p f.
      let same = number-cut n (limit_of holds) others rest number.is (limit-number holds p)
      (sym number.split ∙ behind code (type_code holds) more (field2 (limit_of holds) ++ rest) (sym e ∙ f)) in
      absent.none holds (held-by code n holds p (first code (type_code holds) more (field2 (limit_of holds) ++ rest) (sym e ∙ f)) same.0);
}

pub held-stands : (text more rest : List ℕ) (code n : ℕ) (holds : ColumnType) → text ≡ code ∷ more → StandsFirst FitsTwo field2 more n rest → IsHeldBy code n holds
    → StandsFirst IsTyped held_text text holds rest
held-stands text more rest code n holds e number is = record {
  is = is.is;
  split = e ∙ ap (λ s. code ∷ s) number.split ∙ (λ i. is.says_code i ∷ field2 (is.says_limit i) ++ rest);
}

pub ruleset held = (held-none_in_nothing, held-none_without_number, held-none_at_other, held-stands)
