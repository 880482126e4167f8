-- Words that `gen` takes have one value, a number of lines; and words of its form are taken.
use Rattle.std.proofs.Common.{◌≡◌, ◌∙◌, ◌<◌, ◌≤◌, ◌^◌, ◌&&◌, ◌==◌, ℕ, Bool, true, false, cond, zero, suc, List, [], ◌∷◌, ◌++◌, length, Option, Some, None, IsSome, is_some, refl, sym, ap, subst, codes, slice_index, arith, rules, ne_eqb}
use Rattle.std.proofs.lemmas.Fmt.{decimal_is_IsNumeral}
use Rattle.std.specs.Fmt.{decimal}
use Rattle.std.specs.List.{fold}
use Rattle.std.specs.Str.{bytes_eq, chars}
use Rattle.std.specs.Str.Parse.{IsNumeral, digits_value, starts_with_minus, without_leading_plus}
use Rattle.std.specs.Option.{option_and_then, option_map, option_map_or}
use Rattle.std.specs.Prelude.{drop, encode_utf8, pos, slice_get, unwrap_or}
use Rattle.clap.specs.Words.{Row, Rule, Text, fault_of, subcommand_of}
use Rattle.clap.specs.Faults.{bundle_fault, bundle_step_fault, check_fault, defaults_fault, flag_word_fault, flags_fault, level_fault, other_fault, settle_fault, step_fault, turn_fault, use_fault, walk_fault, word_fault}
use Rattle.clap.specs.Kinds.{or_else, value_kinds}
use Rattle.clap.specs.Lexer.{long_of, short_of, short_of_rest, without_minus}
use Rattle.clap.specs.Values.{IsSignedIn, IsUnsignedIn}
use Rattle.clap.specs.ValueTests.{accepts, is_unsigned_in}
use Rattle.clap.specs.Walk.{Held, Outcome, Step, Waiting, Walk, after_flag, after_step, bundle, bundle_met, bundle_step, done, has_row, idle, is_pending, long_or_other, next, nothing_held, option, option_word, plain, plain_word, positional, reading_by, refused, rows_after, settled, settled_rows, short_or_plain, subcommand, subcommand_met, subcommand_or_other, takes_several, to_positional, trailing, used, used_by_id, value, waits, walk, walk_from, walked, walked_from, word_met}
use Rattle.clap.specs.declared.builder.value_parser.ValueParser.TheVariants.{Signed, Unsigned}
use Rattle.clap.proofs.OnLiterals.{clap_on_literals}
use Rattle.clap.proofs.ValueTestLemmas.{Accepts-accepts, accepts-Accepts}
use Rattle.std.proofs.lemmas.Int.{ints}
use Rattle.std.proofs.lemmas.Str.Parse.{digit_at, digit_from_value}
use Rattle.im_words.specs.Command.{im_command}
use Rattle.im_words.specs.Form.{IsGenForm}
use Rattle.im_words.specs.Meaning.{AsksGen, asked_of, gen_of, lines_of_text}
use Rattle.im_words.specs.declared.Request.TheVariants.{Gen}
use Rattle.im_words.proofs.BuiltRun.{gen_built, lines_built}
use Rattle.im_words.proofs.UseLemmas.{IsUse, added, either_way, no_faults, use_is, use_row}

-- the rules of `gen`
abbrev pub gen_rules : List Rule
gen_rules = lines_built ∷ []

-- the rule that passes its test
abbrev only_rule : Bool → Option Rule
only_rule lines = cond lines (Some lines_built) None

-- each row is that of one use of the value
abbrev pub AreLines : List Row → Type 0
AreLines [] = Unit {0}
AreLines (r ∷ rs) = IsUse lines_built r × AreLines rs

more_lines : (rows : List Row) (r : Row) → AreLines rows → IsUse lines_built r → AreLines (rows ++ r ∷ [])
more_lines [] r all one = (one, tt)
more_lines (x ∷ xs) r all one = (all.0, more_lines xs r all.1 one)

lines_used : (values : List Text) (rows : List Row) → AreLines rows → use_fault false lines_built values rows ≡ [] → AreLines (used lines_built values rows)
lines_used values rows all e =
    let one = use_is (Signed (pos 0) (pos 100000)) (codes "lines") values rows e in
    let r = use_row (codes "lines") (reading_by lines_built) one.0 in
    let is : used lines_built values rows ≡ rows ++ r ∷ [] =
    ap (λ (vs : List Text). used lines_built vs rows) one.1 ∙ added (codes "lines") (reading_by lines_built) one.0 rows one.2 in
    subst AreLines (sym is) (more_lines rows r all (one.0, refl, one.3))

-- ---- the walk

settled_lines : (h : Held) → AreLines h.rows → settle_fault gen_rules false h ≡ [] → AreLines (settled gen_rules h).rows
settled_lines h all e = go h.pending e
  where
    pick : (values : List Text) (a : Bool) → option_map_or (λ a. use_fault false a values h.rows) (only_rule a) [] ≡ []
        → AreLines (used_by_id (only_rule a) values h.rows)
    pick values true e = lines_used values h.rows all e
    pick values false e = all

    go : (p : Option (Text × List Text))
        → option_map_or (λ (p : Text × List Text). option_map_or (λ a. use_fault false a p.1 h.rows) (only_rule (bytes_eq (codes "lines") p.0)) []) p [] ≡ []
        → AreLines (settled_rows gen_rules p h.rows)
    go None e = all
    go (Some p) e = pick p.1 (bytes_eq (codes "lines") p.0) e

bundle_lines : (k : ℕ) (flags : Text) (skip : ℕ) (so_far : Outcome) (h : Held) → AreLines h.rows → flags_fault gen_rules false k flags skip h ≡ []
    → AreLines (bundle_met gen_rules k flags skip so_far h).0.rows
unfolding bundle_met flags_fault
bundle_lines zero flags skip so_far h all e = all
bundle_lines (suc k) flags skip so_far h all e = go (λ f s. bundle_lines k f s so_far h all) (slice_get (chars flags) 0) skip e
  where
    go : ((f : Text) (s : ℕ) → flags_fault gen_rules false k f s h ≡ [] → AreLines (bundle_met gen_rules k f s so_far h).0.rows)
        → (x : Option ℕ) (s : ℕ) → bundle_step_fault gen_rules false x flags s h (flags_fault gen_rules false k) ≡ []
        → AreLines (bundle_step gen_rules x flags s so_far h (bundle_met gen_rules k)).0.rows
    go rest None s e = all
    go rest (Some x) zero e = all
    go rest (Some x) (suc s) e = rest (drop (length (encode_utf8 x)) flags) s e

plain_lines : (waiting : Waiting) (word : Text) (h : Held) → AreLines h.rows → AreLines (plain_word gen_rules waiting word h).0.rows
plain_lines idle word h all = all
plain_lines positional word h all = all
plain_lines (option id) word h all = go (bytes_eq (codes "lines") id)
  where
    go : (a : Bool) → AreLines (option_word (only_rule a) id word h).0.rows
    go true = all
    go false = all

flag_lines : (waiting : Waiting) (word : Text) (h : Held) (o : Outcome) → AreLines h.rows → AreLines (after_flag gen_rules waiting word h o).0.rows
flag_lines waiting word h done all = all
flag_lines waiting word h (waits id) all = all
flag_lines waiting word h plain all = plain_lines waiting word h all
flag_lines waiting word h refused all = plain_lines waiting word h all

word_lines : (is_trailing : Bool) (waiting : Waiting) (position : ℕ) (word : Text) (h : Held) → AreLines h.rows
    → word_fault gen_built [] is_trailing waiting word h ≡ [] → AreLines (word_met gen_rules [] is_trailing waiting position word h).0.rows
word_lines true waiting position word h all e = all
word_lines false waiting position word h all e = met (subcommand_met [] waiting word) e
  where
    short : (o : Option Text) → option_map_or (λ flags. bundle_fault gen_rules false flags h) o [] ≡ [] → AreLines (short_or_plain gen_rules waiting word o h).0.rows
    short None e = plain_lines waiting word h all
    short (Some flags) e =
        flag_lines waiting word (bundle gen_rules flags h).0 (bundle gen_rules flags h).1 (bundle_lines (length flags) flags h.skip plain (record h { skip = 0 }) all e)

    -- it has no option with a long name
    long : (o : Option (Text × Option Text)) → flag_word_fault gen_rules false o word h ≡ [] → AreLines (long_or_other gen_rules waiting word o h).0.rows
    long None e = short (short_of word) e
    long (Some p) e = cc

    other : (b : Bool) → cond b [] (flag_word_fault gen_rules false (long_of word) word h) ≡ []
        → AreLines (cond b (h, trailing position) (long_or_other gen_rules waiting word (long_of word) h)).0.rows
    other true e = all
    other false e = long (long_of word) e

    met : (o : Option Text) → other_fault gen_built o word h ≡ [] → AreLines (subcommand_or_other gen_rules o waiting position word h).0.rows
    met (Some name) e = all
    met None e = other (bytes_eq word (45 ∷ 45 ∷ [])) e

-- a word that is a value waits as the first positional's, where what waited before has passed
value_lines : (word : Text) (w : Walk) (h : Held) → AreLines h.rows → step_fault gen_built w.position h value ≡ [] → AreLines (after_step gen_rules word w h value).held.rows
value_lines word w h all e = at (1 == w.position) e
  where
    pending : (b : Bool) → cond (b && false) [] (settle_fault gen_rules false h) ≡ [] → AreLines (cond (b && false) h (settled gen_rules h)).rows
    pending true e = settled_lines h all e
    pending false e = settled_lines h all e

    at : (b : Bool) → option_map_or (λ a. cond (is_pending a h.pending && takes_several a) [] (settle_fault gen_rules false h)) (only_rule b) (step_fault gen_built 0 h value) ≡ []
        → AreLines (to_positional gen_rules (only_rule b) word w h).held.rows
    at true e = pending (is_pending lines_built h.pending) e
    at false e = cc

step_lines : (word : Text) (w : Walk) (h : Held) (step : Step) → AreLines h.rows → step_fault gen_built w.position h step ≡ [] → AreLines (after_step gen_rules word w h step).held.rows
step_lines word w h (next waiting) all e = all
step_lines word w h (trailing position) all e = all
step_lines word w h (subcommand name) all e = all
step_lines word w h value all e = value_lines word w h all e

turn_lines : (w : Walk) (word : Text) → AreLines w.held.rows → turn_fault gen_built [] w word ≡ [] → AreLines (walked gen_rules [] w word).held.rows
unfolding walked
turn_lines w word all e = go w.stopped e
  where
    met : Held × Step
    met = word_met gen_rules [] w.is_trailing w.waiting w.position word w.held

    go : (stopped : Option (Text × List Text))
        → cond (is_some stopped) [] (or_else (word_fault gen_built [] w.is_trailing w.waiting word w.held) (step_fault gen_built w.position met.0 met.1)) ≡ []
        → AreLines (walked_from gen_rules [] stopped w word).held.rows
    go (Some p) e = all
    go None e =
        let parts = no_faults (word_fault gen_built [] w.is_trailing w.waiting word w.held) (step_fault gen_built w.position met.0 met.1) e in
        step_lines word w met.0 met.1 (word_lines w.is_trailing w.waiting w.position word w.held all parts.0) parts.1

walk_lines : (w : Walk) (words : List Text) → AreLines w.held.rows → walk_fault gen_built [] w words ≡ [] → AreLines (fold (walked gen_rules []) w words).held.rows
unfolding walk_fault
walk_lines w [] all e = all
walk_lines w (word ∷ words) all e =
    let parts = no_faults (turn_fault gen_built [] w word) (walk_fault gen_built [] (walked gen_rules [] w word) words) e in
    walk_lines (walked gen_rules [] w word) words (turn_lines w word all parts.0) parts.1

-- ---- after the walk

without_minus-cond : (v : Text) → without_minus v ≡ cond (starts_with_minus v) (drop 1 v) v
without_minus-cond [] = refl
without_minus-cond (x ∷ xs) = go (x == 45)
  where
    go : (b : Bool) → unwrap_or (cond b (Some xs) None) (x ∷ xs) ≡ cond b xs (x ∷ xs)
    go true = refl
    go false = refl

no_plus : (ds : Text) → IsNumeral 10 ds → without_leading_plus ds ≡ ds
no_plus [] h = refl
no_plus (d ∷ ds) h =
    let plus : (d == 43) ≡ false = ne_eqb _ _ (λ e. omega (arith, digit_from_value d h.1.0)) in
    ap (λ (b : Bool). drop (cond b 1 0) (d ∷ ds)) plus

-- a number that passes from 0 to 100,000 has no minus, but before a zero
number_read : (v : Text) → IsSignedIn (pos 0) (pos 100000) v → IsUnsignedIn 0 100000 (without_minus v)
number_read v passed = subst (IsUnsignedIn 0 100000) (sym (without_minus-cond v)) (go (starts_with_minus v) refl)
  where
    Passes : Text → Type 0
    Passes ds = IsNumeral 10 ds × (digits_value 10 ds < 2 ^ 64) × (0 ≤ digits_value 10 ds) × (digits_value 10 ds ≤ 100000)

    go : (b : Bool) → starts_with_minus v ≡ b → IsUnsignedIn 0 100000 (cond b (drop 1 v) v)
    go true minus =
        let low_ok = rw minus at passed.2 in
        let numeral : IsNumeral 10 (drop 1 v) = rw minus at passed.0 in
        let few : digits_value 10 (drop 1 v) ≤ 100000 = omega (arith, ints) in
        subst Passes (sym (no_plus (drop 1 v) numeral)) (numeral, omega arith, omega arith, few)
    go false minus =
        let high_ok = rw minus at passed.3 in
        let numeral : IsNumeral 10 (without_leading_plus v) = rw minus at passed.0 in
        let few : digits_value 10 (without_leading_plus v) ≤ 100000 = omega (arith, ints) in
        (numeral, omega arith, omega arith, few)

lines_read : (v : Text) → accepts false (Signed (pos 0) (pos 100000)) v ≡ true → is_unsigned_in 0 100000 (without_minus v) ≡ true
lines_read v e = Accepts-accepts false (Unsigned 0 100000) (without_minus v) (number_read v (accepts-Accepts false (Signed (pos 0) (pos 100000)) v e))

some_lines : (b : Bool) (n : ℕ) → b ≡ true → IsSome (option_map (λ m. Gen m) (cond b (Some n) None))
some_lines true n e = refl
some_lines false n e = cc

-- a row that is there asks for a script
first_lines : (rows : List Row) → AreLines rows → has_row (codes "lines") rows ≡ true → IsSome (gen_of rows)
first_lines [] all there = cc
first_lines (r ∷ rs) all there = subst (λ (x : Row). IsSome (gen_of (x ∷ rs))) (sym all.0.1)
    (some_lines (is_unsigned_in 0 100000 (without_minus all.0.0)) (digits_value 10 (without_leading_plus (without_minus all.0.0))) (lines_read all.0.0 all.0.2))

-- the value is required, so words without it aren't taken
is_there : (rows : List Row) → AreLines rows → check_fault gen_built rows false ≡ [] → has_row (codes "lines") rows ≡ true
is_there [] all e = cc
is_there (r ∷ rs) all e = subst (λ (x : Row). has_row (codes "lines") (x ∷ rs) ≡ true) (sym all.0.1) refl

-- words that `gen` takes ask for a script
pub gen_asked : (words : List Text) → level_fault gen_built [] nothing_held words false [] ≡ [] → IsSome (gen_of (rows_after gen_rules [] words))
gen_asked words e =
    let end = (walk gen_rules [] nothing_held words).held in
    let rows = (settled gen_rules end).rows in
    let walked_part = no_faults (walk_fault gen_built [] (walk_from nothing_held) words)
    (or_else (settle_fault gen_rules false end) (or_else (defaults_fault rows gen_rules) (check_fault gen_built (rows_after gen_rules [] words) false))) e in
    let settled_part = no_faults (settle_fault gen_rules false end) (or_else (defaults_fault rows gen_rules) (check_fault gen_built (rows_after gen_rules [] words) false)) walked_part.1 in
    let checked = (no_faults (defaults_fault rows gen_rules) (check_fault gen_built (rows_after gen_rules [] words) false) settled_part.1).1 in
    let kept : rows_after gen_rules [] words ≡ rows = either_way (has_row (codes "lines") rows) rows in
    let uses : AreLines (rows_after gen_rules [] words) = subst AreLines (sym kept) (settled_lines end (walk_lines (walk_from nothing_held) words tt walked_part.0) settled_part.0) in
    first_lines (rows_after gen_rules [] words) uses (is_there (rows_after gen_rules [] words) uses checked)

-- ---- words of the form

-- clap takes the words, and they ask for this script
pub record MeansGen (words : List Text) (n : ℕ) : Type 0 where
  pub faultless : fault_of im_command words ≡ []
  pub asked : asked_of (subcommand_of im_command words) ≡ Some (Gen n)

-- a word that doesn't begin with a hyphen is no short flag
no-short : (x : ℕ) (xs : Text) → (x == 45) ≡ false → short_of (x ∷ xs) ≡ None
no-short x xs minus = ap (λ (b : Bool). option_and_then short_of_rest (cond b (Some xs) None)) minus

no-kinds : {X : Type 0} (passes : Bool) (kinds : List X) → passes ≡ true → cond passes [] kinds ≡ []
no-kinds true kinds e = refl
no-kinds false kinds e = cc

-- so it is where the value doesn't begin with a hyphen, passes, and says the number
gen_word : (name : Text) (x : ℕ) (xs : Text) (n : ℕ) → (x == 45) ≡ false → accepts false (Signed (pos 0) (pos 100000)) (x ∷ xs) ≡ true
    → lines_of_text (without_minus (x ∷ xs)) ≡ Some n → MeansGen (name ∷ codes "gen" ∷ (x ∷ xs) ∷ []) n
unfolding clap_on_literals
gen_word name x xs n minus passes says =
    let short = no-short x xs minus in
    let fits : value_kinds false (Signed (pos 0) (pos 100000)) (x ∷ xs) ≡ [] =
    no-kinds (accepts false (Signed (pos 0) (pos 100000)) (x ∷ xs)) _ passes in
    record {
      faultless = rw (minus, short, fits) refl;
      asked = rw (minus, short) (ap (option_map (λ m. Gen m)) says);
    }

gen_text : (name text : Text) (n : ℕ) → 0 < length text → (slice_index text 0 == 45) ≡ false → accepts false (Signed (pos 0) (pos 100000)) text ≡ true
    → lines_of_text (without_minus text) ≡ Some n → MeansGen (name ∷ codes "gen" ∷ text ∷ []) n
gen_text name [] n some minus passes says = absurd (omega arith)
gen_text name (x ∷ xs) n some minus passes says = gen_word name x xs n minus passes says

-- a text of digits says the number that they are the digits of
says_so : (text : Text) (n : ℕ) → IsNumeral 10 text → starts_with_minus text ≡ false → is_unsigned_in 0 100000 (without_minus text) ≡ true
    → digits_value 10 text ≡ n → lines_of_text (without_minus text) ≡ Some n
says_so text n numeral minus passes same =
    let bare : without_minus text ≡ text = without_minus-cond text ∙ ap (λ (b : Bool). cond b (drop 1 text) text) minus in
    ap (λ b. cond b (Some (digits_value 10 (without_leading_plus (without_minus text)))) None) passes
    ∙ ap (λ (ds : Text). Some (digits_value 10 ds)) (ap without_leading_plus bare ∙ no_plus text numeral)
    ∙ ap (λ (m : ℕ). Some m) same

gen_alone : (name : Text) (n : ℕ) → n ≤ 100000 → MeansGen (name ∷ codes "gen" ∷ decimal n ∷ []) n
gen_alone name n few =
    let fits : n < 2 ^ 64 = omega arith in
    let read = decimal_is_IsNumeral n fits in
    let first = digit_at (decimal n) 0 read.0.1 read.0.0 in
    let minus : (slice_index (decimal n) 0 == 45) ≡ false = ne_eqb _ _ (λ e. omega (arith, first)) in
    let plus : (slice_index (decimal n) 0 == 43) ≡ false = ne_eqb _ _ (λ e. omega (arith, first)) in
    let signed : IsSignedIn (pos 0) (pos 100000) (decimal n) = rw (minus, plus, read.1) (read.0, search rules, search rules, search rules) in
    let passes : accepts false (Signed (pos 0) (pos 100000)) (decimal n) ≡ true = Accepts-accepts false (Signed (pos 0) (pos 100000)) (decimal n) signed in
    let unsigned : is_unsigned_in 0 100000 (without_minus (decimal n)) ≡ true = lines_read (decimal n) passes in
    gen_text name (decimal n) n read.0.0 minus passes (says_so (decimal n) n read.0 minus unsigned read.1)

-- words of the form are taken, and ask for the script that they write
pub gen_means : (words : List Text) (n : ℕ) → IsGenForm words n → MeansGen words n
gen_means words n form = subst (λ (ws : List Text). MeansGen ws n) (sym form.are) (gen_alone form.name n form.few)

pub gen_asks_so : (words : List Text) (n : ℕ) → IsGenForm words n → (asks : AsksGen words) × (asks.0 ≡ n)
gen_asks_so words n form = ((n, (gen_means words n form).asked), refl)
