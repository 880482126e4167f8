-- In words that `run` takes, each value that is kept has passed its parser.
use Rattle.std.proofs.Common.{◌≡◌, ◌∙◌, ◌⊎◌, ◌||◌, ◌&&◌, ◌==◌, ℕ, Bool, true, false, cond, zero, suc, List, [], ◌∷◌, ◌++◌, length, Option, Some, None, is_some, refl, sym, ap, subst, codes, inl, inr, append-nil, arith, eqb-true}
use Rattle.std.specs.List.{fold}
use Rattle.std.specs.Str.{bytes_eq, chars}
use Rattle.std.specs.Option.{option_map_or}
use Rattle.std.specs.Prelude.{encode_utf8, slice_get, drop}
use Rattle.clap.specs.Words.{Row, Rule, Shape, Text}
use Rattle.clap.specs.Lexer.{long_of, short_of}
use Rattle.clap.specs.Walk.{Held, Outcome, Step, Waiting, Walk, after_flag, after_step, arg_by_id, arg_by_long, at_row, bundle, bundle_met, bundle_step, done, has_row, idle, long_met, long_or_other, more_values, next, nothing_held, option, option_met, option_word, plain, plain_word, positional, reading_by, refused, rows_after, settled, settled_rows, short_or_plain, subcommand, subcommand_met, subcommand_or_other, trailing, used, used_by_id, value, values_or_missing, waits, walk, walk_from, walked, walked_from, with_default, with_values, without, word_met}
use Rattle.clap.specs.Values.{refused_kind}
use Rattle.clap.specs.declared.error.kind.ErrorKind.{ErrorKind}
use Rattle.clap.specs.declared.error.kind.ErrorKind.TheVariants.{ArgumentConflict, InvalidValue, WrongNumberOfValues}
use Rattle.clap.specs.declared.builder.value_parser.ValueParser.TheVariants.{Names, Signed}
use Rattle.std.specs.Prelude.{pos}
use Rattle.clap.specs.Kinds.{Kinds, or_else, range_kinds, values_kinds}
use Rattle.clap.specs.Faults.{bundle_fault, bundle_step_fault, check_fault, defaults_fault, flag_word_fault, flags_fault, level_fault, long_fault, option_fault, other_fault, repeat_fault, settle_fault, step_fault, turn_fault, use_fault, walk_fault, word_fault}
use Rattle.clap.specs.Takes.{value_passes}
use Rattle.clap.specs.ValueTests.{accepts}
use Rattle.clap.specs.declared.builder.value_parser.Reading.{Reading}
use Rattle.clap.specs.declared.builder.value_parser.ValueParser.{ValueParser}
use Rattle.clap.specs.declared.parser.matches.ValueSource.TheVariants.{CommandLine}
use Rattle.im_words.specs.Command.{link_names}
use Rattle.im_words.proofs.BuiltRun.{first_option, link_built, logs_built, rules_built, run_built}

-- the rules of `run`
abbrev pub rules : List Rule
rules = rules_built link_names

-- its shape
abbrev pub shape : Shape
shape = run_built link_names

-- where two steps have no fault, neither has
pub no_faults : (a b : Kinds) → or_else a b ≡ [] → (a ≡ []) × (b ≡ [])
no_faults [] b e = (refl, e)
no_faults (k ∷ ks) b e = cc

-- ---- one use

-- the row of a use of an option with one value
abbrev pub use_row : Text → Reading → Text → Row
use_row id how v = record { id = id; values = v ∷ []; count = None; source = Some CommandLine; reading = how }

at_row-missing : (id : Text) (change : Row → List Row) (missing rows : List Row) → has_row id rows ≡ false → at_row id change missing rows ≡ rows ++ missing
at_row-missing id change missing [] e = refl
at_row-missing id change missing (r ∷ rs) e = go (bytes_eq r.id id) e (at_row-missing id change missing rs)
  where
    go : (b : Bool) → (b || has_row id rs) ≡ false → (has_row id rs ≡ false → at_row id change missing rs ≡ rs ++ missing)
        → cond b (change r ++ rs) (r ∷ at_row id change missing rs) ≡ r ∷ (rs ++ missing)
    go true e rest = cc
    go false e rest = ap (λ (rows : List Row). r ∷ rows) (rest e)

pub added : (id : Text) (how : Reading) (v : Text) (rows : List Row) → has_row id rows ≡ false
    → with_values id how CommandLine (v ∷ []) (without id rows) ≡ rows ++ use_row id how v ∷ []
added id how v rows e =
    let gone : without id rows ≡ rows = at_row-missing id (λ _. []) [] rows e ∙ append-nil rows in
    ap (with_values id how CommandLine (v ∷ [])) gone ∙ at_row-missing id (more_values CommandLine (v ∷ [])) (use_row id how v ∷ []) rows e

not_repeated : (b : Bool) → cond (b && true) (ArgumentConflict ∷ []) [] ≡ [] → b ≡ false
not_repeated true e = cc
not_repeated false e = refl

one_wanted : (n : ℕ) → range_kinds 1 1 n ≡ [] → n ≡ 1
one_wanted n e = sym (eqb-true 1 n (go (n == 0) (1 == n) e))
  where
    go : (a b : Bool) → cond a (InvalidValue ∷ []) (cond b [] (WrongNumberOfValues ∷ [])) ≡ [] → b ≡ true
    go true b e = cc
    go false true e = refl
    go false false e = cc

passed : (b : Bool) (k : ErrorKind) → or_else (cond b [] (k ∷ [])) [] ≡ [] → b ≡ true
passed true k e = refl
passed false k e = cc

-- a use that has no fault has one value, which passes, and is the first
pub use_is : (p : ValueParser) (id : Text) (values : List Text) (rows : List Row)
    → or_else (range_kinds 1 1 (length values)) (or_else (repeat_fault false id rows) (values_kinds false p (values_or_missing logs_built values))) ≡ []
    → (v : Text) × (values ≡ v ∷ []) × (has_row id rows ≡ false) × (accepts false p v ≡ true)
use_is p id [] rows e = cc
use_is p id (v ∷ w ∷ vs) rows e =
    let n = length (v ∷ w ∷ vs) in
    let one : n ≡ 1 = one_wanted n (no_faults (range_kinds 1 1 n) (or_else (repeat_fault false id rows) (values_kinds false p (v ∷ w ∷ vs))) e).0 in
    absurd (omega arith)
use_is p id (v ∷ []) rows e =
    let parts = no_faults (repeat_fault false id rows) (values_kinds false p (v ∷ [])) e in
    (v, refl, not_repeated (has_row id rows) parts.0, passed (accepts false p v) (refused_kind p) parts.1)

-- the row is that of one use of an option, whose value has passed
abbrev pub IsUse : Rule → Row → Type 0
IsUse a r = (v : Text) × (r ≡ use_row a.id (reading_by a) v) × (value_passes a v ≡ true)

-- each row is that of one use of `--logs` or `--link`
abbrev pub AreUses : List Row → Type 0
AreUses [] = Unit {0}
AreUses (r ∷ rs) = (IsUse logs_built r ⊎ IsUse (link_built link_names) r) × AreUses rs

more_uses : (rows : List Row) (r : Row) → AreUses rows → IsUse logs_built r ⊎ IsUse (link_built link_names) r → AreUses (rows ++ r ∷ [])
more_uses [] r all one = (one, tt)
more_uses (x ∷ xs) r all one = (all.0, more_uses xs r all.1 one)

logs_used : (values : List Text) (rows : List Row) → AreUses rows → use_fault false logs_built values rows ≡ [] → AreUses (used logs_built values rows)
logs_used values rows all e =
    let one = use_is (Signed (pos 1) (pos 4)) (codes "logs") values rows e in
    let r = use_row (codes "logs") (reading_by logs_built) one.0 in
    let is : used logs_built values rows ≡ rows ++ r ∷ [] =
    ap (λ (vs : List Text). used logs_built vs rows) one.1 ∙ added (codes "logs") (reading_by logs_built) one.0 rows one.2 in
    subst AreUses (sym is) (more_uses rows r all (inl (one.0, refl, one.3)))

link_used : (values : List Text) (rows : List Row) → AreUses rows → use_fault false (link_built link_names) values rows ≡ []
    → AreUses (used (link_built link_names) values rows)
link_used values rows all e =
    let one = use_is (Names link_names) (codes "link") values rows e in
    let r = use_row (codes "link") (reading_by (link_built link_names)) one.0 in
    let is : used (link_built link_names) values rows ≡ rows ++ r ∷ [] =
    ap (λ (vs : List Text). used (link_built link_names) vs rows) one.1 ∙ added (codes "link") (reading_by (link_built link_names)) one.0 rows one.2 in
    subst AreUses (sym is) (more_uses rows r all (inr (one.0, refl, one.3)))

-- ---- the walk

settled_uses : (h : Held) → AreUses h.rows → settle_fault rules false h ≡ [] → AreUses (settled rules h).rows
settled_uses h all e = go h.pending e
  where
    pick : (values : List Text) (a b : Bool) → option_map_or (λ a. use_fault false a values h.rows) (first_option link_names a b) [] ≡ []
        → AreUses (used_by_id (first_option link_names a b) values h.rows)
    pick values true b e = logs_used values h.rows all e
    pick values false true e = link_used values h.rows all e
    pick values false false e = all

    go : (p : Option (Text × List Text))
        → option_map_or (λ (p : Text × List Text). option_map_or (λ a. use_fault false a p.1 h.rows) (arg_by_id rules p.0) []) p [] ≡ []
        → AreUses (settled_rows rules p h.rows)
    go None e = all
    go (Some p) e = pick p.1 (bytes_eq (codes "logs") p.0) (bytes_eq (codes "link") p.0) e

logs_met : (v : Option Text) (h : Held) → AreUses h.rows → option_fault rules false logs_built v h ≡ [] → AreUses (option_met rules logs_built v h).0.rows
logs_met None h all e = settled_uses h all e
logs_met (Some v) h all e =
    let parts = no_faults (settle_fault rules false h) (use_fault false logs_built (v ∷ []) (settled rules h).rows) e in
    logs_used (v ∷ []) (settled rules h).rows (settled_uses h all parts.0) parts.1

link_met : (v : Option Text) (h : Held) → AreUses h.rows → option_fault rules false (link_built link_names) v h ≡ []
    → AreUses (option_met rules (link_built link_names) v h).0.rows
link_met None h all e = settled_uses h all e
link_met (Some v) h all e =
    let parts = no_faults (settle_fault rules false h) (use_fault false (link_built link_names) (v ∷ []) (settled rules h).rows) e in
    link_used (v ∷ []) (settled rules h).rows (settled_uses h all parts.0) parts.1

long_uses : (a b : Bool) (v : Option Text) (h : Held) → AreUses h.rows → long_fault rules false (first_option link_names a b) v h ≡ []
    → AreUses (long_met rules (first_option link_names a b) v h).0.rows
long_uses true b v h all e = logs_met v h all e
long_uses false true v h all e = link_met v h all e
long_uses false false v h all e = all

bundle_uses : (k : ℕ) (flags : Text) (skip : ℕ) (so_far : Outcome) (h : Held) → AreUses h.rows → flags_fault rules false k flags skip h ≡ []
    → AreUses (bundle_met rules k flags skip so_far h).0.rows
unfolding bundle_met flags_fault
bundle_uses zero flags skip so_far h all e = all
bundle_uses (suc k) flags skip so_far h all e = go (λ f s. bundle_uses k f s so_far h all) (slice_get (chars flags) 0) skip e
  where
    go : ((f : Text) (s : ℕ) → flags_fault rules false k f s h ≡ [] → AreUses (bundle_met rules k f s so_far h).0.rows)
        → (x : Option ℕ) (s : ℕ) → bundle_step_fault rules false x flags s h (flags_fault rules false k) ≡ []
        → AreUses (bundle_step rules x flags s so_far h (bundle_met rules k)).0.rows
    go rest None s e = all
    go rest (Some x) zero e = all
    go rest (Some x) (suc s) e = rest (drop (length (encode_utf8 x)) flags) s e

plain_uses : (waiting : Waiting) (word : Text) (h : Held) → AreUses h.rows → AreUses (plain_word rules waiting word h).0.rows
plain_uses idle word h all = all
plain_uses positional word h all = all
plain_uses (option id) word h all = go (bytes_eq (codes "logs") id) (bytes_eq (codes "link") id)
  where
    go : (a b : Bool) → AreUses (option_word (first_option link_names a b) id word h).0.rows
    go true b = all
    go false true = all
    go false false = all

flag_uses : (waiting : Waiting) (word : Text) (h : Held) (o : Outcome) → AreUses h.rows → AreUses (after_flag rules waiting word h o).0.rows
flag_uses waiting word h done all = all
flag_uses waiting word h (waits id) all = all
flag_uses waiting word h plain all = plain_uses waiting word h all
flag_uses waiting word h refused all = plain_uses waiting word h all

word_uses : (is_trailing : Bool) (waiting : Waiting) (position : ℕ) (word : Text) (h : Held) → AreUses h.rows
    → word_fault shape [] is_trailing waiting word h ≡ [] → AreUses (word_met rules [] is_trailing waiting position word h).0.rows
word_uses true waiting position word h all e = all
word_uses false waiting position word h all e = met (subcommand_met [] waiting word) e
  where
    short : (o : Option Text) → option_map_or (λ flags. bundle_fault rules false flags h) o [] ≡ [] → AreUses (short_or_plain rules waiting word o h).0.rows
    short None e = plain_uses waiting word h all
    short (Some flags) e =
        flag_uses waiting word (bundle rules flags h).0 (bundle rules flags h).1 (bundle_uses (length flags) flags h.skip plain (record h { skip = 0 }) all e)

    long : (o : Option (Text × Option Text)) → flag_word_fault rules false o word h ≡ [] → AreUses (long_or_other rules waiting word o h).0.rows
    long None e = short (short_of word) e
    long (Some p) e =
        let met = long_met rules (arg_by_long rules p.0) p.1 h in
        flag_uses waiting word met.0 met.1 (long_uses (bytes_eq (codes "logs") p.0 || false) (bytes_eq (codes "link") p.0 || false) p.1 h all e)

    other : (b : Bool) → cond b [] (flag_word_fault rules false (long_of word) word h) ≡ []
        → AreUses (cond b (h, trailing position) (long_or_other rules waiting word (long_of word) h)).0.rows
    other true e = all
    other false e = long (long_of word) e

    met : (o : Option Text) → other_fault shape o word h ≡ [] → AreUses (subcommand_or_other rules o waiting position word h).0.rows
    met (Some name) e = all
    met None e = other (bytes_eq word (45 ∷ 45 ∷ [])) e

step_uses : (word : Text) (w : Walk) (h : Held) (step : Step) → AreUses h.rows → AreUses (after_step rules word w h step).held.rows
step_uses word w h (next waiting) all = all
step_uses word w h (trailing position) all = all
step_uses word w h (subcommand name) all = all
step_uses word w h value all = all

turn_uses : (w : Walk) (word : Text) → AreUses w.held.rows → turn_fault shape [] w word ≡ [] → AreUses (walked rules [] w word).held.rows
unfolding walked
turn_uses w word all e = go w.stopped e
  where
    met : Held × Step
    met = word_met rules [] w.is_trailing w.waiting w.position word w.held

    go : (stopped : Option (Text × List Text))
        → cond (is_some stopped) [] (or_else (word_fault shape [] w.is_trailing w.waiting word w.held) (step_fault shape w.position met.0 met.1)) ≡ []
        → AreUses (walked_from rules [] stopped w word).held.rows
    go (Some p) e = all
    go None e =
        let parts = no_faults (word_fault shape [] w.is_trailing w.waiting word w.held) (step_fault shape w.position met.0 met.1) e in
        step_uses word w met.0 met.1 (word_uses w.is_trailing w.waiting w.position word w.held all parts.0)

walk_uses : (w : Walk) (words : List Text) → AreUses w.held.rows → walk_fault shape [] w words ≡ [] → AreUses (fold (walked rules []) w words).held.rows
unfolding walk_fault
walk_uses w [] all e = all
walk_uses w (word ∷ words) all e =
    let parts = no_faults (turn_fault shape [] w word) (walk_fault shape [] (walked rules [] w word) words) e in
    walk_uses (walked rules [] w word) words (turn_uses w word all parts.0) parts.1

-- ---- after the walk

-- rows that are the same either way
pub either_way : (b : Bool) (rows : List Row) → cond b rows rows ≡ rows
either_way true rows = refl
either_way false rows = refl

-- the rows of words that `run` takes
pub run_uses : (words : List Text) → level_fault shape [] nothing_held words false [] ≡ [] → AreUses (rows_after rules [] words)
run_uses words e =
    let end = (walk rules [] nothing_held words).held in
    let rows = (settled rules end).rows in
    let walked_part = no_faults (walk_fault shape [] (walk_from nothing_held) words)
    (or_else (settle_fault rules false end) (or_else (defaults_fault rows rules) (check_fault shape (rows_after rules [] words) false))) e in
    let settled_part = no_faults (settle_fault rules false end) (or_else (defaults_fault rows rules) (check_fault shape (rows_after rules [] words) false)) walked_part.1 in
    let kept : rows_after rules [] words ≡ rows =
    either_way (has_row (codes "link") (with_default rows logs_built)) (with_default rows logs_built) ∙ either_way (has_row (codes "logs") rows) rows in
    subst AreUses (sym kept) (settled_uses end (walk_uses (walk_from nothing_held) words tt walked_part.0) settled_part.0)
