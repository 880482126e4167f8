-- Nor does it in which faults clap finds, and which subcommand it meets.
use Rattle.std.proofs.Common.{◌≡◌, ◌∙◌, ◌||◌, ℕ, Bool, true, false, cond, zero, suc, List, [], ◌∷◌, length, Option, Some, None, is_some, refl, sym, ap, ap₂, codes}
use Rattle.std.specs.List.{list_any}
use Rattle.std.specs.Str.{bytes_eq, chars}
use Rattle.std.specs.Prelude.{encode_utf8, slice_get, drop}
use Rattle.clap.specs.Words.{Row, Rule, Shape, Text, built, fault_of, subcommand_of}
use Rattle.clap.specs.Simple.{entered, names_of, rows_at}
use Rattle.clap.specs.Walk.{answers_to, has_row, arg_by_id, nothing_held, values_or_missing, with_default, Held, Step, Waiting, Walk, arg_by_long, next, settled, subcommand, subcommand_met, trailing, value, walk, walk_from, walked, word_met}
use Rattle.clap.specs.Lexer.{long_of, short_of}
use Rattle.clap.specs.Kinds.{Kinds, or_else, range_kinds}
use Rattle.clap.specs.Faults.{entered_fault, given_default_fault, bundle_fault, bundle_step_fault, defaults_fault, flag_word_fault, flags_fault, level_fault, long_fault, option_fault, other_fault, repeat_fault, settle_fault, step_fault, turn_fault, use_fault, values_fault, walk_fault, word_fault}
use Rattle.clap.specs.Values.{same_text}
use Rattle.clap.specs.ValueTests.{accepts}
use Rattle.clap.specs.declared.error.kind.ErrorKind.TheVariants.{InvalidValue}
use Rattle.clap.specs.declared.builder.value_parser.ValueParser.TheVariants.{Names}
use Rattle.clap.proofs.WalkLemmas.{list_any-map}
use Rattle.std.specs.Borrow.{Bor}
use Rattle.std.specs.Option.{option_map, option_map_or}
use Rattle.im_words.specs.Command.{Texts, im_at, texts_behind}
use Rattle.im_words.proofs.PlacedWalk.{found, rows-place, settled-place, walk-place, walked-place, word_met-place}
use Rattle.im_words.proofs.BuiltRun.{first_built, link_built, logs_built, rules_built, run_built}

-- two lists of references to one list of texts
abbrev pub SameTexts : Texts → Texts → Type 0
SameTexts m n = texts_behind m ≡ texts_behind n

values_fault-place : (m n : Texts) → SameTexts m n → (values : List Text) → values_fault (link_built m) values ≡ values_fault (link_built n) values
values_fault-place m n same [] = refl
values_fault-place m n same (v ∷ vs) =
    let accepts_same : accepts false (Names m) v ≡ accepts false (Names n) v =
    list_any-map (λ t. same_text false t v) (λ (s : Bor Text). s.now) m.now ∙ ap (list_any (λ t. same_text false t v)) same
    ∙ sym (list_any-map (λ t. same_text false t v) (λ (s : Bor Text). s.now) n.now) in
    ap₂ (λ (b : Bool) (ks : Kinds). or_else (cond b [] (InvalidValue ∷ [])) ks) accepts_same (values_fault-place m n same vs)

use_fault-place : (m n : Texts) → SameTexts m n → (values : List Text) (rows : List Row)
    → use_fault false (link_built m) values rows ≡ use_fault false (link_built n) values rows
use_fault-place m n same values rows =
    ap (λ (ks : Kinds). or_else (range_kinds 1 1 (length values)) (or_else (repeat_fault false (codes "link") rows) ks))
    (values_fault-place m n same (values_or_missing logs_built values))

settle_fault-place : (m n : Texts) → SameTexts m n → (h : Held) → settle_fault (rules_built m) false h ≡ settle_fault (rules_built n) false h
settle_fault-place m n same h = go h.pending
  where
    go : (p : Option (Text × List Text))
        → option_map_or (λ (p : Text × List Text). option_map_or (λ a. use_fault false a p.1 h.rows) (arg_by_id (rules_built m) p.0) []) p []
        ≡ option_map_or (λ (p : Text × List Text). option_map_or (λ a. use_fault false a p.1 h.rows) (arg_by_id (rules_built n) p.0) []) p []
    go None = refl
    go (Some p) =
        let at : Option Rule → Kinds = λ o. option_map_or (λ a. use_fault false a p.1 h.rows) o [] in
        found m n at at refl refl (use_fault-place m n same p.1 h.rows) (bytes_eq (codes "logs") p.0) (bytes_eq (codes "link") p.0)

logs_fault-place : (m n : Texts) → SameTexts m n → (v : Option Text) (h : Held)
    → option_fault (rules_built m) false logs_built v h ≡ option_fault (rules_built n) false logs_built v h
logs_fault-place m n same None h = settle_fault-place m n same h
logs_fault-place m n same (Some v) h = ap₂ (λ (ks : Kinds) (s : Held). or_else ks (use_fault false logs_built (v ∷ []) s.rows))
    (settle_fault-place m n same h) (settled-place m n h)

link_fault-place : (m n : Texts) → SameTexts m n → (v : Option Text) (h : Held)
    → option_fault (rules_built m) false (link_built m) v h ≡ option_fault (rules_built n) false (link_built n) v h
link_fault-place m n same None h = settle_fault-place m n same h
link_fault-place m n same (Some v) h = ap₂ (λ (ks : Kinds) (s : Held). or_else ks (use_fault false (link_built m) (v ∷ []) s.rows))
    (settle_fault-place m n same h) (settled-place m n h)
    ∙ ap (λ (ks : Kinds). or_else (settle_fault (rules_built n) false h) ks) (use_fault-place m n same (v ∷ []) (settled (rules_built n) h).rows)

long_fault-place : (m n : Texts) → SameTexts m n → (name : Text) (v : Option Text) (h : Held)
    → long_fault (rules_built m) false (arg_by_long (rules_built m) name) v h ≡ long_fault (rules_built n) false (arg_by_long (rules_built n) name) v h
long_fault-place m n same name v h =
    found m n (λ o. long_fault (rules_built m) false o v h) (λ o. long_fault (rules_built n) false o v h) refl
    (logs_fault-place m n same v h) (link_fault-place m n same v h)
    (bytes_eq (codes "logs") name || false) (bytes_eq (codes "link") name || false)

flags_fault-place : (m n : Texts) (k : ℕ) (flags : Text) (skip : ℕ) (h : Held)
    → flags_fault (rules_built m) false k flags skip h ≡ flags_fault (rules_built n) false k flags skip h
unfolding flags_fault
flags_fault-place m n zero flags skip h = refl
flags_fault-place m n (suc k) flags skip h = go (λ f s. flags_fault-place m n k f s h) (slice_get (chars flags) 0) skip
  where
    go : ((f : Text) (s : ℕ) → flags_fault (rules_built m) false k f s h ≡ flags_fault (rules_built n) false k f s h)
        → (x : Option ℕ) (s : ℕ) → bundle_step_fault (rules_built m) false x flags s h (flags_fault (rules_built m) false k)
        ≡ bundle_step_fault (rules_built n) false x flags s h (flags_fault (rules_built n) false k)
    go rest None s = refl
    go rest (Some x) zero = refl
    go rest (Some x) (suc s) = rest (drop (length (encode_utf8 x)) flags) s

word_fault-place : (m n : Texts) → SameTexts m n → (is_trailing : Bool) (waiting : Waiting) (word : Text) (h : Held)
    → word_fault (run_built m) [] is_trailing waiting word h ≡ word_fault (run_built n) [] is_trailing waiting word h
word_fault-place m n same true waiting word h = refl
word_fault-place m n same false waiting word h = met (subcommand_met [] waiting word)
  where
    short : (o : Option Text) → option_map_or (λ flags. bundle_fault (rules_built m) false flags h) o []
        ≡ option_map_or (λ flags. bundle_fault (rules_built n) false flags h) o []
    short None = refl
    short (Some flags) = flags_fault-place m n (length flags) flags h.skip (record h { skip = 0 })

    long : (o : Option (Text × Option Text)) → flag_word_fault (rules_built m) false o word h ≡ flag_word_fault (rules_built n) false o word h
    long None = short (short_of word)
    long (Some p) = long_fault-place m n same p.0 p.1 h

    other : (b : Bool) → cond b [] (flag_word_fault (rules_built m) false (long_of word) word h)
        ≡ cond b [] (flag_word_fault (rules_built n) false (long_of word) word h)
    other true = refl
    other false = long (long_of word)

    met : (o : Option Text) → other_fault (run_built m) o word h ≡ other_fault (run_built n) o word h
    met (Some name) = refl
    met None = other (bytes_eq word (45 ∷ 45 ∷ []))

step_fault-place : (m n : Texts) (position : ℕ) (h : Held) (step : Step) → step_fault (run_built m) position h step ≡ step_fault (run_built n) position h step
step_fault-place m n position h (next waiting) = refl
step_fault-place m n position h (trailing p) = refl
step_fault-place m n position h (subcommand name) = refl
step_fault-place m n position h value = refl

met_fault-place : (m n : Texts) (position : ℕ) (p q : Held × Step) → p ≡ q → step_fault (run_built m) position p.0 p.1 ≡ step_fault (run_built n) position q.0 q.1
met_fault-place m n position p q same =
    ap (λ (x : Held × Step). step_fault (run_built m) position x.0 x.1) same ∙ step_fault-place m n position q.0 q.1

turn_fault-place : (m n : Texts) → SameTexts m n → (w : Walk) (word : Text) → turn_fault (run_built m) [] w word ≡ turn_fault (run_built n) [] w word
turn_fault-place m n same w word = ap (λ (ks : Kinds). cond (is_some w.stopped) [] ks)
    (ap₂ or_else (word_fault-place m n same w.is_trailing w.waiting word w.held)
    (met_fault-place m n w.position (word_met (rules_built m) [] w.is_trailing w.waiting w.position word w.held)
    (word_met (rules_built n) [] w.is_trailing w.waiting w.position word w.held) (word_met-place m n w.is_trailing w.waiting w.position word w.held)))

walk_fault-place : (m n : Texts) → SameTexts m n → (w : Walk) (words : List Text)
    → walk_fault (run_built m) [] w words ≡ walk_fault (run_built n) [] w words
unfolding walk_fault
walk_fault-place m n same w [] = refl
walk_fault-place m n same w (word ∷ words) = ap₂ or_else (turn_fault-place m n same w word)
    (ap (λ (x : Walk). walk_fault (run_built m) [] x words) (walked-place m n w word) ∙ walk_fault-place m n same (walked (rules_built n) [] w word) words)

none_given : (b : Bool) (ks : Kinds) → cond (b || true) [] ks ≡ []
none_given true ks = refl
none_given false ks = refl

no_default-fault : (names : Texts) (rows : List Row) → defaults_fault rows (rules_built names) ≡ []
unfolding defaults_fault
no_default-fault names rows = ap₂ (λ (x y : Kinds). or_else x (or_else y []))
    (none_given (has_row (codes "logs") rows) (given_default_fault logs_built []))
    (none_given (has_row (codes "link") (with_default rows logs_built)) (given_default_fault (link_built names) []))

-- one level of `run`
run_fault-place : (m n : Texts) → SameTexts m n → (words : List Text)
    → level_fault (run_built m) [] nothing_held words false [] ≡ level_fault (run_built n) [] nothing_held words false []
run_fault-place m n same words =
    let end : Texts → Held = λ names. (walk (rules_built names) [] nothing_held words).held in
    let ends : end m ≡ end n = ap (λ (w : Walk). w.held) (walk-place m n (walk_from nothing_held) words) in
    ap₂ or_else (walk_fault-place m n same (walk_from nothing_held) words)
    (ap₂ or_else (ap (settle_fault (rules_built m) false) ends ∙ settle_fault-place m n same (end n))
    (ap (λ (ks : Kinds). or_else ks []) (no_default-fault m (settled (rules_built m) (end m)).rows ∙ sym (no_default-fault n (settled (rules_built n) (end n)).rows))))

-- the whole command finds the same faults
pub fault_of-place : (m n : Texts) → SameTexts m n → (words : List Text) → fault_of (im_at m) words ≡ fault_of (im_at n) words
fault_of-place m n same words = go (walk [] (names_of (built (im_at m))) nothing_held (drop 1 words)).stopped
  where
    level : Bool → Kinds → Kinds
    level has below = level_fault (built (im_at m)).top (names_of (built (im_at m))) nothing_held (drop 1 words) has below

    named : (p : Text × List Text) (run verify show gen : Bool)
        → level (is_some (option_map (λ (s : Shape). rows_at s p.1) (first_built m run verify show gen)))
        (option_map_or (λ (s : Shape). level_fault s [] nothing_held p.1 false []) (first_built m run verify show gen) [])
        ≡ level (is_some (option_map (λ (s : Shape). rows_at s p.1) (first_built n run verify show gen)))
        (option_map_or (λ (s : Shape). level_fault s [] nothing_held p.1 false []) (first_built n run verify show gen) [])
    named p true verify show gen = ap (level true) (run_fault-place m n same p.1)
    named p false true show gen = refl
    named p false false true gen = refl
    named p false false false true = refl
    named p false false false false = refl

    go : (stop : Option (Text × List Text))
        → level (is_some (entered (built (im_at m)) stop)) (entered_fault (built (im_at m)) stop)
        ≡ level (is_some (entered (built (im_at n)) stop)) (entered_fault (built (im_at n)) stop)
    go None = refl
    go (Some p) = named p (answers_to p.0 (codes "run", [])) (answers_to p.0 (codes "verify", [])) (answers_to p.0 (codes "show", [])) (answers_to p.0 (codes "gen", []))

-- and meets the same subcommand
pub subcommand_of-place : (m n : Texts) (words : List Text) → subcommand_of (im_at m) words ≡ subcommand_of (im_at n) words
subcommand_of-place m n words = go (walk [] (names_of (built (im_at m))) nothing_held (drop 1 words)).stopped
  where
    named : (p : Text × List Text) (run verify show gen : Bool)
        → option_map (λ (s : Shape). rows_at s p.1) (first_built m run verify show gen) ≡ option_map (λ (s : Shape). rows_at s p.1) (first_built n run verify show gen)
    named p true verify show gen = ap (λ (rows : List Row). Some (codes "run", rows)) (rows-place m n p.1)
    named p false true show gen = refl
    named p false false true gen = refl
    named p false false false true = refl
    named p false false false false = refl

    go : (stop : Option (Text × List Text)) → entered (built (im_at m)) stop ≡ entered (built (im_at n)) stop
    go None = refl
    go (Some p) = named p (answers_to p.0 (codes "run", [])) (answers_to p.0 (codes "verify", [])) (answers_to p.0 (codes "show", [])) (answers_to p.0 (codes "gen", []))
