-- Where the names of links lie plays no part in what a walk over the words makes of them.
use Rattle.std.proofs.Common.{◌≡◌, ◌∙◌, ◌||◌, ℕ, Bool, true, false, cond, zero, suc, List, [], ◌∷◌, length, Option, Some, None, refl, ap, codes}
use Rattle.std.specs.List.{fold}
use Rattle.std.specs.Str.{bytes_eq, chars}
use Rattle.std.specs.Prelude.{encode_utf8, slice_get, drop}
use Rattle.clap.specs.Words.{Row, Rule, Text}
use Rattle.clap.specs.Walk.{nothing_held, rows_after, walked_from, with_default, Held, Outcome, Step, Waiting, Walk, after_flag, after_step, arg_by_long, bundle_met, bundle_step, done, finished, idle, long_met, long_or_other, next, option, option_met, option_word, plain, plain_word, positional, refused, settled, settled_rows, short_or_plain, subcommand, subcommand_met, subcommand_or_other, trailing, used, used_by_id, value, waits, walk, walk_from, walked, word_met}
use Rattle.clap.specs.Lexer.{long_of, short_of}
use Rattle.im_words.specs.Command.{Texts}
use Rattle.im_words.proofs.BuiltRun.{first_option, link_built, logs_built, rules_built}

-- two functions agree at the option that is found where they agree at each
pub found : {X : Type 0} (m n : Texts) (f g : Option Rule → X) → f None ≡ g None → f (Some logs_built) ≡ g (Some logs_built)
    → f (Some (link_built m)) ≡ g (Some (link_built n)) → (a b : Bool) → f (first_option m a b) ≡ g (first_option n a b)
found m n f g none logs link true b = logs
found m n f g none logs link false true = link
found m n f g none logs link false false = none

-- what is pending is used alike
pub settled-place : (m n : Texts) (h : Held) → settled (rules_built m) h ≡ settled (rules_built n) h
settled-place m n h = ap (λ (rows : List Row). record h { rows = rows; pending = None }) (go h.pending)
  where
    go : (p : Option (Text × List Text)) → settled_rows (rules_built m) p h.rows ≡ settled_rows (rules_built n) p h.rows
    go None = refl
    go (Some p) = found m n (λ o. used_by_id o p.1 h.rows) (λ o. used_by_id o p.1 h.rows) refl refl refl (bytes_eq (codes "logs") p.0) (bytes_eq (codes "link") p.0)

logs_met-place : (m n : Texts) (v : Option Text) (h : Held) → option_met (rules_built m) logs_built v h ≡ option_met (rules_built n) logs_built v h
logs_met-place m n (Some v) h = ap (λ (s : Held). (record h { rows = used logs_built (v ∷ []) s.rows; pending = None }, done)) (settled-place m n h)
logs_met-place m n None h = ap (λ (s : Held). (record s { pending = Some (codes "logs", []) }, waits (codes "logs"))) (settled-place m n h)

link_met-place : (m n : Texts) (v : Option Text) (h : Held) → option_met (rules_built m) (link_built m) v h ≡ option_met (rules_built n) (link_built n) v h
link_met-place m n (Some v) h = ap (λ (s : Held). (record h { rows = used (link_built n) (v ∷ []) s.rows; pending = None }, done)) (settled-place m n h)
link_met-place m n None h = ap (λ (s : Held). (record s { pending = Some (codes "link", []) }, waits (codes "link"))) (settled-place m n h)

long_met-place : (m n : Texts) (name : Text) (v : Option Text) (h : Held)
    → long_met (rules_built m) (arg_by_long (rules_built m) name) v h ≡ long_met (rules_built n) (arg_by_long (rules_built n) name) v h
long_met-place m n name v h =
    found m n (λ o. long_met (rules_built m) o v h) (λ o. long_met (rules_built n) o v h) refl (logs_met-place m n v h) (link_met-place m n v h)
    (bytes_eq (codes "logs") name || false) (bytes_eq (codes "link") name || false)

plain_word-place : (m n : Texts) (waiting : Waiting) (word : Text) (h : Held) → plain_word (rules_built m) waiting word h ≡ plain_word (rules_built n) waiting word h
plain_word-place m n idle word h = refl
plain_word-place m n positional word h = refl
plain_word-place m n (option id) word h =
    let at : Option Rule → Held × Step = λ o. ((option_word o id word h).0, next (option_word o id word h).1) in
    found m n at at refl refl refl (bytes_eq (codes "logs") id) (bytes_eq (codes "link") id)

after_flag-place : (m n : Texts) (waiting : Waiting) (word : Text) (h : Held) (o : Outcome)
    → after_flag (rules_built m) waiting word h o ≡ after_flag (rules_built n) waiting word h o
after_flag-place m n waiting word h done = refl
after_flag-place m n waiting word h (waits id) = refl
after_flag-place m n waiting word h plain = plain_word-place m n waiting word h
after_flag-place m n waiting word h refused = plain_word-place m n waiting word h

flag-place : (m n : Texts) (waiting : Waiting) (word : Text) (p q : Held × Outcome) → p ≡ q
    → after_flag (rules_built m) waiting word p.0 p.1 ≡ after_flag (rules_built n) waiting word q.0 q.1
flag-place m n waiting word p q same =
    ap (λ (x : Held × Outcome). after_flag (rules_built m) waiting word x.0 x.1) same ∙ after_flag-place m n waiting word q.0 q.1

bundle_met-place : (m n : Texts) (k : ℕ) (flags : Text) (skip : ℕ) (so_far : Outcome) (h : Held)
    → bundle_met (rules_built m) k flags skip so_far h ≡ bundle_met (rules_built n) k flags skip so_far h
unfolding bundle_met
bundle_met-place m n zero flags skip so_far h = refl
bundle_met-place m n (suc k) flags skip so_far h = go (λ f s. bundle_met-place m n k f s so_far h) (slice_get (chars flags) 0) skip
  where
    go : ((f : Text) (s : ℕ) → bundle_met (rules_built m) k f s so_far h ≡ bundle_met (rules_built n) k f s so_far h) → (x : Option ℕ) (s : ℕ) → bundle_step (rules_built m) x flags s so_far h (bundle_met (rules_built m) k)
        ≡ bundle_step (rules_built n) x flags s so_far h (bundle_met (rules_built n) k)
    go rest None s = refl
    go rest (Some x) zero = refl
    go rest (Some x) (suc s) = rest (drop (length (encode_utf8 x)) flags) s

-- a word is met alike
pub word_met-place : (m n : Texts) (is_trailing : Bool) (waiting : Waiting) (position : ℕ) (word : Text) (h : Held)
    → word_met (rules_built m) [] is_trailing waiting position word h ≡ word_met (rules_built n) [] is_trailing waiting position word h
word_met-place m n true waiting position word h = refl
word_met-place m n false waiting position word h = met (subcommand_met [] waiting word)
  where
    short : (o : Option Text) → short_or_plain (rules_built m) waiting word o h ≡ short_or_plain (rules_built n) waiting word o h
    short None = plain_word-place m n waiting word h
    short (Some flags) = flag-place m n waiting word _ _ (bundle_met-place m n (length flags) flags h.skip plain (record h { skip = 0 }))

    long : (o : Option (Text × Option Text)) → long_or_other (rules_built m) waiting word o h ≡ long_or_other (rules_built n) waiting word o h
    long None = short (short_of word)
    long (Some p) = flag-place m n waiting word _ _ (long_met-place m n p.0 p.1 h)

    other : (b : Bool) → cond b (h, trailing position) (long_or_other (rules_built m) waiting word (long_of word) h)
        ≡ cond b (h, trailing position) (long_or_other (rules_built n) waiting word (long_of word) h)
    other true = refl
    other false = long (long_of word)

    met : (o : Option Text) → subcommand_or_other (rules_built m) o waiting position word h ≡ subcommand_or_other (rules_built n) o waiting position word h
    met (Some name) = refl
    met None = other (bytes_eq word (45 ∷ 45 ∷ []))

after_step-place : (m n : Texts) (word : Text) (w : Walk) (h : Held) (step : Step) → after_step (rules_built m) word w h step ≡ after_step (rules_built n) word w h step
after_step-place m n word w h (next waiting) = refl
after_step-place m n word w h (trailing position) = refl
after_step-place m n word w h (subcommand name) = refl
after_step-place m n word w h value = refl

step-place : (m n : Texts) (word : Text) (w : Walk) (p q : Held × Step) → p ≡ q → after_step (rules_built m) word w p.0 p.1 ≡ after_step (rules_built n) word w q.0 q.1
step-place m n word w p q same = ap (λ (x : Held × Step). after_step (rules_built m) word w x.0 x.1) same ∙ after_step-place m n word w q.0 q.1

-- a walk goes on alike after one word
pub walked-place : (m n : Texts) (w : Walk) (word : Text) → walked (rules_built m) [] w word ≡ walked (rules_built n) [] w word
unfolding walked
walked-place m n w word = go w.stopped
  where
    go : (stopped : Option (Text × List Text)) → walked_from (rules_built m) [] stopped w word ≡ walked_from (rules_built n) [] stopped w word
    go (Some p) = refl
    go None = step-place m n word w (word_met (rules_built m) [] w.is_trailing w.waiting w.position word w.held)
        (word_met (rules_built n) [] w.is_trailing w.waiting w.position word w.held) (word_met-place m n w.is_trailing w.waiting w.position word w.held)

-- and after all
pub walk-place : (m n : Texts) (w : Walk) (words : List Text) → fold (walked (rules_built m) []) w words ≡ fold (walked (rules_built n) []) w words
walk-place m n w [] = refl
walk-place m n w (word ∷ words) =
    ap (λ (x : Walk). fold (walked (rules_built m) []) x words) (walked-place m n w word) ∙ walk-place m n (walked (rules_built n) [] w word) words

-- the matches of `run`
pub rows-place : (m n : Texts) (words : List Text) → rows_after (rules_built m) [] words ≡ rows_after (rules_built n) [] words
rows-place m n words =
    ap (λ (w : Walk). finished (rules_built m) w.held) (walk-place m n (walk_from nothing_held) words)
    ∙ ap (λ (h : Held). fold with_default h.rows (rules_built n)) (settled-place m n (walk (rules_built n) [] nothing_held words).held)
