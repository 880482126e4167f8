-- Words that clap takes ask for something.
use Rattle.std.proofs.Common.{◌≡◌, ◌⊎◌, ◌||◌, ◌==◌, ℕ, Bool, true, false, cond, List, [], ◌∷◌, Option, Some, None, IsSome, is_some, refl, sym, subst, codes, inl, inr, arith, ⊎_elim}
use Rattle.std.specs.Str.{bytes_eq}
use Rattle.std.specs.Option.{option_map, option_map_or}
use Rattle.std.specs.Prelude.{drop}
use Rattle.clap.specs.Words.{Row, Shape, Text, built, fault_of, subcommand_of}
use Rattle.clap.specs.Simple.{entered, names_of, rows_at}
use Rattle.clap.specs.Walk.{Held, answers_to, finished, nothing_held, rows_after, settled, walk, walk_from}
use Rattle.clap.specs.declared.error.kind.ErrorKind.TheVariants.{MissingSubcommand}
use Rattle.clap.specs.declared.builder.value_parser.ValueParser.TheVariants.{Names, Signed, Unsigned}
use Rattle.std.specs.Prelude.{pos}
use Rattle.clap.specs.Kinds.{Kinds, or_else}
use Rattle.clap.specs.Faults.{check_fault, defaults_fault, entered_fault, level_fault, settle_fault, walk_fault}
use Rattle.clap.specs.ValueTests.{accepts}
use Rattle.im_words.specs.Command.{im_command, link_names}
use Rattle.clap.specs.Lexer.{without_minus}
use Rattle.clap.specs.ValueTests.{is_unsigned_in}
use Rattle.clap.specs.Values.{IsSignedIn, IsUnsignedIn}
use Rattle.clap.proofs.ValueTestLemmas.{Accepts-accepts, accepts-Accepts}
use Rattle.std.specs.Prelude.{option_and_then}
use Rattle.std.specs.Str.Parse.{digits_value, without_leading_plus}
use Rattle.std.proofs.lemmas.Int.{ints}
use Rattle.std.proofs.lemmas.Slice.Eq.{bytes_eq-Decides}
use Rattle.im_words.specs.declared.Request.TheVariants.{Run}
use Rattle.im_words.specs.declared.Link.{Link}
use Rattle.im_words.specs.declared.Link.TheVariants.{Auto, Manual}
use Rattle.im_words.specs.Meaning.{asked_of, link_of, link_of_text, logs_of}
use Rattle.im_words.proofs.UseLemmas.{AreUses, no_faults, rules, run_uses, shape}
use Rattle.im_words.proofs.BuiltRun.{first_built, gen_built}
use Rattle.im_words.proofs.GenLemmas.{gen_asked}

-- a number that passes from 1 to 4 has no minus
without_sign : (v : Text) → IsSignedIn (pos 1) (pos 4) v → IsUnsignedIn 1 4 (without_minus v)
without_sign [] h = absurd (omega (arith, h.0.0))
without_sign (x ∷ xs) h = go (x == 45) refl
  where
    go : (b : Bool) → (x == 45) ≡ b → IsUnsignedIn 1 4 (without_minus (x ∷ xs))
    go true minus =
        let low_ok = rw minus at h.2 in
        absurd (omega (arith, ints))
    go false minus =
        let numeral = rw minus at h.0 in
        let low_ok = rw minus at h.2 in
        let high_ok = rw minus at h.3 in
        rw minus (numeral, omega (arith, ints), omega (arith, ints), omega (arith, ints))

logs_read : (v : Text) → accepts false (Signed (pos 1) (pos 4)) v ≡ true → is_unsigned_in 1 4 (without_minus v) ≡ true
logs_read v e = Accepts-accepts false (Unsigned 1 4) (without_minus v) (without_sign v (accepts-Accepts false (Signed (pos 1) (pos 4)) v e))

some_number : (b : Bool) (n : ℕ) → b ≡ true → IsSome (cond b (Some n) None)
some_number true n e = refl
some_number false n e = cc

swapped : (xs ys : Text) → bytes_eq xs ys ≡ true → bytes_eq ys xs ≡ true
swapped xs ys e = grind (arith, bytes_eq-Decides ys xs, sym ((bytes_eq-Decides xs ys).0 e))

some_link : (a b : Bool) → (a ≡ true) ⊎ (b ≡ true) → IsSome (cond a (Some Auto) (cond b (Some Manual) None))
some_link true b e = refl
some_link false true e = refl
some_link false false (inl e) = cc
some_link false false (inr e) = cc

one_true : (a b : Bool) → (a || (b || false)) ≡ true → (a ≡ true) ⊎ (b ≡ true)
one_true true b e = inl refl
one_true false true e = inr refl
one_true false false e = cc

link_read : (v : Text) → accepts false (Names link_names) v ≡ true → IsSome (link_of_text v)
link_read v e = some_link (bytes_eq v (codes "auto")) (bytes_eq v (codes "manual"))
    (⊎_elim (λ a. inl (swapped (codes "auto") v a)) (λ b. inr (swapped (codes "manual") v b)) (one_true (bytes_eq (codes "auto") v) (bytes_eq (codes "manual") v) e))

logs_asked : (rows : List Row) → AreUses rows → IsSome (logs_of rows)
logs_asked [] all = refl
logs_asked (r ∷ rs) (inl one, all) = subst (λ (x : Row). IsSome (logs_of (x ∷ rs))) (sym one.1)
    (some_number (is_unsigned_in 1 4 (without_minus one.0)) (digits_value 10 (without_leading_plus (without_minus one.0))) (logs_read one.0 one.2))
logs_asked (r ∷ rs) (inr one, all) = subst (λ (x : Row). IsSome (logs_of (x ∷ rs))) (sym one.1) (logs_asked rs all)

link_asked : (rows : List Row) → AreUses rows → IsSome (link_of rows)
link_asked [] all = refl
link_asked (r ∷ rs) (inl one, all) = subst (λ (x : Row). IsSome (link_of (x ∷ rs))) (sym one.1) (link_asked rs all)
link_asked (r ∷ rs) (inr one, all) = subst (λ (x : Row). IsSome (link_of (x ∷ rs))) (sym one.1)
    (link_read one.0 one.2)

both_asked : (logs : Option ℕ) (link : Option Link) → IsSome logs → IsSome link → IsSome (option_and_then (λ n. option_map (λ l. Run n l) link) logs)
both_asked (Some n) (Some l) a b = refl
both_asked (Some n) None a b = cc
both_asked None link a b = cc

-- words that are taken ask for something
pub taken_asked : (words : List Text) → fault_of im_command words ≡ [] → IsSome (asked_of (subcommand_of im_command words))
taken_asked words e = go (walk [] (names_of (built im_command)) nothing_held (drop 1 words)).stopped e
  where
    top : Shape
    top = (built im_command).top

    end : Held
    end = (walk [] (names_of (built im_command)) nothing_held (drop 1 words)).held

    checked : Bool → Kinds
    checked has = check_fault top (finished [] end) has

    settled_then : Bool → Kinds
    settled_then has = or_else (settle_fault [] false end) (or_else (defaults_fault (settled [] end).rows []) (checked has))

    level : Bool → Kinds → Kinds
    level has below = level_fault top (names_of (built im_command)) nothing_held (drop 1 words) has below

    after : (has : Bool) (below : Kinds) → level has below ≡ [] → (below ≡ []) × (settled_then has ≡ [])
    after has below e =
        no_faults below (settled_then has) (no_faults (walk_fault top (names_of (built im_command)) (walk_from nothing_held) (drop 1 words)) (or_else below (settled_then has)) e).1

    no_subcommand : level false [] ≡ [] → ⊥
    no_subcommand e =
        let settled_part = (after false [] e).1 in
        let default_part = (no_faults (settle_fault [] false end) (or_else (defaults_fault (settled [] end).rows []) (checked false)) settled_part).1 in
        let check_part : MissingSubcommand ∷ [] ≡ [] = (no_faults (defaults_fault (settled [] end).rows []) (checked false) default_part).1 in
        cc

    named : (p : Text × List Text) (run verify show gen : Bool)
        → level (is_some (option_map (λ (s : Shape). rows_at s p.1) (first_built link_names run verify show gen)))
        (option_map_or (λ (s : Shape). level_fault s [] nothing_held p.1 false []) (first_built link_names run verify show gen) []) ≡ []
        → IsSome (asked_of (option_map (λ (s : Shape). rows_at s p.1) (first_built link_names run verify show gen)))
    named p true verify show gen e =
        let rows = rows_after rules [] p.1 in
        let uses = run_uses p.1 (after true (level_fault shape [] nothing_held p.1 false []) e).0 in
        both_asked (logs_of rows) (link_of rows) (logs_asked rows uses) (link_asked rows uses)
    named p false true show gen e = refl
    named p false false true gen e = refl
    named p false false false true e = gen_asked p.1 (after true (level_fault gen_built [] nothing_held p.1 false []) e).0
    named p false false false false e = absurd (no_subcommand e)

    go : (stop : Option (Text × List Text)) → level (is_some (entered (built im_command) stop)) (entered_fault (built im_command) stop) ≡ []
        → IsSome (asked_of (entered (built im_command) stop))
    go None e = absurd (no_subcommand e)
    go (Some p) e = named p (answers_to p.0 (codes "run", [])) (answers_to p.0 (codes "verify", [])) (answers_to p.0 (codes "show", [])) (answers_to p.0 (codes "gen", [])) e
