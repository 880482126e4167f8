use Rattle.std.proofs.Common.{◌≡◌, ◌∙◌, IsSome, None, Option, Some, ap, refl, subst, sym, codes, ℕ}
use Rattle.std.specs.Option.{option_and_then, option_map}
use Rattle.std.specs.Str.Parse.{ExplainsUnsignedError, HasUnsignedDigitsIfOk, ParsesUnsigned}
use Rattle.clap.specs.Words.{Text, found_of, one_of, one_text, rows_of}
use Rattle.clap.proofs.WalkLemmas.{one_text-rows}
use Rattle.im_words.specs.Meaning.{lines_of_text}
use Rattle.im_words.specs.declared.Request.TheVariants.{Gen}
use Rattle.im_words.proofs.AnswerLemmas.{lines_answer}
use Rattle.im_words.proofs.matches.generate.Goals as goal

-- there is a number where there is a script of so many lines
some_number : (o : Option ℕ) → IsSome (option_map (λ n. Gen n) o) → IsSome o
some_number (Some n) some = refl
some_number None some = cc

pub returns : goal.returns
returns c =
    let same = one_text-rows (found_of c.args.matches.now) (codes "lines") in
    let some = subst (λ (o : Option Text). IsSome (option_and_then lines_of_text o)) (sym same)
    (some_number (option_and_then lines_of_text (one_of (codes "lines") (rows_of (found_of c.args.matches.now)))) c.requires) in
    let read = lines_answer _ (λ bs r. ParsesUnsigned 32 10 bs r × ExplainsUnsignedError 10 bs r × HasUnsignedDigitsIfOk bs r)
    (one_text (found_of c.args.matches.now) (codes "lines")) c.get_one.result c.get_one.ensures.value (λ u x g. g.0) some in
    ap (option_map (λ n. Gen n)) (subst (λ (o : Option Text). option_and_then lines_of_text o ≡ Some c.unwrap_or.result) same (read ∙ ap (λ (n : ℕ). Some n) (sym c.unwrap_or.ensures)))
