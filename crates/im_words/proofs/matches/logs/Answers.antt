use Rattle.std.proofs.Common.{◌≡◌, ◌∙◌, ℕ, IsSome, Option, Some, ap, subst, sym, codes}
use Rattle.std.specs.Option.{option_map_or}
use Rattle.std.specs.Str.Parse.{ExplainsUnsignedError, HasUnsignedDigitsIfOk, ParsesUnsigned}
use Rattle.clap.specs.Words.{Text, found_of, one_text}
use Rattle.clap.proofs.WalkLemmas.{one_text-rows}
use Rattle.im_words.specs.Meaning.{logs_of_text}
use Rattle.im_words.proofs.AnswerLemmas.{logs_answer}
use Rattle.im_words.proofs.matches.logs.Goals as goal

pub returns : goal.returns
returns c =
    let same = one_text-rows (found_of c.args.run.now) (codes "logs") in
    let some = subst (λ (o : Option Text). IsSome (option_map_or logs_of_text o (Some 1))) (sym same) c.requires in
    let read = logs_answer _ (λ bs r. ParsesUnsigned 8 10 bs r × ExplainsUnsignedError 10 bs r × HasUnsignedDigitsIfOk bs r)
    (one_text (found_of c.args.run.now) (codes "logs")) c.get_one.result c.get_one.ensures.none c.get_one.ensures.value (λ u x g. g.0) some in
    subst (λ (o : Option Text). option_map_or logs_of_text o (Some 1) ≡ Some c.unwrap_or.result) same (read ∙ ap (λ (n : ℕ). Some n) (sym c.unwrap_or.ensures))
