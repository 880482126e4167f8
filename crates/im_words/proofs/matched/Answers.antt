use Rattle.std.proofs.Common.{◌≡◌, map}
use Rattle.std.specs.String.{string_bytes}
use Rattle.clap.specs.Words.{app_of}
use Rattle.im_words.specs.declared.WordsError.TheVariants.{Usage}
use Rattle.im_words.proofs.AnswerLemmas.{matches_from, refused_from, faultless_from}
use Rattle.im_words.proofs.matched.Goals as goal

pub returns-in-Ok-clause-faultless :
    goal.returns-in-Ok-clause-faultless
returns-in-Ok-clause-faultless c =
    let made = c.in_ok-command.ensures in
    faultless_from made.0 (app_of c.in_ok-command.command) (map string_bytes c.args.words.now) made.1 made.2 c.in-Ok.ensures.kinds

pub returns-in-Ok-clause-subcommand :
    goal.returns-in-Ok-clause-subcommand
returns-in-Ok-clause-subcommand c =
    let made = c.in_ok-command.ensures in
    matches_from made.0 (app_of c.in_ok-command.command) (map string_bytes c.args.words.now) c.in-Ok.matches made.2
    c.in-Ok.ensures.matches

pub returns-in-Err-clause-refused : goal.returns-in-Err-clause-refused
returns-in-Err-clause-refused c = λ is.
    let made = c.in_ok-command.ensures in
    let usage : c.cause.result ≡ Usage = cc is in
    refused_from made.0 (app_of c.in_ok-command.command) (map string_bytes c.args.words.now) c.in-Err.error made.1 made.2 c.in-Err.ensures.kinds
    (c.cause.ensures.usage.0 usage)
