-- What the matches of a command line ask for.
use Rattle.std.specs.Prelude.{◌≡◌, ◌≤◌, ℕ, List, Option, Some, None, codes, option_map, option_and_then, if◌then◌else◌}
use Rattle.std.specs.Option.{option_map_or}
use Rattle.std.specs.Str.{bytes_eq}
use Rattle.std.specs.Str.Parse.{digits_value, without_leading_plus}
use Rattle.clap.specs.Words.{Row, Text, first_of, one_of, subcommand_of}
use Rattle.clap.specs.ValueTests.{is_unsigned_in}
use Rattle.im_words.specs.Command.{im_command}
use Rattle.im_words.specs.declared.Request.{Request}
use Rattle.im_words.specs.declared.Request.TheVariants.{Run, Verify, Show, Gen}
use Rattle.im_words.specs.declared.Link.{Link}
use Rattle.im_words.specs.declared.Link.TheVariants.{Auto, Manual}

-- the number of logs that a text writes, from 1 to 4
abbrev pub logs_of_text : Text → Option ℕ
logs_of_text text =
    if is_unsigned_in 1 4 text then Some (digits_value 10 (without_leading_plus text)) else None

-- the link that a text names
abbrev pub link_of_text : Text → Option Link
link_of_text text = if bytes_eq text (codes "auto") then Some Auto
    else (if bytes_eq text (codes "manual") then Some Manual else None)

-- the number of logs of a run, 1 where none is given
abbrev pub logs_of : List Row → Option ℕ
logs_of rows = option_map_or logs_of_text (one_of (codes "logs") rows) (Some 1)

-- the link of a run, `auto` where none is given
abbrev pub link_of : List Row → Option Link
link_of rows = option_map_or link_of_text (first_of (codes "link") rows) (Some Auto)

-- the run that the matches of `run` ask for
abbrev pub run_of : List Row → Option Request
run_of rows = option_and_then (λ logs. option_map (λ link. Run logs link) (link_of rows)) (logs_of rows)

-- the number that a text writes, from 0 to 100,000
abbrev pub lines_of_text : Text → Option ℕ
lines_of_text text =
    if is_unsigned_in 0 100000 text then Some (digits_value 10 (without_leading_plus text)) else None

-- the script that the matches of `gen` ask for, by its number of lines
abbrev pub gen_of : List Row → Option Request
gen_of rows = option_map (λ n. Gen n) (option_and_then lines_of_text (one_of (codes "lines") rows))

-- what the subcommand's name and matches ask for
abbrev pub asked_of : Option (Text × List Row) → Option Request
asked_of None = None
asked_of (Some p) = if bytes_eq p.0 (codes "run") then run_of p.1
    else (if bytes_eq p.0 (codes "verify") then Some Verify else (if bytes_eq p.0 (codes "show") then Some Show
    else (if bytes_eq p.0 (codes "gen") then gen_of p.1 else None)))

-- the words ask for a run
abbrev pub AsksRun : List Text → Type 0
AsksRun words = (logs : ℕ) × (link : Link)
    × (asked_of (subcommand_of im_command words) ≡ Some (Run logs link))

-- the words ask for `verify`
abbrev pub AsksVerify : List Text → Type 0
AsksVerify words = asked_of (subcommand_of im_command words) ≡ Some Verify

-- the words ask for `show`
abbrev pub AsksShow : List Text → Type 0
AsksShow words = asked_of (subcommand_of im_command words) ≡ Some Show

-- the words ask for the script of some lines
abbrev pub AsksGen : List Text → Type 0
AsksGen words = (n : ℕ) × (asked_of (subcommand_of im_command words) ≡ Some (Gen n))

-- a run has 1 to 4 logs, and a script at most 100,000 lines
abbrev pub HasFewLogs : Request → Type 0
HasFewLogs (Run logs link) = (1 ≤ logs) × (logs ≤ 4)
HasFewLogs Verify = Unit {0}
HasFewLogs Show = Unit {0}
HasFewLogs (Gen n) = n ≤ 100000
