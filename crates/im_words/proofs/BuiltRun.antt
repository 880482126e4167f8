-- The subcommands as clap builds them.
use Rattle.std.proofs.Common.{Bool, cond, List, [], ◌∷◌, Option, Some, None}
use Rattle.clap.specs.Words.{Rule, Shape, built}
use Rattle.clap.specs.Simple.{built_leaf, filled, inherited, with_index}
use Rattle.im_words.specs.Command.{Texts, im_at, im_command, gen_shape, lines_rule, link_rule, logs_rule, run_shape, show_shape, verify_shape}

-- `--logs` as built
abbrev pub logs_built : Rule
logs_built = filled logs_rule

-- `--link` as built
abbrev pub link_built : Texts → Rule
link_built names = filled (link_rule names)

-- the subcommand `run`
abbrev pub run_built : Texts → Shape
run_built names = built_leaf (inherited (built (im_at names)).top (run_shape names))

-- the subcommand `verify`
abbrev pub verify_built : Shape
verify_built = built_leaf (inherited (built im_command).top verify_shape)

-- the subcommand `show`
abbrev pub show_built : Shape
show_built = built_leaf (inherited (built im_command).top show_shape)

-- the number of lines as built: the first positional
abbrev pub lines_built : Rule
lines_built = with_index 1 (filled lines_rule)

-- the subcommand `gen`
abbrev pub gen_built : Shape
gen_built = built_leaf (inherited (built im_command).top gen_shape)

-- the subcommand that passes its test, the first of them
abbrev pub first_built : Texts → Bool → Bool → Bool → Bool → Option Shape
first_built names run verify show gen =
    cond run (Some (run_built names)) (cond verify (Some verify_built) (cond show (Some show_built) (cond gen (Some gen_built) None)))

-- the options of `run`
abbrev pub rules_built : Texts → List Rule
rules_built names = logs_built ∷ link_built names ∷ []

-- the first of the two options that passes its test
abbrev pub first_option : Texts → Bool → Bool → Option Rule
first_option names logs link = cond logs (Some logs_built) (cond link (Some (link_built names)) None)
