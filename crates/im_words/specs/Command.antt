-- The command `im` as clap reads it, and which words it refuses.
use Rattle.std.specs.Prelude.{◌≡◌, ◌≢◌, List, [], ◌∷◌, Some, true, pos, map, codes}
use Rattle.std.specs.Borrow.{Bor}
use Rattle.clap.specs.Words.{App, IsAmong, Rule, Shape, Text, fault_of, new_app, new_rule, with_subcommand}
use Rattle.clap.specs.declared.error.kind.ErrorKind.{ErrorKind}
use Rattle.clap.specs.declared.error.kind.ErrorKind.TheVariants.{OutOfMemory}
use Rattle.clap.specs.declared.builder.value_parser.ValueParser.TheVariants.{Names, Signed}

-- references to texts, as a parser of names holds them
abbrev pub Texts : Type 0
Texts = Bor (List (Bor Text))

-- the texts behind them
abbrev pub texts_behind : Texts → List Text
texts_behind names = map (λ name. name.now) names.now

-- `--logs`: a number from 1 to 4
abbrev pub logs_rule : Rule
logs_rule = record (new_rule (codes "logs")) {
  long = Some (codes "logs");
  parser = Some (Signed (pos 1) (pos 4));
}

-- `--link`: one of the names
abbrev pub link_rule : Texts → Rule
link_rule names = record (new_rule (codes "link")) {
  long = Some (codes "link");
  parser = Some (Names names);
}

-- the subcommand `run`
abbrev pub run_shape : Texts → Shape
run_shape names =
    record ((new_app (codes "run")).top) { rules = logs_rule ∷ link_rule names ∷ [] }

-- the subcommand `verify`, which has no option
abbrev pub verify_shape : Shape
verify_shape = (new_app (codes "verify")).top

-- the subcommand `show`, which has none either
abbrev pub show_shape : Shape
show_shape = (new_app (codes "show")).top

-- the number of lines of `gen`, from 0 to 100,000, which is required
abbrev pub lines_rule : Rule
lines_rule = record (new_rule (codes "lines")) {
  parser = Some (Signed (pos 0) (pos 100000));
  required = true;
}

-- the subcommand `gen`, with one value
abbrev pub gen_shape : Shape
gen_shape = record ((new_app (codes "gen")).top) { rules = lines_rule ∷ [] }

-- `im` with no help and no subcommand yet, of which one is required
abbrev pub im_top : App
im_top = record (new_app (codes "im")) {
  top = record ((new_app (codes "im")).top) {
    disable_help_flag = true;
    disable_help_subcommand = true;
    subcommand_required = true;
  };
}

-- `im` with its subcommands but for `gen`, where the names of links lie at these references
abbrev pub im_before : Texts → App
im_before names = with_subcommand (with_subcommand (with_subcommand im_top (run_shape names)) verify_shape) show_shape

-- `im` with its subcommands
abbrev pub im_at : Texts → App
im_at names = with_subcommand (im_before names) gen_shape

-- the names of links
abbrev pub link_texts : List Text
link_texts = codes "auto" ∷ codes "manual" ∷ []

-- what is made at references to the names of links, wherever they lie
abbrev pub IsMadeOfNames : {X : Type 0} → (Texts → X) → X → Type 0
IsMadeOfNames made x = (names : Texts) × (texts_behind names ≡ link_texts) × (x ≡ made names)

-- a reference to a value; where it points plays no part
abbrev pub reference : {X : Type 0} → X → Bor X
reference x = record { ref_ptr = (0, 0); now = x }

-- the same, at references
abbrev pub link_names : Texts
link_names = reference (map reference link_texts)

-- the command `im`
abbrev pub im_command : App
im_command = im_at link_names

-- clap refuses the words, for another cause than memory
pub record AreWordsRefused (words : List Text) : Type 0 where
  pub kind : ErrorKind
  pub among : IsAmong kind (fault_of im_command words)
  pub no_memory : kind ≢ OutOfMemory

-- clap finds no fault in the words
pub record IsFaultless (words : List Text) : Type 0 where
  pub no_kind : fault_of im_command words ≡ []
