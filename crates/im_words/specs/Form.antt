-- The words that are always taken.
use Rattle.std.specs.Prelude.{◌≡◌, ◌⊎◌, ◌≤◌, ◌++◌, ℕ, List, [], ◌∷◌, codes}
use Rattle.std.specs.Fmt.{decimal}
use Rattle.clap.specs.Words.{Text}
use Rattle.im_words.specs.declared.Link.{Link}
use Rattle.im_words.specs.declared.Link.TheVariants.{Auto, Manual}

-- the name of a link
abbrev pub link_text : Link → Text
link_text Auto = codes "auto"
link_text Manual = codes "manual"

-- `--logs` with a number
abbrev pub logs_words : ℕ → List Text
logs_words logs = codes "--logs" ∷ decimal logs ∷ []

-- `--link` with the name of a link
abbrev pub link_words : Link → List Text
link_words link = codes "--link" ∷ link_text link ∷ []

-- the words give the options, in either order, and one that they lack has its default
abbrev pub GivesOptions : List Text → ℕ → Link → Type 0
GivesOptions words logs link = ((words ≡ []) × (logs ≡ 1) × (link ≡ Auto))
    ⊎ (((words ≡ logs_words logs) × (link ≡ Auto)) ⊎ (((words ≡ link_words link) × (logs ≡ 1))
    ⊎ ((words ≡ logs_words logs ++ link_words link)
    ⊎ (words ≡ link_words link ++ logs_words logs))))

-- the words are the program's name, `run` and its options, with 1 to 4 logs
pub record IsForm (words : List Text) (logs : ℕ) (link : Link) : Type 0 where
  pub name : Text
  pub options : List Text
  pub are : words ≡ name ∷ codes "run" ∷ options
  pub some : 1 ≤ logs
  pub few : logs ≤ 4
  pub given : GivesOptions options logs link

-- the words are the program's name and `verify`
pub record IsVerifyForm (words : List Text) : Type 0 where
  pub name : Text
  pub are : words ≡ name ∷ codes "verify" ∷ []

-- the words are the program's name and `show`
pub record IsShowForm (words : List Text) : Type 0 where
  pub name : Text
  pub are : words ≡ name ∷ codes "show" ∷ []

-- the words are the program's name, `gen` and a number, at most 100,000
pub record IsGenForm (words : List Text) (n : ℕ) : Type 0 where
  pub name : Text
  pub are : words ≡ name ∷ codes "gen" ∷ decimal n ∷ []
  pub few : n ≤ 100000
