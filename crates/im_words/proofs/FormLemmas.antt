-- Words of the forms are taken, and mean what they say.
use Rattle.std.proofs.Common.{◌≡◌, ◌∙◌, ◌≤◌, ℕ, zero, suc, List, [], ◌∷◌, ◌++◌, Some, refl, subst, sym, codes, inl, inr, arith}
use Rattle.std.specs.Fmt.{digits}
use Rattle.clap.specs.Words.{IsAmong, Text, fault_of, subcommand_of}
use Rattle.clap.proofs.OnLiterals.{clap_on_literals}
use Rattle.im_words.specs.Command.{AreWordsRefused, im_command}
use Rattle.im_words.specs.Meaning.{AsksGen, AsksRun, AsksShow, AsksVerify, asked_of}
use Rattle.im_words.specs.Form.{GivesOptions, IsForm, IsGenForm, IsShowForm, IsVerifyForm, link_words, logs_words}
use Rattle.im_words.specs.declared.Request.TheVariants.{Run, Verify, Show, Gen}
use Rattle.im_words.specs.declared.Link.{Link}
use Rattle.im_words.specs.declared.Link.TheVariants.{Auto, Manual}
use Rattle.im_words.proofs.GenLemmas.{gen_means}

-- clap takes the words, and they ask for this run
pub record Means (words : List Text) (logs : ℕ) (link : Link) : Type 0 where
  pub faultless : fault_of im_command words ≡ []
  pub asked : asked_of (subcommand_of im_command words) ≡ Some (Run logs link)

bare : (name : Text) → Means (name ∷ codes "run" ∷ []) 1 Auto
unfolding clap_on_literals
bare name = record { faultless = refl; asked = refl }

-- a fact of each number from 1 to 4
one_of_four : (P : ℕ → Type 0) → P 1 → P 2 → P 3 → P 4 → (n : ℕ) → 1 ≤ n → n ≤ 4 → P n
one_of_four P a b c d zero some few = absurd (omega arith)
one_of_four P a b c d (suc zero) some few = a
one_of_four P a b c d (suc (suc zero)) some few = b
one_of_four P a b c d (suc (suc (suc zero))) some few = c
one_of_four P a b c d (suc (suc (suc (suc zero)))) some few = d
one_of_four P a b c d (suc (suc (suc (suc (suc n))))) some few = absurd (omega arith)

logs_alone : (name : Text) (logs : ℕ) → 1 ≤ logs → logs ≤ 4 → Means (name ∷ codes "run" ∷ logs_words logs) logs Auto
unfolding clap_on_literals digits
logs_alone name = one_of_four (λ n. Means (name ∷ codes "run" ∷ logs_words n) n Auto)
    (record { faultless = refl; asked = refl }) (record { faultless = refl; asked = refl }) (record { faultless = refl; asked = refl }) (record { faultless = refl; asked = refl })

link_alone : (name : Text) (link : Link) → Means (name ∷ codes "run" ∷ link_words link) 1 link
unfolding clap_on_literals
link_alone name Auto = record { faultless = refl; asked = refl }
link_alone name Manual = record { faultless = refl; asked = refl }

logs_first : (name : Text) (link : Link) (logs : ℕ) → 1 ≤ logs → logs ≤ 4 → Means (name ∷ codes "run" ∷ (logs_words logs ++ link_words link)) logs link
unfolding clap_on_literals digits
logs_first name Auto = one_of_four (λ n. Means (name ∷ codes "run" ∷ (logs_words n ++ link_words Auto)) n Auto)
    (record { faultless = refl; asked = refl }) (record { faultless = refl; asked = refl }) (record { faultless = refl; asked = refl }) (record { faultless = refl; asked = refl })
logs_first name Manual = one_of_four (λ n. Means (name ∷ codes "run" ∷ (logs_words n ++ link_words Manual)) n Manual)
    (record { faultless = refl; asked = refl }) (record { faultless = refl; asked = refl }) (record { faultless = refl; asked = refl }) (record { faultless = refl; asked = refl })

link_first : (name : Text) (link : Link) (logs : ℕ) → 1 ≤ logs → logs ≤ 4 → Means (name ∷ codes "run" ∷ (link_words link ++ logs_words logs)) logs link
unfolding clap_on_literals digits
link_first name Auto = one_of_four (λ n. Means (name ∷ codes "run" ∷ (link_words Auto ++ logs_words n)) n Auto)
    (record { faultless = refl; asked = refl }) (record { faultless = refl; asked = refl }) (record { faultless = refl; asked = refl }) (record { faultless = refl; asked = refl })
link_first name Manual = one_of_four (λ n. Means (name ∷ codes "run" ∷ (link_words Manual ++ logs_words n)) n Manual)
    (record { faultless = refl; asked = refl }) (record { faultless = refl; asked = refl }) (record { faultless = refl; asked = refl }) (record { faultless = refl; asked = refl })

options_mean : (name : Text) (options : List Text) (logs : ℕ) (link : Link) → 1 ≤ logs → logs ≤ 4 → GivesOptions options logs link
    → Means (name ∷ codes "run" ∷ options) logs link
options_mean name options logs link some few (inl given) =
    subst (λ (ws : List Text). Means (name ∷ codes "run" ∷ ws) logs link) (sym given.0)
    (subst (λ (n : ℕ). Means (name ∷ codes "run" ∷ []) n link) (sym given.1) (subst (λ (l : Link). Means (name ∷ codes "run" ∷ []) 1 l) (sym given.2) (bare name)))
options_mean name options logs link some few (inr (inl given)) =
    subst (λ (ws : List Text). Means (name ∷ codes "run" ∷ ws) logs link) (sym given.0)
    (subst (λ (l : Link). Means (name ∷ codes "run" ∷ logs_words logs) logs l) (sym given.1) (logs_alone name logs some few))
options_mean name options logs link some few (inr (inr (inl given))) =
    subst (λ (ws : List Text). Means (name ∷ codes "run" ∷ ws) logs link) (sym given.0)
    (subst (λ (n : ℕ). Means (name ∷ codes "run" ∷ link_words link) n link) (sym given.1) (link_alone name link))
options_mean name options logs link some few (inr (inr (inr (inl given)))) =
    subst (λ (ws : List Text). Means (name ∷ codes "run" ∷ ws) logs link) (sym given) (logs_first name link logs some few)
options_mean name options logs link some few (inr (inr (inr (inr given)))) =
    subst (λ (ws : List Text). Means (name ∷ codes "run" ∷ ws) logs link) (sym given) (link_first name link logs some few)

-- words of the form are taken, and ask for the run that they write
pub form_means : (words : List Text) (logs : ℕ) (link : Link) → IsForm words logs link → Means words logs link
form_means words logs link form =
    subst (λ (ws : List Text). Means ws logs link) (sym form.are) (options_mean form.name form.options logs link form.some form.few form.given)

-- and ask for a run
pub form_asks : (words : List Text) (logs : ℕ) (link : Link) → IsForm words logs link → AsksRun words
form_asks words logs link form = (logs, link, (form_means words logs link form).asked)

-- clap takes the words, and they ask for `verify`
pub record MeansVerify (words : List Text) : Type 0 where
  pub faultless : fault_of im_command words ≡ []
  pub asks : AsksVerify words

verify_alone : (name : Text) → MeansVerify (name ∷ codes "verify" ∷ [])
unfolding clap_on_literals
verify_alone name = record { faultless = refl; asks = refl }

-- the words of `verify` are taken, and ask for it
pub verify_means : (words : List Text) → IsVerifyForm words → MeansVerify words
verify_means words form = subst MeansVerify (sym form.are) (verify_alone form.name)

pub verify_asks : (words : List Text) → IsVerifyForm words → AsksVerify words
verify_asks words form = (verify_means words form).asks

-- clap takes the words, and they ask for `show`
pub record MeansShow (words : List Text) : Type 0 where
  pub faultless : fault_of im_command words ≡ []
  pub asks : AsksShow words

show_alone : (name : Text) → MeansShow (name ∷ codes "show" ∷ [])
unfolding clap_on_literals
show_alone name = record { faultless = refl; asks = refl }

-- the words of `show` are taken, and ask for it
pub show_means : (words : List Text) → IsShowForm words → MeansShow words
show_means words form = subst MeansShow (sym form.are) (show_alone form.name)

pub show_asks : (words : List Text) → IsShowForm words → AsksShow words
show_asks words form = (show_means words form).asks

-- words with no fault aren't refused
none_refused : (words : List Text) → fault_of im_command words ≡ [] → AreWordsRefused words → ⊥
none_refused words faultless why = subst (IsAmong why.kind) faultless why.among

-- words of the forms are never refused
pub form_taken : (words : List Text) (logs : ℕ) (link : Link) → IsForm words logs link → AreWordsRefused words → ⊥
form_taken words logs link form = none_refused words (form_means words logs link form).faultless

pub verify_taken : (words : List Text) → IsVerifyForm words → AreWordsRefused words → ⊥
verify_taken words form = none_refused words (verify_means words form).faultless

pub show_taken : (words : List Text) → IsShowForm words → AreWordsRefused words → ⊥
show_taken words form = none_refused words (show_means words form).faultless

-- no words ask for `show` and for another
pub run_not_show : (words : List Text) → AsksRun words → AsksShow words → ⊥
run_not_show words run show = go (sym run.2 ∙ show)
  where
    go : Some (Run run.0 run.1) ≡ Some Show → ⊥
    go same = cc

pub verify_not_show : (words : List Text) → AsksVerify words → AsksShow words → ⊥
verify_not_show words verify show = go (sym verify ∙ show)
  where
    go : Some Verify ≡ Some Show → ⊥
    go same = cc

pub gen_taken : (words : List Text) (n : ℕ) → IsGenForm words n → AreWordsRefused words → ⊥
gen_taken words n form = none_refused words (gen_means words n form).faultless

-- no words ask for a script and for another
pub run_not_gen : (words : List Text) → AsksRun words → AsksGen words → ⊥
run_not_gen words run gen = go (sym run.2 ∙ gen.1)
  where
    go : Some (Run run.0 run.1) ≡ Some (Gen gen.0) → ⊥
    go same = cc

pub verify_not_gen : (words : List Text) → AsksVerify words → AsksGen words → ⊥
verify_not_gen words verify gen = go (sym verify ∙ gen.1)
  where
    go : Some Verify ≡ Some (Gen gen.0) → ⊥
    go same = cc

pub show_not_gen : (words : List Text) → AsksShow words → AsksGen words → ⊥
show_not_gen words show gen = go (sym show ∙ gen.1)
  where
    go : Some Show ≡ Some (Gen gen.0) → ⊥
    go same = cc

-- or for two scripts
pub gen_same : (words : List Text) (a b : AsksGen words) → a.0 ≡ b.0
gen_same words a b = go (sym a.1 ∙ b.1)
  where
    go : Some (Gen a.0) ≡ Some (Gen b.0) → a.0 ≡ b.0
    go same = cc

-- no words ask for a run and for `verify`
pub asks_one : (words : List Text) → AsksRun words → AsksVerify words → ⊥
asks_one words run verify = go (sym run.2 ∙ verify)
  where
    go : Some (Run run.0 run.1) ≡ Some Verify → ⊥
    go same = cc

-- or for two runs
pub asks_same : (words : List Text) (a b : AsksRun words) → (a.0 ≡ b.0) × (a.1 ≡ b.1)
asks_same words a b = go (sym a.2 ∙ b.2)
  where
    go : Some (Run a.0 a.1) ≡ Some (Run b.0 b.1) → (a.0 ≡ b.0) × (a.1 ≡ b.1)
    go same = (cc, cc)

-- words of the form ask for the run that they write
pub form_asks_so : (words : List Text) (logs : ℕ) (link : Link) → IsForm words logs link → (asks : AsksRun words) × (asks.0 ≡ logs) × (asks.1 ≡ link)
form_asks_so words logs link form = ((logs, link, (form_means words logs link form).asked), refl, refl)

-- and for no other
pub form_asks_only : (words : List Text) (logs : ℕ) (link : Link) → IsForm words logs link → (asks : AsksRun words) → (asks.0 ≡ logs) × (asks.1 ≡ link)
form_asks_only words logs link form asks = asks_same words asks (logs, link, (form_means words logs link form).asked)
