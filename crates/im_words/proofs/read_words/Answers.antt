use Rattle.std.proofs.Common.{◌≡◌, ◌∙◌, IsSome, Err, map, ap, subst, sym, inl, inr}
use Rattle.std.specs.String.{string_bytes}
use Rattle.clap.specs.Words.{Row, Text}
use Rattle.std.specs.Prelude.{List, Option, Some}
use Rattle.im_words.specs.Meaning.{asked_of}
use Rattle.im_words.specs.declared.Request.TheVariants.{Run, Verify, Show, Gen}
use Rattle.im_words.specs.declared.WordsError.{WordsError}
use Rattle.im_words.specs.declared.WordsError.TheVariants.{Memory}
use Rattle.im_words.proofs.AnswerLemmas.{error_up, taken_error}
use Rattle.im_words.proofs.FormLemmas.{form_means, form_taken, gen_taken, show_asks, show_taken, verify_asks, verify_taken}
use Rattle.im_words.proofs.AskedLemmas.{taken_asked}
use Rattle.im_words.proofs.GenLemmas.{gen_means}
use Rattle.im_words.proofs.read_words.Goals as goal

pub returns-in_err-matches-clause-taken : goal.returns-in_err-matches-clause-taken
returns-in_err-matches-clause-taken c = λ logs link form.
    let words = map string_bytes c.args.words.now in
    let memory : c.in_err-matches.field-0.0 ≡ Memory = taken_error words c.in_err-matches.field-0.0 (form_taken words logs link form) (λ usage. c.in_err-matches.ensures.refused (ap (λ (e : WordsError). Err e) usage)) in
    inr (error_up c.from_residual.result c.in_err-matches.field-0.0 Memory c.from_residual.ensures.1 memory)

pub returns-in_err-matches-clause-taken_verify : goal.returns-in_err-matches-clause-taken_verify
returns-in_err-matches-clause-taken_verify c = λ form.
    let words = map string_bytes c.args.words.now in
    let memory : c.in_err-matches.field-0.0 ≡ Memory = taken_error words c.in_err-matches.field-0.0 (verify_taken words form) (λ usage. c.in_err-matches.ensures.refused (ap (λ (e : WordsError). Err e) usage)) in
    inr (error_up c.from_residual.result c.in_err-matches.field-0.0 Memory c.from_residual.ensures.1 memory)

pub returns-in_err-matches-clause-taken_show : goal.returns-in_err-matches-clause-taken_show
returns-in_err-matches-clause-taken_show c = λ form.
    let words = map string_bytes c.args.words.now in
    let memory : c.in_err-matches.field-0.0 ≡ Memory = taken_error words c.in_err-matches.field-0.0 (show_taken words form) (λ usage. c.in_err-matches.ensures.refused (ap (λ (e : WordsError). Err e) usage)) in
    inr (error_up c.from_residual.result c.in_err-matches.field-0.0 Memory c.from_residual.ensures.1 memory)

pub asked-requires : goal.asked-requires
asked-requires c =
    let asked = taken_asked (map string_bytes c.args.words.now) c.in_ok-matches.ensures.faultless.no_kind in
    subst (λ (s : Option (Text × List Row)). IsSome (asked_of s)) (sym c.in_ok-matches.ensures.subcommand) asked

pub returns-clause-taken : goal.returns-clause-taken
returns-clause-taken c = λ logs link form.
    let means = form_means (map string_bytes c.args.words.now) logs link form in
    let same : Some c.asked.result ≡ Some (Run logs link) = sym c.asked.ensures ∙ ap asked_of c.in_ok-matches.ensures.subcommand ∙ means.asked in
    inl (cc same)

pub returns-clause-taken_verify : goal.returns-clause-taken_verify
returns-clause-taken_verify c = λ form.
    let asks = verify_asks (map string_bytes c.args.words.now) form in
    let same : Some c.asked.result ≡ Some Verify = sym c.asked.ensures ∙ ap asked_of c.in_ok-matches.ensures.subcommand ∙ asks in
    inl (cc same)

pub returns-clause-taken_show : goal.returns-clause-taken_show
returns-clause-taken_show c = λ form.
    let asks = show_asks (map string_bytes c.args.words.now) form in
    let same : Some c.asked.result ≡ Some Show = sym c.asked.ensures ∙ ap asked_of c.in_ok-matches.ensures.subcommand ∙ asks in
    inl (cc same)

pub returns-in_err-matches-clause-taken_gen : goal.returns-in_err-matches-clause-taken_gen
returns-in_err-matches-clause-taken_gen c = λ n form.
    let words = map string_bytes c.args.words.now in
    let memory : c.in_err-matches.field-0.0 ≡ Memory = taken_error words c.in_err-matches.field-0.0 (gen_taken words n form) (λ usage. c.in_err-matches.ensures.refused (ap (λ (e : WordsError). Err e) usage)) in
    inr (error_up c.from_residual.result c.in_err-matches.field-0.0 Memory c.from_residual.ensures.1 memory)

pub returns-clause-taken_gen : goal.returns-clause-taken_gen
returns-clause-taken_gen c = λ n form.
    let asks = (gen_means (map string_bytes c.args.words.now) n form).asked in
    let same : Some c.asked.result ≡ Some (Gen n) = sym c.asked.ensures ∙ ap asked_of c.in_ok-matches.ensures.subcommand ∙ asks in
    inl (cc same)
