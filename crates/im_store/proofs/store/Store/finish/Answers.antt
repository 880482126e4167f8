use Rattle.std.proofs.Common.{◌≡◌, ◌-◌, ◌∙◌, ℕ, arith, subst}
use Rattle.im_journal.specs.declared.errors.JournalError.{JournalError}
use Rattle.im_octet.proofs.Common.{if-err}
use Rattle.im_store.specs.Gains.{HasStepped}
use Rattle.im_store.specs.Settling.{ExplainsHalt}
use Rattle.im_store.proofs.FlushLemmas.{counted_explains, counted_halt, counted_told, passed_told}
use Rattle.im_store.proofs.GainLemmas.{follows_then, follows_told}
use Rattle.im_store.proofs.store.Store.finish.Goals as goal

-- the three steps: each tells as many failures as its answer, and those before the last told none
pub returns-clause-follows : goal.returns-clause-follows
returns-clause-follows g c =
    let stage = c.stage in
    let seal = c.seal in
    let settle = c.settle in
    let none : stage.new.self.failures ≡ 0 = c.in_ok-stage.ensures.counted.failures (λ e. absurd (cc (e))) ∙ c.requires.going in
    let still : seal.new.self.failures ≡ 0 = c.in_ok-seal.ensures.counted.failures (λ e. absurd (cc (e))) ∙ none in
    let first : stage.new.self.failures - c.args.journal.now.failures ≡ 0 = omega (arith, none) in
    let second : seal.new.self.failures - stage.new.self.failures ≡ 0 = omega (arith, still) in
    let a = subst (λ (k : ℕ). HasStepped k c.args.pass.now stage.new.pass) first
    (follows_told (stage.new.self.failures - c.args.journal.now.failures) c.args.pass.now stage.new.pass stage.ensures.later stage.ensures.adds stage.ensures.looks) in
    let b = subst (λ (k : ℕ). HasStepped k stage.new.pass seal.new.pass) second
    (follows_told (seal.new.self.failures - stage.new.self.failures) stage.new.pass seal.new.pass seal.ensures.later seal.ensures.adds seal.ensures.looks) in
    let d = subst (λ (k : ℕ). HasStepped k seal.new.pass settle.new.pass) (counted_told _ _ _ _ settle.result still settle.ensures.counted)
    (follows_told _ seal.new.pass settle.new.pass settle.ensures.later settle.ensures.adds settle.ensures.looks) in
    follows_then _ c.args.pass.now seal.new.pass settle.new.pass (follows_then 0 c.args.pass.now stage.new.pass seal.new.pass a b) d

pub returns-clause-looks : goal.returns-clause-looks
returns-clause-looks g c = c.settle.ensures.looks ∙ c.seal.ensures.looks ∙ c.stage.ensures.looks

-- the first fails
pub returns-in_err-stage-clause-follows : goal.returns-in_err-stage-clause-follows
returns-in_err-stage-clause-follows g c =
    let stage = c.stage in
    let told = counted_told _ _ _ _ _ c.requires.going c.in_err-stage.ensures.counted in
    subst (λ (k : ℕ). HasStepped k c.args.pass.now stage.new.pass) (told ∙ passed_told (Unit {0}) _ c.in_err-stage.field-0.0 c.from_residual.result c.from_residual.ensures.1)
    (follows_told (stage.new.self.failures - c.args.journal.now.failures) c.args.pass.now stage.new.pass stage.ensures.later stage.ensures.adds stage.ensures.looks)

pub returns-in_err-stage-clause-err : goal.returns-in_err-stage-clause-err
returns-in_err-stage-clause-err g c =
    let stage = c.stage in
    let cause : JournalError = c.in_err-stage.field-0.0 in
    if-err (λ why. ExplainsHalt c.args.pass.now stage.new.pass why) c.from_residual.result cause c.from_residual.ensures.1
    (counted_halt _ c.args.pass.now stage.new.pass _ _ _ _ cause c.requires.none c.in_err-stage.ensures.counted stage.ensures.words.1
    (λ n stop. absurd (omega (arith, c.requires.going, c.in_err-stage.ensures.going n stop))))

-- the second does
pub returns-in_err-seal-clause-follows : goal.returns-in_err-seal-clause-follows
returns-in_err-seal-clause-follows g c =
    let stage = c.stage in
    let seal = c.seal in
    let none : stage.new.self.failures ≡ 0 = c.in_ok-stage.ensures.counted.failures (λ e. absurd (cc (e))) ∙ c.requires.going in
    let first : stage.new.self.failures - c.args.journal.now.failures ≡ 0 = omega (arith, none) in
    let a = subst (λ (k : ℕ). HasStepped k c.args.pass.now stage.new.pass) first
    (follows_told (stage.new.self.failures - c.args.journal.now.failures) c.args.pass.now stage.new.pass stage.ensures.later stage.ensures.adds stage.ensures.looks) in
    let told = counted_told _ _ _ _ _ none c.in_err-seal.ensures.counted in
    let b = subst (λ (k : ℕ). HasStepped k stage.new.pass seal.new.pass)
    (told ∙ passed_told (Unit {0}) _ c.in_err-seal.field-0.0 c.from_residual-in_err-seal.result c.from_residual-in_err-seal.ensures.1)
    (follows_told (seal.new.self.failures - stage.new.self.failures) stage.new.pass seal.new.pass seal.ensures.later seal.ensures.adds seal.ensures.looks) in
    follows_then _ c.args.pass.now stage.new.pass seal.new.pass a b

pub returns-in_err-seal-clause-err : goal.returns-in_err-seal-clause-err
returns-in_err-seal-clause-err g c =
    let seal = c.seal in
    let cause : JournalError = c.in_err-seal.field-0.0 in
    let none : c.stage.new.self.failures ≡ 0 = c.in_ok-stage.ensures.counted.failures (λ e. absurd (cc (e))) ∙ c.requires.going in
    if-err (λ why. ExplainsHalt c.args.pass.now seal.new.pass why) c.from_residual-in_err-seal.result cause c.from_residual-in_err-seal.ensures.1
    (counted_halt _ c.args.pass.now seal.new.pass _ _ _ _ cause c.requires.none c.in_err-seal.ensures.counted seal.ensures.words.1
    (λ n stop. absurd (omega (arith, none, c.in_err-seal.ensures.going n stop))))

pub returns-in_err-seal-clause-looks : goal.returns-in_err-seal-clause-looks
returns-in_err-seal-clause-looks g c = c.seal.ensures.looks ∙ c.stage.ensures.looks

-- the third doesn't stop
pub returns-clause-err : goal.returns-clause-err
returns-clause-err g c =
    let settle = c.settle in
    let none : c.stage.new.self.failures ≡ 0 = c.in_ok-stage.ensures.counted.failures (λ e. absurd (cc (e))) ∙ c.requires.going in
    let still : c.seal.new.self.failures ≡ 0 = c.in_ok-seal.ensures.counted.failures (λ e. absurd (cc (e))) ∙ none in
    counted_explains c.args.pass.now settle.new.pass _ _ _ _ settle.result c.requires.none settle.ensures.counted settle.ensures.words.1
    (λ n stop. absurd (omega (arith, still, settle.ensures.going n stop)))
