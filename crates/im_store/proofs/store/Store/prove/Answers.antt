use Rattle.im_octet.proofs.Common.{if-err}
use Rattle.im_store.specs.Reading.{ExplainsProve}
use Rattle.im_store.specs.declared.errors.ProveError.TheVariants as proves
use Rattle.im_store.proofs.GainLemmas.{follows_then}
use Rattle.im_store.proofs.ProveLemmas.{durable_on, known_durable}
use Rattle.im_store.proofs.store.Store.prove.Goals as goal

-- the numbers are refused
pub returns-in_err-check_between-clause-later : goal.returns-in_err-check_between-clause-later
returns-in_err-check_between-clause-later g c = c.check_between.ensures.follows.later

pub returns-in_err-check_between-clause-gains : goal.returns-in_err-check_between-clause-gains
returns-in_err-check_between-clause-gains g c = c.check_between.ensures.follows.gains

pub returns-in_err-check_between-clause-err : goal.returns-in_err-check_between-clause-err
returns-in_err-check_between-clause-err g c =
    if-err (λ e. ExplainsProve c.args.pass.now c.check_between.new.pass c.args.s c.args.t e) c.from_residual.result c.in_err-check_between.field-0.0
    c.from_residual.ensures.1 c.in_err-check_between.ensures.err

pub dual_of-requires-clause-some : goal.dual_of-requires-clause-some
dual_of-requires-clause-some g c = c.in_ok-check_between.ensures.ok.some

pub dual_of-requires-clause-order : goal.dual_of-requires-clause-order
dual_of-requires-clause-order g c = c.in_ok-check_between.ensures.ok.order

pub dual_of-requires-clause-durable : goal.dual_of-requires-clause-durable
dual_of-requires-clause-durable g c = known_durable c.args.pass.now c.check_between.new.pass c.args.s c.args.t c.in_ok-check_between.ensures.ok

-- memory ran out
pub returns-in_err-dual_of-clause-err : goal.returns-in_err-dual_of-clause-err
returns-in_err-dual_of-clause-err g c =
    if-err (λ e. ExplainsProve c.args.pass.now c.dual_of.new.pass c.args.s c.args.t e) c.from_residual-in_err-dual_of.result proves.Memory
    c.from_residual-in_err-dual_of.ensures.1 tt

pub returns-in_err-dual_of-clause-later : goal.returns-in_err-dual_of-clause-later
returns-in_err-dual_of-clause-later g c =
    (follows_then 0 c.args.pass.now c.check_between.new.pass c.dual_of.new.pass c.check_between.ensures.follows c.dual_of.ensures.follows).later

pub returns-in_err-dual_of-clause-gains : goal.returns-in_err-dual_of-clause-gains
returns-in_err-dual_of-clause-gains g c =
    (follows_then 0 c.args.pass.now c.check_between.new.pass c.dual_of.new.pass c.check_between.ensures.follows c.dual_of.ensures.follows).gains

-- it is proved
pub returns-clause-later : goal.returns-clause-later
returns-clause-later g c =
    (follows_then 0 c.args.pass.now c.check_between.new.pass c.dual_of.new.pass c.check_between.ensures.follows c.dual_of.ensures.follows).later

pub returns-clause-gains : goal.returns-clause-gains
returns-clause-gains g c =
    (follows_then 0 c.args.pass.now c.check_between.new.pass c.dual_of.new.pass c.check_between.ensures.follows c.dual_of.ensures.follows).gains

pub returns-clause-ok : goal.returns-clause-ok
returns-clause-ok g c = record {
  durable = durable_on c.args.pass.now c.check_between.new.pass c.dual_of.new.pass c.args.s c.args.t c.in_ok-check_between.ensures.ok c.dual_of.ensures.follows c.dual_of.ensures.loads c.dual_of.ensures.seen;
  dual_is = c.in_ok-dual_of.ensures.dual;
}
