use Rattle.std.proofs.Common.{arith, ◌≡◌, ◌≤◌, ◌+◌, ◌-◌, ◌^◌, ℕ, min, max, ◌∙◌, ap, length}
use Rattle.im_format.specs.Places.{log_end}
use Rattle.im_opening.proofs.EndLemmas.{EndsAt, ends-first, ends-last, ends-next}
use Rattle.im_opening.proofs.ends.ends_of.Goals as goal

pub loop-record-init : goal.loop-record-init
loop-record-init c =
    let rs = c.args.records.now in
    record { first = ends-first 0 rs; second = ends-first 1 rs; third = ends-first 2 rs; fourth = ends-first 3 rs }

pub loop-record-preserved : goal.loop-record-preserved
loop-record-preserved c =
    let inv = c.loop-record.invariant in
    let rs = c.args.records.now in
    let i = c.loop-record.record-index in
    let refs = c.record-item.result.refs in
    let same : c.as_slice-refs.result.now ≡ refs = c.as_slice-refs.ensures in
    let next : (log end more : ℕ) → EndsAt log end i rs → more ≡ min (max end (log_end log c.as_slice-refs.result.now)) (2 ^ 64 - 1) → EndsAt log more (i + 1) rs =
    λ log end more at is. ends-next log end more i rs c.record-item.result at c.loop-record-test.true c.record-item.is (is ∙ ap (λ r. min (max end (log_end log r)) (2 ^ 64 - 1)) same)
    in
    record {
      first = next 0 c.loop-record.first c.end_behind-first.result inv.first c.end_behind-first.ensures;
      second = next 1 c.loop-record.second c.end_behind-second.result inv.second c.end_behind-second.ensures;
      third = next 2 c.loop-record.third c.end_behind-third.result inv.third c.end_behind-third.ensures;
      fourth = next 3 c.loop-record.fourth c.end_behind-fourth.result inv.fourth c.end_behind-fourth.ensures;
    }

pub returns : goal.returns
returns c =
    let inv = c.loop-record.invariant in
    let rs = c.args.records.now in
    let all : length rs ≤ c.loop-record.record-index = omega (arith, c.loop-record-test.false) in
    let first = ends-last 0 c.loop-record.first c.loop-record.record-index rs inv.first all in
    let second = ends-last 1 c.loop-record.second c.loop-record.record-index rs inv.second all in
    let third = ends-last 2 c.loop-record.third c.loop-record.record-index rs inv.third all in
    let fourth = ends-last 3 c.loop-record.fourth c.loop-record.record-index rs inv.fourth all in
    cc
