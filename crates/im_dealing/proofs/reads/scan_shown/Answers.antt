use Rattle.std.proofs.Common.{◌≤◌, ◌∙◌, ℕ, List, ap, arith, map, unwrap_or}
use Rattle.std.proofs.lemmas.Result.{IfOk-weaker}
use Rattle.std.specs.Borrow.{Bor}
use Rattle.im_dealing.proofs.ReadLemmas.{none-said, read-beyond, read-within, some-said, still-given}
use Rattle.im_report.specs.Reads.{IsScanAnswer, scan_reply}
use Rattle.im_versions.specs.declared.versions.Version.{Version}
use Rattle.im_dealing.proofs.reads.scan_shown.Goals as goal

pub returns-in-Some : goal.returns-in-Some
returns-in-Some c history stands size =
    let refused = some-said _ _ c.in-Some.refused c.in-Some.is c.in_ok-refused.ensures.refused in
    read-beyond history c.args.at (IsScanAnswer c.args.prefix.now) c.in-Some.refused.items c.args.count refused.0 size refused.1 refused.2 refused.3

-- the number isn't beyond
pub scan_lent-requires : goal.scan_lent-requires
scan_lent-requires c =
    let within = none-said (unwrap_or c.args.at c.args.count ≤ c.args.count) _ c.in_default.is c.in_ok-refused.ensures.taken in
    (c.requires.0, c.requires.1, omega (arith, within, c.unwrap_or.ensures, c.requires.2))

-- it is told what stands behind it
pub returns : goal.returns
returns c history stands size =
    let n : ℕ = c.unwrap_or.result in
    let within = none-said (unwrap_or c.args.at c.args.count ≤ c.args.count) _ c.in_default.is c.in_ok-refused.ensures.taken in
    let least : n ≤ c.args.count = omega (arith, within, c.unwrap_or.ensures) in
    let scanned = still-given c.scan_lent.result c.in_ok-shown.shown _ _ _ c.in_ok-shown.ensures.cases (λ x is. cc (is)) (λ e none. none) (c.scan_lent.ensures history stands (omega (arith, least, size))) in
    IfOk-weaker c.scan_text.result _ _
    (λ reply is. read-within history c.args.at (IsScanAnswer c.args.prefix.now) reply.items c.args.count n size c.unwrap_or.ensures least
    (_, scanned, is ∙ ap (λ (l : List (Bor Version)). scan_reply (map (λ (v : Bor Version). v.now) l)) c.as_slice.ensures.value))
    c.scan_text.ensures
