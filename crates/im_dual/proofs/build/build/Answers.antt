use Rattle.std.proofs.Common.{arith, ◌∙◌}
use Rattle.std.proofs.lemmas.Result.{IfOk-weaker}
use Rattle.im_dual.proofs.KeptLemmas.{kept-id, kept-rises, kept-lags, kept-chained, kept-leaves, kept-dual, kept-passes}
use Rattle.im_dual.proofs.build.build.Goals as goal

pub assemble-requires-clause-source : goal.assemble-requires-clause-source
assemble-requires-clause-source g c =
    let r = c.requires in
    kept-id (g.H.Hash32.digest c.args.hash.now) r.history.0 c.args.headers.now c.args.s r.history.2 r.some (omega (arith, r.order, r.within))

pub assemble-requires-clause-target : goal.assemble-requires-clause-target
assemble-requires-clause-target g c =
    let r = c.requires in
    kept-id (g.H.Hash32.digest c.args.hash.now) r.history.0 c.args.headers.now c.args.t r.history.2 (omega (arith, r.some, r.order)) r.within

pub assemble-requires-clause-shrink : goal.assemble-requires-clause-shrink
assemble-requires-clause-shrink g c =
    let r = c.requires in
    let rises = kept-rises (g.H.Hash32.digest c.args.hash.now) r.history.0 c.args.headers.now c.args.s c.args.t r.history.1 r.history.2 r.some r.order r.within in
    omega (arith, rises, c.size_at.ensures)

pub assemble-requires-clause-lag : goal.assemble-requires-clause-lag
assemble-requires-clause-lag g c =
    let r = c.requires in
    let lags = kept-lags (g.H.Hash32.digest c.args.hash.now) r.history.0 c.args.headers.now c.args.t r.history.1 r.history.2 (omega (arith, r.some, r.order)) r.within in
    omega (arith, lags, c.size_at.ensures)

pub assemble-requires-clause-chained : goal.assemble-requires-clause-chained
assemble-requires-clause-chained g c =
    let r = c.requires in
    kept-chained (g.H.Hash32.digest c.args.hash.now) r.history.0 c.args.headers.now r.history.2

pub assemble-requires-clause-leaves : goal.assemble-requires-clause-leaves
assemble-requires-clause-leaves g c =
    let r = c.requires in
    kept-leaves (g.H.Hash32.digest c.args.hash.now) r.history.0 c.args.headers.now c.args.tree.now r.history.2 r.history.3

pub returns-clause-value : goal.returns-clause-value
returns-clause-value g c =
    let r = c.requires in
    IfOk-weaker c.assemble.result _ _
    (λ proof built history is kept. built ∙ kept-dual (g.H.Hash32.digest c.args.hash.now) history c.args.headers.now c.args.s c.args.t kept r.some r.order r.within)
    c.assemble.ensures

pub returns-clause-passes : goal.returns-clause-passes
returns-clause-passes g c =
    let r = c.requires in
    IfOk-weaker c.assemble.result _ _
    (λ proof. kept-passes (g.H.Hash32.digest c.args.hash.now) r.history.0 c.args.headers.now c.args.s c.args.t proof r.history.1 r.history.2 r.some r.order r.within)
    c.assemble.ensures
