use Rattle.std.proofs.Common.{◌≡◌, ◌+◌, ◌<◌, ◌∙◌, ℕ, List, length, ap, refl, subst, sym, arith}
use Rattle.std.proofs.lemmas.Bool.{both_ways}
use Rattle.im_facts.specs.Facts.{nothing}
use Rattle.im_facts.specs.Folds.{IsVerdict, known_by}
use Rattle.im_verify.specs.Judged.{IsRejected}
use Rattle.im_verify.specs.Turns.{IsRejection}
use Rattle.im_verify.proofs.KeepLemmas.{kept-next, kept-none, kept-stops, rejected-by, rejection-of}
use Rattle.im_verify.proofs.kept.take_kept.Goals as goal

pub loop-i-init : goal.loop-i-init
loop-i-init g c =
    let hash : List ℕ → List ℕ = g.H.Hash32.digest c.args.hash.now in
    record {
      takes = (nothing, c.new-client.ensures.empty, kept-none hash nothing refl);
      led = c.new-client.ensures.led (g.H.Hash32.digest c.new-client.result.hash);
      hash = c.new-client.ensures.hash;
    }

pub returns-then-is_rejected-clause-line : goal.returns-then-is_rejected-clause-line
returns-then-is_rejected-clause-line g c = λ k e.
    let hash : List ℕ → List ℕ = g.H.Hash32.digest c.args.hash.now in
    let line : List ℕ = c.index-lines-i.result in
    let within : c.loop-i.i < length c.args.lines.now = omega arith in
    let number : k ≡ c.loop-i.i + 1 = cc in
    let same : c.as_slice.result.now ≡ line = c.as_slice.ensures in
    let now = c.loop-i.invariant.takes in
    let told = c.in-Ok.ensures.told now.0 now.1 in
    let under : IsVerdict hash now.0 c.as_slice.result.now told.0 =
    subst (λ (f : List ℕ → List ℕ). IsVerdict f now.0 c.as_slice.result.now told.0) (ap g.H.Hash32.digest c.loop-i.invariant.hash) told.1 in
    let is : IsVerdict hash now.0 line told.0 = subst (λ (l : List ℕ). IsVerdict hash now.0 l told.0) same under in
    let rejected : IsRejected told.0 = rejected-by told.0 (subst IsRejection told.2 (c.is_rejected.ensures.0 c.if-is_rejected.true)) in
    (c.loop-i.i, number, kept-stops hash c.args.lines.now c.loop-i.i line now.0 told.0 within c.index-lines-i.is now.2 is rejected)

pub loop-i-preserved : goal.loop-i-preserved
loop-i-preserved g c =
    let hash : List ℕ → List ℕ = g.H.Hash32.digest c.args.hash.now in
    let line : List ℕ = c.index-lines-i.result in
    let within : c.loop-i.i < length c.args.lines.now = omega arith in
    let same : c.as_slice.result.now ≡ line = c.as_slice.ensures in
    let now = c.loop-i.invariant.takes in
    let told = c.in-Ok.ensures.told now.0 now.1 in
    let under : IsVerdict hash now.0 c.as_slice.result.now told.0 =
    subst (λ (f : List ℕ → List ℕ). IsVerdict f now.0 c.as_slice.result.now told.0) (ap g.H.Hash32.digest c.loop-i.invariant.hash) told.1 in
    let is : IsVerdict hash now.0 line told.0 = subst (λ (l : List ℕ). IsVerdict hash now.0 l told.0) same under in
    record {
      takes = (
        known_by now.0 told.0,
        told.3,
        kept-next hash c.args.lines.now c.loop-i.i line now.0 (known_by now.0 told.0) told.0 within c.index-lines-i.is now.2 is
            (λ r. both_ways c.is_rejected.result c.if-is_rejected.false (c.is_rejected.ensures.1 (subst IsRejection (sym told.2) (rejection-of told.0 r)))) refl,
      );
      led = c.take_line.ensures.led;
      hash = c.take_line.ensures.hash ∙ c.loop-i.invariant.hash;
    }
