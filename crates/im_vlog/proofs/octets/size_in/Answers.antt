use Rattle.std.proofs.Common.{◌≡◌, ◌+◌, ◌-◌, ◌^◌, ◌∷◌, ◌<◌, ℕ, min, drop, length, get_or, ap, sym, ◌∙◌, arith, rules, List}
use Rattle.std.proofs.lemmas.List.{drop_all, drop_more}
use Rattle.im_format.specs.Places.{refs_of}
use Rattle.im_format.specs.declared.records.Record.{Record}
use Rattle.im_vlog.specs.Sizes.{octets_in}
use Rattle.im_vlog.proofs.LogLemmas.{octets_in_both}
use Rattle.im_vlog.proofs.octets.size_in.Goals as goal

-- the references from a record on
from_record : (number i : ℕ) (rs : List Record) (r : Record) → i < length rs → r ≡ get_or rs i r
    → octets_in number (refs_of (drop i rs)) ≡ octets_in number r.refs + octets_in number (refs_of (drop (i + 1) rs))
from_record number i rs r lt is =
    ap (λ (l : List Record). octets_in number (refs_of l)) (drop_more rs i r lt)
    ∙ ap (λ (x : Record). octets_in number (refs_of (x ∷ drop (i + 1) rs))) (sym is)
    ∙ octets_in_both number r.refs (refs_of (drop (i + 1) rs))

pub loop-record-preserved : goal.loop-record-preserved
loop-record-preserved c =
    let r = c.record-item.result in
    let rs = c.args.records.now in
    let i = c.loop-record.record-index in
    let cut : octets_in c.args.log (refs_of (drop i rs)) ≡ octets_in c.args.log r.refs + octets_in c.args.log (refs_of (drop (i + 1) rs)) =
    from_record c.args.log i rs r (omega arith) c.record-item.is
    in
    let now : c.grown-size.result ≡ min (c.loop-record.size + octets_in c.args.log r.refs) (2 ^ 64 - 1) = search rules in
    record {
      total = omega (arith, cut, now, c.loop-record.invariant.total, c.loop-record.invariant.fits);
      fits = omega (arith, now);
    }

pub returns : goal.returns
returns c =
    let none : octets_in c.args.log (refs_of (drop c.loop-record.record-index c.args.records.now)) ≡ 0 =
    ap (λ (l : List Record). octets_in c.args.log (refs_of l)) (drop_all c.loop-record.record-index c.args.records.now (omega arith))
    in
    omega (arith, none, c.loop-record.invariant.total, c.loop-record.invariant.fits)
