use Rattle.std.proofs.Common.{◌≡◌, List, ap, get_or, sym, ◌∙◌}
use Rattle.std.proofs.lemmas.List.{get_or_read}
use Rattle.im_model.specs.declared.headers.Header.{Header}
use Rattle.im_dual.specs.Kept.{no_header}
use Rattle.im_dual.proofs.KeptLemmas.{chained-alh}
use Rattle.im_dual.proofs.build.alh_at.Goals as goal

pub returns-then-k-headers : goal.returns-then-k-headers
returns-then-k-headers g c =
    let headers : List Header = c.args.headers.now in
    let next : Header = c.index-headers-k.result in
    let read : next ≡ get_or headers c.args.k no_header = get_or_read headers c.args.k next c.if-k-headers.true c.index-headers-k.is no_header in
    ap (λ (h : Header). h.prev_alh) (sym c.index-headers-k.is ∙ read)
    ∙ chained-alh (g.H.Hash32.digest c.args.hash.now) headers c.args.k c.requires.chained c.requires.some c.if-k-headers.true
