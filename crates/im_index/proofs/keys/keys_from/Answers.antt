use Rattle.std.proofs.Common.{◌<◌, ◌+◌, ◌++◌, List, length, map, take, ap, sym, ◌∙◌, arith}
use Rattle.im_model.specs.declared.entries.Entry.{Entry}
use Rattle.im_versions.specs.Versions.{versions_from, versions_in}
use Rattle.im_versions.specs.declared.versions.Version.{Version}
use Rattle.im_index.specs.Keys.{bare, bare_entry}
use Rattle.im_index.proofs.TakenLemmas.{keys-more}
use Rattle.im_index.proofs.keys.keys_from.Goals as goal

pub loop-i-preserved : goal.loop-i-preserved
loop-i-preserved c =
    let h : c.loop-i.i < length c.args.txs.now = omega (arith, c.loop-i-test.true) in
    let entries = ap (λ (es : List Entry). versions_in (c.args.k + c.loop-i.i) (map bare_entry es)) c.as_slice.ensures in
    c.in_ok-append.ensures.items
    ∙ ap (λ (vs : List Version). vs ++ c.in_ok-added.added.items) c.loop-i.invariant
    ∙ ap (λ (vs : List Version). versions_from c.args.k (bare (take c.loop-i.i c.args.txs.now)) ++ vs) (c.in_ok-added.ensures ∙ entries)
    ∙ sym (keys-more c.args.k c.args.txs.now c.loop-i.i c.index-txs-i.result h c.index-txs-i.is)
