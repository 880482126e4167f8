use Rattle.std.proofs.Common.{Err, ap, ◌∙◌, sym}
use Rattle.im_catalog.proofs.FoundLemmas.{index-said}
use Rattle.im_catalog.proofs.catalogue.index_of.Goals as goal

pub iid_of-requires : goal.iid_of-requires
iid_of-requires c = (c.args.table.now.tid, c.requires.text.0.iid, c.requires.text.1.iid.1, c.as_slice.ensures ∙ c.requires.text.2)

pub unreachable-requires : goal.unreachable-requires
unreachable-requires c =
    let has = c.requires.text in
    let iid = c.iid_of.ensures c.args.table.now.tid has.0.iid has.1.iid.1 (c.as_slice.ensures ∙ has.2) in
    c.read_index.ensures.none (c.in-Err-NotText.is ∙ ap (λ e. Err e) c.in-Err-NotText.field-0-is) has.0 has.1 (sym iid) (c.as_slice-2.ensures ∙ has.3)

pub returns-in-Ok : goal.returns-in-Ok
returns-in-Ok c =
    index-said c.args.table.now c.args.version.now c.in-Ok.index c.iid_of.result c.as_slice-2.result.now c.requires.text
    (λ tid n fits key. c.iid_of.ensures tid n fits (c.as_slice.ensures ∙ key)) c.as_slice-2.ensures c.in-Ok.ensures.index
