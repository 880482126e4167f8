use Rattle.std.proofs.Common.{◌≡◌, ◌≤◌, MatchOption, true≢false, length, ◌∙◌, subst, sym, arith}
use Rattle.im_sqlmodel.specs.Tables.{AreColumns}
use Rattle.im_sqlmodel.specs.declared.tables.SqlIndex.{SqlIndex}
use Rattle.im_catalog.specs.Parts.{HasIndexParts, HasNoIndexParts}
use Rattle.im_catalog.proofs.TableLemmas.{one-index, columns-read}
use Rattle.im_catalog.proofs.reading.read_index.Goals as goal
use Rattle.im_catalog.proofs.reading.read_index.Goals.{else-iid-ge1-via-then-iid-ge1+else-are_columns, else-iid-ge1-via-else-iid-ge1}

pub returns-else-iid-ge1-clause-none : goal.returns-else-iid-ge1-clause-none
returns-else-iid-ge1-clause-none c = λ e i is called same.
    let text = c.args.text.now in
    let iid = c.args.iid in
    let index = c.in-Some.index in
    let count = length c.args.table.now.columns in
    let found : HasIndexParts iid text index = subst (λ found. MatchOption found (HasNoIndexParts text) (λ index. HasIndexParts iid text index)) c.in-Some.is c.in_ok-index.ensures in
    let one : index ≡ i = one-index iid text index i found (columns-read count i.columns c.requires.few is.columns) called same in
    let columns : AreColumns count index.columns = subst (λ (j : SqlIndex). AreColumns count j.columns) (sym one) is.columns in
    elim c.else-iid-ge1.branch [
      | else-iid-ge1-via-then-iid-ge1+else-are_columns w ↦
          true≢false (sym (w.are_columns.ensures.1 (subst (λ n. AreColumns n w.as_slice.result.now) (sym w.len.ensures) (subst (AreColumns count) (sym w.as_slice.ensures) columns))) ∙ w.if-are_columns.false)
      | else-iid-ge1-via-else-iid-ge1 w ↦ (let some : 1 ≤ i.iid = is.iid.0 in omega (arith, w.if-iid-ge1.false, called, some))
    ]

pub returns-in-None-clause-none : goal.returns-in-None-clause-none
returns-in-None-clause-none c = λ e i is called same.
    let found : HasNoIndexParts c.args.text.now = subst (λ found. MatchOption found (HasNoIndexParts c.args.text.now) (λ index. HasIndexParts c.args.iid c.args.text.now index)) c.in-None.is c.in_ok-index.ensures in
    found.none i (columns-read (length c.args.table.now.columns) i.columns c.requires.few is.columns) same
