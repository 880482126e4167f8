use Rattle.std.proofs.Common.{◌<◌, ◌^◌, length, subst, sym}
use Rattle.im_catalog.proofs.TableLemmas.{columns-read}
use Rattle.im_catalog.proofs.texts.index_text.Goals as goal

pub push_numbers-requires : goal.push_numbers-requires
push_numbers-requires c =
    subst (λ s. length s < 2 ^ 16) (sym c.as_slice.ensures) (columns-read (length c.args.table.now.columns) c.args.index.now.columns c.requires.table.few c.requires.index.columns).0
