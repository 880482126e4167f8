use Rattle.std.proofs.Common.{◌∙◌, refl}
use Rattle.im_store_opening.proofs.parts.parts_over.Goals as goal

pub returns-in-Ok : goal.returns-in-Ok
returns-in-Ok g c = record {
  found_is = c.in-Ok.ensures.tip.0;
  logs_are = c.in-Ok.ensures.tip.1;
  table = c.in-Ok.ensures.pass.0;
  view = c.in-Ok.ensures.pass.1;
  index_is = c.in-Ok.ensures.index;
  transactions_are = c.of.ensures.0 ∙ c.in-Ok.ensures.transactions;
  headers_are = c.of.ensures.1;
  alhs_are = c.of.ensures.2;
  refs_are = c.in-Ok.ensures.refs;
  tree_is = refl;
}
