use Rattle.std.proofs.Common.{◌∙◌, ap}
use Rattle.im_model.specs.Headers.{alh_string, inner_string}
use Rattle.im_hashed.proofs.AddLemmas.{adds-two}
use Rattle.im_hashed.proofs.parts.add_header.Goals as goal

pub returns-clause-digest : goal.returns-clause-digest
returns-clause-digest g c = c.digest_of-digest.ensures ∙ ap (g.H.Hash32.digest c.args.hash.now) c.in_ok-whole.ensures

pub returns-clause-strings : goal.returns-clause-strings
returns-clause-strings g c =
    adds-two c.args.out.now.items c.add.new.out.items c.add-2.new.out.items c.in_ok-whole.whole c.in_ok-inner.inner (alh_string (g.H.Hash32.digest c.args.hash.now) c.args.header.now) (inner_string c.args.header.now)
    c.in_ok-whole.ensures c.in_ok-inner.ensures c.in_ok-add.ensures c.in_ok-add-2.ensures
