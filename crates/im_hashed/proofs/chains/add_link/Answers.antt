use Rattle.std.proofs.Common.{◌∙◌, ap}
use Rattle.im_model.specs.Chains.{link_string}
use Rattle.im_hashed.proofs.AddLemmas.{adds-one}
use Rattle.im_hashed.proofs.chains.add_link.Goals as goal

pub returns-clause-digest : goal.returns-clause-digest
returns-clause-digest g c = c.digest_of-digest.ensures ∙ ap (g.H.Hash32.digest c.args.hash.now) c.in_ok-octets.ensures

pub returns-clause-strings : goal.returns-clause-strings
returns-clause-strings g c =
    adds-one c.args.out.now.items c.add.new.out.items c.in_ok-octets.octets (link_string c.args.k c.args.previous.now c.args.inner.now) c.in_ok-octets.ensures c.in_ok-add.ensures
