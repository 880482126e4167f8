use Rattle.std.proofs.Common.{◌∙◌, ap}
use Rattle.im_model.specs.Entries.{entry_string}
use Rattle.im_hashed.proofs.AddLemmas.{adds-two}
use Rattle.im_hashed.proofs.parts.add_entry.Goals as goal

pub returns-clause-digest : goal.returns-clause-digest
returns-clause-digest g c = c.digest_of-digest.ensures ∙ ap (g.H.Hash32.digest c.args.hash.now) c.in_ok-whole.ensures

pub returns-clause-strings : goal.returns-clause-strings
returns-clause-strings g c =
    adds-two c.args.out.now.items c.add.new.out.items c.add-2.new.out.items c.in_ok-whole.whole c.in_ok-value.value (entry_string (g.H.Hash32.digest c.args.hash.now) c.args.entry.now) c.args.entry.now.value
    c.in_ok-whole.ensures (c.in_ok-value.ensures ∙ c.as_slice.ensures.value) c.in_ok-add.ensures c.in_ok-add-2.ensures
