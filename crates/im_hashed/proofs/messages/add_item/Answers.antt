use Rattle.std.proofs.Common.{subst, reverse}
use Rattle.im_model.specs.Entries.{entry_digest, entry_strings}
use Rattle.im_model.specs.Paths.{up_strings}
use Rattle.im_hashed.specs.Added.{AddsStrings}
use Rattle.im_hashed.proofs.AddLemmas.{adds-then}
use Rattle.im_hashed.proofs.messages.add_item.Goals as goal

pub returns : goal.returns
returns g c =
    adds-then c.args.out.now.items c.add_entry.new.out.items c.add_path.new.out.items (entry_strings (g.H.Hash32.digest c.args.hash.now) c.args.entry.now)
    (up_strings (g.H.Hash32.digest c.args.hash.now) c.args.width c.args.index (entry_digest (g.H.Hash32.digest c.args.hash.now) c.args.entry.now) (reverse c.args.path.now)) c.in_ok-digest.ensures.strings
    (subst (λ d. AddsStrings c.add_entry.new.out.items c.add_path.new.out.items (up_strings (g.H.Hash32.digest c.args.hash.now) c.args.width c.args.index d (reverse c.args.path.now))) c.in_ok-digest.ensures.digest c.in_ok-add_path.ensures.strings)
