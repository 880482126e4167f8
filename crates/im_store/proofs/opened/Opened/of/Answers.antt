use Rattle.im_store.proofs.opened.Opened.of.Goals as goal

pub invariant_of-result : goal.invariant_of-result
invariant_of-result g c = c.requires
