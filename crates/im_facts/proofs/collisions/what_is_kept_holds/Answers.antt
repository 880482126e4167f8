use Rattle.im_hashed.specs.Messages.{strings_of}
use Rattle.im_facts.proofs.FoldLemmas.{client-holds}
use Rattle.im_facts.proofs.collisions.what_is_kept_holds.Goals as goal

pub returns : goal.returns
returns c = λ hash known size client. client-holds hash size known (strings_of hash known.messages) client (λ x on. on)
