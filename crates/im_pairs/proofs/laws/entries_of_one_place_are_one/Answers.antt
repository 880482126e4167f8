use Rattle.im_pairs.proofs.EntryLemmas.{same_entry_led}
use Rattle.im_pairs.proofs.laws.entries_of_one_place_are_one.Goals as goal

pub returns : goal.returns
returns c = λ hash width i root entry entry2 path path2 strings size f g l r a b. same_entry_led hash size width i root entry entry2 path path2 strings f g l r a b
