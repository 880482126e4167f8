use Rattle.im_words.proofs.FormLemmas.{asks_same}
use Rattle.im_words.proofs.laws.one_run.Goals as goal

pub returns : goal.returns
returns c = asks_same
