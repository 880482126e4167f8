use Rattle.im_hashed.proofs.FitsLemmas.{header-fits, entry-fits, dual-fits}
use Rattle.im_hashed.proofs.laws.what_is_shown_fits.Goals as goal

pub returns-clause-header : goal.returns-clause-header
returns-clause-header c = header-fits

pub returns-clause-entry : goal.returns-clause-entry
returns-clause-entry c = entry-fits

pub returns-clause-dual : goal.returns-clause-dual
returns-clause-dual c = dual-fits
