use Rattle.im_sqlsound.proofs.marked.has_change.Goals as goal

pub returns : goal.returns
returns c = (
  λ e. (let one = c.has_key.ensures.0 e in let is = (c.of_number.ensures one.0).0 one.1 in (one.0, is.0, one.2, is.1)),
  λ one. c.has_key.ensures.1 (one.0, (c.of_number.ensures one.0).1 (one.1, one.3), one.2),
)
