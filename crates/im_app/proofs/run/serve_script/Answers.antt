use Rattle.im_app.proofs.run.serve_script.Goals as goal

pub returns : goal.returns
returns g c = record { served = (c.serve-disk.result.end, c.status_after.ensures, c.serve-disk.ensures.served) }
