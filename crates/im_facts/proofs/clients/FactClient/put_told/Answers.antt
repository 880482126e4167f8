use Rattle.std.proofs.lemmas.Result.{on_ok_weaker}
use Rattle.im_facts.specs.declared.notes.Note.TheVariants as noted
use Rattle.im_facts.proofs.NoteLemmas.{put-knows}
use Rattle.im_facts.proofs.clients.FactClient.put_told.Goals as goal

pub returns-in-Ok-clause-ok : goal.returns-in-Ok-clause-ok
returns-in-Ok-clause-ok g c =
    on_ok_weaker c.put.result (λ e messages are copied.
    put-knows c.args.self.now.kept c.put.new.self.kept messages (noted.Told c.in-Ok.message) c.args.message c.args.copies e are (c.in-Ok.ensures.ok) copied) c.put.ensures.ok
