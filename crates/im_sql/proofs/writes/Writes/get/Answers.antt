use Rattle.std.proofs.Common.{ℕ, List, Vec, Global, ap, ◌∙◌}
use Rattle.im_sqlmodel.specs.declared.written.Written.{Written}
use Rattle.im_sql.specs.Writing.{written_at}
use Rattle.im_sql.proofs.WriteLemmas.{lookup-written}
use Rattle.im_sql.proofs.writes.Writes.get.Goals as goal

pub returns : goal.returns
returns c =
    c.get.ensures.value ∙ lookup-written (λ (k : Vec ℕ Global). k.items) c.self.inside.entries.entries c.args.key.now
    ∙ ap (λ (ws : List Written). written_at ws c.args.key.now) c.self.view_is
