use Rattle.std.proofs.Common.{ℕ, Vec, Global, map, ap, ap₂, ◌∙◌}
use Rattle.im_sqlmodel.specs.Writes.{put_written}
use Rattle.im_sql.proofs.WriteLemmas.{written_of, insert-put}
use Rattle.im_sql.proofs.writes.Writes.put.Goals as goal

pub returns-clause-ok : goal.returns-clause-ok
returns-clause-ok c =
    let value = c.args.written.value in
    ap (map (written_of (λ (k : Vec ℕ Global). k.items))) c.in_ok-insert.ensures.entries
    ∙ insert-put (λ (k : Vec ℕ Global). k.items) c.self.inside.entries.entries c.into_vec.result value
    ∙ ap₂ put_written (λ i. record { key = c.into_vec.ensures i; value = value }) c.self.view_is
