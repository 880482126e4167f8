use Rattle.std.proofs.Common.{rules, ℕ, ◌<◌, ◌∙◌, sym, subst}
use Rattle.im_hash_ahead.proofs.near.near_facts.Goals as goal

-- each thread's list is what a call gave, which says it of its parts
pub returns-in-Ok : goal.returns-in-Ok
returns-in-Ok g c =
    let count = sym c.in-Ok.lists.ok.0 ∙ c.in-Ok.ensures.len in
    c.place_each.ensures (g.H.Hash32.digest c.args.hash.now)
    (λ n d lt. let k = (c.in-Ok.ensures.each n d (subst (λ (m : ℕ). n < m) count lt)).1.met in search rules)
    (c.in_ok-near.ensures (g.H.Hash32.digest c.args.hash.now))
