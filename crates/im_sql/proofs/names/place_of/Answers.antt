use Rattle.std.proofs.Common.{rules, tests, bytes_eq, Bor, List, ℕ, ◌∙◌}
use Rattle.std.proofs.lemmas.Iterator.{YieldsList-from_slice}
use Rattle.std.proofs.lemmas.Iterator.Search.{position_from_yields_List}
use Rattle.im_sql.proofs.NameLemmas.{place-lent}
use Rattle.im_sql.proofs.names.place_of.Goals as goal

pub returns : goal.returns
returns c =
    position_from_yields_List (λ (n : Bor (List ℕ)). bytes_eq c.args.name.now n.now) _ _ c.position.result c.position.ensures.ran (YieldsList-from_slice _ c.iter.ensures.rest) (λ x b q k. search (rules, tests))
    ∙ place-lent (λ (n : Bor (List ℕ)). n.now) (bytes_eq c.args.name.now) c.args.names.now
