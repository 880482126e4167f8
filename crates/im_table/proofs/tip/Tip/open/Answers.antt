use Rattle.std.proofs.Common.{subst, sym, ◌∷◌, [], ℕ, ◌∙◌}
use Rattle.atomic_table.specs.Table.{opening}
use Rattle.im_table.specs.References.{IsLawful}
use Rattle.im_table.specs.Rules.{HoldsRule, NoSlot}
use Rattle.im_table.specs.Views.{opener}
use Rattle.im_table.proofs.ReferenceLemmas.{found_lawful}
use Rattle.im_table.proofs.EndLemmas.{opens}
use Rattle.im_table.proofs.tip.Tip.open.Goals as goal

pub of_words-requires : goal.of_words-requires
of_words-requires g c =
    let n = c.len-placed.result in
    let found = c.args.opening.now.found.items in
    let logs = c.args.opening.now.logs in
    let same = c.len-placed.ensures ∙ c.args.opening.now.found.ok.0 in
    subst (λ (k : ℕ). HoldsRule (IsLawful g.L.Law.allows logs) found (opening {S = NoSlot} (k ∷ k ∷ k ∷ k ∷ 0 ∷ []) [] (opener found))) (sym same)
    (opens (IsLawful g.L.Law.allows logs) found (found_lawful g.L.Law.allows logs g.L.Law.allows_found found c.requires.found) c.requires.found)
