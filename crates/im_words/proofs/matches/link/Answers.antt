use Rattle.std.proofs.Common.{◌≡◌, ◌∙◌, IsSome, Option, Some, refl, subst, sym, codes}
use Rattle.std.specs.Option.{option_map_or}
use Rattle.clap.specs.Words.{Text, found_of}
use Rattle.clap.proofs.WalkLemmas.{first_value-rows}
use Rattle.im_words.specs.Meaning.{link_of_text}
use Rattle.im_words.specs.declared.Link.TheVariants.{Auto}
use Rattle.im_words.proofs.matches.link.Goals as goal

pub named-requires : goal.named-requires
named-requires c =
    let e = c.in-Some.ensures ∙ first_value-rows (found_of c.args.run.now) (codes "link") in
    subst (λ (o : Option Text). IsSome (option_map_or link_of_text o (Some Auto))) (sym e) c.requires

pub returns-in-Some : goal.returns-in-Some
returns-in-Some c =
    let e = c.in-Some.ensures ∙ first_value-rows (found_of c.args.run.now) (codes "link") in
    subst (λ (o : Option Text). option_map_or link_of_text o (Some Auto) ≡ Some c.named.result) e c.named.ensures

pub returns-in-None : goal.returns-in-None
returns-in-None c =
    let e = c.in-None.ensures ∙ first_value-rows (found_of c.args.run.now) (codes "link") in
    subst (λ (o : Option Text). option_map_or link_of_text o (Some Auto) ≡ Some Auto) e refl
