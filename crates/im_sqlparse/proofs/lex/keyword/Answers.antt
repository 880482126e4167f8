use Rattle.std.proofs.Common.{◌≡◌, ap, ◌∙◌, map, refl}
use Rattle.im_sqlparse.specs.declared.kinds.TheConstants.{KEYWORDS}
use Rattle.im_sqlparse.specs.Lex.{keywords, keyword, lookup}
use Rattle.im_sqlparse.proofs.lex.keyword.Goals as goal

same_table : map (λ k. (k.0.now, k.1)) KEYWORDS ≡ keywords
same_table = refl

pub returns : goal.returns
unfolding keyword
returns c = c.lookup.ensures ∙ ap (λ table. lookup table c.args.word.now) same_table
