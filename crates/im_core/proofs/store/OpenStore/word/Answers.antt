use Rattle.std.proofs.Common.{◌∙◌, sym, ap}
use Rattle.im_core.proofs.UpLemmas.{index-size, placed-count, tree-size}
use Rattle.im_machine.specs.Answers.{word_of}
use Rattle.im_machine.specs.declared.words.Word.{Word}
use Rattle.im_core.proofs.store.OpenStore.word.Goals as goal

pub returns-in-Placed : goal.returns-in-Placed
returns-in-Placed c hash m u = c.len.ensures ∙ placed-count hash c.args.self.now m u ∙ sym (ap (λ (w : Word). word_of m w) c.in-Placed.is)

pub returns-in-Durable : goal.returns-in-Durable
returns-in-Durable c hash m u = c.durable.ensures ∙ u.durable ∙ sym (ap (λ (w : Word). word_of m w) c.in-Durable.is)

pub returns-in-Linked : goal.returns-in-Linked
returns-in-Linked c hash m u = c.size.ensures ∙ tree-size hash c.args.self.now m u ∙ sym (ap (λ (w : Word). word_of m w) c.in-Linked.is)

pub returns-in-Indexed : goal.returns-in-Indexed
returns-in-Indexed c hash m u = c.taken.ensures ∙ index-size hash c.args.self.now m u ∙ sym (ap (λ (w : Word). word_of m w) c.in-Indexed.is)

pub returns-in-Failed : goal.returns-in-Failed
returns-in-Failed c hash m u = u.failures ∙ sym (ap (λ (w : Word). word_of m w) c.in-Failed.is)
