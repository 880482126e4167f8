use Rattle.im_facts.specs.Keeping.{IsLed}
use Rattle.im_fact_cases.proofs.streams.of_messages.Given as goal

abbrev pub invariant-loop-text : goal.invariant-loop-text
invariant-loop-text g l = IsLed (g.H.Hash32.digest l.client.hash) l.client.kept
