-- Runs that go on.
use Rattle.std.proofs.Common.{◌≡◌, ◌<◌, ◌+◌, ℕ, suc, List, [], ◌∷◌, ◌++◌, length, take, get_or, refl, sym, ap, subst}
use Rattle.std.proofs.lemmas.List.{take_more}
use Rattle.im_digest.specs.Digests.{Hash}
use Rattle.im_machine.specs.Machines.{Machine}
use Rattle.im_machine.specs.Runs.{Run}
use Rattle.im_machine.specs.Steps.{Steps}
use Rattle.im_machine.specs.declared.events.Event.{Event}
use Rattle.im_machine.specs.declared.outputs.Output.{Output}

-- a run goes on by a step
pub run-onward : (hash : Hash) (m : Machine) (events : List Event) (outputs : List Output) (mid next : Machine) (event : Event) (output : Output)
    → Run hash m events outputs mid → Steps hash mid event output next → Run hash m (events ++ event ∷ []) (outputs ++ output ∷ []) next
run-onward hash m [] [] mid next event output run step = (next, subst (λ (x : Machine). Steps hash x event output next) run step, refl)
run-onward hash m [] (o ∷ outputs) mid next event output run step = absurd run
run-onward hash m (e ∷ events) [] mid next event output run step = absurd run
run-onward hash m (e ∷ events) (o ∷ outputs) mid next event output run step = (run.0, run.1, run-onward hash run.0 events outputs mid next event output run.2 step)

-- an output for each event
pub run-count : (hash : Hash) (m : Machine) (events : List Event) (outputs : List Output) (end : Machine) → Run hash m events outputs end → length outputs ≡ length events
run-count hash m [] [] end run = refl
run-count hash m [] (o ∷ outputs) end run = absurd run
run-count hash m (e ∷ events) [] end run = absurd run
run-count hash m (e ∷ events) (o ∷ outputs) end run = ap suc (run-count hash run.0 events outputs end run.2)

-- the events so far, and one more
pub events-more : (events : List Event) (i : ℕ) (event : Event) → i < length events → event ≡ get_or events i event → take (i + 1) events ≡ take i events ++ event ∷ []
events-more events i event less is = subst (λ (e : Event). take (i + 1) events ≡ take i events ++ e ∷ []) (sym is) (take_more events i event less)
