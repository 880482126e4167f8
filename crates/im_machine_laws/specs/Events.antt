-- Events whose plain data is within the limits of its types.
use Rattle.std.specs.Prelude.{FitsSigned}
use Rattle.std.specs.Int.{w64}
use Rattle.im_machine.specs.declared.events.Event.{Event}
use Rattle.im_machine.specs.declared.events.Event.TheVariants as on
use Rattle.im_tx.specs.Asked.{IsAsked}

-- what is placed has a time of 64 bits, and entries within the limits with distinct keys; of the others nothing is asked
abbrev pub IsEvent : Event → Type 0
IsEvent (on.Place session ts asked) = FitsSigned w64 ts × IsAsked asked
IsEvent (on.Stage last fails) = Unit {0}
IsEvent (on.Seal fails) = Unit {0}
IsEvent (on.Gate fails) = Unit {0}
IsEvent (on.Settle fails) = Unit {0}
IsEvent (on.Ack session number) = Unit {0}
IsEvent on.Fault = Unit {0}
IsEvent on.Link = Unit {0}
IsEvent on.Index = Unit {0}
IsEvent (on.Load session word) = Unit {0}
IsEvent (on.Snap session number question) = Unit {0}
IsEvent (on.Prove session question) = Unit {0}
IsEvent (on.Crash image) = Unit {0}
IsEvent on.Open = Unit {0}
