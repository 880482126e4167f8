-- What the program has of the machine, open or not.
use Rattle.std.specs.Prelude.{◌≡◌, ◌≤◌, ℕ, List, [], length, false}
use Rattle.im_core.specs.Parts.{IsUp}
use Rattle.im_core.specs.declared.cores.Core.{Core}
use Rattle.im_core.specs.declared.cores.Core.TheVariants as core
use Rattle.im_digest.specs.Digests.{Hash}
use Rattle.im_disk.specs.Disk.{Images}
use Rattle.im_disk.specs.Recorded.{told_by}
use Rattle.im_disk.specs.Records.{files_of, told_of}
use Rattle.im_machine.specs.Machines.{Machine}
use Rattle.im_machine.specs.Steps.{Steps}
use Rattle.im_machine.specs.declared.events.Event.{Event}
use Rattle.im_machine.specs.declared.events.Event.TheVariants as on
use Rattle.im_machine.specs.declared.outputs.Output.{Output}

-- the machine isn't open, and these are its files: as many as a disk has, or fewer, and the others are empty
pub record IsDown (files : List (List ℕ)) (m : Machine) : Type 0 where
  pub down : m.up ≡ false
  pub few : length files ≤ 16
  pub disk : m.disk ≡ told_of files []

-- the program has the parts of the open machine, or the files of one that isn't open
abbrev pub IsCore : Hash → Core → Machine → Type 0
IsCore hash (core.Up store) m = IsUp hash store m
IsCore hash (core.Down image) m = IsDown image m

-- an event is answered by a step of the machine, which the program then has
abbrev pub Follows : Hash → Machine → Event → Output → Core → Type 0
Follows hash m event output now = (next : Machine) × Steps hash m event output next × IsCore hash now next

-- the event is a crash
abbrev pub IsCrash : Event → Type 0
IsCrash event = (image : List (List ℕ)) × (event ≡ on.Crash image)

-- the store is open, and these are sixteen files that a crash may leave of its disk now
abbrev pub MayCrash : Core → List (List ℕ) → Type 0
MayCrash (core.Up store) image = (length image ≡ 16) × Images (told_by store.journal.disk) (files_of image)
MayCrash (core.Down files) image = ⊥
