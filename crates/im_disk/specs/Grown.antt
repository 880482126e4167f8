-- What a disk tells later of its calls.
use Rattle.std.specs.Prelude.{◌≡◌, List, [], ◌∷◌, Option}
use Rattle.std.specs.Option.{option_map}
use Rattle.im_disk.specs.Disk.{Told, after}
use Rattle.im_disk.specs.declared.calls.Call.{Call}

-- what a disk tells these calls later, the first one first
abbrev pub after_all : List Call → Told → Told
after_all [] t = t
after_all (call ∷ calls) t = after_all calls (after call t)

-- the disk tells the calls that it told before, and others behind them
abbrev pub Grows : Option Told → Option Told → Type 0
Grows before now = (calls : List Call) × (now ≡ option_map (after_all calls) before)
