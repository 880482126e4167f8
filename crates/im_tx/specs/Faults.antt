-- The refusal of a draft as one of its transaction.
use Rattle.std.specs.Prelude.{ℕ}
use Rattle.im_draft.specs.declared.refusals.PrepareError.{PrepareError}
use Rattle.im_draft.specs.declared.refusals.PrepareError.TheVariants as refusals
use Rattle.im_entry.specs.declared.make.EntryError.{EntryError}
use Rattle.im_entry.specs.declared.make.EntryError.TheVariants as faults

-- the refusal of entry i
abbrev pub refusal_at : ℕ → EntryError → PrepareError
refusal_at i faults.Memory = refusals.Memory
refusal_at i faults.KeyEmpty = refusals.KeyEmpty i
refusal_at i (faults.KeyLong len) = refusals.KeyLong i len
refusal_at i (faults.ValueLong len) = refusals.ValueLong i len
