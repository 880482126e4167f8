use Rattle.std.proofs.Common.{◌≡◌, ℕ, zero, suc, get_or, refl, List, replicate}
use Rattle.im_vlog.proofs.RoomLemmas.{records_have_room}
use Rattle.im_vlog.proofs.laws.ends_of_records_have_room.Goals as goal

abbrev none : List ℕ
none = replicate 4 0

zeros : (number : ℕ) → get_or none number 0 ≡ 0
zeros zero = refl
zeros (suc zero) = refl
zeros (suc (suc zero)) = refl
zeros (suc (suc (suc zero))) = refl
zeros (suc (suc (suc (suc n)))) = refl

pub returns-clause-empty : goal.returns-clause-empty
returns-clause-empty c = record { each = λ number lt. zeros number }

pub returns-clause-room : goal.returns-clause-room
returns-clause-room c hash history records ends are e = records_have_room hash history records ends are e
