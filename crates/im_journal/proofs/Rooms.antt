-- Where the values of the next transaction are put.
use Rattle.std.proofs.Common.{◌≡◌, ◌<◌, ◌+◌, ℕ, zero, suc, List, get_or, refl, arith, ap, subst, ◌∙◌}
use Rattle.im_digest.specs.Digests.{Hash}
use Rattle.im_format.specs.Batches.{joined}
use Rattle.im_format.specs.Places.{log_end, refs_of}
use Rattle.im_format.specs.declared.records.Record.{Record}
use Rattle.im_journal.specs.Holding.{AreFirst, ends_of}
use Rattle.im_journal.specs.declared.ends.Ends.{Ends}
use Rattle.im_journal.proofs.Limits.{first_number}
use Rattle.im_model.specs.declared.transactions.Transaction.{Transaction}
use Rattle.im_vlog.specs.Ends.{AreEnds, HaveRoom}
use Rattle.im_vlog.proofs.RoomLemmas.{records_have_room}

module _ (hash : Hash) (history : List Transaction) (batches : List (List Record)) (durable : ℕ) (ends : Ends) (first : AreFirst hash history batches durable ends) where
  ends_at : (n : ℕ) → n < 4 → get_or (ends_of batches).values n 0 ≡ log_end n (refs_of (joined batches))
  ends_at zero lt = refl
  ends_at (suc zero) lt = refl
  ends_at (suc (suc zero)) lt = refl
  ends_at (suc (suc (suc zero))) lt = refl
  ends_at (suc (suc (suc (suc n)))) lt = absurd (omega (arith, lt))

  -- the value logs end behind the values of the batches
  pub ends_behind : AreEnds ends.values (refs_of (joined batches))
  ends_behind = record { each = λ n lt. ap (λ (e : Ends). get_or e.values n 0) first.ends_are ∙ ends_at n lt }

  -- and have room for the next one's
  pub room_behind : HaveRoom (durable + 1) ends.values
  room_behind = subst (λ (n : ℕ). HaveRoom (n + 1) ends.values) (first_number hash history batches durable ends first)
      (records_have_room hash history (joined batches) ends.values first.records_are ends_behind)
