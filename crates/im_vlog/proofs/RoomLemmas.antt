-- How far the logs reach behind the records of a history.
use Rattle.std.proofs.Common.{◌≤◌, ◌+◌, ◌*◌, ◌^◌, ℕ, List, [], ◌∷◌, length, arith}
use Rattle.im_digest.specs.Digests.{Hash}
use Rattle.im_format.specs.Places.{log_end, refs_of}
use Rattle.im_format.specs.Records.{AreRecords}
use Rattle.im_format.specs.declared.records.Record.{Record}
use Rattle.im_model.specs.declared.transactions.Transaction.{Transaction}
use Rattle.im_vlog.specs.Ends.{AreEnds, HaveRoom}
use Rattle.im_format.proofs.EndLemmas.{log_end_append, references_below}

-- behind records that begin with transaction id + 1
records_below : (hash : Hash) (history : List Transaction) (id number : ℕ) (records : List Record) → AreRecords hash history (id + 1) records
    → log_end number (refs_of records) ≤ (id + length records) * 2 ^ 22
records_below hash history id number [] are = omega arith
records_below hash history id number (r ∷ rs) are =
    omega (
      arith,
      log_end_append number r.refs (refs_of rs),
      references_below hash (id + 1) number r.tx.entries r.refs are.0.refs,
      records_below hash history (id + 1) number rs are.1,
    )

pub records_have_room : (hash : Hash) (history : List Transaction) (records : List Record) (ends : List ℕ)
    → AreRecords hash history 1 records → AreEnds ends (refs_of records) → HaveRoom (length records + 1) ends
records_have_room hash history records ends are e = record {
  each = λ number lt. omega (arith, e.each number lt, records_below hash history 0 number records are);
}
