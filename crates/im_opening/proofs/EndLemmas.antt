-- Where value logs end.
use Rattle.std.proofs.Common.{◌≡◌, ℕ, ◌+◌, ◌-◌, ◌*◌, ◌^◌, ◌≤◌, ◌<◌, suc, List, [], ◌∷◌, length, get_or, drop, drop-cons, max, min, sym, ◌∙◌, ap, arith}
use Rattle.std.proofs.Math.ListN.{drop_of_length-le}
use Rattle.std.proofs.lemmas.List.{length-map}
use Rattle.im_digest.specs.Digests.{Hash}
use Rattle.im_format.specs.Places.{log_end, refs_of}
use Rattle.im_format.specs.declared.records.Record.{Record}
use Rattle.im_levels.specs.Leveled.{Stored}
use Rattle.im_opening.specs.Reach.{AreReferred, IsConsistent}
use Rattle.im_format.proofs.EndLemmas.{log_end_append, references_below}

-- the references of a history's records reach no further than the last one's may
pub low-records : (hash : Hash) (id number n : ℕ) (records : List Record) → AreReferred hash id records → (id + length records) * 2 ^ 22 ≤ n → log_end number (refs_of records) ≤ n
low-records hash id number n [] h le = omega arith
low-records hash id number n (r ∷ records) h le =
    let here : log_end number r.refs ≤ id * 2 ^ 22 = references_below hash id number r.tx.entries r.refs h.0 in
    let there : log_end number (refs_of records) ≤ n = low-records hash (id + 1) number n records h.1 (omega arith) in
    omega (arith, log_end_append number r.refs (refs_of records))

-- so no log ends far out
pub low-ends : (hash : Hash) (number : ℕ) (records : List Record) (alhs : List (List ℕ)) (bl : ℕ) (bl_root : List ℕ) (tree : Stored)
    → IsConsistent hash records alhs bl bl_root tree → log_end number (refs_of records) ≤ 2 ^ 43
low-ends hash number records alhs bl bl_root tree h =
    let many : length alhs ≡ length records = ap length (sym h.kept) ∙ length-map records (λ (x : Record). x.alh) in
    let few = h.few in
    low-records hash 1 number (2 ^ 43) records h.refer (omega arith)

-- a log ends at a place behind the first i records, at most far out
pub record EndsAt (log end i : ℕ) (records : List Record) : Type 0 where
  pub is : min (max end (log_end log (refs_of (drop i records)))) (2 ^ 64 - 1) ≡ min (log_end log (refs_of records)) (2 ^ 64 - 1)
  pub small : end ≤ 2 ^ 64 - 1

-- behind none
pub ends-first : (log : ℕ) (records : List Record) → EndsAt log 0 0 records
ends-first log records = record { is = omega arith; small = omega arith }

-- behind one more
pub ends-next : (log end more i : ℕ) (records : List Record) (item : Record) → EndsAt log end i records → (lt : i < length records)
    → item ≡ get_or records i item → more ≡ min (max end (log_end log item.refs)) (2 ^ 64 - 1) → EndsAt log more (i + 1) records
ends-next log end more i records item at lt is more_is =
    let f : List Record → ℕ = λ l. log_end log (refs_of l) in
    let next : suc i ≡ i + 1 = omega arith in
    let step : f (drop i records) ≡ max (log_end log item.refs) (f (drop (i + 1) records)) =
    ap f (drop-cons records i item lt)
    ∙ ap (λ (r : Record). f (r ∷ drop (suc i) records)) (sym is)
    ∙ log_end_append log item.refs (refs_of (drop (suc i) records))
    ∙ ap (λ (k : ℕ). max (log_end log item.refs) (f (drop k records))) next
    in
    record { is = omega (arith, at.is, step, more_is); small = omega (arith, more_is) }

-- behind all of them
pub ends-last : (log end i : ℕ) (records : List Record) → EndsAt log end i records → length records ≤ i → end ≡ min (log_end log (refs_of records)) (2 ^ 64 - 1)
ends-last log end i records at le =
    let none = ap (λ (l : List Record). log_end log (refs_of l)) (drop_of_length-le records {i = i} le) in
    omega (arith, at.is, at.small, none)
