-- Where a value log ends behind references, and what they put there.
use Rattle.std.proofs.Common.{◌≡◌, ◌≢◌, ◌≤◌, ◌+◌, ◌*◌, ◌^◌, ℕ, List, [], ◌∷◌, ◌++◌, max, ap, arith, eq-eqb, ne_eqb}
use Rattle.std.specs.Prelude.{if◌then◌else◌}
use Rattle.im_digest.specs.Digests.{Hash}
use Rattle.im_disk.proofs.Tearing.{decide_same}
use Rattle.im_format.specs.Places.{log_end}
use Rattle.im_format.specs.Records.{AreReferences, IsReference}
use Rattle.im_format.specs.declared.references.ValueRef.{ValueRef}
use Rattle.im_model.specs.declared.entries.Entry.{Entry}

-- behind a reference to the log
pub own_end : (number : ℕ) (ref : ValueRef) (refs : List ValueRef) → ref.log ≡ number → log_end number (ref ∷ refs) ≡ max (ref.at + ref.len) (log_end number refs)
own_end number ref refs same = ap (λ t. if t then max (ref.at + ref.len) (log_end number refs) else log_end number refs) (eq-eqb ref.log number same)

-- or to another
pub other_end : (number : ℕ) (ref : ValueRef) (refs : List ValueRef) → ref.log ≢ number → log_end number (ref ∷ refs) ≡ log_end number refs
other_end number ref refs other = ap (λ t. if t then max (ref.at + ref.len) (log_end number refs) else log_end number refs) (ne_eqb ref.log number other)

-- behind some references and others
pub log_end_append : (number : ℕ) (a b : List ValueRef) → log_end number (a ++ b) ≡ max (log_end number a) (log_end number b)
log_end_append number [] b = omega arith
log_end_append number (ref ∷ a) b = decide_same ref.log number
    (λ same. omega (arith, own_end number ref (a ++ b) same, own_end number ref a same, log_end_append number a b))
    (λ other. omega (arith, other_end number ref (a ++ b) other, other_end number ref a other, log_end_append number a b))

-- behind one more, which ends behind all others
pub log_end_same : (number : ℕ) (refs : List ValueRef) (ref : ValueRef) → ref.log ≡ number → log_end number refs ≤ ref.at + ref.len
    → log_end number (refs ++ ref ∷ []) ≡ ref.at + ref.len
log_end_same number refs ref same le = omega (arith, log_end_append number refs (ref ∷ []), own_end number ref [] same, le)

-- or goes to another log
pub log_end_other : (number : ℕ) (refs : List ValueRef) (ref : ValueRef) → ref.log ≢ number → log_end number (refs ++ ref ∷ []) ≡ log_end number refs
log_end_other number refs ref other = omega (arith, log_end_append number refs (ref ∷ []), other_end number ref [] other)

-- behind the references of transaction id
pub references_below : (hash : Hash) (id number : ℕ) (entries : List Entry) (refs : List ValueRef) → AreReferences hash id entries refs → log_end number refs ≤ id * 2 ^ 22
references_below hash id number [] [] are = omega arith
references_below hash id number [] (ref ∷ refs) are = absurd are
references_below hash id number (entry ∷ entries) [] are = absurd are
references_below hash id number (entry ∷ entries) (ref ∷ refs) are =
    let more = references_below hash id number entries refs are.1 in
    decide_same ref.log number
    (λ same. omega (arith, own_end number ref refs same, are.0.room, more))
    (λ other. omega (arith, other_end number ref refs other, more))

-- one more reference, and its value
pub references_more : (hash : Hash) (id : ℕ) (entries : List Entry) (refs : List ValueRef) (entry : Entry) (ref : ValueRef)
    → AreReferences hash id entries refs → IsReference hash id entry.value ref
    → AreReferences hash id (entries ++ entry ∷ []) (refs ++ ref ∷ [])
references_more hash id [] [] entry ref are is = (is, tt)
references_more hash id [] (r ∷ rs) entry ref are is = absurd are
references_more hash id (e ∷ es) [] entry ref are is = absurd are
references_more hash id (e ∷ es) (r ∷ rs) entry ref are is = (are.0, references_more hash id es rs entry ref are.1 is)
