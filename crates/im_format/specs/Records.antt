-- The octets of a transaction in the transaction log, file 0.
use Rattle.std.specs.Prelude.{◌≡◌, ◌≤◌, ◌+◌, ◌*◌, ◌^◌, ℕ, List, [], ◌∷◌, ◌++◌, length}
use Rattle.im_octet.specs.Fields.{field2, field4, field8, signed_field8}
use Rattle.im_digest.specs.Digests.{Hash}
use Rattle.im_model.specs.History.{alh_of}
use Rattle.im_model.specs.declared.entries.Entry.{Entry}
use Rattle.im_model.specs.declared.transactions.Transaction.{Transaction}
use Rattle.im_format.specs.declared.records.Record.{Record}
use Rattle.im_format.specs.declared.references.ValueRef.{ValueRef}

-- hVal 32 | value length 4 | log 1 | place 8
unfoldable pub reference_octets : ValueRef → List ℕ
reference_octets ref = ref.hval ++ field4 ref.len ++ (ref.log ∷ []) ++ field8 ref.at

-- mdLen 2 | md | keyLen 2 | key | the reference of the value
unfoldable pub entry_octets : Entry → ValueRef → List ℕ
entry_octets entry ref =
    field2 (length entry.md) ++ entry.md ++ field2 (length entry.key) ++ entry.key ++ reference_octets ref

-- the entries in order, each with its reference
abbrev pub entries_octets : List Entry → List ValueRef → List ℕ
entries_octets [] refs = []
entries_octets (entry ∷ entries) [] = []
entries_octets (entry ∷ entries) (ref ∷ refs) = entry_octets entry ref ++ entries_octets entries refs

-- ID 8 | Ts 8 | BlTxID 8 | entry count 4
unfoldable pub head_octets : ℕ → Transaction → List ℕ
head_octets id tx = field8 id ++ signed_field8 tx.ts ++ field8 tx.bl ++ field4 (length tx.entries)

-- the head | the entries | Alh 32
unfoldable pub record_octets : ℕ → Record → List ℕ
record_octets id r = head_octets id r.tx ++ entries_octets r.tx.entries r.refs ++ r.alh

-- records that follow each other without gaps, from this ID on
abbrev pub records_octets : ℕ → List Record → List ℕ
records_octets id [] = []
records_octets id (r ∷ rs) = record_octets id r ++ records_octets (id + 1) rs

-- the reference says of a value of transaction id its digest, its length, a value log, 0 to 3, and a place in
-- it from which it ends at most at id * 2^22
pub record IsReference (hash : Hash) (id : ℕ) (value : List ℕ) (ref : ValueRef) : Type 0 where
  pub hval : ref.hval ≡ hash value
  pub len : ref.len ≡ length value
  pub log : ref.log ≤ 3
  pub room : ref.at + ref.len ≤ id * 2 ^ 22

-- one for each entry, in order
abbrev pub AreReferences : Hash → ℕ → List Entry → List ValueRef → Type 0
AreReferences hash id [] [] = Unit {0}
AreReferences hash id [] (ref ∷ refs) = ⊥
AreReferences hash id (entry ∷ entries) [] = ⊥
AreReferences hash id (entry ∷ entries) (ref ∷ refs) =
    IsReference hash id entry.value ref × AreReferences hash id entries refs

-- references that fit the values of transaction id, and the Alh of this number of the history
pub record IsRecord (hash : Hash) (history : List Transaction) (id : ℕ) (r : Record) : Type 0 where
  pub refs : AreReferences hash id r.tx.entries r.refs
  pub alh : r.alh ≡ alh_of hash history id

-- the same of records with rising IDs, from this one on
abbrev pub AreRecords : Hash → List Transaction → ℕ → List Record → Type 0
AreRecords hash history id [] = Unit {0}
AreRecords hash history id (r ∷ rs) = IsRecord hash history id r × AreRecords hash history (id + 1) rs
