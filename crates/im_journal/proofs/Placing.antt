-- Values that are put at the ends of their logs.
use Rattle.std.proofs.Common.{◌≡◌, ◌≢◌, ℕ, ◌+◌, ◌*◌, ◌^◌, ◌≤◌, ◌<◌, List, [], ◌∷◌, ◌++◌, length, refl, sym, ◌∙◌, ap, subst, arith, append_assoc, length-append, eq-eqb, ne_eqb}
use Rattle.std.proofs.lemmas.List.{append-nil}
use Rattle.std.proofs.lemmas.List.Elements.{All-nil, All-cons, All-head, All-tail, All-append}
use Rattle.std.specs.Prelude.{All, if◌then◌else◌}
use Rattle.im_digest.specs.Digests.{Hash}
use Rattle.im_disk.specs.Disk.{Files}
use Rattle.im_model.specs.declared.entries.Entry.{Entry}
use Rattle.im_model.specs.declared.transactions.Transaction.{Transaction}
use Rattle.im_disk.proofs.Tearing.{decide_same}
use Rattle.im_format.specs.Batches.{entries_spans, value_span, values_spans}
use Rattle.im_format.specs.Places.{AreAppended, ArePut, log_end, log_values, refs_of, values_in}
use Rattle.im_format.specs.Records.{AreRecords, AreReferences}
use Rattle.im_format.specs.Spans.{Reads}
use Rattle.im_format.specs.declared.records.Record.{Record}
use Rattle.im_format.specs.declared.references.ValueRef.{ValueRef}
use Rattle.im_journal.proofs.Parts.{reads_at, front_reads, back_reads}
use Rattle.im_format.proofs.EndLemmas.{log_end_append, log_end_other, other_end, own_end}

-- behind a value at its log's end
own_pushed : (before : List ValueRef) (ref : ValueRef) → ref.at ≡ log_end ref.log before → log_end ref.log (before ++ ref ∷ []) ≡ log_end ref.log before + ref.len
own_pushed before ref is = omega (arith, log_end_append ref.log before (ref ∷ []), own_end ref.log ref [] refl, is)

own_value : (v : ℕ) (entry : Entry) (entries : List Entry) (ref : ValueRef) (refs : List ValueRef) → ref.log ≡ v
    → values_in v (entry ∷ entries) (ref ∷ refs) ≡ entry.value ++ values_in v entries refs
own_value v entry entries ref refs same = ap (λ t. (if t then entry.value else []) ++ values_in v entries refs) (eq-eqb ref.log v same)

other_value : (v : ℕ) (entry : Entry) (entries : List Entry) (ref : ValueRef) (refs : List ValueRef) → ref.log ≢ v
    → values_in v (entry ∷ entries) (ref ∷ refs) ≡ values_in v entries refs
other_value v entry entries ref refs other = ap (λ t. (if t then entry.value else []) ++ values_in v entries refs) (ne_eqb ref.log v other)

-- the end of a log behind the values of a transaction
entries_end : (hash : Hash) (w id k i v : ℕ) (before : List ValueRef) (entries : List Entry) (refs : List ValueRef) → AreAppended w id i before refs → AreReferences hash k entries refs
    → log_end v (before ++ refs) ≡ log_end v before + length (values_in v entries refs)
entries_end hash w id k i v before [] [] put are = ap (log_end v) (append-nil before) ∙ omega arith
entries_end hash w id k i v before [] (ref ∷ refs) put are = absurd are
entries_end hash w id k i v before (entry ∷ entries) [] put are = absurd are
entries_end hash w id k i v before (entry ∷ entries) (ref ∷ refs) put are =
    let rest = entries_end hash w id k (i + 1) v (before ++ ref ∷ []) entries refs put.2 are.1 in
    let grouped : log_end v ((before ++ ref ∷ []) ++ refs) ≡ log_end v (before ++ ref ∷ refs) = ap (log_end v) (append_assoc before (ref ∷ []) refs) in
    decide_same ref.log v
    (λ same.
    let here : log_end v (before ++ ref ∷ []) ≡ log_end v before + ref.len = subst (λ (x : ℕ). log_end x (before ++ ref ∷ []) ≡ log_end x before + ref.len) same (own_pushed before ref put.1) in
    omega (arith, rest, grouped, here, are.0.len, ap length (own_value v entry entries ref refs same), length-append entry.value (values_in v entries refs)))
    (λ other. omega (arith, rest, grouped, log_end_other v before ref other, ap length (other_value v entry entries ref refs other)))

-- and behind those of some transactions
pub records_end : (hash : Hash) (history : List Transaction) (w id v : ℕ) (before : List ValueRef) (rs : List Record) → ArePut w id before rs → AreRecords hash history id rs
    → log_end v (before ++ refs_of rs) ≡ log_end v before + length (log_values v rs)
records_end hash history w id v before [] put are = ap (log_end v) (append-nil before) ∙ omega arith
records_end hash history w id v before (r ∷ rs) put are =
    let first = entries_end hash w id id 0 v before r.tx.entries r.refs put.0 are.0.refs in
    let rest = records_end hash history w (id + 1) v (before ++ r.refs) rs put.1 are.1 in
    let grouped : log_end v ((before ++ r.refs) ++ refs_of rs) ≡ log_end v (before ++ (r.refs ++ refs_of rs)) = ap (log_end v) (append_assoc before r.refs (refs_of rs)) in
    omega (arith, first, rest, grouped, length-append (values_in v r.tx.entries r.refs) (log_values v rs))

-- what reads of a log at its end is a value, and the rest behind it
rest_reads : (image : Files) (before : List ValueRef) (entry : Entry) (entries : List Entry) (ref : ValueRef) (refs : List ValueRef) (v : ℕ) (tail : List ℕ)
    → ref.at ≡ log_end ref.log before → ref.len ≡ length entry.value
    → reads_at image (2 + v) (log_end v before) (values_in v (entry ∷ entries) (ref ∷ refs) ++ tail) → reads_at image (2 + v) (log_end v (before ++ ref ∷ [])) (values_in v entries refs ++ tail)
rest_reads image before entry entries ref refs v tail is len reads =
    let rest = values_in v entries refs in
    decide_same ref.log v
    (λ same.
    let all = subst (λ (l : List ℕ). reads_at image (2 + v) (log_end v before) l) (ap (λ (l : List ℕ). l ++ tail) (own_value v entry entries ref refs same) ∙ append_assoc entry.value rest tail) reads in
    let here : log_end v before + length entry.value ≡ log_end v (before ++ ref ∷ []) = omega (arith, len, subst (λ (x : ℕ). log_end x (before ++ ref ∷ []) ≡ log_end x before + ref.len) same (own_pushed before ref is)) in
    subst (λ (k : ℕ). reads_at image (2 + v) k (rest ++ tail)) here (back_reads image (2 + v) (log_end v before) entry.value (rest ++ tail) all))
    (λ other.
    subst (λ (k : ℕ). reads_at image (2 + v) k (rest ++ tail)) (sym (log_end_other v before ref other))
    (subst (λ (l : List ℕ). reads_at image (2 + v) (log_end v before) l) (ap (λ (l : List ℕ). l ++ tail) (other_value v entry entries ref refs other)) reads))

first_reads : (image : Files) (before : List ValueRef) (entry : Entry) (entries : List Entry) (ref : ValueRef) (refs : List ValueRef) (tail : List ℕ)
    → ref.at ≡ log_end ref.log before
    → reads_at image (2 + ref.log) (log_end ref.log before) (values_in ref.log (entry ∷ entries) (ref ∷ refs) ++ tail) → Reads image (value_span entry.value ref)
first_reads image before entry entries ref refs tail is reads =
    let rest = values_in ref.log entries refs in
    let all = subst (λ (l : List ℕ). reads_at image (2 + ref.log) (log_end ref.log before) l) (ap (λ (l : List ℕ). l ++ tail) (own_value ref.log entry entries ref refs refl) ∙ append_assoc entry.value rest tail) reads in
    subst (λ (k : ℕ). reads_at image (2 + ref.log) k entry.value) (sym is) (front_reads image (2 + ref.log) (log_end ref.log before) entry.value (rest ++ tail) all)

entries_read : (image : Files) (hash : Hash) (w id k i : ℕ) (before : List ValueRef) (entries : List Entry) (refs : List ValueRef) (tail : ℕ → List ℕ)
    → AreAppended w id i before refs → AreReferences hash k entries refs
    → ((v : ℕ) → v < 4 → reads_at image (2 + v) (log_end v before) (values_in v entries refs ++ tail v))
    → All (Reads image) (entries_spans entries refs) × ((v : ℕ) → v < 4 → reads_at image (2 + v) (log_end v (before ++ refs)) (tail v))
entries_read image hash w id k i before [] [] tail put are reads =
    (All-nil (Reads image), λ v few. subst (λ (n : ℕ). reads_at image (2 + v) n (tail v)) (ap (log_end v) (sym (append-nil before))) (reads v few))
entries_read image hash w id k i before [] (ref ∷ refs) tail put are reads = absurd are
entries_read image hash w id k i before (entry ∷ entries) [] tail put are reads = absurd are
entries_read image hash w id k i before (entry ∷ entries) (ref ∷ refs) tail put are reads =
    let below : ref.log < 4 = omega (arith, are.0.log) in
    let rest = entries_read image hash w id k (i + 1) (before ++ ref ∷ []) entries refs tail put.2 are.1
    (λ v few. rest_reads image before entry entries ref refs v (tail v) put.1 are.0.len (reads v few)) in (
      All-cons (Reads image) (value_span entry.value ref) (entries_spans entries refs) (first_reads image before entry entries ref refs (tail ref.log) put.1 (reads ref.log below)) rest.0,
      λ v few. subst (λ (l : List ValueRef). reads_at image (2 + v) (log_end v l) (tail v)) (append_assoc before (ref ∷ []) refs) (rest.1 v few),
    )

-- where each log's values read at its end, each value reads at its place
pub values_read : (image : Files) (hash : Hash) (history : List Transaction) (w id : ℕ) (before : List ValueRef) (rs : List Record) → ArePut w id before rs → AreRecords hash history id rs
    → ((v : ℕ) → v < 4 → reads_at image (2 + v) (log_end v before) (log_values v rs)) → All (Reads image) (values_spans rs)
values_read image hash history w id before [] put are reads = All-nil (Reads image)
values_read image hash history w id before (r ∷ rs) put are reads =
    let first = entries_read image hash w id id 0 before r.tx.entries r.refs (λ v. log_values v rs) put.0 are.0.refs reads in
    All-append (Reads image) (entries_spans r.tx.entries r.refs) (values_spans rs) first.0 (values_read image hash history w (id + 1) (before ++ r.refs) rs put.1 are.1 first.1)

-- a reference to one of the value logs, that ends within so many octets
pub record IsIn (most : ℕ) (ref : ValueRef) : Type 0 where
  pub log : ref.log ≤ 3
  pub room : ref.at + ref.len ≤ most

entries_in : (hash : Hash) (id n : ℕ) (entries : List Entry) (refs : List ValueRef) → AreReferences hash id entries refs → id ≤ n → All (IsIn (n * 2 ^ 22)) refs
entries_in hash id n [] [] are le = All-nil (IsIn (n * 2 ^ 22))
entries_in hash id n [] (ref ∷ refs) are le = absurd are
entries_in hash id n (entry ∷ entries) [] are le = absurd are
entries_in hash id n (entry ∷ entries) (ref ∷ refs) are le =
    All-cons (IsIn (n * 2 ^ 22)) ref refs (record { log = are.0.log; room = omega (arith, are.0.room, le) }) (entries_in hash id n entries refs are.1 le)

pub records_in : (hash : Hash) (history : List Transaction) (id n : ℕ) (rs : List Record) → AreRecords hash history id rs → id + length rs ≤ n + 1 → All (IsIn (n * 2 ^ 22)) (refs_of rs)
records_in hash history id n [] are le = All-nil (IsIn (n * 2 ^ 22))
records_in hash history id n (r ∷ rs) are le =
    All-append (IsIn (n * 2 ^ 22)) r.refs (refs_of rs) (entries_in hash id n r.tx.entries r.refs are.0.refs (omega (arith, le))) (records_in hash history (id + 1) n rs are.1 (omega (arith, le)))

pub ends_in : (v most : ℕ) (refs : List ValueRef) → All (IsIn most) refs → log_end v refs ≤ most
ends_in v most [] all = omega arith
ends_in v most (ref ∷ refs) all =
    let rest = ends_in v most refs (All-tail (IsIn most) ref refs all) in
    let head = All-head (IsIn most) ref refs all in
    decide_same ref.log v
    (λ same. omega (arith, own_end v ref refs same, rest, head.room))
    (λ other. omega (arith, other_end v ref refs other, rest))

-- each value ends at or before the end of its log
pub refs_below : (most : ℕ) (bound : ℕ → ℕ) (refs : List ValueRef) → All (IsIn most) refs → ((v : ℕ) → v < 4 → log_end v refs ≤ bound v) → All (λ ref. ref.at + ref.len ≤ bound ref.log) refs
refs_below most bound [] all le = All-nil (λ ref. ref.at + ref.len ≤ bound ref.log)
refs_below most bound (ref ∷ refs) all le =
    let head = All-head (IsIn most) ref refs all in
    All-cons (λ ref. ref.at + ref.len ≤ bound ref.log) ref refs
    (omega (arith, own_end ref.log ref refs refl, le ref.log (omega (arith, head.log))))
    (refs_below most bound refs (All-tail (IsIn most) ref refs all) (λ v few. decide_same ref.log v
    (λ same. omega (arith, own_end v ref refs same, le v few))
    (λ other. omega (arith, other_end v ref refs other, le v few))))
