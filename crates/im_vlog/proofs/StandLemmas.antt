-- Values that were written one behind the other stand at their places.
use Rattle.std.proofs.Common.{◌≡◌, ◌≢◌, ◌≤◌, ◌+◌, ◌==◌, ℕ, List, [], ◌∷◌, ◌++◌, length, refl, sym, ◌∙◌, ap, subst, arith, eq-eqb, ne_eqb, append_assoc, length-append}
use Rattle.std.proofs.lemmas.List.{append-nil}
use Rattle.std.proofs.lemmas.List.Elements.{All-nil, All-cons, All-append}
use Rattle.std.specs.Prelude.{All, if◌then◌else◌}
use Rattle.im_disk.proofs.Tearing.{decide_same}
use Rattle.im_alog.proofs.Torn.{part_reads}
use Rattle.im_digest.specs.Digests.{Hash}
use Rattle.im_disk.specs.Disk.{Files}
use Rattle.im_format.specs.Batches.{entries_spans, value_span, values_spans}
use Rattle.im_format.specs.Places.{AreAppended, ArePut, log_end, log_values, refs_of, values_in}
use Rattle.im_format.specs.Records.{AreRecords, AreReferences}
use Rattle.im_format.specs.Spans.{Reads}
use Rattle.im_format.specs.Standing.{LiesIn}
use Rattle.im_format.specs.declared.records.Record.{Record}
use Rattle.im_format.specs.declared.references.ValueRef.{ValueRef}
use Rattle.im_model.specs.declared.entries.Entry.{Entry}
use Rattle.im_model.specs.declared.transactions.Transaction.{Transaction}
use Rattle.im_format.proofs.EndLemmas.{log_end_same, log_end_other}

-- from its end behind references on, each log has octets
pub record Has (image : Files) (before : List ValueRef) (octets : ℕ → List ℕ) : Type 0 where
  pub each : (number : ℕ) → number ≤ 3 → Reads image (record { file = 2 + number; at = log_end number before; octets = octets number })

-- or at least so many
pub record Reaches (image : Files) (before : List ValueRef) (octets : ℕ → List ℕ) : Type 0 where
  pub each : (number : ℕ) → number ≤ 3 → log_end number before + length (octets number) ≤ length (image (2 + number))

-- the octets of a value in the log that it goes to, and none in the others
abbrev part : List ℕ → ValueRef → ℕ → List ℕ
part value ref number = if ref.log == number then value else []

part_here : (value : List ℕ) (ref : ValueRef) (number : ℕ) → ref.log ≡ number → part value ref number ≡ value
part_here value ref number is = ap (λ t. if t then value else []) (eq-eqb ref.log number is)

part_there : (value : List ℕ) (ref : ValueRef) (number : ℕ) → ref.log ≢ number → part value ref number ≡ []
part_there value ref number other = ap (λ t. if t then value else []) (ne_eqb ref.log number other)

module _ (image : Files) (before : List ValueRef) (value : List ℕ) (ref : ValueRef) (rest : ℕ → List ℕ) (small : ref.log ≤ 3) (at_is : ref.at ≡ log_end ref.log before) (len_is : ref.len ≡ length value) where
  -- where the log ends behind the value
  end_is : (number : ℕ) → ref.log ≡ number → log_end number (before ++ ref ∷ []) ≡ log_end number before + length value
  end_is number is =
      let place : ref.at ≡ log_end number before = at_is ∙ ap (λ (k : ℕ). log_end k before) is in
      log_end_same number before ref is (omega (arith, place)) ∙ omega (arith, place, len_is)

  value_reads : Has image before (λ number. part value ref number ++ rest number) → Reads image (value_span value ref)
  value_reads has =
      let all : Reads image (record { file = 2 + ref.log; at = log_end ref.log before; octets = part value ref ref.log ++ rest ref.log }) =
      has.each ref.log small
      in
      let mine : Reads image (record { file = 2 + ref.log; at = log_end ref.log before; octets = [] ++ value ++ rest ref.log }) =
      subst (λ (l : List ℕ). Reads image (record { file = 2 + ref.log; at = log_end ref.log before; octets = l ++ rest ref.log }))
      (part_here value ref ref.log refl) all
      in
      subst (λ (k : ℕ). Reads image (record { file = 2 + ref.log; at = k; octets = value })) (omega (arith, at_is))
      (part_reads image (2 + ref.log) (log_end ref.log before) [] value (rest ref.log) mine)

  rest_reads : Has image before (λ number. part value ref number ++ rest number) → Has image (before ++ ref ∷ []) rest
  rest_reads has = record {
    each = λ number le. decide_same ref.log number
        (λ is.
        let mine : Reads image (record { file = 2 + number; at = log_end number before; octets = value ++ rest number ++ [] }) =
        subst (λ (l : List ℕ). Reads image (record { file = 2 + number; at = log_end number before; octets = l }))
        (ap (λ (l : List ℕ). l ++ rest number) (part_here value ref number is) ∙ sym (append-nil (value ++ rest number)))
        (has.each number le)
        in
        subst (λ (k : ℕ). Reads image (record { file = 2 + number; at = k; octets = rest number })) (sym (end_is number is))
        (part_reads image (2 + number) (log_end number before) value (rest number) [] mine))
        (λ other.
        subst (λ (k : ℕ). Reads image (record { file = 2 + number; at = k; octets = rest number })) (sym (log_end_other number before ref other))
        (subst (λ (l : List ℕ). Reads image (record { file = 2 + number; at = log_end number before; octets = l ++ rest number }))
        (part_there value ref number other) (has.each number le)));
  }

  value_lies : Reaches image before (λ number. part value ref number ++ rest number) → LiesIn image ref
  value_lies reach = record {
    within =
        let le : log_end ref.log before + length (value ++ rest ref.log) ≤ length (image (2 + ref.log)) =
        subst (λ (l : List ℕ). log_end ref.log before + length (l ++ rest ref.log) ≤ length (image (2 + ref.log)))
        (part_here value ref ref.log refl) (reach.each ref.log small)
        in
        omega (arith, le, at_is, len_is, length-append value (rest ref.log));
  }

  rest_reaches : Reaches image before (λ number. part value ref number ++ rest number) → Reaches image (before ++ ref ∷ []) rest
  rest_reaches reach = record {
    each = λ number le. decide_same ref.log number
        (λ is.
        let far : log_end number before + length (value ++ rest number) ≤ length (image (2 + number)) =
        subst (λ (l : List ℕ). log_end number before + length (l ++ rest number) ≤ length (image (2 + number)))
        (part_here value ref number is) (reach.each number le)
        in
        omega (arith, far, end_is number is, length-append value (rest number)))
        (λ other.
        let far : log_end number before + length (rest number) ≤ length (image (2 + number)) =
        subst (λ (l : List ℕ). log_end number before + length (l ++ rest number) ≤ length (image (2 + number)))
        (part_there value ref number other) (reach.each number le)
        in
        omega (arith, far, log_end_other number before ref other));
  }

-- the same octets of each log
has_same : (image : Files) (before : List ValueRef) (xs ys : ℕ → List ℕ) → ((number : ℕ) → xs number ≡ ys number) → Has image before xs → Has image before ys
has_same image before xs ys same has = record {
  each = λ number le. subst (λ (l : List ℕ). Reads image (record { file = 2 + number; at = log_end number before; octets = l })) (same number) (has.each number le);
}

reaches_same : (image : Files) (before : List ValueRef) (xs ys : ℕ → List ℕ) → ((number : ℕ) → xs number ≡ ys number) → Reaches image before xs → Reaches image before ys
reaches_same image before xs ys same reach = record {
  each = λ number le. subst (λ (l : List ℕ). log_end number before + length l ≤ length (image (2 + number))) (same number) (reach.each number le);
}

-- a value, and then others
regroup : (value : List ℕ) (ref : ValueRef) (es : List Entry) (rs : List ValueRef) (rest : ℕ → List ℕ) (number : ℕ)
    → (part value ref number ++ values_in number es rs) ++ rest number ≡ part value ref number ++ (values_in number es rs ++ rest number)
regroup value ref es rs rest number = append_assoc (part value ref number) (values_in number es rs) (rest number)

-- behind references, and behind one of them more
before_more : (before rs : List ValueRef) (ref : ValueRef) → (before ++ ref ∷ []) ++ rs ≡ before ++ ref ∷ rs
before_more before rs ref = append_assoc before (ref ∷ []) rs

-- the values of one transaction
entries_stand : (hash : Hash) (logs id room i : ℕ) (image : Files) (before : List ValueRef) (es : List Entry) (rs : List ValueRef) (rest : ℕ → List ℕ)
    → AreReferences hash room es rs → AreAppended logs id i before rs → Has image before (λ number. values_in number es rs ++ rest number)
    → All (Reads image) (entries_spans es rs) × Has image (before ++ rs) rest
entries_stand hash logs id room i image before [] [] rest are put has =
    (All-nil (Reads image), subst (λ (l : List ValueRef). Has image l rest) (sym (append-nil before)) (record { each = has.each }))
entries_stand hash logs id room i image before [] (r ∷ rs) rest are put has = absurd are
entries_stand hash logs id room i image before (e ∷ es) [] rest are put has = absurd are
entries_stand hash logs id room i image before (e ∷ es) (r ∷ rs) rest are put has =
    let more : ℕ → List ℕ = λ number. values_in number es rs ++ rest number in
    let mine : Has image before (λ number. part e.value r number ++ more number) =
    has_same image before _ (λ number. part e.value r number ++ more number) (regroup e.value r es rs rest) has
    in
    let others = entries_stand hash logs id room (i + 1) image (before ++ r ∷ []) es rs rest are.1 put.2
    (rest_reads image before e.value r more are.0.log put.1 are.0.len mine)
    in (
      All-cons (Reads image) (value_span e.value r) (entries_spans es rs) (value_reads image before e.value r more are.0.log put.1 are.0.len mine) others.0,
      subst (λ (l : List ValueRef). Has image l rest) (before_more before rs r) others.1,
    )

entries_lie : (hash : Hash) (logs id room i : ℕ) (image : Files) (before : List ValueRef) (es : List Entry) (rs : List ValueRef) (rest : ℕ → List ℕ)
    → AreReferences hash room es rs → AreAppended logs id i before rs → Reaches image before (λ number. values_in number es rs ++ rest number)
    → All (LiesIn image) rs × Reaches image (before ++ rs) rest
entries_lie hash logs id room i image before [] [] rest are put reach =
    (All-nil (LiesIn image), subst (λ (l : List ValueRef). Reaches image l rest) (sym (append-nil before)) (record { each = reach.each }))
entries_lie hash logs id room i image before [] (r ∷ rs) rest are put reach = absurd are
entries_lie hash logs id room i image before (e ∷ es) [] rest are put reach = absurd are
entries_lie hash logs id room i image before (e ∷ es) (r ∷ rs) rest are put reach =
    let more : ℕ → List ℕ = λ number. values_in number es rs ++ rest number in
    let mine : Reaches image before (λ number. part e.value r number ++ more number) =
    reaches_same image before _ (λ number. part e.value r number ++ more number) (regroup e.value r es rs rest) reach
    in
    let others = entries_lie hash logs id room (i + 1) image (before ++ r ∷ []) es rs rest are.1 put.2
    (rest_reaches image before e.value r more are.0.log put.1 are.0.len mine)
    in (
      All-cons (LiesIn image) r rs (value_lies image before e.value r more are.0.log put.1 are.0.len mine) others.0,
      subst (λ (l : List ValueRef). Reaches image l rest) (before_more before rs r) others.1,
    )

-- those of records
pub records_stand : (hash : Hash) (history : List Transaction) (logs id : ℕ) (image : Files) (before : List ValueRef) (records : List Record)
    → AreRecords hash history id records → ArePut logs id before records → Has image before (λ number. log_values number records)
    → All (Reads image) (values_spans records)
records_stand hash history logs id image before [] are put has = All-nil (Reads image)
records_stand hash history logs id image before (r ∷ rs) are put has =
    let first = entries_stand hash logs id id 0 image before r.tx.entries r.refs (λ number. log_values number rs) are.0.refs put.0 (record { each = has.each }) in
    All-append (Reads image) (entries_spans r.tx.entries r.refs) (values_spans rs) first.0
    (records_stand hash history logs (id + 1) image (before ++ r.refs) rs are.1 put.1 first.1)

pub records_lie : (hash : Hash) (history : List Transaction) (logs id : ℕ) (image : Files) (before : List ValueRef) (records : List Record)
    → AreRecords hash history id records → ArePut logs id before records → Reaches image before (λ number. log_values number records)
    → All (LiesIn image) (refs_of records)
records_lie hash history logs id image before [] are put reach = All-nil (LiesIn image)
records_lie hash history logs id image before (r ∷ rs) are put reach =
    let first = entries_lie hash logs id id 0 image before r.tx.entries r.refs (λ number. log_values number rs) are.0.refs put.0 (record { each = reach.each }) in
    All-append (LiesIn image) r.refs (refs_of rs) first.0
    (records_lie hash history logs (id + 1) image (before ++ r.refs) rs are.1 put.1 first.1)
