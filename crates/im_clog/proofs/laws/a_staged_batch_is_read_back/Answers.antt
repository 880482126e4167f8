use Rattle.std.proofs.Common.{◌≡◌, ◌+◌, ◌++◌, ◌∷◌, [], ℕ, List, length, refl, ◌∙◌, ap, arith, length-append}
use Rattle.std.proofs.lemmas.List.{get_or_at}
use Rattle.im_octet.specs.Fields.{field8}
use Rattle.im_format.specs.Batches.{batch_octets}
use Rattle.im_format.specs.Reading.{number8}
use Rattle.im_clog.proofs.FieldLemmas.{number8-field8, cut_first, cut_count, cut_end}
use Rattle.im_clog.proofs.laws.a_staged_batch_is_read_back.Goals as goal
use Rattle.im_octet.proofs.FieldLemmas.{length-field8}
use Rattle.im_format.proofs.LengthLemmas.{length-batch}

pub returns-clause-counts : goal.returns-clause-counts
returns-clause-counts c before rest first count end = record {
  opened = get_or_at before 1 (batch_octets first count end ++ rest) 0 (length before) refl;
  whole = omega (
    arith,
    length-append before (1 ∷ (batch_octets first count end ++ rest)),
    length-append (batch_octets first count end) rest,
    length-batch first count end,
  );
}

pub returns-clause-mark : goal.returns-clause-mark
returns-clause-mark c before rest first count end first_fits count_fits end_fits =
    let first_is : number8 (before ++ 1 ∷ (batch_octets first count end ++ rest)) (length before + 1) ≡ first =
    ap (λ (l : List ℕ). number8 l (length before + 1)) (cut_first before rest first count end)
    ∙ number8-field8 (before ++ 1 ∷ []) _ first (length before + 1) first_fits (length-append before (1 ∷ []))
    in
    let count_is : number8 (before ++ 1 ∷ (batch_octets first count end ++ rest)) (length before + 9) ≡ count =
    ap (λ (l : List ℕ). number8 l (length before + 9)) (cut_count before rest first count end)
    ∙ number8-field8 (before ++ (1 ∷ field8 first)) _ count (length before + 9) count_fits
    (omega (arith, length-append before (1 ∷ field8 first), length-field8 first))
    in
    let end_is : number8 (before ++ 1 ∷ (batch_octets first count end ++ rest)) (length before + 17) ≡ end =
    ap (λ (l : List ℕ). number8 l (length before + 17)) (cut_end before rest first count end)
    ∙ number8-field8 (before ++ (1 ∷ (field8 first ++ field8 count))) _ end (length before + 17) end_fits
    (omega (
      arith,
      length-append before (1 ∷ (field8 first ++ field8 count)),
      length-append (field8 first) (field8 count),
      length-field8 first,
      length-field8 count,
    ))
    in
    cc
