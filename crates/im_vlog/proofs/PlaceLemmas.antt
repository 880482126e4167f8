-- A value more behind those that are placed.
use Rattle.std.proofs.Common.{◌≡◌, ◌≤◌, ◌<◌, ◌+◌, ◌*◌, ◌^◌, ◌%◌, ℕ, List, [], ◌∷◌, ◌++◌, length, get_or, set, sym, ◌∙◌, ap, subst, arith, append_assoc}
use Rattle.std.proofs.lemmas.List.{append-nil, get_or-set_same, get_or-set_other}
use Rattle.im_disk.proofs.Tearing.{decide_same}
use Rattle.im_digest.specs.Digests.{Hash}
use Rattle.im_format.specs.Places.{AreAppended, log_end}
use Rattle.im_format.specs.Records.{IsReference}
use Rattle.im_format.specs.declared.references.ValueRef.{ValueRef}
use Rattle.im_vlog.specs.Ends.{reference_of, AreEnds}
use Rattle.im_format.proofs.EndLemmas.{log_end_same, log_end_other}

pub appended_more : (w id i : ℕ) (before refs : List ValueRef) (ref : ValueRef) → AreAppended w id i before refs
    → ref.log ≡ (id + (i + length refs)) % w → ref.at ≡ log_end ref.log (before ++ refs) → AreAppended w id i before (refs ++ ref ∷ [])
appended_more w id i before [] ref are log_is at_is = (
  log_is ∙ ap (λ (k : ℕ). (id + k) % w) (omega arith),
  at_is ∙ ap (λ (l : List ValueRef). log_end ref.log l) (append-nil before),
  tt,
)
appended_more w id i before (r ∷ rs) ref are log_is at_is = (
  are.0,
  are.1,
  appended_more w id (i + 1) (before ++ r ∷ []) rs ref are.2
      (log_is ∙ ap (λ (k : ℕ). (id + k) % w) (omega arith))
      (at_is ∙ ap (λ (l : List ValueRef). log_end ref.log l) (sym (append_assoc before (r ∷ []) rs))),
)

module _ (hash : Hash) (value : List ℕ) (number : ℕ) (next : List ℕ) (ref : ValueRef) (is : ref ≡ reference_of hash value number (get_or next number 0)) where
  log_is : ref.log ≡ number
  log_is = ap (λ (r : ValueRef). r.log) is

  at_is : ref.at ≡ get_or next number 0
  at_is = ap (λ (r : ValueRef). r.at) is

  len_is : ref.len ≡ length value
  len_is = ap (λ (r : ValueRef). r.len) is

  -- it lies at the end of its log
  pub at_end : (refs : List ValueRef) → number < 4 → AreEnds next refs → ref.at ≡ log_end ref.log refs
  at_end refs lt ends = at_is ∙ ends.each number lt ∙ ap (λ (k : ℕ). log_end k refs) (sym log_is)

  -- and moves that end on
  pub ends_more : (refs : List ValueRef) → number < 4 → length next ≡ 4 → AreEnds next refs
      → AreEnds (set next number (get_or next number 0 + length value)) (refs ++ ref ∷ [])
  ends_more refs lt long ends =
      let end = get_or next number 0 + length value in
      let ref_end : ref.at + ref.len ≡ end = omega (arith, at_is, len_is) in
      let was : get_or next number 0 ≡ log_end number refs = ends.each number lt in
      record {
        each = λ k small. decide_same k number
            (λ same. subst (λ (j : ℕ). get_or (set next number end) j 0 ≡ log_end j (refs ++ ref ∷ [])) (sym same)
            (get_or-set_same next number end 0 (omega (arith, lt, long)) ∙ sym ref_end
            ∙ sym (log_end_same number refs ref log_is (omega (arith, was, ref_end)))))
            (λ other. get_or-set_other next number k end 0 other ∙ ends.each k small
            ∙ sym (log_end_other k refs ref (λ e. other (sym e ∙ log_is))));
      }

  pub is_reference : (id room : ℕ) → number < 4 → get_or next number 0 ≤ room → room + length value ≤ id * 2 ^ 22 → IsReference hash id value ref
  is_reference id room lt at_most fits = record {
    hval = ap (λ (r : ValueRef). r.hval) is;
    len = len_is;
    log = omega (arith, log_is, lt);
    room = omega (arith, at_is, len_is, at_most, fits);
  }

-- each end stays below a bound that the value fits
pub room_more : (next : List ℕ) (number n room more : ℕ) → number < length next → n ≤ more
    → ((k : ℕ) → k < 4 → get_or next k 0 ≤ room) → number < 4 → (k : ℕ) → k < 4 → get_or (set next number (get_or next number 0 + n)) k 0 ≤ room + more
room_more next number n room more within le each lt k small =
    decide_same k number
    (λ same. subst (λ (j : ℕ). get_or (set next number (get_or next number 0 + n)) j 0 ≤ room + more) (sym same)
    (omega (arith, get_or-set_same next number (get_or next number 0 + n) 0 within, each number lt, le)))
    (λ other. omega (arith, get_or-set_other next number k (get_or next number 0 + n) 0 other, each k small, le))
