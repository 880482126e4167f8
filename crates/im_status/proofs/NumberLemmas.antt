-- How many lines a client accepts, and the Alh of the last transaction.
use Rattle.std.proofs.Common.{◌≡◌, ◌<◌, ◌+◌, ◌-◌, ◌++◌, ◌∙◌, cond, ne_eqb, ℕ, List, [], ◌∷◌, Option, Some, None, get_or, length, arith, ap, refl, subst, sym}
use Rattle.std.specs.Prelude.{slice_get}
use Rattle.std.proofs.lemmas.Bool.{eq-eqb}
use Rattle.std.proofs.lemmas.Option.{get_or_from_slice_get, slice_get-get_or, slice_get_within}
use Rattle.im_digest.specs.Digests.{Hash}
use Rattle.im_model.specs.Headers.{alh}
use Rattle.im_model.specs.History.{alh_of, alhs_of, header_of}
use Rattle.im_model.specs.declared.transactions.Transaction.{Transaction}
use Rattle.im_model.proofs.HeaderLemmas.{alh_of-next}
use Rattle.im_model.proofs.HistoryLemmas.{alh-at, length-alhs_of}
use Rattle.im_facts.specs.Verdicts.{Verdict}
use Rattle.im_verify.specs.Judged.{IsVerified, NoneForked, NoneRefused, kept_texts, up_to_fork}
use Rattle.im_verify.specs.Runs.{Verifies}
use Rattle.im_verify.specs.declared.ended.Ended.TheVariants as ended
use Rattle.im_status.specs.Numbers.{last_alh}

-- the Alh of the last transaction, where there is none
pub last-none : (hash : Hash) (history : List Transaction) (alhs : List (List ℕ)) → alhs ≡ alhs_of hash history → slice_get alhs (length alhs - 1) ≡ None → hash [] ≡ last_alh hash history
last-none hash history [] are none =
    let count : length history ≡ 0 = sym (length-alhs_of hash history) ∙ sym (ap length are) in
    sym (ap (λ b. cond b (hash []) (alh hash (header_of hash history (length history)))) (eq-eqb (length history) 0 count))
last-none hash history (x ∷ xs) are none = absurd (let at = slice_get-get_or (x ∷ xs) (length (x ∷ xs) - 1) x (omega arith) in cc (at, none))

-- and where there are some
pub last-some : (hash : Hash) (history : List Transaction) (alhs : List (List ℕ)) (last : List ℕ) → alhs ≡ alhs_of hash history → slice_get alhs (length alhs - 1) ≡ Some last → last ≡ last_alh hash history
last-some hash history alhs last are some =
    let k : ℕ = length alhs - 1 in
    let inside : k < length alhs = slice_get_within alhs k last some in
    let count : length alhs ≡ length history = ap length are ∙ length-alhs_of hash history in
    let number : k + 1 ≡ length history = omega (arith, inside, count) in
    let here : last ≡ alh_of hash history (k + 1) =
    sym (get_or_from_slice_get alhs k last [] some) ∙ ap (λ (l : List (List ℕ)). get_or l k []) are ∙ sym (alh-at hash history k) in
    let named : last ≡ alh hash (header_of hash history (length history)) =
    here ∙ alh_of-next hash history k (omega (arith, number)) ∙ ap (λ (m : ℕ). alh hash (header_of hash history m)) number in
    named ∙ sym (ap (λ b. cond b (hash []) (alh hash (header_of hash history (length history)))) (ne_eqb (length history) 0 (λ e. omega (arith, e, number))))

-- what a client that knew nothing accepted of a report
pub accepted-of : (hash : Hash) (report source : List ℕ) (told now : Option (List ℕ)) (held kept lines : List (List ℕ)) (count : ℕ) → source ≡ report → held ≡ []
    → lines ≡ kept → count ≡ length lines → Verifies hash ended.Ok (Some source) told now (Some held) (Some kept)
    → (verdicts : List Verdict) × IsVerified hash [] report verdicts × (NoneRefused verdicts × NoneForked verdicts) × (count ≡ length (kept_texts (up_to_fork verdicts)))
accepted-of hash report source told now held kept lines count same none are counted v =
    let texts : List (List ℕ) = kept_texts (up_to_fork v.verdicts) in
    let behind : kept ≡ texts = one-value kept (held ++ texts) v.keeps ∙ ap (λ (ks : List (List ℕ)). ks ++ texts) none in
    let nothing : v.kept ≡ [] = sym v.kept_is ∙ none in
    let stream : v.stream ≡ report = sym v.stream_is ∙ same in
    let K : List (List ℕ) → Type 0 = λ ks. IsVerified hash ks v.stream v.verdicts in
    let S : List ℕ → Type 0 = λ s. IsVerified hash [] s v.verdicts in
    (v.verdicts, subst S stream (subst K nothing v.verified), v.accepted refl, counted ∙ ap length (are ∙ behind))
  where
    one-value : (x y : List (List ℕ)) → Some x ≡ Some y → x ≡ y
    one-value x y e = cc
