-- The checks of a record as those of its parts.
use Rattle.std.proofs.Common.{◌≡◌, ℕ, ◌+◌, List, [], ◌∷◌, ◌++◌, ap, sym, ◌∙◌, subst, append_assoc, Ok}
use Rattle.std.proofs.lemmas.Slice.Eq.{bytes_eq-Decides}
use Rattle.im_digest.specs.Digests.{Hash}
use Rattle.im_disk.specs.Disk.{Files}
use Rattle.im_format.specs.Damages.{Reached, alh_checks, head_checks, next_alh, next_id, record_checks, slots_checks}
use Rattle.im_format.specs.Reading.{alh_place, bl_at, count_at, record_end, transaction_in}
use Rattle.im_format.specs.Spans.{octets_at}
use Rattle.im_format.specs.declared.damages.Damage.{Damage}
use Rattle.im_format.specs.declared.records.Record.{Record}
use Rattle.im_format.specs.declared.references.ValueRef.{ValueRef}
use Rattle.im_model.specs.Headers.{alh}
use Rattle.im_model.specs.History.{next_header}
use Rattle.im_model.specs.declared.headers.Header.{Header}
use Rattle.im_model.specs.declared.transactions.Transaction.{Transaction}
use Rattle.im_mtree.specs.Checks.{Check, first_fail}
use Rattle.im_mtree.proofs.CheckLemmas.{all-hold, fail_append}
use Rattle.im_opening.specs.Answers.{Tells}
use Rattle.im_opening.specs.Parts.{refs_at, transaction_checks}
use Rattle.im_opening.specs.Reach.{IsOneMore, reached_of}
use Rattle.im_opening.specs.declared.records.Progress.{Progress}
use Rattle.im_opening.specs.declared.errors.OpenError.{OpenError}
use Rattle.im_opening.proofs.Finding.{tells-first}

-- the Alh that was computed and its place
pub record IsDigest (hash : Hash) (image : Files) (r : Reached) (log : List ℕ) (end : ℕ) (digest : List ℕ) : Type 0 where
  pub log_is : log ≡ image 0
  pub end_is : end ≡ alh_place image r.place
  pub digest_is : digest ≡ next_alh hash image r

pub digest-made : (hash : Hash) (image : Files) (r : Reached) (log : List ℕ) (end : ℕ) (digest : List ℕ) (header : Header) (tx : Transaction)
    → log ≡ image 0 → end ≡ alh_place image r.place → digest ≡ alh hash header → header ≡ next_header hash r.alhs tx
    → tx ≡ transaction_in image r.place → IsDigest hash image r log end digest
digest-made hash image r log end digest header tx a b made of is = record {
  log_is = a;
  end_is = b;
  digest_is = made ∙ ap (alh hash) of ∙ ap (λ (x : Transaction). alh hash (next_header hash r.alhs x)) is;
}

digest-checks : (hash : Hash) (image : Files) (r : Reached) (log : List ℕ) (end : ℕ) (digest : List ℕ) → IsDigest hash image r log end digest
    → alh_checks log end digest ≡ alh_checks (image 0) (alh_place image r.place) (next_alh hash image r)
digest-checks hash image r log end digest is =
    let C : Type 0 = List (Check Damage) in
    let A : List ℕ → C = λ l. alh_checks l end digest in
    let B : ℕ → C = λ k. alh_checks (image 0) k digest in
    let D : List ℕ → C = λ d. alh_checks (image 0) (alh_place image r.place) d in
    ap A is.log_is ∙ ap B is.end_is ∙ ap D is.digest_is

parts : (hash : Hash) (image : Files) (r : Reached)
    → transaction_checks hash image (next_id r) r.bl r.place ++ alh_checks (image 0) (alh_place image r.place) (next_alh hash image r) ≡ record_checks hash image r
parts hash image r =
    append_assoc (head_checks (image 0) (next_id r) r.bl r.place)
    (slots_checks hash image (next_id r) [] (r.place + 28) (count_at (image 0) r.place))
    (alh_checks (image 0) (alh_place image r.place) (next_alh hash image r))

-- what is told of the transaction is told of the record
pub record-tells : (hash : Hash) (image : Files) (r : Reached) (e : OpenError)
    → Tells (transaction_checks hash image (next_id r) r.bl r.place) e → Tells (record_checks hash image r) e
record-tells hash image r e h =
    let P : List (Check Damage) → Type 0 = λ l. Tells l e in
    subst P (parts hash image r)
    (tells-first (transaction_checks hash image (next_id r) r.bl r.place) (alh_checks (image 0) (alh_place image r.place) (next_alh hash image r)) e h)

-- where the transaction's checks hold: what is found of the Alh
pub record-finds : (hash : Hash) (image : Files) (r : Reached) (log : List ℕ) (end : ℕ) (digest : List ℕ) → IsDigest hash image r log end digest
    → first_fail (transaction_checks hash image (next_id r) r.bl r.place) ≡ Ok tt
    → first_fail (record_checks hash image r) ≡ first_fail (alh_checks log end digest)
record-finds hash image r log end digest is fine =
    ap first_fail (sym (parts hash image r))
    ∙ fail_append (transaction_checks hash image (next_id r) r.bl r.place) (alh_checks (image 0) (alh_place image r.place) (next_alh hash image r)) fine
    ∙ ap first_fail (sym (digest-checks hash image r log end digest is))

-- the Alh whose checks hold is the one that stands there
digest-there : (log : List ℕ) (end : ℕ) (digest : List ℕ) → first_fail (alh_checks log end digest) ≡ Ok tt → octets_at log end 32 ≡ digest
digest-there log end digest fine = (bytes_eq-Decides (octets_at log end 32) digest).0 (all-hold (alh_checks log end digest) fine).1.0

-- the record that was read is the one that stands there, and is one more
pub one-more : (hash : Hash) (image : Files) (before now : Progress) (log : List ℕ) (end place : ℕ) (r : Record) → IsDigest hash image (reached_of before) log end r.alh
    → r.tx ≡ transaction_in image before.place → r.refs ≡ refs_at image before.place → first_fail (alh_checks log end r.alh) ≡ Ok tt → place ≡ end + 32
    → now.records.items ≡ before.records.items ++ r ∷ [] → now.alhs.items ≡ before.alhs.items ++ r.alh ∷ [] → now.bl ≡ r.tx.bl → now.place ≡ place
    → IsOneMore hash image before now
one-more hash image before now log end place r made tx refs fine last records alhs bl at =
    let place_is : now.place ≡ record_end image before.place = at ∙ last ∙ ap (λ (k : ℕ). k + 32) made.end_is in
    let bl_is : now.bl ≡ bl_at (image 0) before.place = bl ∙ ap (λ (x : Transaction). x.bl) tx in
    let alhs_are : now.alhs.items ≡ before.alhs.items ++ next_alh hash image (reached_of before) ∷ [] =
    alhs ∙ ap (λ (d : List ℕ). before.alhs.items ++ d ∷ []) made.digest_is in
    let alh_is : r.alh ≡ octets_at (image 0) (alh_place image before.place) 32 =
    sym (digest-there log end r.alh fine) ∙ ap (λ (l : List ℕ). octets_at l end 32) made.log_is ∙ ap (λ (k : ℕ). octets_at (image 0) k 32) made.end_is in
    let A : List ℕ → Record = λ d. record { tx = r.tx; refs = r.refs; alh = d } in
    let B : List ValueRef → Record = λ rs. record { tx = r.tx; refs = rs; alh = octets_at (image 0) (alh_place image before.place) 32 } in
    let C : Transaction → Record = λ x. record { tx = x; refs = refs_at image before.place; alh = octets_at (image 0) (alh_place image before.place) 32 } in
    let E : List (List ℕ) → Reached = λ l. record { alhs = l; bl = now.bl; place = now.place } in
    let F : ℕ → Reached = λ n. record { alhs = before.alhs.items ++ next_alh hash image (reached_of before) ∷ []; bl = n; place = now.place } in
    let G : ℕ → Reached = λ n. record { alhs = before.alhs.items ++ next_alh hash image (reached_of before) ∷ []; bl = bl_at (image 0) before.place; place = n } in
    record {
      records_are = records ∙ ap (λ (x : Record). before.records.items ++ x ∷ []) (ap A alh_is ∙ ap B refs ∙ ap C tx);
      reached_is = ap E alhs_are ∙ ap F bl_is ∙ ap G place_is;
    }
