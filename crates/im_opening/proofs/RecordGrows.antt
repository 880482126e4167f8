-- Records of a history, and one more.
use Rattle.std.proofs.Common.{◌≡◌, ℕ, suc, ◌+◌, ◌-◌, ◌<◌, ◌≤◌, ◌==◌, List, [], ◌∷◌, ◌++◌, length, length-append, map, take, get_or, refl, ap, sym, ◌∙◌, subst, arith, append_assoc, ne_eqb, if◌then◌else◌}
use Rattle.std.proofs.Math.Seq.{get_or-append_seam}
use Rattle.std.proofs.lemmas.List.{length-map, map-append, take-append-le}
use Rattle.im_digest.specs.Digests.{Hash}
use Rattle.im_format.specs.Records.{AreRecords, AreReferences}
use Rattle.im_format.specs.declared.records.Record.{Record}
use Rattle.im_levels.specs.Leveled.{Stored, IsLeveled}
use Rattle.im_model.specs.Headers.{alh}
use Rattle.im_model.specs.History.{Follow, IsHistory, IsTransaction, alh_of, alhs_of, bl_root_of, first_alh, last_bl_or, next_header, no_digest}
use Rattle.im_model.specs.Trees.{root}
use Rattle.im_model.specs.declared.transactions.Transaction.{Transaction}
use Rattle.im_model.specs.declared.headers.Header.{Header}
use Rattle.im_proof.specs.Built.{headers_of}
use Rattle.im_model.proofs.HeaderLemmas.{alhs-next}
use Rattle.im_model.proofs.HistoryLemmas.{last-bl-behind, Follow-behind}
use Rattle.im_proof.proofs.HeaderLemmas.{headers-next as headers-behind}
use Rattle.im_opening.specs.Reach.{AreReferred, IsConsistent, txs_of}

referred-next : (hash : Hash) (id : ℕ) (records : List Record) (r : Record) → AreReferred hash id records
    → AreReferences hash (id + length records) r.tx.entries r.refs → AreReferred hash id (records ++ r ∷ [])
referred-next hash id [] r h one =
    let same : id + 0 ≡ id = omega arith in
    (subst (λ k. AreReferences hash k r.tx.entries r.refs) same one, tt)
referred-next hash id (x ∷ records) r h one =
    let same : id + suc (length records) ≡ id + 1 + length records = omega arith in
    (h.0, referred-next hash (id + 1) records r h.1 (subst (λ k. AreReferences hash k r.tx.entries r.refs) same one))

root-kept : (hash : Hash) (alhs : List (List ℕ)) (x : List ℕ) (bl : ℕ) → bl ≤ length alhs → bl_root_of hash (alhs ++ x ∷ []) bl ≡ bl_root_of hash alhs bl
root-kept hash alhs x bl le = ap (λ (l : List (List ℕ)). if bl == 0 then no_digest else root hash l) (take-append-le bl alhs (x ∷ []) le)

-- one more record of the history
pub consistent-next : (hash : Hash) (records : List Record) (alhs : List (List ℕ)) (bl : ℕ) (bl_root : List ℕ) (tree : Stored) (r : Record) (next : List ℕ) (grown : Stored)
    → IsConsistent hash records alhs bl bl_root tree → length alhs < 1048576 → IsTransaction (length alhs) r.tx → bl ≤ r.tx.bl
    → AreReferences hash (length alhs + 1) r.tx.entries r.refs → r.alh ≡ alh hash (next_header hash alhs r.tx)
    → next ≡ bl_root_of hash alhs r.tx.bl → IsLeveled hash (take r.tx.bl alhs) grown
    → IsConsistent hash (records ++ r ∷ []) (alhs ++ r.alh ∷ []) r.tx.bl next grown
consistent-next hash records alhs bl bl_root tree r next grown h few is rises refer digest root whole =
    let txs = txs_of records in
    let more : txs_of (records ++ r ∷ []) ≡ txs ++ r.tx ∷ [] = map-append (λ (x : Record). x.tx) records (r ∷ []) in
    let many : length alhs ≡ length records = ap length (sym h.kept) ∙ length-map records (λ (x : Record). x.alh) in
    let count : length txs ≡ length records = length-map records (λ (x : Record). x.tx) in
    let P : ℕ → Type 0 = λ k. IsTransaction k r.tx in
    let here : P (0 + length txs) = subst P {x = length alhs} (omega arith) is in
    let Q : ℕ → Type 0 = λ k. AreReferences hash k r.tx.entries r.refs in
    let there : Q (1 + length records) = subst Q {x = length alhs + 1} (omega arith) refer in
    record {
      few = omega (arith, few, length-append alhs (r.alh ∷ []));
      follow = subst (Follow 0 0) (sym more) (Follow-behind 0 0 txs r.tx h.follow (omega (arith, h.last, rises)) here);
      last = ap (last_bl_or 0) more ∙ last-bl-behind 0 txs r.tx;
      linked = omega (arith, is.linked, length-append alhs (r.alh ∷ []));
      root_is = root ∙ sym (root-kept hash alhs r.alh r.tx.bl is.linked);
      tree_is = subst (λ (l : List (List ℕ)). IsLeveled hash l grown) (sym (take-append-le r.tx.bl alhs (r.alh ∷ []) is.linked)) whole;
      alhs_are =
          ap (λ (x : List ℕ). alhs ++ x ∷ []) digest
          ∙ ap (λ (l : List (List ℕ)). l ++ alh hash (next_header hash l r.tx) ∷ []) h.alhs_are
          ∙ sym (alhs-next hash txs r.tx)
          ∙ ap (alhs_of hash) (sym more);
      kept = map-append (λ (x : Record). x.alh) records (r ∷ []) ∙ ap (λ (l : List (List ℕ)). l ++ r.alh ∷ []) h.kept;
      refer = referred-next hash 1 records r h.refer there;
    }

-- one more header of the history
pub headers-next : (hash : Hash) (records : List Record) (alhs : List (List ℕ)) (headers : List Header) (r : Record) (header : Header)
    → alhs ≡ alhs_of hash (txs_of records) → headers ≡ headers_of hash (txs_of records) → header ≡ next_header hash alhs r.tx
    → headers ++ header ∷ [] ≡ headers_of hash (txs_of (records ++ r ∷ []))
headers-next hash records alhs headers r header digests are is =
    let txs = txs_of records in
    ap (λ (l : List Header). l ++ header ∷ []) are
    ∙ ap (λ (h : Header). headers_of hash txs ++ h ∷ []) (is ∙ ap (λ (ds : List (List ℕ)). next_header hash ds r.tx) digests)
    ∙ sym (headers-behind hash txs r.tx)
    ∙ ap (headers_of hash) (sym (map-append (λ (x : Record). x.tx) records (r ∷ [])))

-- no records
pub consistent-first : (hash : Hash) (tree : Stored) → IsLeveled hash [] tree → IsConsistent hash [] [] 0 no_digest tree
consistent-first hash tree whole = record {
  few = omega arith;
  follow = tt;
  last = refl;
  linked = omega arith;
  root_is = refl;
  tree_is = whole;
  alhs_are = refl;
  kept = refl;
  refer = tt;
}

alh-at : (hash : Hash) (history : List Transaction) (before rest : List (List ℕ)) (x : List ℕ)
    → alhs_of hash history ≡ before ++ x ∷ rest → alh_of hash history (length before + 1) ≡ x
alh-at hash history before rest x is =
    let all = alhs_of hash history in
    let n = length before in
    let some : n + 1 ≡ 0 → ⊥ = λ e. omega (arith, e) in
    let same : n + 1 - 1 ≡ n = omega arith in
    ap (λ b. if b then first_alh hash else get_or all (n + 1 - 1) []) (ne_eqb (n + 1) 0 some)
    ∙ ap (λ k. get_or all k []) same
    ∙ ap (λ (l : List (List ℕ)). get_or l n []) is
    ∙ get_or-append_seam before x rest []

are-records : (hash : Hash) (history : List Transaction) (before : List (List ℕ)) (rs : List Record)
    → alhs_of hash history ≡ before ++ map (λ r. r.alh) rs → AreReferred hash (length before + 1) rs → AreRecords hash history (length before + 1) rs
are-records hash history before [] is h = tt
are-records hash history before (r ∷ rs) is h =
    let grown : length (before ++ r.alh ∷ []) + 1 ≡ length before + 1 + 1 = omega (arith, length-append before (r.alh ∷ [])) in
    let P : ℕ → Type 0 = λ k. AreReferred hash k rs in
    let Q : ℕ → Type 0 = λ k. AreRecords hash history k rs in
    let more = are-records hash history (before ++ r.alh ∷ []) rs (is ∙ sym (append_assoc before (r.alh ∷ []) (map (λ r. r.alh) rs))) (subst P (sym grown) h.1) in
    (record { refs = h.0; alh = sym (alh-at hash history before (map (λ r. r.alh) rs) r.alh is) }, subst Q grown more)

-- consistent records are those of a history
pub consistent-records : (hash : Hash) (records : List Record) (alhs : List (List ℕ)) (bl : ℕ) (bl_root : List ℕ) (tree : Stored)
    → IsConsistent hash records alhs bl bl_root tree → IsHistory (txs_of records) × AreRecords hash (txs_of records) 1 records
consistent-records hash records alhs bl bl_root tree h =
    let many : length alhs ≡ length records = ap length (sym h.kept) ∙ length-map records (λ (x : Record). x.alh) in
    let count : length (txs_of records) ≡ length records = length-map records (λ (x : Record). x.tx) in
    let few = h.few in
    (record { few = omega arith; follow = h.follow }, are-records hash (txs_of records) [] records (sym h.alhs_are ∙ sym h.kept) h.refer)
