use Rattle.std.proofs.Common.{arith, ◌≡◌, ◌+◌, ◌-◌, ◌∷◌, ◌++◌, [], ℕ, List, length, length-append, take, sym, ◌∙◌, ap, subst, Ok}
use Rattle.im_digest.specs.Digests.{Hash}
use Rattle.im_disk.specs.Disk.{seen}
use Rattle.im_format.specs.Damages.{record_checks}
use Rattle.im_format.specs.Records.{AreReferences, entries_octets, records_octets}
use Rattle.im_format.specs.declared.records.Record.{Record}
use Rattle.im_format.specs.declared.references.ValueRef.{ValueRef}
use Rattle.im_levels.specs.Leveled.{IsLeveled, Stored}
use Rattle.im_model.specs.Headers.{alh, alh_string}
use Rattle.im_model.specs.History.{IsTransaction, bl_root_of}
use Rattle.im_mtree.specs.Checks.{first_fail}
use Rattle.im_opening.specs.Answers.{Tells}
use Rattle.im_opening.specs.Parts.{Shows, transaction_checks}
use Rattle.im_proof.specs.Built.{headers_of}
use Rattle.im_opening.specs.Reach.{IsConsistent, reached_of, txs_of}
use Rattle.im_opening.specs.declared.errors.OpenError.{OpenError}
use Rattle.im_opening.specs.declared.errors.OpenError.TheVariants.{Memory}
use Rattle.im_opening.proofs.Finding.{at-told, cause-err, cause-memory, cause-ok, cause-other, judge-err, ok-leaves}
use Rattle.im_opening.proofs.RecordFinds.{digest-made, one-more, record-finds, record-tells}
use Rattle.im_opening.proofs.PlaceLemmas.{place-next}
use Rattle.im_opening.proofs.RecordGrows.{consistent-next, headers-next}
use Rattle.im_opening.proofs.TreeLemmas.{tree-size}
use Rattle.im_opening.proofs.records.read_record.Goals as goal

consistent-same : (hash : Hash) (rs ss : List Record) (ds es : List (List ℕ)) (m n : ℕ) (d e : List ℕ) (v w : Stored)
    → rs ≡ ss → ds ≡ es → m ≡ n → d ≡ e → v ≡ w → IsConsistent hash ss es n e w → IsConsistent hash rs ds m d v
consistent-same hash rs ss ds es m n d e v w a b c f g h =
    subst (λ (x : List Record). IsConsistent hash x ds m d v) (sym a)
    (subst (λ (x : List (List ℕ)). IsConsistent hash ss x m d v) (sym b)
    (subst (λ (x : ℕ). IsConsistent hash ss es x d v) (sym c)
    (subst (λ (x : List ℕ). IsConsistent hash ss es n x v) (sym f) (subst (λ (x : Stored). IsConsistent hash ss es n e x) (sym g) h))))

pub returns-in_err-read-clause-first : goal.returns-in_err-read-clause-first
returns-in_err-read-clause-first g c t is =
    let hash = g.H.Hash32.digest c.args.hash.now in
    let p = c.args.progress.now in
    let same : c.len.result ≡ length p.alhs.items = omega (arith, c.len.ensures, p.alhs.ok) in
    let e = c.in_err-read.field-0.0 in
    let P : ℕ → Type 0 = λ n. Tells (transaction_checks hash (seen t) (n + 1) p.bl p.place) e in
    judge-err _ _ e c.from_residual.ensures.1
    (record-tells hash (seen t) (reached_of p) e (subst P same (c.in_err-read.ensures.first t is).is))

pub returns-in-Err-read_alh-clause-first : goal.returns-in-Err-read_alh-clause-first
returns-in-Err-read_alh-clause-first g c t is =
    let hash = g.H.Hash32.digest c.args.hash.now in
    let p = c.args.progress.now in
    let same : c.len.result ≡ length p.alhs.items = omega (arith, c.len.ensures, p.alhs.ok) in
    let d = c.in-Err-read_alh.damage in
    let log = c.args.source.now.log.now in
    let shows = at-told (λ t. Shows (seen t) log c.args.source.now.lengths) (g.D.Disk.told c.args.disk.now) t c.requires.shows is in
    let there = c.in_ok-read.ensures.read t is in
    let made = digest-made hash (seen t) (reached_of p) log c.in_ok-read.read.end c.alh.result c.header_behind-header.result c.in_ok-read.read.tx
    shows.log_is there.end_is c.alh.ensures c.header_behind-header.ensures there.tx_is
    in
    let P : ℕ → Type 0 = λ n. first_fail (transaction_checks hash (seen t) (n + 1) p.bl p.place) ≡ Ok tt in
    let T : OpenError → Type 0 = λ e. Tells (record_checks hash (seen t) (reached_of p)) e in
    record {
      is =
          subst T (sym c.from-in-Err-read_alh.ensures)
          (record-finds hash (seen t) (reached_of p) log c.in_ok-read.read.end c.alh.result made (subst P same (c.in_ok-read.ensures.first t is).is)
          ∙ c.in-Err-read_alh.ensures.first);
    }

pub returns-clause-first : goal.returns-clause-first
returns-clause-first g c t is =
    let hash = g.H.Hash32.digest c.args.hash.now in
    let p = c.args.progress.now in
    let same : c.len.result ≡ length p.alhs.items = omega (arith, c.len.ensures, p.alhs.ok) in
    let log = c.args.source.now.log.now in
    let shows = at-told (λ t. Shows (seen t) log c.args.source.now.lengths) (g.D.Disk.told c.args.disk.now) t c.requires.shows is in
    let there = c.in_ok-read.ensures.read t is in
    let made = digest-made hash (seen t) (reached_of p) log c.in_ok-read.read.end c.alh.result c.header_behind-header.result c.in_ok-read.read.tx
    shows.log_is there.end_is c.alh.ensures c.header_behind-header.ensures there.tx_is
    in
    let P : ℕ → Type 0 = λ n. first_fail (transaction_checks hash (seen t) (n + 1) p.bl p.place) ≡ Ok tt in
    record {
      is =
          record-finds hash (seen t) (reached_of p) log c.in_ok-read.read.end c.alh.result made (subst P same (c.in_ok-read.ensures.first t is).is)
          ∙ c.in-Ok-read_alh.ensures.first;
    }

pub returns-clause-fits : goal.returns-clause-fits
returns-clause-fits g c =
    let hash = g.H.Hash32.digest c.args.hash.now in
    let p = c.args.progress.now in
    let same : c.len.result ≡ length p.alhs.items = omega (arith, c.len.ensures, p.alhs.ok) in
    let read = c.in_ok-read.read in
    let r : Record = record { tx = read.tx; refs = c.from_vec.result; alh = c.alh.result } in
    let A : ℕ → Type 0 = λ n. IsTransaction n read.tx in
    let B : ℕ → Type 0 = λ n. AreReferences hash (n + 1) read.tx.entries read.refs.items in
    let R : List ValueRef → Type 0 = λ rs. AreReferences hash (length p.alhs.items + 1) read.tx.entries rs in
    let is = subst A {x = c.len.result + 1 - 1} (omega (arith, same)) c.in_ok-read.ensures.is in
    let refer = subst R (sym c.from_vec.ensures) (subst B same c.in_ok-read.ensures.refer) in
    let tree = c.grow.new.tree in
    let L : List (List ℕ) → Type 0 = λ ds. (c.in-Ok.bl_root ≡ bl_root_of hash ds read.tx.bl) × IsLeveled hash (take read.tx.bl ds) tree in
    let grown : L p.alhs.items = subst L c.as_slice-alhs.ensures.value (c.in-Ok.ensures.root, c.in-Ok.ensures.tree) in
    let now = c.add.new.self in
    let ens = c.in_ok-add.ensures in
    consistent-same hash now.records.items (p.records.items ++ r ∷ []) now.alhs.items (p.alhs.items ++ r.alh ∷ []) now.bl read.tx.bl now.bl_root c.in-Ok.bl_root now.tree tree
    ens.records ens.alhs ens.linked.0 ens.linked.1 ens.linked.2
    (consistent-next hash p.records.items p.alhs.items p.bl p.bl_root p.tree r c.in-Ok.bl_root tree c.requires.fits c.requires.few is
    c.in_ok-read.ensures.rises refer (c.alh.ensures ∙ ap (alh hash) c.header_behind-header.ensures) grown.0 grown.1)

pub grow-requires : goal.grow-requires
grow-requires g c =
    let hash = g.H.Hash32.digest c.args.hash.now in
    let p = c.args.progress.now in
    let alhs = c.as_slice-alhs.result.now in
    let fits = c.requires.fits in
    let same : p.bl ≡ p.tree.size = tree-size hash p.alhs.items p.bl p.tree fits.linked fits.tree_is in
    let long : length alhs ≡ length p.alhs.items = ap (λ (l : List (List ℕ)). length l) c.as_slice-alhs.ensures.value in
    let count : c.len.result ≡ length p.alhs.items = omega (arith, c.len.ensures, p.alhs.ok) in
    let L : ℕ → List (List ℕ) → Type 0 = λ n ds. IsLeveled hash (take n ds) p.tree × (p.bl_root ≡ bl_root_of hash ds n) in
    let A : ℕ → Type 0 = λ n. L n p.alhs.items in
    let B : List (List ℕ) → Type 0 = λ ds. L p.tree.size ds in
    let here : B alhs = subst B (sym c.as_slice-alhs.ensures.value) (subst A same (fits.tree_is, fits.root_is)) in
    record {
      tree = here.0;
      root = here.1;
      rises = omega (arith, same, c.in_ok-read.ensures.rises);
      linked = omega (arith, long, count, c.in_ok-read.ensures.is.linked);
    }

pub returns-clause-whole : goal.returns-clause-whole
returns-clause-whole g c =
    let hash = g.H.Hash32.digest c.args.hash.now in
    let p = c.args.progress.now in
    let read = c.in_ok-read.read in
    let header = c.header_behind-header.result in
    let digest = c.alh.result in
    let r : Record = record { tx = read.tx; refs = c.from_vec.result; alh = digest } in
    let size : length digest ≡ 32 = ap length c.alh.ensures ∙ g.met.H.Hash32.size c.args.hash.now (alh_string hash header) in
    let R : List ValueRef → Type 0 = λ rs. read.end ≡ p.place + 28 + length (entries_octets read.tx.entries rs) in
    let end : R r.refs = subst R (sym c.from_vec.ensures) c.in_ok-read.ensures.whole in
    let now = c.add.new.self in
    let ens = c.in_ok-add.ensures in
    let X : List Record → Type 0 = λ rs. c.in-Ok-read_alh.place ≡ length (records_octets 1 rs) in
    record {
      place_is =
          ens.place
          ∙ subst X (sym ens.records)
          (place-next p.place read.end c.in-Ok-read_alh.place p.records.items r c.requires.whole.place_is end size c.in-Ok-read_alh.ensures.end);
      headers_are =
          ens.headers
          ∙ headers-next hash p.records.items p.alhs.items p.headers.items r header c.requires.fits.alhs_are c.requires.whole.headers_are
          c.header_behind-header.ensures
          ∙ ap (λ (rs : List Record). headers_of hash (txs_of rs)) (sym ens.records);
    }

pub returns-in_err-read-clause-cause : goal.returns-in_err-read-clause-cause
returns-in_err-read-clause-cause g c = cause-err _ _ c.in_err-read.field-0.0 _ c.in_err-read.ensures.cause c.from_residual.ensures.1

-- the tree finds no memory
pub returns-in-Err-clause-first : goal.returns-in-Err-clause-first
returns-in-Err-clause-first g c t is =
    let T : OpenError → Type 0 = λ e. Tells (record_checks (g.H.Hash32.digest c.args.hash.now) (seen t) (reached_of c.args.progress.now)) e in
    record { is = subst T (sym c.from.ensures) tt }

pub returns-in-Err-clause-cause : goal.returns-in-Err-clause-cause
returns-in-Err-clause-cause g c =
    cause-other _ _ _ (ok-leaves _ _ c.in_ok-read.read c.in_ok-read.ensures.cause) (λ f. absurd (cc (f, c.from.ensures)))

pub returns-in-Err-read_alh-clause-cause : goal.returns-in-Err-read_alh-clause-cause
returns-in-Err-read_alh-clause-cause g c =
    cause-other _ _ _ (ok-leaves _ _ c.in_ok-read.read c.in_ok-read.ensures.cause) (λ f. absurd (cc (f, c.from-in-Err-read_alh.ensures)))

-- nor does the record
pub returns-in_err-add-clause-first : goal.returns-in_err-add-clause-first
returns-in_err-add-clause-first g c t is = judge-err _ _ Memory c.from_residual-in_err-add.ensures.1 tt

pub returns-in_err-add-clause-cause : goal.returns-in_err-add-clause-cause
returns-in_err-add-clause-cause g c =
    cause-memory _ _ _ (ok-leaves _ _ c.in_ok-read.read c.in_ok-read.ensures.cause) c.from_residual-in_err-add.ensures.1

-- one record more
pub returns-clause-cause : goal.returns-clause-cause
returns-clause-cause g c = cause-ok _ _ _ (ok-leaves _ _ c.in_ok-read.read c.in_ok-read.ensures.cause)

pub returns-clause-within : goal.returns-clause-within
returns-clause-within g c = omega (arith, c.in_ok-add.ensures.place, c.in-Ok-read_alh.ensures.end, c.in-Ok-read_alh.ensures.within)

pub returns-clause-more : goal.returns-clause-more
returns-clause-more g c =
    ap (λ (l : List (List ℕ)). length l) c.in_ok-add.ensures.alhs ∙ length-append c.args.progress.now.alhs.items (c.alh.result ∷ [])

pub returns-clause-read : goal.returns-clause-read
returns-clause-read g c t is =
    let hash = g.H.Hash32.digest c.args.hash.now in
    let p = c.args.progress.now in
    let read = c.in_ok-read.read in
    let log = c.args.source.now.log.now in
    let shows = at-told (λ t. Shows (seen t) log c.args.source.now.lengths) (g.D.Disk.told c.args.disk.now) t c.requires.shows is in
    let there = c.in_ok-read.ensures.read t is in
    let made = digest-made hash (seen t) (reached_of p) log read.end c.alh.result c.header_behind-header.result read.tx
    shows.log_is there.end_is c.alh.ensures c.header_behind-header.ensures there.tx_is
    in
    let r : Record = record { tx = read.tx; refs = c.from_vec.result; alh = c.alh.result } in
    let ens = c.in_ok-add.ensures in
    one-more hash (seen t) p c.add.new.self log read.end c.in-Ok-read_alh.place r made there.tx_is (c.from_vec.ensures ∙ there.refs_are)
    c.in-Ok-read_alh.ensures.first c.in-Ok-read_alh.ensures.end ens.records ens.alhs ens.linked.0 ens.place
