-- Placing, linking and indexing.
use Rattle.std.proofs.Common.{◌≡◌, ◌<◌, ◌≤◌, ◌+◌, ◌-◌, ◌∙◌, ℕ, ℤ, List, [], ◌∷◌, ◌++◌, length, take, get_or, true, refl, sym, ap, subst, arith, inl, All, Option, Some, None, length-append}
use Rattle.std.proofs.lemmas.List.{get_or-map, take-append-le, take_more}
use Rattle.std.proofs.lemmas.List.Elements.{All-push, All-weaker}
use Rattle.im_book.specs.Booked.{last_bl, Booked, IsBook}
use Rattle.im_core.specs.Parts.{tells, Answers, IsAsFar, IsUp}
use Rattle.im_core.specs.declared.store.OpenStore.{OpenStore}
use Rattle.im_core.proofs.UpLemmas.{alhs-count}
use Rattle.im_digest.specs.Digests.{Hash}
use Rattle.im_disk.specs.Recorded.{Recorded}
use Rattle.im_dual.specs.Kept.{no_header}
use Rattle.im_format.specs.declared.records.Record.{Record}
use Rattle.im_index.specs.Indexed.{Indexed, IsIndexOf}
use Rattle.im_journal.specs.Kept.{Kept}
use Rattle.im_journal.proofs.Longer.{batch_longer, rest_longer}
use Rattle.im_levels.specs.Leveled.{IsLeveled, Stored}
use Rattle.im_machine.specs.Machines.{Machine, Progress}
use Rattle.im_machine.specs.Steps.{Places, Steps}
use Rattle.im_machine.specs.declared.events.Event.TheVariants as on
use Rattle.im_machine.specs.declared.outputs.Output.TheVariants as says
use Rattle.im_machine.proofs.StepLemmas.{with_tx}
use Rattle.im_model.specs.Headers.{alh}
use Rattle.im_model.specs.History.{alhs_of, header_of, next_header, no_transaction, transaction_of, IsHistory}
use Rattle.im_model.proofs.HistoryLemmas.{last-least}
use Rattle.im_model.specs.declared.headers.Header.{Header}
use Rattle.im_model.specs.declared.transactions.Transaction.{Transaction}
use Rattle.im_model.proofs.HeaderLemmas.{alhs-next}
use Rattle.im_proof.specs.Built.{headers_of}
use Rattle.im_proof.proofs.HeaderLemmas.{alhs-are, headers-length, headers-nth}
use Rattle.im_tx.specs.Asked.{Asked}
use Rattle.im_versions.specs.Admits.{place_refusal}
use Rattle.im_versions.specs.declared.refusals.PlaceError.{PlaceError}

-- the last transaction's tree is within what each one's is
pub last-within : (most : ℕ) (txs : List Transaction) → All (λ t. t.bl ≤ most) txs → last_bl txs ≤ most
last-within most txs each = last-least 0 most txs (omega arith) each

-- what the journal has of the history stays as the history goes on
far-longer : (hash : Hash) (placed more : List Transaction) (batches : List (List Record)) (progress : Option Progress) (k : Kept Recorded) → IsHistory (placed ++ more)
    → IsAsFar hash placed batches progress k → IsAsFar hash (placed ++ more) batches progress k
far-longer hash placed more batches None k is far = rest_longer tells hash placed more batches k is far
far-longer hash placed more batches (Some p) k is far = (batch_longer tells hash placed more batches p.records k is far.0, far.1)

pub up-placed : (hash : Hash) (s : OpenStore) (m : Machine) (book : Booked) (tx : Transaction) → IsUp hash s m → IsBook hash book
    → book.transactions ≡ s.book.transactions ++ tx ∷ [] → tx.bl ≤ m.linked
    → IsUp hash (record { book = book; tree = s.tree; index = s.index; journal = s.journal; failures = s.failures; stopped = s.stopped }) (with_tx m tx)
up-placed hash s m book tx u is grown over =
    let one : List Transaction = tx ∷ [] in
    let placed : book.transactions ≡ m.placed ++ one = grown ∙ ap (λ (l : List Transaction). l ++ one) u.lists.placed_is in
    let history : IsHistory (m.placed ++ one) = subst IsHistory placed is.history in
    let count : length (alhs_of hash m.placed) ≡ length m.placed = alhs-count hash s m u in
    let linked : m.linked ≤ m.durable = u.order.linked_durable in
    let indexed : m.indexed ≤ m.durable = u.order.indexed_durable in
    let durable : m.durable ≤ length m.placed = u.order.durable_placed in
    let leaves : take m.linked (alhs_of hash (m.placed ++ one)) ≡ take m.linked (alhs_of hash m.placed) =
    ap (λ (l : List (List ℕ)). take m.linked l) (alhs-next hash m.placed tx)
    ∙ take-append-le m.linked (alhs_of hash m.placed) (alh hash (next_header hash (alhs_of hash m.placed) tx) ∷ []) (omega (arith, count, linked, durable)) in
    let shown : take m.indexed (m.placed ++ one) ≡ take m.indexed m.placed = take-append-le m.indexed m.placed one (omega (arith, indexed, durable)) in
    record {
      up = u.up;
      lists = record {
        book_is = is;
        placed_is = placed;
        tree_is = subst (λ (l : List (List ℕ)). IsLeveled hash l s.tree) (sym leaves) u.lists.tree_is;
        index_is = subst (λ (l : List Transaction). IsIndexOf s.index l) (sym shown) u.lists.index_is;
      };
      order = record {
        least = All-push (λ (t : Transaction). t.bl ≤ m.linked) m.placed tx u.order.least over;
        linked_durable = linked;
        indexed_durable = indexed;
        durable_placed = omega (arith, durable, length-append m.placed one);
      };
      disk = u.disk;
      durable = u.durable;
      failures = u.failures;
      stopped = u.stopped;
      going = λ going. let g = u.going going in record { none = g.none; far = far-longer hash m.placed one m.batches m.progress s.journal history g.far };
    }

-- what is placed is told
abbrev pub tx_of : Machine → ℤ → Asked → Transaction
tx_of m ts asked = record { ts = ts; entries = asked.entries; bl = m.linked }

pub placed-step : (hash : Hash) (m : Machine) (session : ℕ) (ts : ℤ) (asked : Asked) (header : Header) → m.up ≡ true → place_refusal m.placed asked.pres ≡ None
    → header ≡ header_of hash (m.placed ++ tx_of m ts asked ∷ []) (length m.placed + 1)
    → Steps hash m (on.Place session ts asked) (says.Placed header) (with_tx m (tx_of m ts asked))
placed-step hash m session ts asked header up none is =
    let tx : Transaction = tx_of m ts asked in
    let P : Option PlaceError → Type 0 = λ o. Places hash m tx o (says.Placed header) (with_tx m tx) in
    inl (up, subst P (sym none) (ap (λ (x : Header). says.Placed x) is, refl))

pub refused-step : (hash : Hash) (m : Machine) (session : ℕ) (ts : ℤ) (asked : Asked) (why : PlaceError) (at : ℕ) → m.up ≡ true → place_refusal m.placed asked.pres ≡ Some why
    → at ≡ length m.placed → Steps hash m (on.Place session ts asked) (says.Refused why at) m
refused-step hash m session ts asked why at up is count =
    let P : Option PlaceError → Type 0 = λ o. Places hash m (tx_of m ts asked) o (says.Refused why at) m in
    inl (up, subst P (sym is) (ap (λ (n : ℕ). says.Refused why n) count, refl))

-- the Alh at a place is that of the transaction there
pub alh-nth : (hash : Hash) (history : List Transaction) (k : ℕ) → k < length history → get_or (alhs_of hash history) k [] ≡ alh hash (header_of hash history (k + 1))
alh-nth hash history k within =
    let headers : List Header = headers_of hash history in
    let many : length headers ≡ length history = headers-length hash history in
    let place : k ≡ k + 1 - 1 = omega arith in
    ap (λ (l : List (List ℕ)). get_or l k []) (alhs-are hash history)
    ∙ get_or-map (alh hash) headers k no_header [] (omega (arith, many, within))
    ∙ ap (λ (i : ℕ). alh hash (get_or headers i no_header)) place
    ∙ ap (alh hash) (headers-nth hash history (k + 1) no_header (omega arith) (omega (arith, within)))

-- one transaction more is linked
pub linked-step : (hash : Hash) (s : OpenStore) (m : Machine) (tree : Stored) (digest : List ℕ) → IsUp hash s m → m.linked < m.durable
    → digest ≡ alh hash (header_of hash s.book.transactions (m.linked + 1)) → IsLeveled hash (take m.linked (alhs_of hash m.placed) ++ digest ∷ []) tree
    → Answers hash m on.Link says.Done (record { book = s.book; tree = tree; index = s.index; journal = s.journal; failures = s.failures; stopped = s.stopped })
linked-step hash s m tree digest u less is leveled =
    let alhs : List (List ℕ) = alhs_of hash m.placed in
    let count : length alhs ≡ length m.placed = alhs-count hash s m u in
    let durable : m.durable ≤ length m.placed = u.order.durable_placed in
    let here : digest ≡ get_or alhs m.linked [] =
    is ∙ ap (λ (l : List Transaction). alh hash (header_of hash l (m.linked + 1))) u.lists.placed_is ∙ sym (alh-nth hash m.placed m.linked (omega (arith, less, durable))) in
    let leaves : take m.linked alhs ++ digest ∷ [] ≡ take (m.linked + 1) alhs =
    ap (λ (d : List ℕ). take m.linked alhs ++ d ∷ []) here ∙ sym (take_more alhs m.linked [] (omega (arith, less, durable, count))) in
    let next : Machine = record m { linked = m.linked + 1 } in (
      next,
      inl ((u.up, less), (refl, refl)),
      record {
        up = u.up;
        lists = record {
          book_is = u.lists.book_is;
          placed_is = u.lists.placed_is;
          tree_is = subst (λ (l : List (List ℕ)). IsLeveled hash l tree) leaves leveled;
          index_is = u.lists.index_is;
        };
        order = record {
          least = All-weaker (λ (t : Transaction). t.bl ≤ m.linked) (λ (t : Transaction). t.bl ≤ m.linked + 1) (λ t le. omega (arith, le)) m.placed u.order.least;
          linked_durable = omega (arith, less);
          indexed_durable = u.order.indexed_durable;
          durable_placed = durable;
        };
        disk = u.disk;
        durable = u.durable;
        failures = u.failures;
        stopped = u.stopped;
        going = λ going. let g = u.going going in record { none = g.none; far = g.far };
      },
    )

-- one transaction more is indexed
pub indexed-step : (hash : Hash) (s : OpenStore) (m : Machine) (index : Indexed) (tx : Transaction) → IsUp hash s m → m.indexed < m.durable
    → tx ≡ transaction_of s.book.transactions (m.indexed + 1) → IsIndexOf index (take m.indexed m.placed ++ tx ∷ [])
    → Answers hash m on.Index says.Done (record { book = s.book; tree = s.tree; index = index; journal = s.journal; failures = s.failures; stopped = s.stopped })
indexed-step hash s m index tx u less is indexes =
    let durable : m.durable ≤ length m.placed = u.order.durable_placed in
    let place : m.indexed + 1 - 1 ≡ m.indexed = omega arith in
    let here : tx ≡ get_or m.placed m.indexed no_transaction =
    is ∙ ap (λ (i : ℕ). get_or s.book.transactions i no_transaction) place ∙ ap (λ (l : List Transaction). get_or l m.indexed no_transaction) u.lists.placed_is in
    let shown : take m.indexed m.placed ++ tx ∷ [] ≡ take (m.indexed + 1) m.placed =
    ap (λ (t : Transaction). take m.indexed m.placed ++ t ∷ []) here ∙ sym (take_more m.placed m.indexed no_transaction (omega (arith, less, durable))) in
    let next : Machine = record m { indexed = m.indexed + 1 } in (
      next,
      inl ((u.up, less), (refl, refl)),
      record {
        up = u.up;
        lists = record {
          book_is = u.lists.book_is;
          placed_is = u.lists.placed_is;
          tree_is = u.lists.tree_is;
          index_is = subst (λ (l : List Transaction). IsIndexOf index l) shown indexes;
        };
        order = record {
          least = u.order.least;
          linked_durable = u.order.linked_durable;
          indexed_durable = omega (arith, less);
          durable_placed = durable;
        };
        disk = u.disk;
        durable = u.durable;
        failures = u.failures;
        stopped = u.stopped;
        going = λ going. let g = u.going going in record { none = g.none; far = g.far };
      },
    )
