-- A batch of the items behind what is durable, begun.
use Rattle.std.proofs.Common.{◌≡◌, ℕ, zero, suc, ◌+◌, ◌<◌, ◌≤◌, ◌∙◌, List, [], ◌∷◌, ◌++◌, length, map, take, drop, false, refl, sym, ap, subst, arith, inl, inr, append_assoc, Result, Ok, Err}
use Rattle.std.proofs.lemmas.Bool.{cases_lt}
use Rattle.std.proofs.lemmas.List.{append-nil, length-map}
use Rattle.std.specs.List.{All}
use Rattle.std.specs.Prelude.{Option, OnErr, OnOk}
use mathlib.Core.List.{IsPrefix}
use Rattle.im_octet.proofs.Common.{on-ok}
use Rattle.im_digest.specs.Digests.{Hash}
use Rattle.im_disk.specs.Disk.{Told}
use Rattle.im_disk.specs.Moments.{Leaves}
use Rattle.im_disk.proofs.Leaving.{leaves_weaker}
use Rattle.im_model.specs.History.{IsHistory}
use Rattle.im_model.specs.declared.transactions.Transaction.{Transaction}
use Rattle.im_format.specs.Batches.{joined}
use Rattle.im_format.specs.Places.{AreAppended, ArePut, refs_of}
use Rattle.im_format.specs.Records.{AreRecords}
use Rattle.im_format.specs.Standing.{StandsFrom}
use Rattle.im_format.specs.declared.records.Record.{Record}
use Rattle.im_format.specs.declared.references.ValueRef.{ValueRef}
use Rattle.im_table.specs.Histories.{history_of, GoesOn}
use Rattle.im_table.specs.Records.{AreRecordsOf}
use Rattle.im_table.specs.References.{references_of, AreLaid}
use Rattle.im_table.specs.declared.items.LogItem.{LogItem}
use Rattle.im_table.proofs.FrontLemmas.{prefix_length, prefix_self, prefix_shorter}
use Rattle.im_table.proofs.HistoryLemmas.{history_front, history_length, map_front, part_front, take_front}
use Rattle.im_journal.specs.Holding.{AreNext}
use Rattle.im_journal.specs.Kept.{IsAtRest, IsInBatch, Kept}
use Rattle.im_journal.specs.Pieces.{pieces_of}
use Rattle.im_seated_journal.specs.Seats.{RoseBy, ServesItems, refs_in}
use Rattle.im_journal.specs.declared.batches.Step.TheVariants.{Idle, Staging}
use Rattle.im_journal.specs.declared.errors.JournalError.{JournalError}
use Rattle.im_journal.specs.declared.errors.JournalError.TheVariants.{Stopped}
use Rattle.im_journal.proofs.Longer.{rest_longer, records_longer}
use Rattle.im_journal.proofs.Mids.{ok_isnt}
use Rattle.im_seated_journal.proofs.MadeLemmas.{begun_made}
use Rattle.im_seated_journal.proofs.ServeLemmas.{on_sound, rest_in, stands_more}

-- the references of records that have those of items, one behind the other
pub refs_joined : (rs : List Record) (items : List LogItem) → map (λ (r : Record). r.refs) rs ≡ refs_in items → refs_of rs ≡ references_of items
refs_joined [] [] is = refl
refs_joined [] (x ∷ items) is = absurd (cc (is))
refs_joined (r ∷ rs) [] is = absurd (cc (is))
refs_joined (r ∷ rs) (x ∷ items) is =
    let head : r.refs ≡ x.refs = cc (is) in
    ap (λ (l : List ValueRef). l ++ refs_of rs) head ∙ ap (λ (l : List ValueRef). x.refs ++ l) (refs_joined rs items (cc (is)))

-- the values of a front part lie as those of the list
pub laid_front : (logs number : ℕ) (before : List ValueRef) (xs ys : List LogItem) → IsPrefix xs ys → AreLaid logs number before ys → AreLaid logs number before xs
laid_front logs number before [] ys p laid = tt
laid_front logs number before (x ∷ xs) [] p laid = absurd (cc (p.1))
laid_front logs number before (x ∷ xs) (y ∷ ys) p laid =
    let head : y ≡ x = cc (p.1) in
    let rest : IsPrefix xs ys = (p.0, cc (p.1)) in
    subst (λ (z : LogItem). (z.found ≡ false → AreAppended logs number 0 before z.refs) × AreLaid logs (number + 1) (before ++ z.refs) xs) head
    (laid.0, laid_front logs (number + 1) (before ++ y.refs) xs ys rest laid.1)

-- records of the first of these items, none of which was found, are put where these lie
put_first : (logs number : ℕ) (before : List ValueRef) (xs : List LogItem) (rs : List Record) → AreLaid logs number before xs → All (λ (x : LogItem). x.found ≡ false) xs
    → map (λ (r : Record). r.refs) rs ≡ take (length rs) (refs_in xs) → ArePut logs number before rs
put_first logs number before xs [] laid fresh is = tt
put_first logs number before [] (r ∷ rs) laid fresh is = absurd (cc (is))
put_first logs number before (x ∷ xs) (r ∷ rs) laid fresh is =
    let head : x.refs ≡ r.refs = cc (is) in
    let new : x.found ≡ false = fresh 0 x (omega arith) in
    subst (λ (l : List ValueRef). AreAppended logs number 0 before l × ArePut logs (number + 1) (before ++ l) rs) head
    (laid.0 new, put_first logs (number + 1) (before ++ x.refs) xs rs laid.1 (λ k d lt. fresh (suc k) d (omega (arith, lt))) (cc (is)))

-- and so are those of the items behind the first
pub put_behind : (logs number : ℕ) (before : List ValueRef) (xs : List LogItem) (n : ℕ) (rs : List Record) → AreLaid logs number before xs → All (λ (x : LogItem). x.found ≡ false) (drop n xs)
    → map (λ (r : Record). r.refs) rs ≡ take (length rs) (drop n (refs_in xs)) → ArePut logs (number + n) (before ++ references_of (take n xs)) rs
put_behind logs number before xs zero rs laid fresh is =
    let same : number ≡ number + 0 = omega arith in
    subst (λ (n : ℕ). ArePut logs n (before ++ []) rs) same (subst (λ (l : List ValueRef). ArePut logs number l rs) (sym (append-nil before)) (put_first logs number before xs rs laid fresh is))
put_behind logs number before [] (suc n) [] laid fresh is = tt
put_behind logs number before [] (suc n) (r ∷ rs) laid fresh is = absurd (cc (is))
put_behind logs number before (x ∷ xs) (suc n) rs laid fresh is =
    let same : number + 1 + n ≡ number + suc n = omega arith in
    subst (λ (k : ℕ). ArePut logs k (before ++ (x.refs ++ references_of (take n xs))) rs) same
    (subst (λ (l : List ValueRef). ArePut logs (number + 1 + n) l rs) (append_assoc before x.refs (references_of (take n xs)))
    (put_behind logs (number + 1) (before ++ x.refs) xs n rs laid.1 fresh is))

-- what is behind the items that were found was not
pub fresh_behind : (found items : List LogItem) (n : ℕ) → GoesOn found items → length found ≤ n → All (λ (x : LogItem). x.found ≡ false) (drop n items)
fresh_behind found items n goes le = subst (λ (l : List LogItem). All (λ (x : LogItem). x.found ≡ false) (drop n l)) (sym goes.begins) (behind found n le)
  where
    rest : (n : ℕ) (xs : List LogItem) → All (λ (x : LogItem). x.found ≡ false) xs → All (λ (x : LogItem). x.found ≡ false) (drop n xs)
    rest zero xs all = all
    rest (suc n) [] all = all
    rest (suc n) (x ∷ xs) all = rest n xs (λ k d lt. all (suc k) d (omega (arith, lt)))

    behind : (found : List LogItem) (n : ℕ) → length found ≤ n → All (λ (x : LogItem). x.found ≡ false) (drop n (found ++ goes.rest))
    behind [] n le = rest n goes.rest goes.fresh
    behind (x ∷ found) zero le = absurd (omega (arith, le))
    behind (x ∷ found) (suc n) le = behind found n (omega (arith, le))

-- records of a front part are those of the list
pub records_of_front : (hash : Hash) (xs ys : List LogItem) (behind : ℕ) (rs : List Record) → IsPrefix xs ys → AreRecordsOf hash xs behind rs → AreRecordsOf hash ys behind rs
records_of_front hash xs ys behind rs p are =
    let h = history_front xs ys p in
    let le : behind + length rs ≤ length (history_of xs) = omega (arith, are.within, history_length xs) in
    let refs : behind + length rs ≤ length (refs_in xs) = omega (arith, are.within, length-map xs (λ (x : LogItem). x.refs)) in
    record {
      within = omega (arith, are.within, prefix_length xs ys p);
      transactions_are = are.transactions_are ∙ part_front (history_of xs) (history_of ys) behind (length rs) h le;
      refs_are = are.refs_are ∙ part_front (refs_in xs) (refs_in ys) behind (length rs) (map_front (λ (x : LogItem). x.refs) xs ys p) refs;
      records_are = subst (λ (l : List Transaction). AreRecords hash l (behind + 1) rs) h.1
          (records_longer hash (history_of xs) h.0 (behind + 1) rs (omega arith) (omega (arith, le)) are.records_are);
    }

-- the first references are those of the first items
pub take_refs : (n : ℕ) (xs : List LogItem) → take n (refs_in xs) ≡ refs_in (take n xs)
take_refs zero xs = refl
take_refs (suc n) [] = refl
take_refs (suc n) (x ∷ xs) = ap (λ (l : List (List ValueRef)). x.refs ∷ l) (take_refs n xs)

-- what a batch of these records is begun over: a front part of the list that goes on behind the one so far
pub record Ready {D : Type 0} (told : D → Option Told) (hash : Hash) (batches : List (List Record)) (rs : List Record) (old list : List LogItem) (k : Kept D) : Type 0 where
  pub items : List LogItem
  pub begins : IsPrefix items list
  pub more : IsPrefix old items
  pub rest : IsAtRest told hash (history_of items) batches k
  pub next : AreNext hash (history_of items) batches k.durable rs
  pub refs_are : map (λ (r : Record). r.refs) (joined batches) ≡ take k.durable (refs_in items)
  pub own : AreRecordsOf hash items k.durable rs

module _ {D : Type 0} (told : D → Option Told) (hash : Hash) (found : List LogItem) (logs : ℕ) where
  -- the records are the next ones of a front part that has them
  next_of : (items mine : List LogItem) (batches : List (List Record)) (rs : List Record) (durable : ℕ) → map (λ (r : Record). r.refs) (joined batches) ≡ take durable (refs_in mine)
      → length found ≤ durable → GoesOn found mine → AreLaid logs 1 [] mine → 1 ≤ length rs → AreRecordsOf hash mine durable rs → AreRecordsOf hash items durable rs
      → AreNext hash (history_of items) batches durable rs
  next_of items mine batches rs durable refs old goes laid some own are =
      let put = put_behind logs 1 [] mine durable rs laid (fresh_behind found mine durable goes old) own.refs_are in
      let same : references_of (take durable mine) ≡ refs_of (joined batches) = sym (refs_joined (joined batches) (take durable mine) (refs ∙ take_refs durable mine)) in
      let number : 1 + durable ≡ durable + 1 = omega arith in
      record {
        some = some;
        placed = omega (arith, are.within, history_length items);
        transactions_are = are.transactions_are;
        records_are = are.records_are;
        logs = logs;
        put = subst (λ (n : ℕ). ArePut logs n (refs_of (joined batches)) rs) number (subst (λ (l : List ValueRef). ArePut logs (1 + durable) l rs) same put);
      }

  -- of what the journal held, and of what the caller has seen, the longer one has both
  pub ready : (old mine list : List LogItem) (batches : List (List Record)) (rs : List Record) (k : Kept D) → IsPrefix old list → IsPrefix mine list → IsAtRest told hash (history_of old) batches k
      → map (λ (r : Record). r.refs) (joined batches) ≡ take k.durable (refs_in old) → length found ≤ k.durable → IsHistory (history_of mine) → GoesOn found mine → AreLaid logs 1 [] list
      → 1 ≤ length rs → AreRecordsOf hash mine k.durable rs → Ready told hash batches rs old list k
  ready old mine list batches rs k p q rest refs least is goes laid some own =
      let refs_of_item : LogItem → List ValueRef = λ x. x.refs in
      let here = laid_front logs 1 [] mine list q laid in
      elim (cases_lt (length mine) (length old)) [
        | inl shorter ↦ (
            let begins : IsPrefix mine old = prefix_shorter mine old list q p (omega (arith, shorter)) in
            let le : k.durable ≤ length (refs_in mine) = omega (arith, own.within, length-map mine refs_of_item) in
            let refs_mine = refs ∙ sym (take_front (refs_in mine) (refs_in old) k.durable (map_front refs_of_item mine old begins) le) in
            let are = records_of_front hash mine old k.durable rs begins own in
            record {
              items = old;
              begins = p;
              more = prefix_self old;
              rest = rest;
              next = next_of old mine batches rs k.durable refs_mine least goes here some own are;
              refs_are = refs;
              own = are;
            })
        | inr longer ↦ (
            let begins : IsPrefix old mine = prefix_shorter old mine list p q (omega (arith, longer)) in
            let h = history_front old mine begins in
            let placed : k.durable ≤ length (history_of old) = rest.first.placed in
            let le : k.durable ≤ length (refs_in old) = omega (arith, placed, history_length old, length-map old refs_of_item) in
            let refs_mine = refs ∙ take_front (refs_in old) (refs_in mine) k.durable (map_front refs_of_item old mine begins) le in
            record {
              items = mine;
              begins = q;
              more = begins;
              rest = subst (λ (l : List Transaction). IsAtRest told hash l batches k) h.1
                  (rest_longer told hash (history_of old) h.0 batches k (subst (λ (l : List Transaction). IsHistory l) (sym h.1) is) rest);
              next = next_of mine mine batches rs k.durable refs_mine least goes here some own own;
              refs_are = refs_mine;
              own = own;
            })
      ]

module _ {D : Type 0} {told : D → Option Told} {faults : D → ℕ} {hash : Hash} {found : List LogItem} {synced : Option Told} {before : ℕ} where
  -- a journal at rest can begin a batch of records that its caller has seen
  pub ready_for : (logs : ℕ) (mine list : List LogItem) (rs : List Record) (k : Kept D) (s : ServesItems told faults hash found synced before list k) → k.failures ≡ 0 → k.batch.step ≡ Idle → IsPrefix mine list
      → IsHistory (history_of mine) → GoesOn found mine → AreLaid logs 1 [] list → 1 ≤ length rs → AreRecordsOf hash mine k.durable rs → Ready told hash s.batches rs s.items list k
  ready_for logs mine list rs k s sound idle begins history goes laid some own =
      ready told hash found logs s.items mine list s.batches rs k s.begins begins (rest_in list k s sound idle).0 s.refs_are s.old history goes laid some own

  -- a batch is begun, or nothing is done
  pub begin_serves : {T : Type 0} (list : List LogItem) (rs : List Record) (k next : Kept D) (r : Result T JournalError) (s : ServesItems told faults hash found synced before list k)
      → (k.failures ≡ 0 → k.batch.step ≡ Idle) → (k.failures ≡ 0 → Ready told hash s.batches rs s.items list k) → 1 ≤ length rs
      → ((h : Hash) (history : List Transaction) (batches : List (List Record)) → IsAtRest told h history batches k → AreNext h history batches k.durable rs → OnOk r (IsInBatch told h history batches rs next))
      → OnOk r (next.batch.step ≡ Staging) → OnOk r ((next.batch.pieces ≡ pieces_of k.ends (k.durable + 1) rs) × (next.batch.written ≡ 0)) → next.disk ≡ k.disk
      → (next.ends ≡ k.ends) × (next.durable ≡ k.durable) × (next.failures ≡ k.failures) → OnErr r (next ≡ k) → (0 < k.failures → r ≡ Err (Stopped k.failures))
      → ServesItems told faults hash found synced before list next
  begin_serves list rs k next (Err e) s idle can some begun step pieces disk kept left stopped = subst (λ (n : Kept D). ServesItems told faults hash found synced before list n) (sym left) s
  begin_serves list rs k next (Ok x) s idle can some begun step pieces disk kept left stopped = elim (cases_lt 0 k.failures) [
    | inl failed ↦ absurd (ok_isnt x (Stopped k.failures) (stopped failed))
    | inr none ↦ (
        let sound : k.failures ≡ 0 = omega (arith, none) in
        let a = can sound in
        let rest = rest_in list k s sound (idle sound) in
        let batch = begun hash (history_of a.items) s.batches a.rest a.next in
        record {
          items = a.items;
          begins = a.begins;
          batches = s.batches;
          last = rs;
          holds = inr (inl (rs, batch));
          refs_are = a.refs_are ∙ ap (λ (n : ℕ). take n (refs_in a.items)) (sym kept.1);
          going = λ _. inr (record { batch = batch; refs_are = a.own.refs_are ∙ ap (λ (n : ℕ). take (length rs) (drop n (refs_in a.items))) (sym kept.1) });
          old = omega (arith, s.old, kept.1);
          rose = subst (λ (n : ℕ). RoseBy before (faults next.disk) n) (sym kept.2) (subst (λ (d : D). RoseBy before (faults d) k.failures) (sym disk) s.rose);
          calm = λ _. ap faults disk ∙ s.calm sound;
          made = begun_made s.items a.items s.batches s.last rs k next s.made sound rest.1 rest.0 some a.own step pieces disk kept.0 kept.1;
          moments = subst (λ (d : D). Leaves (StandsFrom hash (length found) (history_of a.items)) synced (told d)) (sym disk)
              (leaves_weaker (StandsFrom hash (length found) (history_of s.items)) (StandsFrom hash (length found) (history_of a.items)) (stands_more hash (length found) s.items a.items a.more) synced (told k.disk) s.moments);
        })
  ]

  -- a batch has as many transactions as it has records
  pub begin_count : {T : Type 0} (list : List LogItem) (rs : List Record) (k next : Kept D) (r : Result T JournalError) (s : ServesItems told faults hash found synced before list k)
      → (k.failures ≡ 0 → Ready told hash s.batches rs s.items list k)
      → ((h : Hash) (history : List Transaction) (batches : List (List Record)) → IsAtRest told h history batches k → AreNext h history batches k.durable rs → OnOk r (IsInBatch told h history batches rs next))
      → (0 < k.failures → r ≡ Err (Stopped k.failures)) → OnOk r (next.batch.count ≡ length rs)
  begin_count list rs k next r s can begun stopped = on_sound k.failures r (next.batch.count ≡ length rs)
      (λ sound. let a = can sound in on-ok (IsInBatch told hash (history_of a.items) s.batches rs next) (next.batch.count ≡ length rs) r (λ m. m.count) (begun hash (history_of a.items) s.batches a.rest a.next)) stopped
