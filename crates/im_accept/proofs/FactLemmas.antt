-- A client that keeps facts of a history agrees with what is shown of that history, and keeps such facts behind it.
use Rattle.std.proofs.Common.{◌≡◌, ◌<◌, ◌≤◌, ℕ, ◌-◌, ◌&&◌, List, Bool, true, false, length, take, refl, arith, ap, subst, ◌∙◌, sym, nat_lt, nat_eq, if◌then◌else◌, Option, Some, None, IfSome}
use Rattle.std.specs.List.{All, AllByRecursion, find}
use Rattle.std.specs.Prelude.{option_map, slice_index_or}
use Rattle.std.proofs.lemmas.Bool.{and_parts, eqb-true, ltb-true}
use Rattle.std.proofs.lemmas.List.{get_or-take}
use Rattle.std.proofs.lemmas.List.Elements.{All-from_recursion, recursion_from_All}
use Rattle.im_digest.specs.Digests.{Hash}
use Rattle.im_model.specs.History.{header_of, no_transaction, transaction_of}
use Rattle.im_model.specs.declared.entries.Entry.{Entry}
use Rattle.im_model.specs.declared.headers.Header.{Header as TheHeader}
use Rattle.im_model.specs.declared.transactions.Transaction.{Transaction}
use Rattle.im_model.proofs.HeaderLemmas.{header-prefix}
use Rattle.im_proof.specs.declared.proofs.DualProof.{DualProof}
use Rattle.im_dual.proofs.RecordLemmas.{id-of}
use Rattle.im_wire.specs.declared.messages.Message.{Message}
use Rattle.im_proof.specs.Between.{anchor_between, dual_between, no_entry}
use Rattle.im_facts.specs.Facts.{Known, with_message, known_header, is_lower, is_level, is_before, is_beside, both_headers, anchor_headers, headers_shown, entries_shown, Agrees, IsAlike, IsEntryAlike}
use Rattle.im_facts.specs.declared.facts.EntryFact.{EntryFact}
use Rattle.im_facts.proofs.AgreeLemmas.{each-agrees}
use Rattle.im_facts.proofs.FoldLemmas.{found-holds, found-id}
use Rattle.im_facts.proofs.KnownLemmas.{found-passes}
use Rattle.im_facts.proofs.OrderLemmas.{each-weaker, puts-all}
use Rattle.im_report.specs.Messages.{item_between}
use Rattle.im_accept.specs.Taken.{HasFactsOf, IsEntryOf, IsHeaderOf}
use Rattle.im_accept.proofs.PassLemmas.{between-source, between-target}

-- two headers of one history with one number are equal
header-alike : (hash : Hash) (h : List Transaction) (headers : List TheHeader) → All (IsHeaderOf hash h) headers → (shown : TheHeader) → IsHeaderOf hash h shown → IsAlike headers shown
header-alike hash h headers all shown is = go (known_header headers shown.id) refl
  where
    go : (r : Option TheHeader) → known_header headers shown.id ≡ r → IfSome r (λ (kept : TheHeader). kept ≡ shown)
    go None e = tt
    go (Some kept) e =
        let held : IsHeaderOf hash h kept =
        found-holds (λ (x : TheHeader). nat_eq x.id shown.id) (IsHeaderOf hash h) headers kept e (recursion_from_All (IsHeaderOf hash h) headers all) in
        held.is ∙ ap (λ k. header_of hash h k) (found-id headers shown.id kept e) ∙ sym is.is

-- so are two entries of one place
entry-alike : (h : List Transaction) (facts : List EntryFact) → All (IsEntryOf h) facts → (shown : EntryFact) → IsEntryOf h shown → IsEntryAlike facts shown
entry-alike h facts all shown is = go (find (λ (fact : EntryFact). nat_eq fact.tx shown.tx && nat_eq fact.index shown.index) facts) refl
  where
    go : (r : Option EntryFact) → find (λ (fact : EntryFact). nat_eq fact.tx shown.tx && nat_eq fact.index shown.index) facts ≡ r
        → IfSome (option_map (λ (fact : EntryFact). fact.entry) r) (λ (kept : Entry). kept ≡ shown.entry)
    go None e = tt
    go (Some kept) e =
        let at : EntryFact → Bool = λ (fact : EntryFact). nat_eq fact.tx shown.tx && nat_eq fact.index shown.index in
        let held : IsEntryOf h kept = found-holds at (IsEntryOf h) facts kept e (recursion_from_All (IsEntryOf h) facts all) in
        let same = and_parts (nat_eq kept.tx shown.tx) (nat_eq kept.index shown.index) (found-passes at facts kept e) in
        held.is
        ∙ ap (λ k. slice_index_or (transaction_of h k).entries kept.index no_entry) (eqb-true kept.tx shown.tx same.0)
        ∙ ap (λ i. slice_index_or (transaction_of h shown.tx).entries i no_entry) (eqb-true kept.index shown.index same.1)
        ∙ sym is.is

-- what is shown of the history agrees with its facts
pub facts-agree : (hash : Hash) (h : List Transaction) (known : Known) (m : Message) → HasFactsOf hash h known
    → AllByRecursion (IsHeaderOf hash h) (headers_shown m) → AllByRecursion (IsEntryOf h) (entries_shown m) → Agrees known m
facts-agree hash h known m facts headers entries = each-agrees known m
    (each-weaker (IsHeaderOf hash h) (IsAlike known.headers) (header-alike hash h known.headers facts.headers) (headers_shown m) headers)
    (each-weaker (IsEntryOf h) (IsEntryAlike known.entries) (entry-alike h known.entries facts.entries) (entries_shown m) entries)

-- and with it they are facts of the history still
pub facts-more : (hash : Hash) (h : List Transaction) (known : Known) (m : Message) → HasFactsOf hash h known
    → AllByRecursion (IsHeaderOf hash h) (headers_shown m) → AllByRecursion (IsEntryOf h) (entries_shown m) → HasFactsOf hash h (with_message known m)
facts-more hash h known m facts headers entries = record {
  headers = All-from_recursion (IsHeaderOf hash h) (with_message known m).headers
      (puts-all is_lower is_level (IsHeaderOf hash h) known.headers (headers_shown m) (recursion_from_All (IsHeaderOf hash h) known.headers facts.headers) headers);
  entries = All-from_recursion (IsEntryOf h) (with_message known m).entries
      (puts-all is_before is_beside (IsEntryOf h) known.entries (entries_shown m) (recursion_from_All (IsEntryOf h) known.entries facts.entries) entries);
}

-- the header of a transaction is one of the history
pub header-of-it : (hash : Hash) (h : List Transaction) (k : ℕ) (header : TheHeader) → 1 ≤ k → k ≤ length h → header ≡ header_of hash h k → IsHeaderOf hash h header
header-of-it hash h k header some within e =
    let id : header.id ≡ k = ap (λ (x : TheHeader). x.id) e ∙ id-of hash h k some within in
    record { some = omega arith; within = omega arith; is = e ∙ ap (λ i. header_of hash h i) (sym id) }

-- both headers of a dual proof between two of its first transactions are
pub both-shown : (hash : Hash) (h : List Transaction) (n s t : ℕ) → 1 ≤ s → s ≤ t → t ≤ n → n ≤ length h
    → AllByRecursion (IsHeaderOf hash h) (both_headers (dual_between hash (take n h) s t))
both-shown hash h n s t some order below within =
    let p : DualProof = dual_between hash (take n h) s t in (
      header-of-it hash h s p.source some (omega arith) (between-source hash (take n h) s t ∙ header-prefix hash h s n some (omega arith) within),
      (header-of-it hash h t p.target (omega arith) (omega arith) (between-target hash (take n h) s t ∙ header-prefix hash h t n (omega arith) below within), tt),
    )

anchor-by-due : (due : Bool) (P : TheHeader → Type 0) (q : DualProof) → (due ≡ true → AllByRecursion P (both_headers q)) → AllByRecursion P (anchor_headers (if due then Some q else None))
anchor-by-due true P q all = all refl
anchor-by-due false P q all = tt

-- so are those of an anchor
pub anchor-shown : (hash : Hash) (h : List Transaction) (n s t : ℕ) → 1 ≤ s → s ≤ t → t ≤ n → n ≤ length h
    → AllByRecursion (IsHeaderOf hash h) (anchor_headers (anchor_between hash (take n h) s t))
unfolding anchor_between
anchor-shown hash h n s t some order below within =
    let hs : List Transaction = take n h in
    let old : ℕ = (transaction_of hs s).bl in
    let size : ℕ = (transaction_of hs t).bl in
    anchor-by-due (nat_lt old size && nat_lt size s) (IsHeaderOf hash h) (dual_between hash hs size s)
    (λ e.
    let tests = and_parts (nat_lt old size) (nat_lt size s) e in
    let more : old < size = ltb-true old size tests.0 in
    let less : size < s = ltb-true size s tests.1 in
    both-shown hash h n size s (omega arith) (omega arith) (omega arith) within)

-- the entry of an item is one of the history
pub entry-shown : (hash : Hash) (h : List Transaction) (n t i s : ℕ) → 1 ≤ t → t ≤ n → n ≤ length h → i < length (transaction_of (take n h) t).entries
    → AllByRecursion (IsEntryOf h) (entries_shown (item_between hash (take n h) t i s))
entry-shown hash h n t i s some below within inside =
    let hs : List Transaction = take n h in
    let tx : ℕ = (dual_between hash hs t s).source.id in
    let source : (dual_between hash hs t s).source ≡ header_of hash h t = between-source hash hs t s ∙ header-prefix hash h t n some below within in
    let there : t ≤ length h = omega arith in
    let id : tx ≡ t = ap (λ (x : TheHeader). x.id) source ∙ id-of hash h t some (omega arith) in
    let at : transaction_of hs t ≡ transaction_of h tx = get_or-take n h (t - 1) no_transaction (omega arith) ∙ ap (λ k. transaction_of h k) (sym id) in (
      record {
        some = subst (λ k. 1 ≤ k) (sym id) some;
        within = subst (λ k. k ≤ length h) (sym id) there;
        inside = subst (λ (x : Transaction). i < length x.entries) at inside;
        is = ap (λ (x : Transaction). slice_index_or x.entries i no_entry) at;
      },
      tt,
    )
