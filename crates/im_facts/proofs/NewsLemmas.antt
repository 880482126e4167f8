-- An accepted message that is old shows what is kept already: with it all but the messages is as it was. So what any
-- accepted message shows is known behind it, and behind all lines after it.
use Rattle.std.proofs.Common.{◌≡◌, ◌&&◌, ℕ, Bool, true, false, if◌then◌else◌, List, [], ◌∷◌, ◌++◌, refl, ap, subst, sym, ◌∙◌, Option, Some, None, Ok}
use Rattle.std.specs.Prelude.{IfSome, Contains, is_some, option_map}
use Rattle.std.specs.List.{AllByRecursion}
use Rattle.std.proofs.lemmas.Bool.{and_parts, eqb-true}
use Rattle.std.proofs.lemmas.List.Elements.{All-from_recursion, All-contains, Contains-push}
use Rattle.im_octet.proofs.Common.{some-is}
use Rattle.im_digest.specs.Digests.{Hash}
use Rattle.im_model.specs.declared.entries.Entry.{Entry}
use Rattle.im_model.specs.declared.headers.Header.{Header}
use Rattle.im_mtree.specs.Checks.{first_fail}
use Rattle.im_proof.specs.declared.proofs.DualProof.{DualProof}
use Rattle.im_wire.specs.declared.messages.Message.{Message}
use Rattle.im_wire.specs.declared.messages.Message.TheVariants as says
use Rattle.im_client.specs.Lines.{state_with}
use Rattle.im_client.specs.LineChecks.{line_checks}
use Rattle.im_facts.specs.Accepted.{IsAccepted, IsClient}
use Rattle.im_facts.specs.Facts.{Known, with_message, known_after, with_headers, with_entries, known_header, entry_at, is_lower, is_level, is_before, is_beside, both_headers, anchor_headers, headers_shown, entries_shown, IsAlike}
use Rattle.im_facts.specs.Folds.{AreVerdicts, known_by, known_by_all}
use Rattle.im_facts.specs.News.{is_old, knows_anchor, knows_both, knows_entries, knows_header, knows_headers, leaves, with_accepted}
use Rattle.im_facts.specs.Verdicts.{Verdict, Passed, Accepted, Refused, Forked, messages_of}
use Rattle.im_facts.specs.declared.facts.EntryFact.{EntryFact}
use Rattle.im_facts.proofs.OrderLemmas.{FitsIn, each-weaker, puts-known}
use Rattle.im_facts.proofs.PlaceLemmas.{header-order, entry-order}
use Rattle.im_facts.proofs.ShownLemmas.{headers-fit}
use Rattle.im_facts.proofs.KnownLemmas.{KeepsEntries, KeepsHeaders, client-sound, client-still-entry, client-still-header, entries-fit, fact_at, sound-step}
use Rattle.im_facts.proofs.HoldLemmas.{meets}
use Rattle.im_facts.proofs.FoldLemmas.{kept-now}
use Rattle.im_facts.proofs.VerdictSome.{client-by, line-fits}

-- a header whose number is known and that is unlike no kept one is kept
old-header : (headers : List Header) (h : Header) → knows_header headers h ≡ true → IsAlike headers h → known_header headers h.id ≡ Some h
old-header headers h known fits = go (known_header headers h.id) refl known fits
  where
    go : (r : Option Header) → known_header headers h.id ≡ r → is_some r ≡ true → IfSome r (λ k. k ≡ h) → known_header headers h.id ≡ Some h
    go None e k f = absurd cc
    go (Some kept) e k f = e ∙ ap Some f

-- so is an entry
old-entry : (facts : List EntryFact) (fact : EntryFact) → is_some (entry_at facts fact.tx fact.index) ≡ true → IfSome (fact_at facts fact) (λ kept. kept ≡ fact) → fact_at facts fact ≡ Some fact
old-entry facts fact known fits = go (fact_at facts fact) refl known fits
  where
    go : (r : Option EntryFact) → fact_at facts fact ≡ r → is_some (option_map (λ (f : EntryFact). f.entry) r) ≡ true → IfSome r (λ kept. kept ≡ fact) → fact_at facts fact ≡ Some fact
    go None e k f = absurd cc
    go (Some kept) e k f = e ∙ ap Some f

-- both headers of a dual proof
old-both : (headers : List Header) (p : DualProof) → knows_both headers p ≡ true → AllByRecursion (IsAlike headers) (both_headers p)
    → AllByRecursion (λ (h : Header). known_header headers h.id ≡ Some h) (both_headers p)
old-both headers p known fit =
    let parts = and_parts (knows_header headers p.source) (knows_header headers p.target) known in
    (old-header headers p.source parts.0 fit.0, (old-header headers p.target parts.1 fit.1.0, tt))

-- those of an anchor
old-anchor : (headers : List Header) (anchor : Option DualProof) → knows_anchor headers anchor ≡ true → AllByRecursion (IsAlike headers) (anchor_headers anchor)
    → AllByRecursion (λ (h : Header). known_header headers h.id ≡ Some h) (anchor_headers anchor)
old-anchor headers None known fit = tt
old-anchor headers (Some anchor) known fit = old-both headers anchor known fit

-- each header that a message shows
old-headers : (headers : List Header) (m : Message) → knows_headers headers m ≡ true → AllByRecursion (IsAlike headers) (headers_shown m) → KeepsHeaders headers m
old-headers headers (says.State header) known fit = (old-header headers header known fit.0, tt)
old-headers headers (says.Dual dual) known fit = old-both headers dual known fit
old-headers headers (says.Advance dual anchor) known fit =
    let parts = and_parts (knows_both headers dual) (knows_anchor headers anchor) known in
    let both = and_parts (knows_header headers dual.source) (knows_header headers dual.target) parts.0 in
    (old-header headers dual.source both.0 fit.0, (old-header headers dual.target both.1 fit.1.0, old-anchor headers anchor parts.1 fit.1.1))
old-headers headers (says.Item dual entry index path) known fit = old-both headers dual known fit

-- each entry
old-entries : (facts : List EntryFact) (m : Message) → knows_entries facts m ≡ true → AllByRecursion (FitsIn EntryFact is_before is_beside entry-order facts) (entries_shown m) → KeepsEntries facts m
old-entries facts (says.State header) known fit = tt
old-entries facts (says.Dual dual) known fit = tt
old-entries facts (says.Advance dual anchor) known fit = tt
old-entries facts (says.Item dual entry index path) known fit =
    (old-entry facts (record { tx = dual.source.id; index = index; entry = entry }) known fit.0, tt)

-- its state is the kept one
old-state : (hash : Hash) (headers : List Header) (state : Option Header) (m : Message) → IfSome state (λ (s : Header). known_header headers s.id ≡ Some s)
    → first_fail (line_checks hash state m) ≡ Ok tt → leaves state m ≡ true → KeepsHeaders headers m → state_with state m ≡ state
old-state hash headers None m kept passes left keeps = absurd cc
old-state hash headers (Some s) (says.State header) kept passes left keeps = refl
old-state hash headers (Some s) (says.Dual dual) kept passes left keeps = refl
old-state hash headers (Some s) (says.Advance dual anchor) kept passes left keeps =
    let from : dual.source.id ≡ s.id = (meets hash s (says.Advance dual anchor) passes).id in
    let to : dual.target.id ≡ s.id = sym (eqb-true dual.source.id dual.target.id left) ∙ from in
    sym keeps.1.0 ∙ ap (λ (t : ℕ). known_header headers t) to ∙ kept
old-state hash headers (Some s) (says.Item dual entry index path) kept passes left keeps = refl

-- with an old message all but the messages is as it was
pub old-message : (hash : Hash) (known : Known) (m : Message) → IsClient hash known → IsAccepted hash known m → is_old known m ≡ true
    → (state_with known.state m ≡ known.state) × (with_headers known.headers (headers_shown m) ≡ known.headers) × (with_entries known.entries (entries_shown m) ≡ known.entries)
old-message hash known m client accepted old =
    let sound = client-sound hash known client in
    let parts = and_parts (leaves known.state m && knows_headers known.headers m) (knows_entries known.entries m) old in
    let first = and_parts (leaves known.state m) (knows_headers known.headers m) parts.0 in
    let headers : KeepsHeaders known.headers m = old-headers known.headers m first.1 (headers-fit known m accepted.agrees) in
    let entries : KeepsEntries known.entries m = old-entries known.entries m parts.1 (entries-fit known m accepted.agrees) in (
      old-state hash known.headers known.state m sound.state accepted.passes first.0 headers,
      puts-known Header is_lower is_level header-order known.headers (headers_shown m) sound.headers_rise headers,
      puts-known EntryFact is_before is_beside entry-order known.entries (entries_shown m) sound.entries_rise entries,
    )

-- behind an accepted message all but the messages is what it is with it, kept or not
pub accepted-same : (hash : Hash) (known : Known) (m : Message) → IsClient hash known → IsAccepted hash known m
    → ((with_accepted known m).state ≡ (with_message known m).state) × ((with_accepted known m).headers ≡ (with_message known m).headers) × ((with_accepted known m).entries ≡ (with_message known m).entries)
accepted-same hash known m client accepted = go (is_old known m) refl
  where
    go : (b : Bool) → is_old known m ≡ b
        → ((if b then known else with_message known m).state ≡ (with_message known m).state) × ((if b then known else with_message known m).headers ≡ (with_message known m).headers)
        × ((if b then known else with_message known m).entries ≡ (with_message known m).entries)
    go true e = let same = old-message hash known m client accepted e in (sym same.0, sym same.1, sym same.2)
    go false e = (refl, refl, refl)

-- two know the same but for the messages
abbrev SameFacts : Known → Known → Type 0
SameFacts a b = (a.state ≡ b.state) × (a.headers ≡ b.headers) × (a.entries ≡ b.entries)

-- so behind one message
same-more : (a b : Known) (m : Message) → SameFacts a b → SameFacts (with_message a m) (with_message b m)
same-more a b m same = (
  ap (λ (s : Option Header). state_with s m) same.0,
  ap (λ (l : List Header). with_headers l (headers_shown m)) same.1,
  ap (λ (l : List EntryFact). with_entries l (entries_shown m)) same.2,
)

same-on : (a b c : Known) → SameFacts a b → SameFacts b c → SameFacts a c
same-on a b c p q = (p.0 ∙ q.0, p.1 ∙ q.1, p.2 ∙ q.2)

-- behind lines a client knows, but for the messages, what all accepted messages lead to
all-same-by : (hash : Hash) (known other : Known) (lines : List (List ℕ)) (verdicts : List Verdict) → IsClient hash known → AreVerdicts hash known lines verdicts → SameFacts known other
    → SameFacts (known_by_all known verdicts) (known_after other (messages_of verdicts))
all-same-by hash known other [] [] client are same = same
all-same-by hash known other [] (v ∷ verdicts) client are same = absurd are
all-same-by hash known other (line ∷ lines) [] client are same = absurd are
all-same-by hash known other (line ∷ lines) (Passed ∷ verdicts) client are same = all-same-by hash known other lines verdicts client are.1 same
all-same-by hash known other (line ∷ lines) (Refused fault ∷ verdicts) client are same = all-same-by hash known other lines verdicts client are.1 same
all-same-by hash known other (line ∷ lines) (Forked x y ∷ verdicts) client are same = all-same-by hash known other lines verdicts client are.1 same
all-same-by hash known other (line ∷ lines) (Accepted m ∷ verdicts) client are same =
    let next : IsClient hash (with_accepted known m) = client-by hash known line (Accepted m) (line-fits line) client are.0 in
    all-same-by hash (with_accepted known m) (with_message other m) lines verdicts next are.1
    (same-on (with_accepted known m) (with_message known m) (with_message other m) (accepted-same hash known m client are.0.1) (same-more known other m same))

pub all-same : (hash : Hash) (known : Known) (lines : List (List ℕ)) (verdicts : List Verdict) → IsClient hash known → AreVerdicts hash known lines verdicts
    → ((known_by_all known verdicts).state ≡ (known_after known (messages_of verdicts)).state) × ((known_by_all known verdicts).headers ≡ (known_after known (messages_of verdicts)).headers)
    × ((known_by_all known verdicts).entries ≡ (known_after known (messages_of verdicts)).entries)
all-same hash known lines verdicts client are = all-same-by hash known known lines verdicts client are (refl, refl, refl)

-- what was found of a number is still found behind a message, kept or not
pub accepted-still-header : (hash : Hash) (known : Known) (m : Message) (t : ℕ) (header : Header) → IsClient hash known → known_header known.headers t ≡ Some header
    → known_header (with_accepted known m).headers t ≡ Some header
accepted-still-header hash known m t header client is = go (is_old known m)
  where
    go : (b : Bool) → known_header (if b then known else with_message known m).headers t ≡ Some header
    go true = is
    go false = client-still-header hash known m t header client is

-- so of a place
pub accepted-still-entry : (hash : Hash) (known : Known) (m : Message) (t i : ℕ) (entry : Entry) → IsClient hash known → entry_at known.entries t i ≡ Some entry
    → entry_at (with_accepted known m).entries t i ≡ Some entry
accepted-still-entry hash known m t i entry client is = go (is_old known m)
  where
    go : (b : Bool) → entry_at (if b then known else with_message known m).entries t i ≡ Some entry
    go true = is
    go false = client-still-entry hash known m t i entry client is

-- behind a line
by-still-header : (hash : Hash) (known : Known) (v : Verdict) (t : ℕ) (header : Header) → IsClient hash known → known_header known.headers t ≡ Some header → known_header (known_by known v).headers t ≡ Some header
by-still-header hash known Passed t header client is = is
by-still-header hash known (Accepted m) t header client is = accepted-still-header hash known m t header client is
by-still-header hash known (Refused fault) t header client is = is
by-still-header hash known (Forked x y) t header client is = is

by-still-entry : (hash : Hash) (known : Known) (v : Verdict) (t i : ℕ) (entry : Entry) → IsClient hash known → entry_at known.entries t i ≡ Some entry → entry_at (known_by known v).entries t i ≡ Some entry
by-still-entry hash known Passed t i entry client is = is
by-still-entry hash known (Accepted m) t i entry client is = accepted-still-entry hash known m t i entry client is
by-still-entry hash known (Refused fault) t i entry client is = is
by-still-entry hash known (Forked x y) t i entry client is = is

-- and behind lines
pub all-still-header : (hash : Hash) (known : Known) (lines : List (List ℕ)) (verdicts : List Verdict) (t : ℕ) (header : Header) → IsClient hash known → AreVerdicts hash known lines verdicts
    → known_header known.headers t ≡ Some header → known_header (known_by_all known verdicts).headers t ≡ Some header
all-still-header hash known [] [] t header client are is = is
all-still-header hash known [] (v ∷ verdicts) t header client are is = absurd are
all-still-header hash known (line ∷ lines) [] t header client are is = absurd are
all-still-header hash known (line ∷ lines) (v ∷ verdicts) t header client are is =
    all-still-header hash (known_by known v) lines verdicts t header (client-by hash known line v (line-fits line) client are.0) are.1 (by-still-header hash known v t header client is)

pub all-still-entry : (hash : Hash) (known : Known) (lines : List (List ℕ)) (verdicts : List Verdict) (t i : ℕ) (entry : Entry) → IsClient hash known → AreVerdicts hash known lines verdicts
    → entry_at known.entries t i ≡ Some entry → entry_at (known_by_all known verdicts).entries t i ≡ Some entry
all-still-entry hash known [] [] t i entry client are is = is
all-still-entry hash known [] (v ∷ verdicts) t i entry client are is = absurd are
all-still-entry hash known (line ∷ lines) [] t i entry client are is = absurd are
all-still-entry hash known (line ∷ lines) (v ∷ verdicts) t i entry client are is =
    all-still-entry hash (known_by known v) lines verdicts t i entry (client-by hash known line v (line-fits line) client are.0) are.1 (by-still-entry hash known v t i entry client is)

-- each header that a message shows is found
abbrev pub FindsHeaders : Known → Message → Type 0
FindsHeaders known message = AllByRecursion (λ (h : Header). known_header known.headers h.id ≡ Some h) (headers_shown message)

-- each entry
abbrev pub FindsEntries : Known → Message → Type 0
FindsEntries known message = AllByRecursion (λ (f : EntryFact). entry_at known.entries f.tx f.index ≡ Some f.entry) (entries_shown message)

-- what an accepted message shows is found behind it
shows-headers : (hash : Hash) (known : Known) (m : Message) → IsClient hash known → IsAccepted hash known m → FindsHeaders (with_accepted known m) m
shows-headers hash known m client accepted =
    subst (λ (l : List Header). KeepsHeaders l m) (sym (accepted-same hash known m client accepted).1)
    (kept-now known m (sound-step hash known m accepted (client-sound hash known client)))

shows-entries : (hash : Hash) (known : Known) (m : Message) → IsClient hash known → IsAccepted hash known m → FindsEntries (with_accepted known m) m
shows-entries hash known m client accepted =
    let sound = sound-step hash known m accepted (client-sound hash known client) in
    let now : KeepsEntries (with_message known m).entries m =
    All-contains (KeepsEntries (with_message known m).entries) (known.messages ++ m ∷ []) m
    (All-from_recursion (KeepsEntries (with_message known m).entries) (known.messages ++ m ∷ []) sound.entries_kept) (Contains-push known.messages m) in
    let here : KeepsEntries (with_accepted known m).entries m = subst (λ (l : List EntryFact). KeepsEntries l m) (sym (accepted-same hash known m client accepted).2) now in
    each-weaker (λ (f : EntryFact). fact_at (with_accepted known m).entries f ≡ Some f) (λ (f : EntryFact). entry_at (with_accepted known m).entries f.tx f.index ≡ Some f.entry)
    (λ f is. ap (λ (r : Option EntryFact). option_map (λ (k : EntryFact). k.entry) r) is) (entries_shown m) here

-- so is what each accepted message of lines shows, behind them all
all-headers : (hash : Hash) (known : Known) (lines : List (List ℕ)) (verdicts : List Verdict) → IsClient hash known → AreVerdicts hash known lines verdicts
    → AllByRecursion (FindsHeaders (known_by_all known verdicts)) (messages_of verdicts)
all-headers hash known [] [] client are = tt
all-headers hash known [] (v ∷ verdicts) client are = absurd are
all-headers hash known (line ∷ lines) [] client are = absurd are
all-headers hash known (line ∷ lines) (Passed ∷ verdicts) client are = all-headers hash known lines verdicts client are.1
all-headers hash known (line ∷ lines) (Refused fault ∷ verdicts) client are = all-headers hash known lines verdicts client are.1
all-headers hash known (line ∷ lines) (Forked x y ∷ verdicts) client are = all-headers hash known lines verdicts client are.1
all-headers hash known (line ∷ lines) (Accepted m ∷ verdicts) client are =
    let after : Known = with_accepted known m in
    let next : IsClient hash after = client-by hash known line (Accepted m) (line-fits line) client are.0 in
    let behind : Known = known_by_all after verdicts in (
      each-weaker (λ (h : Header). known_header after.headers h.id ≡ Some h) (λ (h : Header). known_header behind.headers h.id ≡ Some h)
          (λ h is. all-still-header hash after lines verdicts h.id h next are.1 is) (headers_shown m) (shows-headers hash known m client are.0.1),
      all-headers hash after lines verdicts next are.1,
    )

all-entries : (hash : Hash) (known : Known) (lines : List (List ℕ)) (verdicts : List Verdict) → IsClient hash known → AreVerdicts hash known lines verdicts
    → AllByRecursion (FindsEntries (known_by_all known verdicts)) (messages_of verdicts)
all-entries hash known [] [] client are = tt
all-entries hash known [] (v ∷ verdicts) client are = absurd are
all-entries hash known (line ∷ lines) [] client are = absurd are
all-entries hash known (line ∷ lines) (Passed ∷ verdicts) client are = all-entries hash known lines verdicts client are.1
all-entries hash known (line ∷ lines) (Refused fault ∷ verdicts) client are = all-entries hash known lines verdicts client are.1
all-entries hash known (line ∷ lines) (Forked x y ∷ verdicts) client are = all-entries hash known lines verdicts client are.1
all-entries hash known (line ∷ lines) (Accepted m ∷ verdicts) client are =
    let after : Known = with_accepted known m in
    let next : IsClient hash after = client-by hash known line (Accepted m) (line-fits line) client are.0 in
    let behind : Known = known_by_all after verdicts in (
      each-weaker (λ (f : EntryFact). entry_at after.entries f.tx f.index ≡ Some f.entry) (λ (f : EntryFact). entry_at behind.entries f.tx f.index ≡ Some f.entry)
          (λ f is. all-still-entry hash after lines verdicts f.tx f.index f.entry next are.1 is) (entries_shown m) (shows-entries hash known m client are.0.1),
      all-entries hash after lines verdicts next are.1,
    )

-- one of them
pub accepted-header : (hash : Hash) (known : Known) (lines : List (List ℕ)) (verdicts : List Verdict) (m : Message) (header : Header) → IsClient hash known → AreVerdicts hash known lines verdicts
    → Contains (messages_of verdicts) m → Contains (headers_shown m) header → known_header (known_by_all known verdicts).headers header.id ≡ Some header
accepted-header hash known lines verdicts m header client are on shown =
    let behind : Known = known_by_all known verdicts in
    All-contains (λ (h : Header). known_header behind.headers h.id ≡ Some h) (headers_shown m) header
    (All-from_recursion (λ (h : Header). known_header behind.headers h.id ≡ Some h) (headers_shown m)
    (All-contains (FindsHeaders behind) (messages_of verdicts) m (All-from_recursion (FindsHeaders behind) (messages_of verdicts) (all-headers hash known lines verdicts client are)) on))
    shown

pub accepted-entry : (hash : Hash) (known : Known) (lines : List (List ℕ)) (verdicts : List Verdict) (m : Message) (fact : EntryFact) → IsClient hash known → AreVerdicts hash known lines verdicts
    → Contains (messages_of verdicts) m → Contains (entries_shown m) fact → entry_at (known_by_all known verdicts).entries fact.tx fact.index ≡ Some fact.entry
accepted-entry hash known lines verdicts m fact client are on shown =
    let behind : Known = known_by_all known verdicts in
    All-contains (λ (f : EntryFact). entry_at behind.entries f.tx f.index ≡ Some f.entry) (entries_shown m) fact
    (All-from_recursion (λ (f : EntryFact). entry_at behind.entries f.tx f.index ≡ Some f.entry) (entries_shown m)
    (All-contains (FindsEntries behind) (messages_of verdicts) m (All-from_recursion (FindsEntries behind) (messages_of verdicts) (all-entries hash known lines verdicts client are)) on))
    shown

-- no two of them show unequal headers of one number
pub accepted-headers-one : (hash : Hash) (known : Known) (lines : List (List ℕ)) (verdicts : List Verdict) (m n : Message) (a b : Header) → IsClient hash known → AreVerdicts hash known lines verdicts
    → Contains (messages_of verdicts) m → Contains (messages_of verdicts) n → Contains (headers_shown m) a → Contains (headers_shown n) b → a.id ≡ b.id → a ≡ b
accepted-headers-one hash known lines verdicts m n a b client are on on2 shown shown2 e =
    some-is a b
    (sym (accepted-header hash known lines verdicts m a client are on shown) ∙ ap (λ (t : ℕ). known_header (known_by_all known verdicts).headers t) e
    ∙ accepted-header hash known lines verdicts n b client are on2 shown2)

-- nor unequal entries of one place
pub accepted-entries-one : (hash : Hash) (known : Known) (lines : List (List ℕ)) (verdicts : List Verdict) (m n : Message) (a b : EntryFact) → IsClient hash known → AreVerdicts hash known lines verdicts
    → Contains (messages_of verdicts) m → Contains (messages_of verdicts) n → Contains (entries_shown m) a → Contains (entries_shown n) b → a.tx ≡ b.tx → a.index ≡ b.index → a.entry ≡ b.entry
accepted-entries-one hash known lines verdicts m n a b client are on on2 shown shown2 e f =
    let behind : List EntryFact = (known_by_all known verdicts).entries in
    some-is a.entry b.entry
    (sym (accepted-entry hash known lines verdicts m a client are on shown) ∙ ap (λ (t : ℕ). entry_at behind t a.index) e
    ∙ ap (λ (i : ℕ). entry_at behind b.tx i) f ∙ accepted-entry hash known lines verdicts n b client are on2 shown2)
