-- What holds of all that a client knows: its facts rise, its state is among them, and they are what its messages showed.
use Rattle.std.proofs.Common.{◌≡◌, ◌&&◌, ℕ, Bool, true, false, cond, nat_eq, List, [], ◌∷◌, ◌++◌, refl, ap, subst, sym, ◌∙◌, Option, Some, None}
use Rattle.std.specs.Prelude.{IfSome, option_map}
use Rattle.std.specs.List.{AllByRecursion, Contains, find}
use Rattle.std.proofs.lemmas.Bool.{eqb-true}
use Rattle.std.proofs.lemmas.List.Elements.{recursion_from_All, All-from_recursion, All-contains, All-contains_itself, Contains-append_left, Contains-push}
use Rattle.im_octet.proofs.Common.{some-is}
use Rattle.im_digest.specs.Digests.{Hash}
use Rattle.im_model.specs.declared.headers.Header.{Header}
use Rattle.im_model.specs.declared.entries.Entry.{Entry}
use Rattle.im_wire.specs.declared.messages.Message.{Message}
use Rattle.im_wire.specs.declared.messages.Message.TheVariants as says
use Rattle.im_client.specs.Lines.{state_with}
use Rattle.im_facts.specs.Accepted.{IsAccepted, AreAccepted, IsClient}
use Rattle.im_facts.specs.Facts.{Known, nothing, with_message, known_after, Agrees, IsRising, known_header, entry_at, headers_shown, entries_shown, with_headers, with_entries, is_lower, is_level, is_before, is_beside}
use Rattle.im_facts.specs.declared.facts.EntryFact.{EntryFact}
use Rattle.im_facts.proofs.OrderLemmas.{Rises, AreOne, FitsIn, each-weaker, each-more, puts-all, puts-rise, puts-found, puts-fit}
use Rattle.im_facts.proofs.PlaceLemmas.{header-order, entry-order, header-pairs, entry-pairs, beside-parts}
use Rattle.im_facts.proofs.ShownLemmas.{StateIsKept, shown-one, headers-fit}

-- the kept fact of an entry's place
abbrev pub fact_at : List EntryFact → EntryFact → Option EntryFact
fact_at facts fact = find (λ (kept : EntryFact). is_beside kept fact) facts

-- each header that a message shows is kept
abbrev pub KeepsHeaders : List Header → Message → Type 0
KeepsHeaders headers message = AllByRecursion (λ (header : Header). known_header headers header.id ≡ Some header) (headers_shown message)

-- each entry that it shows
abbrev pub KeepsEntries : List EntryFact → Message → Type 0
KeepsEntries facts message = AllByRecursion (λ (fact : EntryFact). fact_at facts fact ≡ Some fact) (entries_shown message)

-- a header was shown by one of these messages
abbrev pub WasShown : List Message → Header → Type 0
WasShown messages header = (message : Message) × Contains messages message × Contains (headers_shown message) header

-- an entry was
abbrev pub EntryWasShown : List Message → EntryFact → Type 0
EntryWasShown messages fact = (message : Message) × Contains messages message × Contains (entries_shown message) fact

-- all of it
pub record IsSound (known : Known) : Type 0 where
  pub headers_rise : Rises Header is_lower known.headers
  pub entries_rise : Rises EntryFact is_before known.entries
  pub state : StateIsKept known
  pub headers_kept : AllByRecursion (KeepsHeaders known.headers) known.messages
  pub entries_kept : AllByRecursion (KeepsEntries known.entries) known.messages
  pub headers_shown : AllByRecursion (WasShown known.messages) known.headers
  pub entries_shown : AllByRecursion (EntryWasShown known.messages) known.entries

-- of nothing
pub nothing-sound : IsSound nothing
nothing-sound = record { headers_rise = tt; entries_rise = tt; state = tt; headers_kept = tt; entries_kept = tt; headers_shown = tt; entries_shown = tt }

-- a header that was found is found behind more
pub header-found : (headers more : List Header) (t : ℕ) (h : Header) → Rises Header is_lower headers → h.id ≡ t → known_header headers t ≡ Some h → known_header (with_headers headers more) t ≡ Some h
header-found headers more t h rises e is =
    let there : known_header headers h.id ≡ Some h = ap (λ (n : ℕ). known_header headers n) e ∙ is in
    ap (λ (n : ℕ). known_header (with_headers headers more) n) (sym e) ∙ puts-found Header is_lower is_level header-order headers more h h rises there

-- the headers of a message that was kept are kept behind more
still-headers : (headers more : List Header) (message : Message) → Rises Header is_lower headers → KeepsHeaders headers message → KeepsHeaders (with_headers headers more) message
still-headers headers more message rises keeps =
    each-weaker (λ (h : Header). known_header headers h.id ≡ Some h) (λ (h : Header). known_header (with_headers headers more) h.id ≡ Some h)
    (λ h is. puts-found Header is_lower is_level header-order headers more h h rises is) (headers_shown message) keeps

still-entries : (facts more : List EntryFact) (message : Message) → Rises EntryFact is_before facts → KeepsEntries facts message → KeepsEntries (with_entries facts more) message
still-entries facts more message rises keeps =
    each-weaker (λ (f : EntryFact). fact_at facts f ≡ Some f) (λ (f : EntryFact). fact_at (with_entries facts more) f ≡ Some f)
    (λ f is. puts-found EntryFact is_before is_beside entry-order facts more f f rises is) (entries_shown message) keeps

-- the entries of a message are one at most
entries-one : (message : Message) → AreOne EntryFact is_before is_beside entry-order (entries_shown message)
entries-one (says.State header) = tt
entries-one (says.Dual dual) = tt
entries-one (says.Advance dual anchor) = tt
entries-one (says.Item dual entry index path) = (tt, tt)

same-fact : (a b : EntryFact) → a.tx ≡ b.tx → a.index ≡ b.index → a.entry ≡ b.entry → a ≡ b
same-fact a b p q r = λ i. record { tx = p i; index = q i; entry = r i }

pass-step : {X : Type 0} (p : X → Bool) (b : Bool) (y x : X) (r : Option X) → p y ≡ b → cond b (Some y) r ≡ Some x → (r ≡ Some x → p x ≡ true) → p x ≡ true
pass-step {X = X} p true y x r e is next = subst (λ (z : X). p z ≡ true) (some-is y x is) e
pass-step p false y x r e is next = next is

-- what is found passes the test
pub found-passes : {X : Type 0} (p : X → Bool) (xs : List X) (x : X) → find p xs ≡ Some x → p x ≡ true
found-passes p [] x is = absurd cc
found-passes p (y ∷ ys) x is = pass-step p (p y) y x (find p ys) refl is (found-passes p ys x)

-- an entry that is unlike no kept one
entry-fits : (facts : List EntryFact) (fact : EntryFact) → IfSome (entry_at facts fact.tx fact.index) (λ kept. kept ≡ fact.entry) → IfSome (fact_at facts fact) (λ kept. kept ≡ fact)
entry-fits facts fact fits = go (fact_at facts fact) refl fits
  where
    go : (r : Option EntryFact) → fact_at facts fact ≡ r → IfSome (option_map (λ (f : EntryFact). f.entry) r) (λ kept. kept ≡ fact.entry) → IfSome r (λ kept. kept ≡ fact)
    go None e f = tt
    go (Some k) e f =
        let both = beside-parts k.tx k.index fact.tx fact.index (found-passes (λ (kept : EntryFact). is_beside kept fact) facts k e) in
        same-fact k fact both.0 both.1 f

-- so of all that a message shows
pub entries-fit : (known : Known) (message : Message) → Agrees known message → AllByRecursion (FitsIn EntryFact is_before is_beside entry-order known.entries) (entries_shown message)
entries-fit known message agrees =
    each-weaker (λ (fact : EntryFact). IfSome (entry_at known.entries fact.tx fact.index) (λ kept. kept ≡ fact.entry)) (FitsIn EntryFact is_before is_beside entry-order known.entries)
    (entry-fits known.entries) (entries_shown message)
    (recursion_from_All (λ (fact : EntryFact). IfSome (entry_at known.entries fact.tx fact.index) (λ kept. kept ≡ fact.entry)) (entries_shown message) agrees.entries)

-- the state behind a message is kept
state-step : (headers : List Header) (state : Option Header) (m : Message) → Rises Header is_lower headers → IfSome state (λ (s : Header). known_header headers s.id ≡ Some s)
    → AllByRecursion (λ (h : Header). known_header (with_headers headers (headers_shown m)) h.id ≡ Some h) (headers_shown m)
    → IfSome (state_with state m) (λ (s : Header). known_header (with_headers headers (headers_shown m)) s.id ≡ Some s)
state-step headers None (says.State header) rises kept found = found.0
state-step headers (Some s) (says.State header) rises kept found = header-found headers (headers_shown (says.State header)) s.id s rises refl kept
state-step headers None (says.Dual dual) rises kept found = tt
state-step headers (Some s) (says.Dual dual) rises kept found = header-found headers (headers_shown (says.Dual dual)) s.id s rises refl kept
state-step headers None (says.Advance dual anchor) rises kept found = found.1.0
state-step headers (Some s) (says.Advance dual anchor) rises kept found = found.1.0
state-step headers None (says.Item dual entry index path) rises kept found = tt
state-step headers (Some s) (says.Item dual entry index path) rises kept found = header-found headers (headers_shown (says.Item dual entry index path)) s.id s rises refl kept

-- what one message shows
shown-now : (messages : List Message) (m : Message) → AllByRecursion (WasShown (messages ++ m ∷ [])) (headers_shown m)
shown-now messages m =
    each-weaker (Contains (headers_shown m)) (WasShown (messages ++ m ∷ [])) (λ h on. (m, Contains-push messages m, on)) (headers_shown m)
    (recursion_from_All (Contains (headers_shown m)) (headers_shown m) (All-contains_itself (headers_shown m)))

entry-shown-now : (messages : List Message) (m : Message) → AllByRecursion (EntryWasShown (messages ++ m ∷ [])) (entries_shown m)
entry-shown-now messages m =
    each-weaker (Contains (entries_shown m)) (EntryWasShown (messages ++ m ∷ [])) (λ f on. (m, Contains-push messages m, on)) (entries_shown m)
    (recursion_from_All (Contains (entries_shown m)) (entries_shown m) (All-contains_itself (entries_shown m)))

-- an accepted message keeps all of it
pub sound-step : (hash : Hash) (known : Known) (m : Message) → IsAccepted hash known m → IsSound known → IsSound (with_message known m)
sound-step hash known m accepted sound =
    let found = puts-fit Header is_lower is_level header-order known.headers (headers_shown m) sound.headers_rise (shown-one hash known m accepted sound.state) (headers-fit known m accepted.agrees) in
    let entries = puts-fit EntryFact is_before is_beside entry-order known.entries (entries_shown m) sound.entries_rise (entries-one m) (entries-fit known m accepted.agrees) in
    record {
      headers_rise = puts-rise Header is_lower is_level header-order known.headers (headers_shown m) sound.headers_rise;
      entries_rise = puts-rise EntryFact is_before is_beside entry-order known.entries (entries_shown m) sound.entries_rise;
      state = state-step known.headers known.state m sound.headers_rise sound.state found;
      headers_kept = each-more (KeepsHeaders (with_headers known.headers (headers_shown m))) known.messages m
          (each-weaker (KeepsHeaders known.headers) (KeepsHeaders (with_headers known.headers (headers_shown m))) (λ n keeps. still-headers known.headers (headers_shown m) n sound.headers_rise keeps) known.messages sound.headers_kept)
          found;
      entries_kept = each-more (KeepsEntries (with_entries known.entries (entries_shown m))) known.messages m
          (each-weaker (KeepsEntries known.entries) (KeepsEntries (with_entries known.entries (entries_shown m))) (λ n keeps. still-entries known.entries (entries_shown m) n sound.entries_rise keeps) known.messages sound.entries_kept)
          entries;
      headers_shown = puts-all is_lower is_level (WasShown (known.messages ++ m ∷ [])) known.headers (headers_shown m)
          (each-weaker (WasShown known.messages) (WasShown (known.messages ++ m ∷ [])) (λ h w. (w.0, Contains-append_left known.messages (m ∷ []) w.0 w.1, w.2)) known.headers sound.headers_shown)
          (shown-now known.messages m);
      entries_shown = puts-all is_before is_beside (EntryWasShown (known.messages ++ m ∷ [])) known.entries (entries_shown m)
          (each-weaker (EntryWasShown known.messages) (EntryWasShown (known.messages ++ m ∷ [])) (λ f w. (w.0, Contains-append_left known.messages (m ∷ []) w.0 w.1, w.2)) known.entries sound.entries_shown)
          (entry-shown-now known.messages m);
    }

-- so do messages that are accepted one after the other
pub sound-after : (hash : Hash) (known : Known) (messages : List Message) → AreAccepted hash known messages → IsSound known → IsSound (known_after known messages)
sound-after hash known [] accepted sound = sound
sound-after hash known (m ∷ messages) accepted sound = sound-after hash (with_message known m) messages accepted.1 (sound-step hash known m accepted.0 sound)

-- what a client knows is so
pub client-sound : (hash : Hash) (known : Known) → IsClient hash known → IsSound known
client-sound hash known client = subst IsSound (sym client.led) (sound-after hash nothing known.messages client.accepted nothing-sound)

-- its facts rise
pub client-rises : (hash : Hash) (known : Known) → IsClient hash known → IsRising known
client-rises hash known client =
    let sound = client-sound hash known client in
    record { headers = header-pairs known.headers sound.headers_rise; entries = entry-pairs known.entries sound.entries_rise }

some-state : (headers : List Header) (r : Option Header) (s : Header) → r ≡ Some s → IfSome r (λ (t : Header). known_header headers t.id ≡ Some t) → known_header headers s.id ≡ Some s
some-state headers r s e kept = subst (λ (o : Option Header). IfSome o (λ (t : Header). known_header headers t.id ≡ Some t)) e kept

-- its state is the kept header of its number
pub client-state : (hash : Hash) (known : Known) (state : Header) → IsClient hash known → known.state ≡ Some state → known_header known.headers state.id ≡ Some state
client-state hash known state client e = some-state known.headers known.state state e (client-sound hash known client).state

-- each header that one of its messages shows is kept
pub client-header : (hash : Hash) (known : Known) (message : Message) (header : Header) → IsClient hash known → Contains known.messages message → Contains (headers_shown message) header
    → known_header known.headers header.id ≡ Some header
client-header hash known message header client on shown =
    All-contains (λ (h : Header). known_header known.headers h.id ≡ Some h) (headers_shown message) header
    (All-from_recursion (λ (h : Header). known_header known.headers h.id ≡ Some h) (headers_shown message)
    (All-contains (KeepsHeaders known.headers) known.messages message (All-from_recursion (KeepsHeaders known.headers) known.messages (client-sound hash known client).headers_kept) on))
    shown

-- each entry too
pub client-entry : (hash : Hash) (known : Known) (message : Message) (fact : EntryFact) → IsClient hash known → Contains known.messages message → Contains (entries_shown message) fact
    → entry_at known.entries fact.tx fact.index ≡ Some fact.entry
client-entry hash known message fact client on shown =
    ap (λ (r : Option EntryFact). option_map (λ (f : EntryFact). f.entry) r)
    (All-contains (λ (f : EntryFact). fact_at known.entries f ≡ Some f) (entries_shown message) fact
    (All-from_recursion (λ (f : EntryFact). fact_at known.entries f ≡ Some f) (entries_shown message)
    (All-contains (KeepsEntries known.entries) known.messages message (All-from_recursion (KeepsEntries known.entries) known.messages (client-sound hash known client).entries_kept) on))
    shown)

-- each kept header was shown by one of them
pub client-shown : (hash : Hash) (known : Known) (header : Header) → IsClient hash known → Contains known.headers header → WasShown known.messages header
client-shown hash known header client on =
    All-contains (WasShown known.messages) known.headers header (All-from_recursion (WasShown known.messages) known.headers (client-sound hash known client).headers_shown) on

-- each kept entry too
pub client-entry-shown : (hash : Hash) (known : Known) (fact : EntryFact) → IsClient hash known → Contains known.entries fact → EntryWasShown known.messages fact
client-entry-shown hash known fact client on =
    All-contains (EntryWasShown known.messages) known.entries fact (All-from_recursion (EntryWasShown known.messages) known.entries (client-sound hash known client).entries_shown) on

-- no two of its messages show unequal headers of one number
pub headers-one : (hash : Hash) (known : Known) (m n : Message) (a b : Header) → IsClient hash known → Contains known.messages m → Contains known.messages n
    → Contains (headers_shown m) a → Contains (headers_shown n) b → a.id ≡ b.id → a ≡ b
headers-one hash known m n a b client on on2 shown shown2 e =
    some-is a b (sym (client-header hash known m a client on shown) ∙ ap (λ (t : ℕ). known_header known.headers t) e ∙ client-header hash known n b client on2 shown2)

-- nor unequal entries of one place
pub entries-of-one : (hash : Hash) (known : Known) (m n : Message) (a b : EntryFact) → IsClient hash known → Contains known.messages m → Contains known.messages n
    → Contains (entries_shown m) a → Contains (entries_shown n) b → a.tx ≡ b.tx → a.index ≡ b.index → a.entry ≡ b.entry
entries-of-one hash known m n a b client on on2 shown shown2 e f =
    some-is a.entry b.entry
    (sym (client-entry hash known m a client on shown) ∙ ap (λ (t : ℕ). entry_at known.entries t a.index) e
    ∙ ap (λ (i : ℕ). entry_at known.entries b.tx i) f ∙ client-entry hash known n b client on2 shown2)

-- what was found of a number is still found
pub client-still-header : (hash : Hash) (known : Known) (message : Message) (t : ℕ) (header : Header) → IsClient hash known → known_header known.headers t ≡ Some header
    → known_header (with_message known message).headers t ≡ Some header
client-still-header hash known message t header client is =
    header-found known.headers (headers_shown message) t header (client-sound hash known client).headers_rise
    (eqb-true header.id t (found-passes (λ (h : Header). nat_eq h.id t) known.headers header is)) is

entry-found : (facts more : List EntryFact) (t i : ℕ) (entry : Entry) (r : Option EntryFact) → Rises EntryFact is_before facts → find (λ (f : EntryFact). nat_eq f.tx t && nat_eq f.index i) facts ≡ r
    → option_map (λ (f : EntryFact). f.entry) r ≡ Some entry → entry_at (with_entries facts more) t i ≡ Some entry
entry-found facts more t i entry None rises e is = absurd cc
entry-found facts more t i entry (Some k) rises e is =
    let both = beside-parts k.tx k.index t i (found-passes (λ (f : EntryFact). nat_eq f.tx t && nat_eq f.index i) facts k e) in
    let there : fact_at facts k ≡ Some k = ap (λ (n : ℕ). find (λ (f : EntryFact). nat_eq f.tx n && nat_eq f.index k.index) facts) both.0
    ∙ ap (λ (m : ℕ). find (λ (f : EntryFact). nat_eq f.tx t && nat_eq f.index m) facts) both.1 ∙ e in
    let still : fact_at (with_entries facts more) k ≡ Some k = puts-found EntryFact is_before is_beside entry-order facts more k k rises there in
    let now : find (λ (f : EntryFact). nat_eq f.tx t && nat_eq f.index i) (with_entries facts more) ≡ Some k =
    ap (λ (n : ℕ). find (λ (f : EntryFact). nat_eq f.tx n && nat_eq f.index i) (with_entries facts more)) (sym both.0)
    ∙ ap (λ (m : ℕ). find (λ (f : EntryFact). nat_eq f.tx k.tx && nat_eq f.index m) (with_entries facts more)) (sym both.1) ∙ still in
    ap (λ (o : Option EntryFact). option_map (λ (f : EntryFact). f.entry) o) now ∙ is

-- what was found of a place is
pub client-still-entry : (hash : Hash) (known : Known) (message : Message) (t i : ℕ) (entry : Entry) → IsClient hash known → entry_at known.entries t i ≡ Some entry
    → entry_at (with_message known message).entries t i ≡ Some entry
client-still-entry hash known message t i entry client is =
    entry-found known.entries (entries_shown message) t i entry (find (λ (f : EntryFact). nat_eq f.tx t && nat_eq f.index i) known.entries) (client-sound hash known client).entries_rise refl is
