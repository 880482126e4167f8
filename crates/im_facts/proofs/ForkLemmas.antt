-- A second fact for the place of a kept one comes with two unequal strings of one digest.
use Rattle.std.proofs.Common.{◌≡◌, ◌⊎◌, ◌&&◌, ℕ, List, [], ◌∷◌, ◌++◌, nat_eq, Option, Some, None, Ok, refl, ap, subst, sym, ◌∙◌, inl, inr, append-nil, Contains}
use Rattle.std.specs.Prelude.{option_map}
use Rattle.std.specs.List.{AllByRecursion, find}
use Rattle.std.proofs.lemmas.Grind.{flat_map-append}
use Rattle.std.proofs.lemmas.List.Concat.{flat_map-cons}
use Rattle.std.proofs.lemmas.List.Elements.{recursion_from_All, All-from_recursion, All-contains}
use Rattle.im_octet.proofs.Common.{some-is}
use Rattle.im_digest.specs.Digests.{Hash, GivesDigests}
use Rattle.im_model.specs.Entries.{entry_digest}
use Rattle.im_model.specs.Headers.{alh, header_strings}
use Rattle.im_model.specs.declared.entries.Entry.{Entry}
use Rattle.im_model.specs.declared.headers.Header.{Header}
use Rattle.im_mtree.specs.Checks.{first_fail}
use Rattle.im_proof.specs.declared.proofs.DualProof.{DualProof}
use Rattle.im_pairs.specs.Leads.{Leads}
use Rattle.im_pairs.specs.Pairs.{AreAmong, HasPair}
use Rattle.im_pairs.specs.Ranges.{HeaderFits}
use Rattle.im_pairs.proofs.EntryLemmas.{same_entry_led}
use Rattle.im_pairs.proofs.HeaderLemmas.{same_header}
use Rattle.im_carried.specs.Opened.{IsOpened}
use Rattle.im_carried.proofs.AdvanceLemmas.{advance}
use Rattle.im_carried.proofs.OpenLemmas.{same_opened}
use Rattle.im_carried.proofs.PassLemmas.{left-among, right-among}
use Rattle.im_hashed.specs.Messages.{message_strings, strings_of}
use Rattle.im_wire.specs.Fits.{IsMessage}
use Rattle.im_wire.specs.declared.messages.Message.{Message}
use Rattle.im_wire.specs.declared.messages.Message.TheVariants as says
use Rattle.im_client.specs.LineChecks.{line_checks, advance_line_checks}
use Rattle.im_facts.specs.Accepted.{Passes, IsClient}
use Rattle.im_facts.specs.Facts.{Known, nothing, Differs, HeaderDiffers, EntryDiffers, headers_shown, entries_shown}
use Rattle.im_facts.specs.Held.{HoldsHeader, LiesUnder, HoldsEntry, HoldsUnder}
use Rattle.im_facts.specs.declared.facts.EntryFact.{EntryFact}
use Rattle.im_facts.proofs.PlaceLemmas.{beside-parts}
use Rattle.im_facts.proofs.KnownLemmas.{found-passes}
use Rattle.im_facts.proofs.ShowLemmas.{advance-shown}
use Rattle.im_facts.proofs.HoldLemmas.{met_by, state_behind, PassesUnder, meets-or-pair, shown-holds, goes-on, each-or-pair, entries_under, LiesInShown, entries-lie}
use Rattle.im_facts.proofs.FoldLemmas.{found-holds, found-id, client-holds}

-- what holds of each holds of one of them
one-of : {X : Type 0} (P : X → Type 0) (xs : List X) (x : X) → AllByRecursion P xs → Contains xs x → P x
one-of P xs x all on = All-contains P xs x (All-from_recursion P xs all) on

-- an advance that passes under a state carries what is opened under it to its target, or there is a pair
pub advance-carries : (hash : Hash) → GivesDigests hash → (state : Header) (dual : DualProof) (anchor : Option DualProof) (t : ℕ) (a : List ℕ) (strings : List (List ℕ)) → HeaderFits state
    → IsMessage (says.Advance dual anchor) → first_fail (advance_line_checks hash state dual anchor) ≡ Ok tt → AreAmong (header_strings hash state) strings
    → AreAmong (message_strings hash (says.Advance dual anchor)) strings → IsOpened hash state t a strings → IsOpened hash dual.target t a strings ⊎ HasPair hash strings
advance-carries hash size state dual anchor t a strings fits fits2 h among among2 opened =
    elim (meets-or-pair hash state (says.Advance dual anchor) strings fits2 h among2 fits among) [
      | inl same ↦ advance hash size dual.source dual.target strings (advance-shown hash state dual anchor strings fits2.0 fits2.1 h among2).advance t a
          (subst (λ (k : Header). IsOpened hash k t a strings) (sym same) opened)
      | inr pair ↦ inr pair
    ]

-- two headers of one number that are opened under one state are one, or there is a pair
one-header : (hash : Hash) → GivesDigests hash → (state a b : Header) (strings : List (List ℕ)) → HoldsHeader hash state strings a → HoldsHeader hash state strings b → a.id ≡ b.id → (a ≡ b) ⊎ HasPair hash strings
one-header hash size state a b strings h k e =
    elim (same_opened hash size state b.id (alh hash a) (alh hash b) strings (subst (λ (t : ℕ). IsOpened hash state t (alh hash a) strings) e h.opened) k.opened) [
      | inl same ↦ same_header hash a b strings h.fits k.fits same h.shown k.shown
      | inr pair ↦ inr pair
    ]

-- two entries of one index that lie under one header are one, or there is a pair
one-entry : (hash : Hash) → GivesDigests hash → (header : Header) (a b : EntryFact) (strings : List (List ℕ)) → LiesUnder hash header strings a → LiesUnder hash header strings b → a.index ≡ b.index
    → (a.entry ≡ b.entry) ⊎ HasPair hash strings
one-entry hash size header a b strings h k e =
    same_entry_led hash size header.nentries b.index header.eh a.entry b.entry h.path k.path strings h.fits k.fits
    (subst (λ (i : ℕ). Leads hash header.nentries i (entry_digest hash a.entry) h.path header.eh strings) e h.leads) k.leads h.shown k.shown

-- the kept fact of a place
pub record FactFound (facts : List EntryFact) (t i : ℕ) (entry : Entry) : Type 0 where
  pub fact : EntryFact
  pub is : find (λ (f : EntryFact). nat_eq f.tx t && nat_eq f.index i) facts ≡ Some fact
  pub tx : fact.tx ≡ t
  pub index : fact.index ≡ i
  pub same : fact.entry ≡ entry

fact-found : (facts : List EntryFact) (t i : ℕ) (entry : Entry) (r : Option EntryFact) → find (λ (f : EntryFact). nat_eq f.tx t && nat_eq f.index i) facts ≡ r
    → option_map (λ (f : EntryFact). f.entry) r ≡ Some entry → FactFound facts t i entry
fact-found facts t i entry None e is = absurd cc
fact-found facts t i entry (Some fact) e is =
    let both = beside-parts fact.tx fact.index t i (found-passes (λ (f : EntryFact). nat_eq f.tx t && nat_eq f.index i) facts fact e) in
    record { fact = fact; is = e; tx = both.0; index = both.1; same = some-is fact.entry entry is }

-- the header that shown entries lie under is shown
under-shown : (P : Header → Type 0) (m : Message) → AllByRecursion P (headers_shown m) → P (entries_under m)
under-shown P (says.State header) all = all.0
under-shown P (says.Dual dual) all = all.0
under-shown P (says.Advance dual anchor) all = all.0
under-shown P (says.Item dual entry index path) all = all.0

-- of headers
header-fork : (hash : Hash) → GivesDigests hash → (known : Known) (m : Message) (state : Header) (strings : List (List ℕ)) → AllByRecursion (HoldsHeader hash state strings) known.headers
    → AllByRecursion (HoldsHeader hash state strings) (headers_shown m) → HeaderDiffers known m → HasPair hash strings
header-fork hash size known m state strings kept shown d =
    elim (one-header hash size state d.kept d.shown strings
    (found-holds (λ (h : Header). nat_eq h.id d.shown.id) (HoldsHeader hash state strings) known.headers d.kept d.is_kept kept)
    (one-of (HoldsHeader hash state strings) (headers_shown m) d.shown shown d.is_shown) (found-id known.headers d.shown.id d.kept d.is_kept)) [
      | inl same ↦ absurd (d.unlike same)
      | inr pair ↦ pair
    ]

-- of entries
entry-fork : (hash : Hash) → GivesDigests hash → (known : Known) (m : Message) (state : Header) (strings : List (List ℕ)) → AllByRecursion (HoldsHeader hash state strings) known.headers
    → AllByRecursion (HoldsHeader hash state strings) (headers_shown m) → AllByRecursion (HoldsEntry hash known.headers strings) known.entries → AllByRecursion (LiesInShown hash m strings) (entries_shown m)
    → EntryDiffers known m → HasPair hash strings
entry-fork hash size known m state strings kept shown entries lies d =
    let f = fact-found known.entries d.shown.tx d.shown.index d.kept (find (λ (f : EntryFact). nat_eq f.tx d.shown.tx && nat_eq f.index d.shown.index) known.entries) refl d.is_kept in
    let old = found-holds (λ (f : EntryFact). nat_eq f.tx d.shown.tx && nat_eq f.index d.shown.index) (HoldsEntry hash known.headers strings) known.entries f.fact f.is entries in
    let new = one-of (LiesInShown hash m strings) (entries_shown m) d.shown lies d.is_shown in
    let under : HoldsHeader hash state strings new.header = subst (HoldsHeader hash state strings) (sym new.is) (under-shown (HoldsHeader hash state strings) m shown) in
    let at : old.0.id ≡ new.header.id = found-id known.headers f.fact.tx old.0 old.1 ∙ f.tx ∙ new.tx in
    elim (one-header hash size state old.0 new.header strings (found-holds (λ (h : Header). nat_eq h.id f.fact.tx) (HoldsHeader hash state strings) known.headers old.0 old.1 kept) under at) [
      | inl same ↦ elim (one-entry hash size new.header f.fact d.shown strings (subst (λ (h : Header). LiesUnder hash h strings f.fact) same old.2) new.lies f.index) [
        | inl one ↦ absurd (d.unlike (sym f.same ∙ one))
        | inr pair ↦ pair
      ]
      | inr pair ↦ pair
    ]

-- of both, where the header that the line checks compare is the state
differs-under : (hash : Hash) → GivesDigests hash → (known : Known) (m : Message) (state : Header) (strings : List (List ℕ)) → IsMessage m → PassesUnder hash state m → AreAmong (message_strings hash m) strings
    → HoldsUnder hash state known strings → Differs known m → met_by m ≡ state → HasPair hash strings
differs-under hash size known m state strings fits passes among under differs same =
    elim (each-or-pair (HasPair hash strings) (HoldsHeader hash state strings) (HoldsHeader hash (state_behind state m) strings) (goes-on hash size state m strings fits passes among same) known.headers
    (recursion_from_All (HoldsHeader hash state strings) known.headers under.headers)) [
      | inl kept ↦ elim (shown-holds hash size state m strings fits passes among under.tree same) [
        | inl shown ↦ elim differs [
          | inl header ↦ header-fork hash size known m (state_behind state m) strings kept shown header
          | inr entry ↦ entry-fork hash size known m (state_behind state m) strings kept shown
              (recursion_from_All (HoldsEntry hash known.headers strings) known.entries under.entries) (entries-lie hash state m strings fits passes among) entry
        ]
        | inr pair ↦ pair
      ]
      | inr pair ↦ pair
    ]

-- where all that is known holds
fork-under : (hash : Hash) → GivesDigests hash → (known : Known) (m : Message) (state : Header) (strings : List (List ℕ)) → IsMessage m → Passes hash known m → AreAmong (message_strings hash m) strings
    → HoldsUnder hash state known strings → Differs known m → HasPair hash strings
fork-under hash size known m state strings fits passes among under differs =
    let passes2 : PassesUnder hash state m = subst (λ (s : Option Header). first_fail (line_checks hash s m) ≡ Ok tt) under.is passes in
    let one = found-holds (λ (h : Header). nat_eq h.id state.id) (HoldsHeader hash state strings) known.headers state under.kept (recursion_from_All (HoldsHeader hash state strings) known.headers under.headers) in
    elim (meets-or-pair hash state m strings fits passes2 among one.fits one.shown) [
      | inl same ↦ differs-under hash size known m state strings fits passes2 among under differs same
      | inr pair ↦ pair
    ]

-- nothing differs from nothing
nothing-differs : (m : Message) → Differs nothing m → ⊥
nothing-differs m (inl header) = absurd (let odd = header.is_kept in cc)
nothing-differs m (inr entry) = absurd (let odd = entry.is_kept in cc)

-- a message that passes and differs comes with a pair
pub second-fact : (hash : Hash) → GivesDigests hash → (known : Known) (m : Message) → IsClient hash known → IsMessage m → Passes hash known m → Differs known m
    → HasPair hash (strings_of hash (known.messages ++ m ∷ []))
second-fact hash size known m client fits passes differs =
    let strings : List (List ℕ) = strings_of hash (known.messages ++ m ∷ []) in
    let cut : strings ≡ strings_of hash known.messages ++ message_strings hash m =
    flat_map-append (message_strings hash) known.messages (m ∷ []) ∙ ap (λ l. strings_of hash known.messages ++ l) (flat_map-cons (message_strings hash) m [] ∙ append-nil (message_strings hash m)) in
    let all : AreAmong (strings_of hash known.messages ++ message_strings hash m) strings = subst (λ l. AreAmong l strings) cut (λ x c. c) in
    elim (client-holds hash size known strings client (left-among (strings_of hash known.messages) (message_strings hash m) strings all)) [
      | inl holds ↦ elim holds [
        | inl none ↦ absurd (nothing-differs m (subst (λ (k : Known). Differs k m) none differs))
        | inr under ↦ fork-under hash size known m under.0 strings fits passes (right-among (strings_of hash known.messages) (message_strings hash m) strings all) under.1 differs
      ]
      | inr pair ↦ pair
    ]
