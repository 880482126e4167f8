-- All that a client knows holds under its state, or there are two unequal strings of one digest.
use Rattle.std.proofs.Common.{◌≡◌, ◌⊎◌, ◌<◌, ℕ, Bool, true, false, cond, List, [], ◌∷◌, ◌++◌, nat_eq, Option, Some, None, Ok, refl, ap, subst, sym, ◌∙◌, inl, inr}
use Rattle.std.specs.Prelude.{IfSome}
use Rattle.std.specs.List.{AllByRecursion, find}
use Rattle.std.proofs.lemmas.Bool.{eqb-true}
use Rattle.std.proofs.lemmas.List.Concat.{flat_map-cons}
use Rattle.std.proofs.lemmas.List.Elements.{recursion_from_All, All-from_recursion, All-contains, Contains-push}
use Rattle.im_octet.proofs.Common.{some-is}
use Rattle.im_digest.specs.Digests.{Hash, GivesDigests}
use Rattle.im_model.specs.declared.headers.Header.{Header}
use Rattle.im_mtree.specs.Checks.{first_fail}
use Rattle.im_pairs.specs.Pairs.{AreAmong, HasPair}
use Rattle.im_carried.proofs.PassLemmas.{left-among, right-among}
use Rattle.im_hashed.specs.Messages.{message_strings, strings_of}
use Rattle.im_hashed.proofs.FitsLemmas.{header-fits}
use Rattle.im_wire.specs.Fits.{IsMessage}
use Rattle.im_wire.specs.declared.messages.Message.{Message}
use Rattle.im_wire.specs.declared.messages.Message.TheVariants as says
use Rattle.im_client.specs.Lines.{state_with}
use Rattle.im_client.specs.LineChecks.{line_checks}
use Rattle.im_facts.specs.Accepted.{IsAccepted, AreAccepted, IsClient}
use Rattle.im_facts.specs.Facts.{Known, nothing, with_message, known_after, known_header, headers_shown, entries_shown, with_headers, with_entries, is_lower, is_level, is_before, is_beside, IsAlike}
use Rattle.im_facts.specs.Held.{HoldsHeader, HoldsEntry, HoldsUnder, HoldsKnown}
use Rattle.im_facts.specs.declared.facts.EntryFact.{EntryFact}
use Rattle.im_facts.proofs.OrderLemmas.{Rises, each-weaker, puts-all}
use Rattle.im_facts.proofs.ShownLemmas.{is-state, headers-fit}
use Rattle.im_facts.proofs.KnownLemmas.{KeepsHeaders, IsSound, nothing-sound, sound-step, header-found, found-passes}
use Rattle.im_facts.proofs.ShowLemmas.{state-tree, advance-shown}
use Rattle.im_facts.proofs.HoldLemmas.{met_by, state_behind, PassesUnder, shown-holds, goes-on, each-or-pair, entries_under, LiesInShown, entries-lie, meets, state-holds}

find-step : {X : Type 0} (P : X → Type 0) (b : Bool) (y x : X) (r : Option X) → cond b (Some y) r ≡ Some x → P y → (r ≡ Some x → P x) → P x
find-step P true y x r e here next = subst P (some-is y x e) here
find-step P false y x r e here next = next e

-- what holds of each holds of the one that is found
pub found-holds : {X : Type 0} (p : X → Bool) (P : X → Type 0) (xs : List X) (x : X) → find p xs ≡ Some x → AllByRecursion P xs → P x
found-holds p P [] x e all = absurd cc
found-holds p P (y ∷ ys) x e all = find-step P (p y) y x (find p ys) e all.0 (λ r. found-holds p P ys x r all.1)

-- a header that is found has the number
pub found-id : (headers : List Header) (t : ℕ) (header : Header) → known_header headers t ≡ Some header → header.id ≡ t
found-id headers t header e = eqb-true header.id t (found-passes (λ (h : Header). nat_eq h.id t) headers header e)

-- the headers that a message showed are kept behind it
pub kept-now : (known : Known) (m : Message) → IsSound (with_message known m) → KeepsHeaders (with_message known m).headers m
kept-now known m sound =
    All-contains (KeepsHeaders (with_message known m).headers) (known.messages ++ m ∷ []) m
    (All-from_recursion (KeepsHeaders (with_message known m).headers) (known.messages ++ m ∷ []) sound.headers_kept) (Contains-push known.messages m)

-- among them the one that its entries lie under
under-kept : (headers : List Header) (m : Message) → KeepsHeaders headers m → known_header headers (entries_under m).id ≡ Some (entries_under m)
under-kept headers (says.State header) keeps = keeps.0
under-kept headers (says.Dual dual) keeps = keeps.0
under-kept headers (says.Advance dual anchor) keeps = keeps.0
under-kept headers (says.Item dual entry index path) keeps = keeps.0

-- the header that the line checks compare fits in among the kept ones
met-fits_at : (headers : List Header) (m : Message) → AllByRecursion (IsAlike headers) (headers_shown m) → IsAlike headers (met_by m)
met-fits_at headers (says.State header) fits = fits.0
met-fits_at headers (says.Dual dual) fits = fits.1.0
met-fits_at headers (says.Advance dual anchor) fits = fits.0
met-fits_at headers (says.Item dual entry index path) fits = fits.1.0

-- the state that follows
state-after : (state : Header) (m : Message) → state_with (Some state) m ≡ Some (state_behind state m)
state-after state (says.State header) = refl
state-after state (says.Dual dual) = refl
state-after state (says.Advance dual anchor) = refl
state-after state (says.Item dual entry index path) = refl

-- its tree is below it
tree-behind : (hash : Hash) (state : Header) (m : Message) (strings : List (List ℕ)) → IsMessage m → PassesUnder hash state m → AreAmong (message_strings hash m) strings → state.bl_tx_id < state.id
    → (state_behind state m).bl_tx_id < (state_behind state m).id
tree-behind hash state (says.State header) strings fits h among tree = tree
tree-behind hash state (says.Dual dual) strings fits h among tree = tree
tree-behind hash state (says.Advance dual anchor) strings fits h among tree = (advance-shown hash state dual anchor strings fits.0 fits.1 h among).dual.target_tree
tree-behind hash state (says.Item dual entry index path) strings fits h among tree = tree

-- a client that knows nothing takes a state
first-step : (hash : Hash) → GivesDigests hash → (m : Message) (strings : List (List ℕ)) → AreAmong (message_strings hash m) strings → IsMessage m → IsAccepted hash nothing m → IsSound (with_message nothing m)
    → HoldsKnown hash (with_message nothing m) strings
first-step hash size (says.State header) strings among fits accepted sound =
    let tree : header.bl_tx_id < header.id = state-tree hash None header accepted.passes in
    inr (
      header,
      record {
        is = refl;
        kept = (kept-now nothing (says.State header) sound).0;
        tree = tree;
        headers = All-from_recursion (HoldsHeader hash header strings) (header ∷ []) (state-holds hash size header strings (header-fits header fits) tree among, tt);
        entries = All-from_recursion (HoldsEntry hash (with_message nothing (says.State header)).headers strings) [] tt;
      },
    )
first-step hash size (says.Dual dual) strings among fits accepted sound = absurd (let odd = accepted.passes in cc)
first-step hash size (says.Advance dual anchor) strings among fits accepted sound = absurd (let odd = accepted.passes in cc)
first-step hash size (says.Item dual entry index path) strings among fits accepted sound = absurd (let odd = accepted.passes in cc)

-- an entry that lay under its kept header lies under it still
still-under : (hash : Hash) (headers more : List Header) (strings : List (List ℕ)) → Rises Header is_lower headers → (fact : EntryFact) → HoldsEntry hash headers strings fact → HoldsEntry hash (with_headers headers more) strings fact
still-under hash headers more strings rises fact holds =
    (holds.0, header-found headers more fact.tx holds.0 rises (found-id headers fact.tx holds.0 holds.1) holds.1, holds.2)

-- one that is shown lies under a header that is kept now
now-under : (hash : Hash) (headers : List Header) (m : Message) (strings : List (List ℕ)) → KeepsHeaders headers m → (fact : EntryFact) → LiesInShown hash m strings fact → HoldsEntry hash headers strings fact
now-under hash headers m strings keeps fact lies =
    let one : known_header headers lies.header.id ≡ Some lies.header = subst (λ (h : Header). known_header headers h.id ≡ Some h) (sym lies.is) (under-kept headers m keeps) in
    (lies.header, ap (λ (t : ℕ). known_header headers t) lies.tx ∙ one, lies.lies)

-- what is known behind an accepted message, where each header of before was carried
under-step : (hash : Hash) → GivesDigests hash → (known : Known) (m : Message) (strings : List (List ℕ)) (state : Header) → AreAmong (message_strings hash m) strings → IsMessage m → PassesUnder hash state m
    → IsSound known → IsSound (with_message known m) → HoldsUnder hash state known strings
    → AllByRecursion (HoldsHeader hash (state_behind state m) strings) known.headers → AllByRecursion (HoldsHeader hash (state_behind state m) strings) (headers_shown m)
    → HoldsUnder hash (state_behind state m) (with_message known m) strings
under-step hash size known m strings state among fits passes sound sound2 under carried shown =
    let headers : List Header = with_headers known.headers (headers_shown m) in
    let is : state_with known.state m ≡ Some (state_behind state m) = ap (λ (s : Option Header). state_with s m) under.is ∙ state-after state m in
    record {
      is = is;
      kept = subst (λ (o : Option Header). IfSome o (λ (s : Header). known_header headers s.id ≡ Some s)) is sound2.state;
      tree = tree-behind hash state m strings fits passes among under.tree;
      headers = All-from_recursion (HoldsHeader hash (state_behind state m) strings) headers
          (puts-all is_lower is_level (HoldsHeader hash (state_behind state m) strings) known.headers (headers_shown m) carried shown);
      entries = All-from_recursion (HoldsEntry hash headers strings) (with_entries known.entries (entries_shown m))
          (puts-all is_before is_beside (HoldsEntry hash headers strings) known.entries (entries_shown m)
          (each-weaker (HoldsEntry hash known.headers strings) (HoldsEntry hash headers strings) (still-under hash known.headers (headers_shown m) strings sound.headers_rise) known.entries
          (recursion_from_All (HoldsEntry hash known.headers strings) known.entries under.entries))
          (each-weaker (LiesInShown hash m strings) (HoldsEntry hash headers strings) (now-under hash headers m strings (kept-now known m sound2)) (entries_shown m)
          (entries-lie hash state m strings fits passes among)));
    }

-- what is known behind an accepted message holds, or there is a pair
known-step : (hash : Hash) → GivesDigests hash → (known : Known) (m : Message) (strings : List (List ℕ)) (state : Header) → AreAmong (message_strings hash m) strings → IsMessage m → IsAccepted hash known m
    → IsSound known → IsSound (with_message known m) → HoldsUnder hash state known strings → HoldsKnown hash (with_message known m) strings ⊎ HasPair hash strings
known-step hash size known m strings state among fits accepted sound sound2 under =
    let passes : PassesUnder hash state m = subst (λ (s : Option Header). first_fail (line_checks hash s m) ≡ Ok tt) under.is accepted.passes in
    let same : met_by m ≡ state = sym (is-state known.headers state (met_by m) under.kept (met-fits_at known.headers m (headers-fit known m accepted.agrees)) (meets hash state m passes).id) in
    elim (each-or-pair (HasPair hash strings) (HoldsHeader hash state strings) (HoldsHeader hash (state_behind state m) strings) (goes-on hash size state m strings fits passes among same) known.headers
    (recursion_from_All (HoldsHeader hash state strings) known.headers under.headers)) [
      | inl carried ↦ elim (shown-holds hash size state m strings fits passes among under.tree same) [
        | inl shown ↦ inl (inr (state_behind state m, under-step hash size known m strings state among fits passes sound sound2 under carried shown))
        | inr pair ↦ inr pair
      ]
      | inr pair ↦ inr pair
    ]

holds-step : (hash : Hash) → GivesDigests hash → (known : Known) (m : Message) (strings : List (List ℕ)) → AreAmong (message_strings hash m) strings → IsMessage m → IsAccepted hash known m
    → IsSound known → HoldsKnown hash known strings → HoldsKnown hash (with_message known m) strings ⊎ HasPair hash strings
holds-step hash size known m strings among fits accepted sound holds =
    let sound2 = sound-step hash known m accepted sound in
    elim holds [
      | inl none ↦ subst (λ (k : Known). IsAccepted hash k m → IsSound (with_message k m) → HoldsKnown hash (with_message k m) strings ⊎ HasPair hash strings) (sym none)
          (λ a s. inl (first-step hash size m strings among fits a s)) accepted sound2
      | inr under ↦ known-step hash size known m strings under.0 among fits accepted sound sound2 under.1
    ]

-- so behind messages that are accepted one after the other
holds-after : (hash : Hash) → GivesDigests hash → (strings : List (List ℕ)) (known : Known) (messages : List Message) → AreAmong (strings_of hash messages) strings → AllByRecursion IsMessage messages
    → AreAccepted hash known messages → IsSound known → HoldsKnown hash known strings → HoldsKnown hash (known_after known messages) strings ⊎ HasPair hash strings
holds-after hash size strings known [] among fits accepted sound holds = inl holds
holds-after hash size strings known (m ∷ messages) among fits accepted sound holds =
    let both : AreAmong (message_strings hash m ++ strings_of hash messages) strings = subst (λ l. AreAmong l strings) (flat_map-cons (message_strings hash) m messages) among in
    elim (holds-step hash size known m strings (left-among (message_strings hash m) (strings_of hash messages) strings both) fits.0 accepted.0 sound holds) [
      | inl next ↦ holds-after hash size strings (with_message known m) messages (right-among (message_strings hash m) (strings_of hash messages) strings both) fits.1 accepted.1
          (sound-step hash known m accepted.0 sound) next
      | inr pair ↦ inr pair
    ]

-- so of a client
pub client-holds : (hash : Hash) → GivesDigests hash → (known : Known) (strings : List (List ℕ)) → IsClient hash known → AreAmong (strings_of hash known.messages) strings → HoldsKnown hash known strings ⊎ HasPair hash strings
client-holds hash size known strings client among =
    subst (λ (k : Known). HoldsKnown hash k strings ⊎ HasPair hash strings) (sym client.led)
    (holds-after hash size strings nothing known.messages among (recursion_from_All IsMessage known.messages client.fit) client.accepted nothing-sound (inl refl))
