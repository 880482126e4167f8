-- What a message shows holds under the state behind it, and what held before it goes on to hold, or there are two unequal
-- strings of one digest.
use Rattle.std.proofs.Common.{◌≡◌, ◌⊎◌, ◌<◌, ℕ, List, [], ◌∷◌, ◌++◌, reverse, Option, Some, None, Ok, refl, subst, sym, inl, inr}
use Rattle.std.specs.List.{AllByRecursion}
use Rattle.im_digest.specs.Digests.{Hash, GivesDigests}
use Rattle.im_model.specs.Entries.{entry_digest, entry_strings}
use Rattle.im_model.specs.Headers.{alh, header_strings}
use Rattle.im_model.specs.Paths.{up_strings}
use Rattle.im_model.specs.declared.headers.Header.{Header}
use Rattle.im_mtree.specs.Checks.{first_fail}
use Rattle.im_proof.specs.declared.proofs.DualProof.{DualProof}
use Rattle.im_pairs.specs.Pairs.{AreAmong, HasPair}
use Rattle.im_pairs.specs.Ranges.{HeaderFits}
use Rattle.im_pairs.proofs.HeaderLemmas.{same_header}
use Rattle.im_carried.specs.Hashed.{dual_strings}
use Rattle.im_carried.specs.Opened.{IsOpened}
use Rattle.im_carried.specs.Shown.{ShowsDual}
use Rattle.im_carried.proofs.AdvanceLemmas.{advance}
use Rattle.im_carried.proofs.OpenLemmas.{state_opens, source_opens, anchor_opens, anchor-target_opens}
use Rattle.im_carried.proofs.PassLemmas.{left-among, right-among}
use Rattle.im_hashed.specs.Messages.{anchor_strings, item_strings, message_strings}
use Rattle.im_hashed.proofs.FitsLemmas.{header-fits, entry-fits}
use Rattle.im_wire.specs.Fits.{IsMessage}
use Rattle.im_wire.specs.declared.messages.Message.{Message}
use Rattle.im_wire.specs.declared.messages.Message.TheVariants as says
use Rattle.im_client.specs.LineChecks.{line_checks}
use Rattle.im_facts.specs.Facts.{headers_shown, entries_shown, both_headers, anchor_headers}
use Rattle.im_facts.specs.Held.{HoldsHeader, LiesUnder}
use Rattle.im_facts.specs.declared.facts.EntryFact.{EntryFact}
use Rattle.im_facts.proofs.ShowLemmas.{OneAlh, state-meets, dual-meets, dual-line-shown, item-held, item-leads, AnchorShown, advance-held, advance-shown}

-- the header of a message that its line checks compare with the kept state
abbrev pub met_by : Message → Header
met_by (says.State header) = header
met_by (says.Dual dual) = dual.target
met_by (says.Advance dual anchor) = dual.source
met_by (says.Item dual entry index path) = dual.target

-- the state behind a message under a state
abbrev pub state_behind : Header → Message → Header
state_behind state (says.State header) = state
state_behind state (says.Dual dual) = state
state_behind state (says.Advance dual anchor) = dual.target
state_behind state (says.Item dual entry index path) = state

-- the line checks of a message under a state hold
abbrev pub PassesUnder : Hash → Header → Message → Type 0
PassesUnder hash state message = first_fail (line_checks hash (Some state) message) ≡ Ok tt

-- then the header that they compare has the state's number and its Alh
pub meets : (hash : Hash) (state : Header) (message : Message) → PassesUnder hash state message → OneAlh hash (met_by message) state
meets hash state (says.State header) h = state-meets hash state header h
meets hash state (says.Dual dual) h = dual-meets hash state dual h
meets hash state (says.Advance dual anchor) h = (advance-held hash state dual anchor h).meets
meets hash state (says.Item dual entry index path) h = dual-meets hash state dual (item-held hash state dual entry index path h).dual

-- its fields fit, and its strings are among those of the message
pub met-fits : (message : Message) → IsMessage message → HeaderFits (met_by message)
met-fits (says.State header) fits = header-fits header fits
met-fits (says.Dual dual) fits = header-fits dual.target fits.target
met-fits (says.Advance dual anchor) fits = header-fits dual.source fits.0.source
met-fits (says.Item dual entry index path) fits = header-fits dual.target fits.0.target

-- both headers' strings are among those of a dual proof
source-among : (hash : Hash) (p : DualProof) (strings : List (List ℕ)) → AreAmong (dual_strings hash p) strings → AreAmong (header_strings hash p.source) strings
unfolding dual_strings
source-among hash p strings among = left-among (header_strings hash p.source) (header_strings hash p.target) strings (left-among (header_strings hash p.source ++ header_strings hash p.target) _ strings among)

target-among : (hash : Hash) (p : DualProof) (strings : List (List ℕ)) → AreAmong (dual_strings hash p) strings → AreAmong (header_strings hash p.target) strings
unfolding dual_strings
target-among hash p strings among = right-among (header_strings hash p.source) (header_strings hash p.target) strings (left-among (header_strings hash p.source ++ header_strings hash p.target) _ strings among)

pub met-among : (hash : Hash) (message : Message) (strings : List (List ℕ)) → AreAmong (message_strings hash message) strings → AreAmong (header_strings hash (met_by message)) strings
met-among hash (says.State header) strings among = among
met-among hash (says.Dual dual) strings among = target-among hash dual strings among
met-among hash (says.Advance dual anchor) strings among =
    source-among hash dual strings (left-among (dual_strings hash dual) (anchor_strings hash anchor) strings among)
met-among hash (says.Item dual entry index path) strings among =
    target-among hash dual strings (left-among (dual_strings hash dual) (item_strings hash entry index dual.source.nentries path) strings among)

-- it is the state, or there is a pair
pub meets-or-pair : (hash : Hash) (state : Header) (message : Message) (strings : List (List ℕ)) → IsMessage message → PassesUnder hash state message → AreAmong (message_strings hash message) strings
    → HeaderFits state → AreAmong (header_strings hash state) strings → (met_by message ≡ state) ⊎ HasPair hash strings
meets-or-pair hash state message strings fits h among fits2 among2 =
    same_header hash (met_by message) state strings (met-fits message fits) fits2 (meets hash state message h).alh (met-among hash message strings among) among2

-- a state holds under itself
pub state-holds : (hash : Hash) → GivesDigests hash → (state : Header) (strings : List (List ℕ)) → HeaderFits state → state.bl_tx_id < state.id → AreAmong (header_strings hash state) strings
    → HoldsHeader hash state strings state
state-holds hash size state strings fits tree among = record { fits = fits; opened = state_opens hash size state strings tree; shown = among }

-- both headers of a dual proof hold under its target
both-hold : (hash : Hash) → GivesDigests hash → (p : DualProof) (tip : List ℕ) (strings : List (List ℕ)) → ShowsDual hash p.source p.target tip strings
    → AllByRecursion (HoldsHeader hash p.target strings) (both_headers p)
both-hold hash size p tip strings shows = (
  record { fits = shows.source_fits; opened = source_opens hash size p.source p.target tip strings shows; shown = shows.shown.0 },
  (state-holds hash size p.target strings shows.target_fits shows.target_tree shows.shown.1, tt),
)

-- those of an anchor hold under the target of its advance
anchor-hold : (hash : Hash) → GivesDigests hash → (p : DualProof) (anchor : Option DualProof) (strings : List (List ℕ)) → ShowsDual hash p.source p.target p.target_bl_tx_alh strings
    → AnchorShown hash p anchor strings → AllByRecursion (HoldsHeader hash p.target strings) (anchor_headers anchor) ⊎ HasPair hash strings
anchor-hold hash size p None strings shows shown = inl tt
anchor-hold hash size p (Some anchor) strings shows shown = elim (anchor_opens hash p.source p.target p.target_bl_tx_alh anchor.source anchor.target strings shows shown) [
  | inl opened ↦ inl (
    record { fits = shown.dual.source_fits; opened = opened; shown = shown.dual.shown.0 },
    (
      record {
        fits = shown.dual.target_fits;
        opened = anchor-target_opens hash size p.source p.target p.target_bl_tx_alh anchor.source anchor.target strings shows shown;
        shown = shown.dual.shown.1;
      },
      tt,
    ),
  )
  | inr pair ↦ inr pair
]

-- what a message shows holds under the state behind it, where the header that it meets is the state
pub shown-holds : (hash : Hash) → GivesDigests hash → (state : Header) (message : Message) (strings : List (List ℕ)) → IsMessage message → PassesUnder hash state message
    → AreAmong (message_strings hash message) strings → state.bl_tx_id < state.id → met_by message ≡ state
    → AllByRecursion (HoldsHeader hash (state_behind state message) strings) (headers_shown message) ⊎ HasPair hash strings
shown-holds hash size state (says.State header) strings fits h among tree same =
    let one : HoldsHeader hash header strings header = state-holds hash size header strings (header-fits header fits) (subst (λ (k : Header). k.bl_tx_id < k.id) (sym same) tree) among in
    inl (subst (λ (k : Header). HoldsHeader hash k strings header) same one, tt)
shown-holds hash size state (says.Dual dual) strings fits h among tree same =
    inl (subst (λ (k : Header). AllByRecursion (HoldsHeader hash k strings) (both_headers dual)) same
    (both-hold hash size dual dual.target_bl_tx_alh strings (dual-line-shown hash state dual strings fits h among)))
shown-holds hash size state (says.Advance dual anchor) strings fits h among tree same =
    let shown = advance-shown hash state dual anchor strings fits.0 fits.1 h among in
    elim (anchor-hold hash size dual anchor strings shown.dual shown.ends) [
      | inl ends ↦ (let both = both-hold hash size dual dual.target_bl_tx_alh strings shown.dual in inl (both.0, (both.1.0, ends)))
      | inr pair ↦ inr pair
    ]
shown-holds hash size state (says.Item dual entry index path) strings fits h among tree same =
    let held = item-held hash state dual entry index path h in
    inl (subst (λ (k : Header). AllByRecursion (HoldsHeader hash k strings) (both_headers dual)) same
    (both-hold hash size dual dual.target_bl_tx_alh strings
    (dual-line-shown hash state dual strings fits.0 held.dual (left-among (dual_strings hash dual) (item_strings hash entry index dual.source.nentries path) strings among))))

-- what held under the state holds under the one behind a message, or there is a pair
pub goes-on : (hash : Hash) → GivesDigests hash → (state : Header) (message : Message) (strings : List (List ℕ)) → IsMessage message → PassesUnder hash state message
    → AreAmong (message_strings hash message) strings → met_by message ≡ state → (header : Header) → HoldsHeader hash state strings header
    → HoldsHeader hash (state_behind state message) strings header ⊎ HasPair hash strings
goes-on hash size state (says.State first) strings fits h among same header holds = inl holds
goes-on hash size state (says.Dual dual) strings fits h among same header holds = inl holds
goes-on hash size state (says.Advance dual anchor) strings fits h among same header holds =
    let shown = advance-shown hash state dual anchor strings fits.0 fits.1 h among in
    let before : IsOpened hash dual.source header.id (alh hash header) strings = subst (λ (k : Header). IsOpened hash k header.id (alh hash header) strings) (sym same) holds.opened in
    elim (advance hash size dual.source dual.target strings shown.advance header.id (alh hash header) before) [
      | inl opened ↦ inl (record { fits = holds.fits; opened = opened; shown = holds.shown })
      | inr pair ↦ inr pair
    ]
goes-on hash size state (says.Item dual entry index path) strings fits h among same header holds = inl holds

-- each of some has the one property or there is a pair
pub each-or-pair : (R : Type 0) (P Q : Header → Type 0) → ((x : Header) → P x → Q x ⊎ R) → (xs : List Header) → AllByRecursion P xs → AllByRecursion Q xs ⊎ R
each-or-pair R P Q f [] all = inl tt
each-or-pair R P Q f (x ∷ xs) all = elim (f x all.0) [
  | inl one ↦ elim (each-or-pair R P Q f xs all.1) [
    | inl rest ↦ inl (one, rest)
    | inr pair ↦ inr pair
  ]
  | inr pair ↦ inr pair
]

-- the header that shown entries lie under
abbrev pub entries_under : Message → Header
entries_under (says.State header) = header
entries_under (says.Dual dual) = dual.source
entries_under (says.Advance dual anchor) = dual.source
entries_under (says.Item dual entry index path) = dual.source

-- a shown entry lies under the header of its transaction, which is shown too
pub record LiesInShown (hash : Hash) (message : Message) (strings : List (List ℕ)) (fact : EntryFact) : Type 0 where
  pub header : Header
  pub is : header ≡ entries_under message
  pub tx : fact.tx ≡ header.id
  pub lies : LiesUnder hash header strings fact

-- each entry that a message shows does
pub entries-lie : (hash : Hash) (state : Header) (message : Message) (strings : List (List ℕ)) → IsMessage message → PassesUnder hash state message → AreAmong (message_strings hash message) strings
    → AllByRecursion (LiesInShown hash message strings) (entries_shown message)
entries-lie hash state (says.State header) strings fits h among = tt
entries-lie hash state (says.Dual dual) strings fits h among = tt
entries-lie hash state (says.Advance dual anchor) strings fits h among = tt
entries-lie hash state (says.Item dual entry index path) strings fits h among =
    let item : AreAmong (item_strings hash entry index dual.source.nentries path) strings = right-among (dual_strings hash dual) (item_strings hash entry index dual.source.nentries path) strings among in (
      record {
        header = dual.source;
        is = refl;
        tx = refl;
        lies = record {
          fits = entry-fits entry fits.1;
          path = reverse path;
          leads = item-leads hash state dual entry index path strings fits.3 (item-held hash state dual entry index path h) item;
          shown = left-among (entry_strings hash entry) (up_strings hash dual.source.nentries index (entry_digest hash entry) (reverse path)) strings item;
        };
      },
      tt,
    )
