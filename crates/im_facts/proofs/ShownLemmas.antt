-- Of the headers that an accepted message shows no two of one number are unlike: one of them is the kept state or all others
-- have other numbers.
use Rattle.std.proofs.Common.{◌≡◌, ◌≢◌, ◌<◌, ◌≤◌, ℕ, true, nat_eq, nat_lt, List, [], ◌∷◌, ◌++◌, refl, ap, subst, sym, ◌∙◌, arith, Option, Some, None, Result, Ok, Err}
use Rattle.std.specs.Prelude.{IfSome}
use Rattle.std.specs.List.{AllByRecursion}
use Rattle.std.proofs.lemmas.Bool.{ltb-true, leb-true, eqb-true, and_parts}
use Rattle.std.proofs.lemmas.Bool.Decides.{nat_tests}
use Rattle.std.proofs.lemmas.List.Elements.{recursion_from_All}
use Rattle.im_digest.specs.Digests.{Hash}
use Rattle.im_model.specs.Headers.{alh}
use Rattle.im_model.specs.Entries.{entry_digest}
use Rattle.im_model.specs.declared.headers.Header.{Header}
use Rattle.im_mtree.specs.Checks.{Check, first_fail}
use Rattle.im_mtree.specs.PathChecks.{path_checks}
use Rattle.im_mtree.proofs.CheckLemmas.{all-hold, each-holds, none-fails}
use Rattle.im_proof.specs.Duals.{as_faults, dual_checks, both_headers_checks, tree_checks, chain_checks, order_checks}
use Rattle.im_proof.specs.HeaderChecks.{header_checks}
use Rattle.im_proof.specs.declared.proofs.DualProof.{DualProof}
use Rattle.im_proof.specs.declared.faults.DualFault.TheVariants.{Source, Target}
use Rattle.im_proof.proofs.NamedLemmas.{fail_named, named}
use Rattle.im_wire.specs.declared.messages.Message.{Message}
use Rattle.im_wire.specs.declared.messages.Message.TheVariants as says
use Rattle.im_client.specs.LineChecks.{line_checks, dual_line_checks, advance_line_checks, anchor_checks, anchor_ends_checks}
use Rattle.im_client.specs.declared.faults.LineFault.TheVariants.{Dual, Anchor, Path}
use Rattle.im_facts.specs.Accepted.{IsAccepted}
use Rattle.im_facts.specs.Facts.{Known, Agrees, IsAlike, known_header, headers_shown, is_lower, is_level}
use Rattle.im_facts.proofs.OrderLemmas.{AreOne}
use Rattle.im_facts.proofs.PlaceLemmas.{header-order}

-- the state is the kept header of its number
abbrev pub StateIsKept : Known → Type 0
StateIsKept known = IfSome known.state (λ (state : Header). known_header known.headers state.id ≡ Some state)

-- a header of the state's number that is like the kept one is the state
pub is-state : (headers : List Header) (state header : Header) → known_header headers state.id ≡ Some state → IsAlike headers header → header.id ≡ state.id → state ≡ header
is-state headers state header kept fits e =
    let there : known_header headers header.id ≡ Some state = ap (λ (t : ℕ). known_header headers t) e ∙ kept in
    subst (λ (r : Option Header). IfSome r (λ k. k ≡ header)) there fits

-- so two of them are one
both-state : (headers : List Header) (state a b : Header) → known_header headers state.id ≡ Some state → IsAlike headers a → IsAlike headers b → a.id ≡ state.id → nat_eq a.id b.id ≡ true → b ≡ a
both-state headers state a b kept fa fb e level =
    let also : b.id ≡ state.id = grind (arith, nat_tests) in
    sym (is-state headers state b kept fb also) ∙ is-state headers state a kept fa e

-- those of a dual proof that begins or ends at the state
pair-one : (headers : List Header) (state : Header) (p : DualProof) → known_header headers state.id ≡ Some state → IsAlike headers p.source → IsAlike headers p.target → (nat_eq p.source.id p.target.id ≡ true → p.source.id ≡ state.id)
    → AreOne Header is_lower is_level header-order (p.source ∷ p.target ∷ [])
pair-one headers state p kept fs ft e =
    (((λ level. both-state headers state p.source p.target kept fs ft (e level) level), tt), (tt, tt))

-- what the checks of a dual proof say of the numbers
order-of : (hash : Hash) (p : DualProof) → first_fail (dual_checks hash p) ≡ Ok tt → p.source.id ≤ p.target.id
unfolding both_headers_checks
order-of hash p h =
    let headers = each-holds (both_headers_checks p.source p.target) (tree_checks hash p (alh hash p.source) ++ chain_checks hash p (alh hash p.source) (alh hash p.target)) h in
    let one = each-holds (as_faults Source (header_checks p.source)) (as_faults Target (header_checks p.target) ++ order_checks p.source p.target) headers.0 in
    let two = each-holds (as_faults Target (header_checks p.target)) (order_checks p.source p.target) one.1 in
    let three = all-hold (order_checks p.source p.target) two.1 in
    leb-true p.source.id p.target.id three.0

ok-named : {F G : Type 0} → (name : F → G) (r : Result (Unit {0}) F) → named name r ≡ Ok tt → r ≡ Ok tt
ok-named name (Ok tt) h = refl
ok-named name (Err f) h = absurd cc

-- where checks named otherwise hold, they do under their own names
pub held-named : {F G : Type 0} → (name : F → G) (checks : List (Check F)) → first_fail (as_faults name checks) ≡ Ok tt → first_fail checks ≡ Ok tt
held-named name checks h = ok-named name (first_fail checks) (sym (fail_named name checks) ∙ h)

-- the headers of a line whose dual proof leads to the state
dual-one : (hash : Hash) (headers : List Header) (state : Header) (p : DualProof) → known_header headers state.id ≡ Some state → IsAlike headers p.source → IsAlike headers p.target
    → first_fail (dual_line_checks hash state p) ≡ Ok tt → AreOne Header is_lower is_level header-order (p.source ∷ p.target ∷ [])
dual-one hash headers state p kept fs ft h =
    let each = all-hold (dual_line_checks hash state p) h in
    pair-one headers state p kept fs ft (λ level. same p.source.id p.target.id state.id level each.0)
  where
    same : (a b c : ℕ) → nat_eq a b ≡ true → nat_eq b c ≡ true → a ≡ c
    same a b c e f = grind (arith, nat_tests)

-- what the checks of an anchor say of the numbers
record AnchorPlaced (hash : Hash) (p anchor : DualProof) : Type 0 where
  below : p.target.bl_tx_id < p.source.id
  from : anchor.source.id ≡ p.target.bl_tx_id
  to : anchor.target.id ≡ p.source.id

anchor-placed : (hash : Hash) (p anchor : DualProof) → first_fail (anchor_checks hash p (Some anchor)) ≡ Ok tt → AnchorPlaced hash p anchor
anchor-placed hash p anchor h =
    let each = all-hold (anchor_checks hash p (Some anchor)) h in
    let ends = all-hold (anchor_ends_checks hash p anchor) ((each-holds (anchor_ends_checks hash p anchor) (as_faults Anchor (dual_checks hash anchor)) (none-fails (anchor_ends_checks hash p anchor ++ as_faults Anchor (dual_checks hash anchor)) each.1)).0) in
    record {
      below = ltb-true p.target.bl_tx_id p.source.id (and_parts (nat_lt p.source.bl_tx_id p.target.bl_tx_id) (nat_lt p.target.bl_tx_id p.source.id) each.0).1;
      from = eqb-true anchor.source.id p.target.bl_tx_id ends.0;
      to = eqb-true anchor.target.id p.source.id ends.1.0;
    }

-- numbers that differ are of no one place
apart-one : (a b : Header) → a.id ≢ b.id → nat_eq a.id b.id ≡ true → b ≡ a
apart-one a b ne level = absurd (ne (eqb-true a.id b.id level))

-- the headers of an advance
advance-one : (hash : Hash) (headers : List Header) (state : Header) (p : DualProof) (anchor : Option DualProof) → known_header headers state.id ≡ Some state
    → AllByRecursion (IsAlike headers) (headers_shown (says.Advance p anchor)) → first_fail (advance_line_checks hash state p anchor) ≡ Ok tt
    → AreOne Header is_lower is_level header-order (headers_shown (says.Advance p anchor))
advance-one hash headers state p None kept fit h =
    let each = all-hold (advance_line_checks hash state p None) h in
    pair-one headers state p kept fit.0 fit.1.0 (λ level. eqb-true p.source.id state.id each.0)
advance-one hash headers state p (Some anchor) kept fit h =
    let each = all-hold (advance_line_checks hash state p (Some anchor)) h in
    let parts = each-holds (as_faults Dual (dual_checks hash p)) (anchor_checks hash p (Some anchor)) (none-fails (as_faults Dual (dual_checks hash p) ++ anchor_checks hash p (Some anchor)) each.1.1) in
    let order : p.source.id ≤ p.target.id = order-of hash p (held-named Dual (dual_checks hash p) parts.0) in
    let placed : AnchorPlaced hash p anchor = anchor-placed hash p anchor parts.1 in
    let from : p.source.id ≡ state.id = eqb-true p.source.id state.id each.0 in
    let source : IsAlike headers p.source = fit.0 in
    let target : IsAlike headers p.target = fit.1.0 in
    let end : IsAlike headers anchor.target = fit.1.1.1.0 in
    let to : anchor.target.id ≡ state.id = placed.to ∙ from in
    let below : anchor.source.id < p.source.id = omega (arith, placed.below, placed.from) in
    let under : anchor.source.id < anchor.target.id = omega (arith, below, placed.to) in (
      (
        both-state headers state p.source p.target kept source target from,
        (
          λ level. apart-one p.source anchor.source (omega arith) level,
          (both-state headers state p.source anchor.target kept source end from, tt),
        ),
      ),
      (
        (
          λ level. apart-one p.target anchor.source (omega arith) level,
          (λ level. sym (both-state headers state anchor.target p.target kept end target to (turned p.target.id anchor.target.id level)), tt),
        ),
        ((λ level. apart-one anchor.source anchor.target (omega arith) level, tt), (tt, tt)),
      ),
    )
  where
    turned : (a b : ℕ) → nat_eq a b ≡ true → nat_eq b a ≡ true
    turned a b e = grind (arith, nat_tests)

-- the headers that a message shows, which passes and agrees
shown-by : (hash : Hash) (headers : List Header) (state : Option Header) (message : Message) → first_fail (line_checks hash state message) ≡ Ok tt → IfSome state (λ (s : Header). known_header headers s.id ≡ Some s)
    → AllByRecursion (IsAlike headers) (headers_shown message) → AreOne Header is_lower is_level header-order (headers_shown message)
shown-by hash headers state (says.State header) h kept fit = (tt, tt)
shown-by hash headers None (says.Dual p) h kept fit = absurd cc
shown-by hash headers (Some s) (says.Dual p) h kept fit = dual-one hash headers s p kept fit.0 fit.1.0 h
shown-by hash headers None (says.Advance p anchor) h kept fit = absurd cc
shown-by hash headers (Some s) (says.Advance p anchor) h kept fit = advance-one hash headers s p anchor kept fit h
shown-by hash headers None (says.Item p entry index path) h kept fit = absurd cc
shown-by hash headers (Some s) (says.Item p entry index path) h kept fit =
    dual-one hash headers s p kept fit.0 fit.1.0
    (each-holds (dual_line_checks hash s p) (as_faults Path (path_checks hash (entry_digest hash entry) index p.source.nentries path p.source.eh)) h).0

-- the shown headers fit in
pub headers-fit : (known : Known) (message : Message) → Agrees known message → AllByRecursion (IsAlike known.headers) (headers_shown message)
headers-fit known message agrees = recursion_from_All (IsAlike known.headers) (headers_shown message) agrees.headers

-- and no two of one number are unlike
pub shown-one : (hash : Hash) (known : Known) (message : Message) → IsAccepted hash known message → StateIsKept known → AreOne Header is_lower is_level header-order (headers_shown message)
shown-one hash known message accepted kept =
    shown-by hash known.headers known.state message accepted.passes kept (headers-fit known message accepted.agrees)
