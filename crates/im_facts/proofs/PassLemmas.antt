-- What passes its checks under a state passes those of its proofs, whatever the state.
use Rattle.std.proofs.Common.{◌≡◌, List, [], ◌∷◌, ◌++◌, Option, Some, None, Ok}
use Rattle.std.specs.List.{All, AllByRecursion}
use Rattle.std.proofs.lemmas.List.Elements.{All-from_recursion}
use Rattle.im_digest.specs.Digests.{Hash}
use Rattle.im_hashed.specs.Messages.{AnchorHolds, ProofsHold}
use Rattle.im_model.specs.Entries.{entry_digest}
use Rattle.im_model.specs.declared.headers.Header.{Header}
use Rattle.im_mtree.specs.Checks.{first_fail}
use Rattle.im_mtree.specs.PathChecks.{path_checks}
use Rattle.im_mtree.proofs.CheckLemmas.{all-hold, each-holds, none-fails}
use Rattle.im_proof.specs.Duals.{as_faults, dual_checks}
use Rattle.im_proof.specs.declared.proofs.DualProof.{DualProof}
use Rattle.im_wire.specs.declared.messages.Message.{Message}
use Rattle.im_wire.specs.declared.messages.Message.TheVariants as says
use Rattle.im_client.specs.LineChecks.{line_checks, dual_line_checks, advance_line_checks, anchor_checks, anchor_ends_checks}
use Rattle.im_client.specs.declared.faults.LineFault.TheVariants.{Dual, Anchor, Path}
use Rattle.im_facts.specs.Accepted.{AreAccepted, IsClient}
use Rattle.im_facts.specs.Facts.{Known, nothing, with_message}
use Rattle.im_facts.proofs.ShownLemmas.{held-named}
use Rattle.im_facts.proofs.ShowLemmas.{dual-checks}

anchor-holds : (hash : Hash) (p : DualProof) (anchor : Option DualProof) → first_fail (anchor_checks hash p anchor) ≡ Ok tt → AnchorHolds hash anchor
anchor-holds hash p None h = tt
anchor-holds hash p (Some anchor) h =
    let each = all-hold (anchor_checks hash p (Some anchor)) h in
    let both = each-holds (anchor_ends_checks hash p anchor) (as_faults Anchor (dual_checks hash anchor)) (none-fails (anchor_ends_checks hash p anchor ++ as_faults Anchor (dual_checks hash anchor)) each.1) in
    held-named Anchor (dual_checks hash anchor) both.1

advance-holds : (hash : Hash) (state : Header) (p : DualProof) (anchor : Option DualProof) → first_fail (advance_line_checks hash state p anchor) ≡ Ok tt → ProofsHold hash (says.Advance p anchor)
advance-holds hash state p anchor h =
    let each = all-hold (advance_line_checks hash state p anchor) h in
    let both = each-holds (as_faults Dual (dual_checks hash p)) (anchor_checks hash p anchor) (none-fails (as_faults Dual (dual_checks hash p) ++ anchor_checks hash p anchor) each.1.1) in
    (held-named Dual (dual_checks hash p) both.0, anchor-holds hash p anchor both.1)

-- of a message
pub proofs-hold : (hash : Hash) (state : Option Header) (m : Message) → first_fail (line_checks hash state m) ≡ Ok tt → ProofsHold hash m
proofs-hold hash state (says.State header) h = tt
proofs-hold hash None (says.Dual p) h = absurd cc
proofs-hold hash (Some s) (says.Dual p) h = dual-checks hash s p h
proofs-hold hash None (says.Advance p anchor) h = absurd cc
proofs-hold hash (Some s) (says.Advance p anchor) h = advance-holds hash s p anchor h
proofs-hold hash None (says.Item p entry index path) h = absurd cc
proofs-hold hash (Some s) (says.Item p entry index path) h =
    let both = each-holds (dual_line_checks hash s p) (as_faults Path (path_checks hash (entry_digest hash entry) index p.source.nentries path p.source.eh)) h in
    (dual-checks hash s p both.0, held-named Path (path_checks hash (entry_digest hash entry) index p.source.nentries path p.source.eh) both.1)

all-hold-after : (hash : Hash) (known : Known) (messages : List Message) → AreAccepted hash known messages → AllByRecursion (ProofsHold hash) messages
all-hold-after hash known [] all = tt
all-hold-after hash known (m ∷ messages) all = (proofs-hold hash known.state m all.0.passes, all-hold-after hash (with_message known m) messages all.1)

-- of all that a client accepted
pub client-proofs : (hash : Hash) (known : Known) → IsClient hash known → All (ProofsHold hash) known.messages
client-proofs hash known client = All-from_recursion (ProofsHold hash) known.messages (all-hold-after hash nothing known.messages client.accepted)
