-- The strings that are hashed in checking messages which pass every check: those of the headers that they show, of the
-- paths, lists and chains of their proofs, and of an item's entry, its value and its path. In checking a message that
-- fails a check fewer are hashed: its later checks aren't made. Of a first state the checks hash nothing: its header's
-- strings are counted all the same.
use Rattle.std.specs.Prelude.{◌≡◌, ◌++◌, ℕ, List, [], reverse, Option, Some, None, Ok, flat_map}
use Rattle.im_digest.specs.Digests.{Hash}
use Rattle.im_model.specs.Entries.{entry_digest, entry_strings}
use Rattle.im_model.specs.Headers.{header_strings}
use Rattle.im_model.specs.Paths.{up_strings}
use Rattle.im_model.specs.declared.entries.Entry.{Entry}
use Rattle.im_mtree.specs.Checks.{first_fail}
use Rattle.im_mtree.specs.PathChecks.{path_checks}
use Rattle.im_proof.specs.Duals.{dual_checks}
use Rattle.im_proof.specs.declared.proofs.DualProof.{DualProof}
use Rattle.im_pairs.specs.Pairs.{AreAmong}
use Rattle.im_carried.specs.Hashed.{dual_strings}
use Rattle.im_wire.specs.declared.messages.Message.{Message}
use Rattle.im_wire.specs.declared.messages.Message.TheVariants.{State, Dual, Advance, Item}

-- for an anchor, if there is one
abbrev pub anchor_strings : Hash → Option DualProof → List (List ℕ)
anchor_strings hash None = []
anchor_strings hash (Some anchor) = dual_strings hash anchor

-- for an entry of this index among so many: those of the entry, and those of its path, the terms from the leaf up
abbrev pub item_strings : Hash → Entry → ℕ → ℕ → List (List ℕ) → List (List ℕ)
item_strings hash entry index width path =
    entry_strings hash entry ++ up_strings hash width index (entry_digest hash entry) (reverse path)

-- for a message
abbrev pub message_strings : Hash → Message → List (List ℕ)
message_strings hash (State header) = header_strings hash header
message_strings hash (Dual dual) = dual_strings hash dual
message_strings hash (Advance dual anchor) = dual_strings hash dual ++ anchor_strings hash anchor
message_strings hash (Item dual entry index path) =
    dual_strings hash dual ++ item_strings hash entry index dual.source.nentries path

-- for messages, in order
abbrev pub strings_of : Hash → List Message → List (List ℕ)
strings_of hash messages = flat_map (message_strings hash) messages

-- two lists hold the same strings, in whatever order and how often
pub record HoldSame (xs ys : List (List ℕ)) : Type 0 where
  pub there : AreAmong xs ys
  pub back : AreAmong ys xs

-- the checks of an anchor hold, if there is one
abbrev pub AnchorHolds : Hash → Option DualProof → Type 0
AnchorHolds hash None = Unit {0}
AnchorHolds hash (Some anchor) = first_fail (dual_checks hash anchor) ≡ Ok tt

-- the checks of a message's proofs hold, whatever state it is shown under: then `message_strings` are just the strings
-- that are hashed for it, and those of a first state's header
abbrev pub ProofsHold : Hash → Message → Type 0
ProofsHold hash (State header) = Unit {0}
ProofsHold hash (Dual dual) = first_fail (dual_checks hash dual) ≡ Ok tt
ProofsHold hash (Advance dual anchor) = (first_fail (dual_checks hash dual) ≡ Ok tt) × AnchorHolds hash anchor
ProofsHold hash (Item dual entry index path) =
    (first_fail (dual_checks hash dual) ≡ Ok tt)
    × (first_fail (path_checks hash (entry_digest hash entry) index dual.source.nentries path dual.source.eh) ≡ Ok tt)
