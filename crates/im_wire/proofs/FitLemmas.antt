-- A message that a text says has numbers in range, octets that are octets, and digests of 32.
use Rattle.std.proofs.Common.{◌≡◌, ◌<◌, ◌^◌, ◌*◌, ◌&&◌, ℕ, pos, List, [], ◌∷◌, length, Bool, true, false, codes, if◌then◌else◌, nat_lt, Option, Some, None, option_and_then, All, sym, subst, ◌∙◌, arith}
use Rattle.std.specs.Prelude.{bytes_eq, is_some, nat_le}
use Rattle.std.specs.Result.{result_ok}
use Rattle.std.proofs.lemmas.Bool.{and_parts, leb-true, ltb-true}
use Rattle.std.proofs.lemmas.List.Elements.{All-nil, All-cons}
use Rattle.hex.specs.Hex.{decode_of, decode_sized}
use Rattle.hex.proofs.HexLemmas.{decode_of-ok, decode_sized-ok, decode_sized-twice}
use Rattle.serde_json.specs.Data.{unsigned, negative, float, Data, null, boolean, number, string, array, object, Items, no_items, item}
use Rattle.serde_json.specs.Find.{as_array, as_null, as_number, as_str, as_u64, get}
use Rattle.im_model.specs.declared.headers.Header.{Header}
use Rattle.im_model.specs.declared.entries.Entry.{Entry}
use Rattle.im_proof.specs.declared.proofs.AdvanceProof.{AdvanceProof}
use Rattle.im_proof.specs.declared.proofs.DualProof.{DualProof}
use Rattle.im_wire.specs.declared.messages.Message.{Message}
use Rattle.im_wire.specs.declared.messages.Message.TheVariants.{State, Dual, Advance, Item}
use Rattle.im_wire.specs.Fields.{number_of, signed_of, octets_of, digest_of, digests_of, digest_lists_of, each_of, field}
use Rattle.im_wire.specs.Fits.{IsDigest, AreDigestOctets, AreDigestLists, IsBounded, IsSigned, IsHeader, IsEntryInRange, IsAdvanceProof, IsDualProof, IsAnchor, IsMessage}
use Rattle.im_wire.specs.Gives.{◌>>=◌}
use Rattle.im_wire.specs.Messages.{header_of_data, entry_of_data, advance_proof_of, dual_proof_of, anchor_of, state_message, dual_message, advance_message, item_message, message_as, message_of, HasMessage}
use Rattle.im_wire.proofs.KnownLemmas.{AllKnown, ItemsKnown, get-known, read-known}
use Rattle.im_octet.proofs.Common.{some-is}
use Rattle.im_wire.proofs.OptionLemmas.{bind-some, if-some, ok-some}

-- what is read of a value has the property
abbrev Finds : {A : Type 0} → (Data → Option A) → (A → Type 0) → Type 0
Finds {A} read P = (d : Data) (x : A) → AllKnown d → read d ≡ Some x → P x

number-fits : (limit : ℕ) → Finds (number_of limit) (λ n. n < limit)
unfolding number_of
number-fits limit d n known e =
    let a = bind-some (option_and_then as_u64 (as_number d)) _ n e in
    let b = if-some (nat_lt a.0 limit) a.0 n a.2 in
    subst (λ (k : ℕ). k < limit) b.1 (ltb-true a.0 limit b.0)

signed-fits : Finds signed_of IsSigned
unfolding signed_of
signed-fits null z known e = cc e
signed-fits (boolean b) z known e = cc e
signed-fits (number (unsigned n)) z known e = let b = if-some (nat_lt n (2 ^ 63)) (pos n) z e in subst IsSigned b.1 (ltb-true n (2 ^ 63) b.0)
signed-fits (number (negative y)) z known e = subst IsSigned (some-is y z e) known
signed-fits (number (float x)) z known e = cc e
signed-fits (string s) z known e = cc e
signed-fits (array ds) z known e = cc e
signed-fits (object ms) z known e = cc e

octets-fit : (least most : ℕ) → Finds (octets_of least most) (IsBounded least most)
unfolding octets_of
octets-fit least most d xs known e =
    let a = bind-some (as_str d) _ xs e in
    let b = bind-some (result_ok (decode_of a.0)) _ xs a.2 in
    let c = if-some (nat_le least (length b.0) && nat_le (length b.0) most) b.0 xs b.2 in
    let within = and_parts (nat_le least (length b.0)) (nat_le (length b.0) most) c.0 in
    subst (λ (ys : List ℕ). IsBounded least most ys) c.1 (record {
      few = leb-true least (length b.0) within.0;
      many = leb-true (length b.0) most within.1;
      bytes = (decode_of-ok a.0 b.0 (ok-some (decode_of a.0) b.0 b.1)).3;
    })

digest-fits : Finds digest_of IsDigest
unfolding digest_of
digest-fits d x known e =
    let a = bind-some (as_str d) _ x e in
    let is = ok-some (decode_sized a.0 32) x a.2 in
    let size = decode_sized-ok a.0 32 x is in
    let read = decode_of-ok a.0 x (sym (decode_sized-twice a.0 32 size) ∙ is) in
    let twice : length a.0 ≡ 2 * length x = read.2 in
    record { len = omega (arith, size, twice); bytes = read.3 }

each-fits : {A : Type 0} (P : A → Type 0) (read : Data → Option A) → Finds read P → (ds : Items) (xs : List A) → ItemsKnown ds → each_of read ds ≡ Some xs → All P xs
each-fits P read one no_items xs known e = subst (λ l. All P l) (some-is [] xs e) (All-nil P)
each-fits P read one (item d ds) xs known e =
    let a = bind-some (read d) _ xs e in
    let b = bind-some (each_of read ds) _ xs a.2 in
    subst (λ l. All P l) (some-is (a.0 ∷ b.0) xs b.2) (All-cons P a.0 b.0 (one d a.0 known.0 a.1) (each-fits P read one ds b.0 known.1 b.1))

array-known : (d : Data) (ds : Items) → AllKnown d → as_array d ≡ Some ds → ItemsKnown ds
array-known null ds known e = cc e
array-known (boolean b) ds known e = cc e
array-known (number n) ds known e = cc e
array-known (string s) ds known e = cc e
array-known (array es) ds known e = subst ItemsKnown (some-is es ds e) known
array-known (object ms) ds known e = cc e

digests-fit : Finds digests_of AreDigestOctets
unfolding digests_of AreDigestOctets
digests-fit d xs known e =
    let a = bind-some (as_array d) (each_of digest_of) xs e in
    each-fits IsDigest digest_of digest-fits a.0 xs (array-known d a.0 known a.1) a.2

digest_lists-fit : Finds digest_lists_of AreDigestLists
unfolding digest_lists_of
digest_lists-fit d xs known e =
    let a = bind-some (as_array d) (each_of digests_of) xs e in
    each-fits AreDigestOctets digests_of digests-fit a.0 xs (array-known d a.0 known a.1) a.2

-- of a member, and the step behind it
next : {A B : Type 0} (P : A → Type 0) (k : List ℕ) (read : Data → Option A) (f : A → Option B) (d : Data) (y : B)
    → AllKnown d → Finds read P → (field k read d >>= f) ≡ Some y → (x : A) × P x × (f x ≡ Some y)
next P k read f d y known one e =
    let a = bind-some (field k read d) f y e in
    let b = bind-some (get k d) read a.0 a.1 in
    (a.0, one b.0 a.0 (get-known k d b.0 known b.1) b.2, a.2)

header-fits : Finds header_of_data IsHeader
unfolding header_of_data
header-fits d h known e =
    let bl_root = next IsDigest (codes "blRoot") digest_of _ d h known digest-fits e in
    let bl_tx_id = next (λ n. n < 2 ^ 64) (codes "blTxId") (number_of (2 ^ 64)) _ d h known (number-fits (2 ^ 64)) bl_root.2 in
    let eh = next IsDigest (codes "eh") digest_of _ d h known digest-fits bl_tx_id.2 in
    let id = next (λ n. n < 2 ^ 64) (codes "id") (number_of (2 ^ 64)) _ d h known (number-fits (2 ^ 64)) eh.2 in
    let md = next (IsBounded 0 256) (codes "md") (octets_of 0 256) _ d h known (octets-fit 0 256) id.2 in
    let nentries = next (λ n. n < 2 ^ 32) (codes "nentries") (number_of (2 ^ 32)) _ d h known (number-fits (2 ^ 32)) md.2 in
    let prev_alh = next IsDigest (codes "prevAlh") digest_of _ d h known digest-fits nentries.2 in
    let ts = next IsSigned (codes "ts") signed_of _ d h known signed-fits prev_alh.2 in
    let version = next (λ n. n < 2 ^ 16) (codes "version") (number_of (2 ^ 16)) _ d h known (number-fits (2 ^ 16)) ts.2 in
    let made : Header = record { id = id.0; ts = ts.0; bl_tx_id = bl_tx_id.0; bl_root = bl_root.0; prev_alh = prev_alh.0; version = version.0; md = md.0; nentries = nentries.0; eh = eh.0 } in
    let fits : IsHeader made = record { id = id.1; ts = ts.1; bl_tx_id = bl_tx_id.1; bl_root = bl_root.1; prev_alh = prev_alh.1; version = version.1; md = md.1; nentries = nentries.1; eh = eh.1 } in
    subst IsHeader (some-is made h version.2) fits

entry-fits : Finds entry_of_data IsEntryInRange
unfolding entry_of_data
entry-fits d x known e =
    let key = next (IsBounded 1 1024) (codes "key") (octets_of 1 1024) _ d x known (octets-fit 1 1024) e in
    let md = next (IsBounded 0 256) (codes "md") (octets_of 0 256) _ d x known (octets-fit 0 256) key.2 in
    let value = next (IsBounded 0 4096) (codes "value") (octets_of 0 4096) _ d x known (octets-fit 0 4096) md.2 in
    let made : Entry = record { md = md.0; key = key.0; value = value.0 } in
    let fits : IsEntryInRange made = record { md = md.1; key = key.1; value = value.1 } in
    subst IsEntryInRange (some-is made x value.2) fits

advance_proof-fits : Finds advance_proof_of IsAdvanceProof
unfolding advance_proof_of
advance_proof-fits d x known e =
    let inclusions = next AreDigestLists (codes "inclusions") digest_lists_of _ d x known digest_lists-fit e in
    let terms = next AreDigestOctets (codes "terms") digests_of _ d x known digests-fit inclusions.2 in
    let made : AdvanceProof = record { terms = terms.0; inclusions = inclusions.0 } in
    let fits : IsAdvanceProof made = record { terms = terms.1; inclusions = inclusions.1 } in
    subst IsAdvanceProof (some-is made x terms.2) fits

dual_proof-fits : Finds dual_proof_of IsDualProof
unfolding dual_proof_of
dual_proof-fits d p known e =
    let consistency = next AreDigestOctets (codes "consistency") digests_of _ d p known digests-fit e in
    let inclusion = next AreDigestOctets (codes "inclusion") digests_of _ d p known digests-fit consistency.2 in
    let last = next AreDigestOctets (codes "lastInclusion") digests_of _ d p known digests-fit inclusion.2 in
    let linear = next AreDigestOctets (codes "linear") digests_of _ d p known digests-fit last.2 in
    let advance = next IsAdvanceProof (codes "linearAdvance") advance_proof_of _ d p known advance_proof-fits linear.2 in
    let source = next IsHeader (codes "source") header_of_data _ d p known header-fits advance.2 in
    let target = next IsHeader (codes "target") header_of_data _ d p known header-fits source.2 in
    let told = next IsDigest (codes "targetBlTxAlh") digest_of _ d p known digest-fits target.2 in
    let made : DualProof = record { source = source.0; target = target.0; inclusion = inclusion.0; consistency = consistency.0; target_bl_tx_alh = told.0; last_inclusion = last.0; linear = linear.0; linear_advance = advance.0 } in
    let fits : IsDualProof made = record { source = source.1; target = target.1; inclusion = inclusion.1; consistency = consistency.1; target_bl_tx_alh = told.1; last_inclusion = last.1; linear = linear.1; linear_advance = advance.1 } in
    subst IsDualProof (some-is made p told.2) fits

either-anchor : (b : Bool) (d : Data) (a : Option DualProof) → AllKnown d
    → (if b then Some None else (dual_proof_of d >>= (λ dual. Some (Some dual)))) ≡ Some a → IsAnchor a
either-anchor true d a known e = subst IsAnchor (some-is None a e) tt
either-anchor false d a known e =
    let dual = bind-some (dual_proof_of d) _ a e in
    subst IsAnchor (some-is (Some dual.0) a dual.2) (dual_proof-fits d dual.0 known dual.1)

anchor-fits : Finds anchor_of IsAnchor
unfolding anchor_of
anchor-fits d a known e = either-anchor (is_some (as_null d)) d a known e

state-fits : Finds state_message IsMessage
unfolding state_message
state-fits d m known e =
    let header = next IsHeader (codes "header") header_of_data _ d m known header-fits e in
    subst IsMessage (some-is (State header.0) m header.2) header.1

dual-fits : Finds dual_message IsMessage
unfolding dual_message
dual-fits d m known e =
    let dual = next IsDualProof (codes "dual") dual_proof_of _ d m known dual_proof-fits e in
    subst IsMessage (some-is (Dual dual.0) m dual.2) dual.1

advance-fits : Finds advance_message IsMessage
unfolding advance_message
advance-fits d m known e =
    let anchor = next IsAnchor (codes "anchor") anchor_of _ d m known anchor-fits e in
    let dual = next IsDualProof (codes "dual") dual_proof_of _ d m known dual_proof-fits anchor.2 in
    subst IsMessage (some-is (Advance dual.0 anchor.0) m dual.2) (dual.1, anchor.1)

item-fits : Finds item_message IsMessage
unfolding item_message
item-fits d m known e =
    let dual = next IsDualProof (codes "dual") dual_proof_of _ d m known dual_proof-fits e in
    let entry = next IsEntryInRange (codes "entry") entry_of_data _ d m known entry-fits dual.2 in
    let index = next (λ n. n < 2 ^ 32) (codes "index") (number_of (2 ^ 32)) _ d m known (number-fits (2 ^ 32)) entry.2 in
    let path = next AreDigestOctets (codes "path") digests_of _ d m known digests-fit index.2 in
    subst IsMessage (some-is (Item dual.0 entry.0 index.0 path.0) m path.2) (dual.1, entry.1, index.1, path.1)

no-message : (m : Message) → None ≡ Some m → IsMessage m
no-message m e = cc e

either-fits : (b : Bool) (x y : Option Message) (m : Message) → (x ≡ Some m → IsMessage m) → (y ≡ Some m → IsMessage m) → (if b then x else y) ≡ Some m → IsMessage m
either-fits true x y m one two e = one e
either-fits false x y m one two e = two e

as-fits : (kind : List ℕ) → Finds (message_as kind) IsMessage
unfolding message_as
as-fits kind d m known e =
    either-fits (bytes_eq kind (codes "state")) _ _ m (state-fits d m known)
    (either-fits (bytes_eq kind (codes "dual")) _ _ m (dual-fits d m known)
    (either-fits (bytes_eq kind (codes "advance")) _ _ m (advance-fits d m known)
    (either-fits (bytes_eq kind (codes "item")) _ _ m (item-fits d m known) (no-message m)))) e

message-fits : Finds message_of IsMessage
unfolding message_of
message-fits d m known e =
    let a = bind-some (field (codes "type") as_str d) _ m e in
    as-fits a.0 d m known a.2

-- a message that a text says
pub said-fits : (text : List ℕ) (m : Message) → HasMessage text m → IsMessage m
said-fits text m h = message-fits h.1.0 m (read-known text h.1.0 h.1.1) h.1.2
