-- A note is of one message, and notes of one list: so what is known by what is kept is one thing.
use Rattle.std.proofs.Common.{◌≡◌, ◌<◌, ℕ, zero, suc, List, [], ◌∷◌, ◌++◌, length, get_or, refl, sym, ap, subst, ◌∙◌, arith}
use Rattle.std.specs.List.{AllPairs}
use Rattle.im_digest.specs.Digests.{Hash}
use Rattle.im_model.specs.declared.headers.Header.{Header}
use Rattle.im_wire.specs.Fits.{IsMessage}
use Rattle.im_wire.specs.declared.messages.Message.{Message}
use Rattle.im_client.proofs.SaysLemmas.{says-one}
use Rattle.im_facts.specs.Accepted.{IsAccepted, IsClient}
use Rattle.im_facts.specs.Copies.{AreCopies}
use Rattle.im_facts.specs.Facts.{Known, nothing, with_message, with_headers, with_entries, IsBefore, IsRising}
use Rattle.im_facts.specs.Keeping.{kept_with, known_of, none_kept, AreOf, IsLed, IsOf, Kept, Knows}
use Rattle.im_facts.specs.declared.copies.Copies.{Copies}
use Rattle.im_facts.specs.declared.facts.EntryFact.{EntryFact}
use Rattle.im_facts.specs.declared.notes.Note.{Note}
use Rattle.im_facts.specs.declared.notes.Note.TheVariants as noted
use Rattle.im_facts.proofs.KeepLemmas.{client-more, nothing-client}
use Rattle.im_facts.proofs.KnownLemmas.{client-rises}

-- a note is of one message
pub of-once : (note : Note) (a b : Message) → IsOf note a → IsOf note b → a ≡ b
of-once (noted.Told told) a b p q = sym p ∙ q
of-once (noted.Line line) a b p q = says-one line.now a b p q

-- notes are of one list
pub are-once : (notes : List Note) (a b : List Message) → AreOf notes a → AreOf notes b → a ≡ b
are-once [] [] [] p q = refl
are-once [] [] (n ∷ b) p q = absurd q
are-once [] (m ∷ a) b p q = absurd p
are-once (note ∷ notes) [] b p q = absurd p
are-once (note ∷ notes) (m ∷ a) [] p q = absurd q
are-once (note ∷ notes) (m ∷ a) (n ∷ b) p q =
    ap (λ (x : Message). x ∷ a) (of-once note m n p.0 q.0) ∙ ap (λ (l : List Message). n ∷ l) (are-once notes a b p.1 q.1)

-- so one thing is known
pub knows-once : (kept : Kept) (a b : Known) → Knows kept a → Knows kept b → a ≡ b
knows-once kept a b p q = sym p.is ∙ ap (λ (l : List Message). known_of kept l) (are-once kept.notes a.messages b.messages p.notes q.notes) ∙ q.is

-- which is this
pub knows-of : (kept : Kept) (messages : List Message) → AreOf kept.notes messages → Knows kept (known_of kept messages)
knows-of kept messages are = record { notes = are; is = refl }

-- nothing is known by nothing
pub none-knows : (kept : Kept) → kept ≡ none_kept → Knows kept nothing
none-knows kept e = subst (λ (k : Kept). Knows k nothing) (sym e) (record { notes = tt; is = refl })

pub none-led : (hash : Hash) (kept : Kept) → kept ≡ none_kept → IsLed hash kept
none-led hash kept e = (nothing, none-knows kept e, nothing-client hash)

-- what is kept rises
pub led-rises : (hash : Hash) (kept : Kept) → IsLed hash kept → IsRising (known_of kept [])
led-rises hash kept (known, knows, client) =
    let up : IsRising known = client-rises hash known client in
    record {
      headers = subst (λ (l : List Header). AllPairs (λ (a b : Header). a.id < b.id) l) (sym (ap (λ (k : Known). k.headers) knows.is)) up.headers;
      entries = subst (λ (l : List EntryFact). AllPairs IsBefore l) (sym (ap (λ (k : Known). k.entries) knows.is)) up.entries;
    }

-- and what is known is what a client knows
pub led-client : (hash : Hash) (kept : Kept) (known : Known) → IsLed hash kept → Knows kept known → IsClient hash known
led-client hash kept known (other, knows, client) here = subst (IsClient hash) (knows-once kept other known knows here) client

-- with a note more
are-more : (notes : List Note) (messages : List Message) (note : Note) (m : Message) → AreOf notes messages → IsOf note m → AreOf (notes ++ note ∷ []) (messages ++ m ∷ [])
are-more [] [] note m are is = (is, tt)
are-more [] (n ∷ messages) note m are is = absurd are
are-more (o ∷ notes) [] note m are is = absurd are
are-more (o ∷ notes) (n ∷ messages) note m are is = (are.0, are-more notes messages note m are.1 is)

put-same : (kept : Kept) (messages : List Message) (note : Note) (m : Message) (copies : Copies) → AreCopies kept.state m copies
    → known_of (kept_with kept note copies) (messages ++ m ∷ []) ≡ with_message (known_of kept messages) m
put-same kept messages note m copies are =
    let one = are.next in
    let two = ap (λ (more : List Header). with_headers kept.headers more) are.headers in
    let three = ap (λ (more : List EntryFact). with_entries kept.entries more) are.entry in
    λ i. record { state = one i; headers = two i; entries = three i; messages = messages ++ m ∷ [] }

-- what is put in is what is known behind the message
pub put-knows : (kept next : Kept) (messages : List Message) (note : Note) (m : Message) (copies : Copies) → next ≡ kept_with kept note copies
    → AreOf kept.notes messages → IsOf note m → AreCopies kept.state m copies → Knows next (with_message (known_of kept messages) m)
put-knows kept next messages note m copies e are is copied =
    subst (λ (k : Kept). Knows k (with_message (known_of kept messages) m)) (sym e)
    (record { notes = are-more kept.notes messages note m are is; is = put-same kept messages note m copies copied })

-- which was led to
pub put-led : (hash : Hash) (kept next : Kept) (known : Known) (m : Message) → IsLed hash kept → Knows kept known → IsMessage m → IsAccepted hash known m
    → Knows next (with_message known m) → IsLed hash next
put-led hash kept next known m led knows fits accepted behind =
    (with_message known m, behind, client-more hash known m (led-client hash kept known led knows) fits accepted)

pub are-long : (notes : List Note) (messages : List Message) → AreOf notes messages → length notes ≡ length messages
are-long [] [] are = refl
are-long [] (m ∷ messages) are = absurd are
are-long (note ∷ notes) [] are = absurd are
are-long (note ∷ notes) (m ∷ messages) are =
    let rest : length notes ≡ length messages = are-long notes messages are.1 in
    omega (arith, rest)

-- the message of a note, among the others
pub record NotedAt (messages : List Message) (i : ℕ) (note : Note) : Type 0 where
  pub message : Message
  pub within : i < length messages
  pub at : message ≡ get_or messages i message
  pub is : IsOf note message

pub noted-at : (notes : List Note) (messages : List Message) (i : ℕ) (note : Note) → AreOf notes messages → i < length notes → note ≡ get_or notes i note → NotedAt messages i note
noted-at [] messages i note are less at = absurd (omega (arith, less))
noted-at (o ∷ notes) [] i note are less at = absurd are
noted-at (o ∷ notes) (m ∷ messages) zero note are less at = record {
  message = m;
  within = omega arith;
  at = refl;
  is = subst (λ (n : Note). IsOf n m) (sym at) are.0;
}
noted-at (o ∷ notes) (m ∷ messages) (suc i) note are less at =
    let fewer : i < length notes = omega (arith, less) in
    let rest = noted-at notes messages i note are.1 fewer at in
    let more : suc i < length (m ∷ messages) = omega (arith, rest.within) in
    record { message = rest.message; within = more; at = rest.at; is = rest.is }
