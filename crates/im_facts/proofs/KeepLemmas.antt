-- A client with an accepted message more is one.
use Rattle.std.proofs.Common.{◌≡◌, Bool, true, false, if◌then◌else◌, List, [], ◌∷◌, ◌++◌, refl, ap, subst, sym, ◌∙◌}
use Rattle.std.proofs.lemmas.List.Elements.{All-nil, All-push}
use Rattle.im_digest.specs.Digests.{Hash}
use Rattle.im_wire.specs.Fits.{IsMessage}
use Rattle.im_wire.specs.declared.messages.Message.{Message}
use Rattle.im_facts.specs.Accepted.{IsAccepted, AreAccepted, IsClient}
use Rattle.im_facts.specs.Facts.{Known, nothing, with_message, known_after}
use Rattle.im_facts.specs.News.{is_old, with_accepted}

-- who knows nothing is a client under any hash function
pub nothing-client : (hash : Hash) → IsClient hash nothing
nothing-client hash = record { fit = All-nil IsMessage; accepted = tt; led = refl }

after-more : (known : Known) (messages : List Message) (m : Message) → known_after known (messages ++ m ∷ []) ≡ with_message (known_after known messages) m
after-more known [] m = refl
after-more known (n ∷ messages) m = after-more (with_message known n) messages m

accepted-more : (hash : Hash) (known : Known) (messages : List Message) (m : Message) → AreAccepted hash known messages → IsAccepted hash (known_after known messages) m → AreAccepted hash known (messages ++ m ∷ [])
accepted-more hash known [] m all now = (now, tt)
accepted-more hash known (n ∷ messages) m all now = (all.0, accepted-more hash (with_message known n) messages m all.1 now)

-- a client with an accepted message more
pub client-more : (hash : Hash) (known : Known) (m : Message) → IsClient hash known → IsMessage m → IsAccepted hash known m → IsClient hash (with_message known m)
client-more hash known m client fits accepted = record {
  fit = All-push IsMessage known.messages m client.fit fits;
  accepted = accepted-more hash nothing known.messages m client.accepted (subst (λ (k : Known). IsAccepted hash k m) client.led accepted);
  led = ap (λ (k : Known). with_message k m) client.led ∙ sym (after-more nothing known.messages m);
}

-- so it is behind any accepted message, kept or not
pub client-accepts : (hash : Hash) (known : Known) (m : Message) → IsClient hash known → IsMessage m → IsAccepted hash known m → IsClient hash (with_accepted known m)
client-accepts hash known m client fits accepted = go (is_old known m)
  where
    go : (b : Bool) → IsClient hash (if b then known else with_message known m)
    go true = client
    go false = client-more hash known m client fits accepted

-- behind an old message nothing changed
pub old-stays : (known : Known) (m : Message) → is_old known m ≡ true → known ≡ with_accepted known m
old-stays known m e = sym (ap (λ (b : Bool). if b then known else with_message known m) e)

-- any other is kept
pub new-kept : (known : Known) (m : Message) → is_old known m ≡ false → with_message known m ≡ with_accepted known m
new-kept known m e = sym (ap (λ (b : Bool). if b then known else with_message known m) e)
