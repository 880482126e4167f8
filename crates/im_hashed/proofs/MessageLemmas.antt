-- The strings of messages, one message behind the others.
use Rattle.std.proofs.Common.{◌≡◌, ◌<◌, ◌+◌, ℕ, List, [], ◌∷◌, ◌++◌, length, take, get_or, ap, sym, subst, ◌∙◌, append-nil}
use Rattle.std.specs.Prelude.{All}
use Rattle.std.proofs.lemmas.Grind.{flat_map-append}
use Rattle.std.proofs.lemmas.List.{take_more}
use Rattle.std.proofs.lemmas.List.Concat.{flat_map-cons}
use Rattle.im_digest.specs.Digests.{Hash}
use Rattle.im_wire.specs.declared.messages.Message.{Message}
use Rattle.im_hashed.specs.Messages.{HoldSame, ProofsHold, message_strings, strings_of}
use Rattle.im_hashed.specs.Added.{AddsStrings}
use Rattle.im_hashed.proofs.AddLemmas.{same-then, same-front}

-- one more
pub messages-more : (hash : Hash) (messages : List Message) (m : Message) (out new : List (List ℕ)) → HoldSame out (strings_of hash messages) → AddsStrings out new (message_strings hash m)
    → HoldSame new (strings_of hash (messages ++ m ∷ []))
messages-more hash messages m out new h added =
    let own : List (List ℕ) = message_strings hash m in
    let all : strings_of hash (messages ++ m ∷ []) ≡ strings_of hash messages ++ own =
    flat_map-append (message_strings hash) messages (m ∷ []) ∙ ap (λ l. strings_of hash messages ++ l) (flat_map-cons (message_strings hash) m [] ∙ append-nil own) in
    subst (λ l. HoldSame new l) (sym all) (same-then new (out ++ own) (strings_of hash messages ++ own) added (same-front out (strings_of hash messages) own h))

-- the next of a list
pub messages-next : (hash : Hash) (kept : List Message) (n : ℕ) (m : Message) (out new : List (List ℕ)) → n < length kept → m ≡ get_or kept n m → HoldSame out (strings_of hash (take n kept))
    → AddsStrings out new (message_strings hash m) → HoldSame new (strings_of hash (take (n + 1) kept))
messages-next hash kept n m out new less at h added =
    let cut : take (n + 1) kept ≡ take n kept ++ m ∷ [] = take_more kept n m less ∙ ap (λ (x : Message). take n kept ++ x ∷ []) (sym at) in
    subst (λ l. HoldSame new (strings_of hash l)) (sym cut) (messages-more hash (take n kept) m out new h added)

-- its proofs hold
pub proofs-at : (hash : Hash) (kept : List Message) (n : ℕ) (m : Message) → n < length kept → m ≡ get_or kept n m → All (ProofsHold hash) kept → ProofsHold hash m
proofs-at hash kept n m less at all = subst (ProofsHold hash) (sym at) (all n m less)
