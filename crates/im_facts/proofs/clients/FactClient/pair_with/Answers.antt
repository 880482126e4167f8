use Rattle.std.proofs.Common.{◌≡◌, ◌∷◌, ◌++◌, [], ℕ, List, sym, subst, ap}
use Rattle.std.specs.List.{All}
use Rattle.std.proofs.lemmas.Result.{IfOk-weaker}
use Rattle.im_digest.specs.Digests.{Hash}
use Rattle.im_pairs.specs.Pairs.{IsPair}
use Rattle.im_pairs.proofs.PairLemmas.{IsPair-more}
use Rattle.im_hashed.specs.Messages.{HoldSame, ProofsHold, strings_of}
use Rattle.im_hashed.specs.declared.pairs.Pair.{Pair}
use Rattle.im_wire.specs.declared.messages.Message.{Message}
use Rattle.im_facts.specs.Keeping.{known_of, AreOf}
use Rattle.im_facts.specs.declared.notes.Note.{Note}
use Rattle.im_facts.proofs.PassLemmas.{client-proofs, proofs-hold}
use Rattle.im_facts.proofs.ForkLemmas.{second-fact}
use Rattle.im_facts.proofs.NoteLemmas.{knows-of, led-client}
use Rattle.im_facts.proofs.clients.FactClient.pair_with.Goals as goal

pub hashed-requires-clause-notes : goal.hashed-requires-clause-notes
hashed-requires-clause-notes g c =
    let hash : Hash = g.H.Hash32.digest c.args.self.now.hash in
    let lent : Hash = g.H.Hash32.digest c.hash-function.result.now in
    let same : lent ≡ hash = ap g.H.Hash32.digest c.hash-function.ensures in
    let led = c.requires.led in
    let proofs : All (ProofsHold hash) led.0.messages = client-proofs hash led.0 led.2 in
    (led.0.messages, subst (λ (l : List Note). AreOf l led.0.messages) (sym c.notes.ensures) led.1.notes, subst (λ (f : Hash). All (ProofsHold f) led.0.messages) (sym same) proofs)

pub hashed-requires-clause-message : goal.hashed-requires-clause-message
hashed-requires-clause-message g c =
    let hash : Hash = g.H.Hash32.digest c.args.self.now.hash in
    let lent : Hash = g.H.Hash32.digest c.hash-function.result.now in
    let same : lent ≡ hash = ap g.H.Hash32.digest c.hash-function.ensures in
    subst (λ (f : Hash). ProofsHold f c.args.message.now) (sym same) (proofs-hold hash c.args.self.now.kept.state c.args.message.now c.requires.passes)

pub pair_of-requires : goal.pair_of-requires
pair_of-requires g c =
    let hash : Hash = g.H.Hash32.digest c.args.self.now.hash in
    let lent : Hash = g.H.Hash32.digest c.hash-function.result.now in
    let same : lent ≡ hash = ap g.H.Hash32.digest c.hash-function.ensures in
    let kept = c.args.self.now.kept in
    let led = c.requires.led in
    let messages : List Message = led.0.messages in
    let strings : List (List ℕ) = c.in_ok-strings.strings.items in
    let all : List (List ℕ) = strings_of hash (messages ++ c.args.message.now ∷ []) in
    let lists : HoldSame strings (strings_of lent (messages ++ c.args.message.now ∷ [])) =
    c.in_ok-strings.ensures messages (subst (λ (l : List Note). AreOf l messages) (sym c.notes.ensures) led.1.notes) in
    let made : HoldSame strings all = subst (λ (f : Hash). HoldSame strings (strings_of f (messages ++ c.args.message.now ∷ []))) same lists in
    let pair = second-fact hash (g.met.H.Hash32.size c.args.self.now.hash) (known_of kept messages) c.args.message.now
    (led-client hash kept (known_of kept messages) led (knows-of kept messages led.1.notes)) c.requires.fits c.requires.passes (c.requires.differs messages) in
    let there : IsPair hash pair.0 pair.1 strings = IsPair-more hash pair.0 pair.1 all strings made.back pair.2 in
    let under : IsPair lent pair.0 pair.1 strings = subst (λ (f : Hash). IsPair f pair.0 pair.1 strings) (sym same) there in
    (pair.0, pair.1, subst (λ (l : List (List ℕ)). IsPair lent pair.0 pair.1 l) (sym c.as_slice.ensures.value) under)

pub returns : goal.returns
returns g c =
    let hash : Hash = g.H.Hash32.digest c.args.self.now.hash in
    let lent : Hash = g.H.Hash32.digest c.hash-function.result.now in
    let same : lent ≡ hash = ap g.H.Hash32.digest c.hash-function.ensures in
    let kept = c.args.self.now.kept in
    let m : Message = c.args.message.now in
    let strings : List (List ℕ) = c.in_ok-strings.strings.items in
    IfOk-weaker c.pair_of.result (λ (pair : Pair). IsPair lent pair.x pair.y c.as_slice.result.now)
    (λ (pair : Pair). (messages : List Message) → AreOf kept.notes messages → IsPair hash pair.x pair.y (strings_of hash (messages ++ m ∷ [])))
    (λ pair is messages are.
    let made : HoldSame strings (strings_of hash (messages ++ m ∷ [])) =
    subst (λ (f : Hash). HoldSame strings (strings_of f (messages ++ m ∷ []))) same
    (c.in_ok-strings.ensures messages (subst (λ (l : List Note). AreOf l messages) (sym c.notes.ensures) are)) in
    IsPair-more hash pair.x pair.y strings (strings_of hash (messages ++ m ∷ [])) made.there
    (subst (λ (f : Hash). IsPair f pair.x pair.y strings) same (subst (λ (l : List (List ℕ)). IsPair lent pair.x pair.y l) c.as_slice.ensures.value is)))
    c.pair_of.ensures
