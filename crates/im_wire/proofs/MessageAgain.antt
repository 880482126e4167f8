-- A message that is written is read again.
use Rattle.std.proofs.Common.{◌≡◌, ℕ, ◌≤◌, ◌^◌, suc, List, [], ◌++◌, Some, refl, sym, ap, subst, ◌∙◌, arith}
use Rattle.std.specs.Str.{IsUtf8}
use Rattle.json.specs.Token.{Token}
use Rattle.json.specs.Lex.{tokens}
use Rattle.json.specs.Print.{print}
use Rattle.serde_json.specs.Data.{depth}
use Rattle.serde_json.specs.Read.{max_depth}
use Rattle.im_wire.specs.declared.messages.Message.{Message}
use Rattle.im_wire.specs.declared.messages.Message.TheVariants.{State, Dual, Advance, Item}
use Rattle.im_wire.specs.Fits.{IsMessage}
use Rattle.im_wire.specs.Messages.{state_message, dual_message, advance_message, item_message, message_as, message_of, HasMessage}
use Rattle.im_wire.specs.Texts.{message_data, text}
use Rattle.im_wire.specs.Tokens.{tokens_of}
use Rattle.im_wire.proofs.ReadAgain.{IsPlain, read-again}
use Rattle.im_wire.proofs.TokenLemmas.{print_is}
use Rattle.im_wire.proofs.FieldAgain.{number-again, digests-again, digests-plain, digests-depth, max-within}
use Rattle.im_wire.proofs.RecordAgain.{header-again, entry-again, dual_proof-again, anchor-again, header-plain, entry-plain, dual_proof-plain, anchor-plain, header-depth, entry-depth, dual_proof-depth, anchor-depth}

message-again : (m : Message) → IsMessage m → message_of (message_data m) ≡ Some m
unfolding message_of message_as state_message dual_message advance_message item_message
message-again (State h) fits = rw (header-again h fits) refl
message-again (Dual p) fits = rw (dual_proof-again p fits) refl
message-again (Advance p a) fits = rw (anchor-again a fits.1, dual_proof-again p fits.0) refl
message-again (Item p e i ds) fits =
    rw (dual_proof-again p fits.0, entry-again e fits.1, number-again (2 ^ 32) i fits.2, digests-again ds fits.3) refl

-- a message has no number of floating point
pub message-plain : (m : Message) → IsMessage m → IsPlain (message_data m)
message-plain (State h) fits = (refl, (header-plain h fits, (tt, tt)))
message-plain (Dual p) fits = (refl, (dual_proof-plain p fits, (tt, tt)))
message-plain (Advance p a) fits = (refl, (anchor-plain a fits.1, (dual_proof-plain p fits.0, (tt, tt))))
message-plain (Item p e i ds) fits = (refl, (dual_proof-plain p fits.0, (entry-plain e, (omega (arith, fits.2), (digests-plain ds, (tt, tt))))))

shallow : (a : ℕ) → a ≤ 4 → suc a ≤ max_depth
shallow a h = omega arith

deeper : (a : ℕ) → a ≤ 1 → a ≤ 4
deeper a h = omega arith

message-depth : (m : Message) → depth (message_data m) ≤ max_depth
message-depth (State h) = shallow _ (max-within _ _ 4 (deeper _ (header-depth h)) (omega arith))
message-depth (Dual p) = shallow _ (max-within _ _ 4 (dual_proof-depth p) (omega arith))
message-depth (Advance p a) = shallow _ (max-within _ _ 4 (anchor-depth a) (max-within _ _ 4 (dual_proof-depth p) (omega arith)))
message-depth (Item p e i ds) =
    shallow _ (max-within _ _ 4 (dual_proof-depth p) (max-within _ _ 4 (deeper _ (entry-depth e)) (max-within _ _ 4 (omega arith) (max-within _ _ 4 (deeper _ (digests-depth ds)) (omega arith)))))

-- what a writer printed is the text of the message
pub text-of : (m : Message) (items before : List ℕ) (ts : List Token) → items ≡ before ++ print ts → before ≡ [] → ts ≡ tokens_of (message_data m) → items ≡ text m
unfolding text
text-of m items before ts e b t = e ∙ rw (b, t) (print_is (message_data m))

-- what a writer printed reads as the message
pub message-is-read : (m : Message) (items before : List ℕ) (ts : List Token) → items ≡ before ++ print ts → before ≡ [] → ts ≡ tokens_of (message_data m)
    → tokens (print ts) ≡ ts → IsUtf8 (print ts) → IsMessage m → HasMessage items m
unfolding tokens_of
message-is-read m items before ts e b t back utf8 fits =
    let same : items ≡ print ts = e ∙ ap (λ (l : List ℕ). l ++ print ts) b in (
      subst (λ (l : List ℕ). IsUtf8 l) (sym same) utf8,
      (message_data m, read-again (message_data m) items (ap tokens same ∙ back ∙ t) (message-plain m fits) (message-depth m), message-again m fits),
    )
