-- Each line says something, or is bad.
use Rattle.std.proofs.Common.{◌≡◌, ◌⊎◌, ℕ, List, [], ◌∷◌, ◌++◌, true, false, Option, Some, None, IsUtf8, inl, inr, refl, ap, ◌∙◌}
use Rattle.std.proofs.lemmas.Bool.{both_ways}
use Rattle.std.proofs.lemmas.Str.{IsUtf8-from_is_utf8, is_utf8-from_IsUtf8}
use Rattle.std.specs.Char.{is_ascii_digit}
use Rattle.std.specs.Str.{is_utf8}
use Rattle.serde_json.specs.Data.{Data}
use Rattle.serde_json.specs.Read.{read}
use Rattle.im_text.specs.Cuts.{IsCut}
use Rattle.im_text.specs.Words.{is_word}
use Rattle.im_text.proofs.DecideLemmas.{CutOrNone, cut-tells, truth}
use Rattle.im_text.specs.Fields.{is_session_octet}
use Rattle.im_wire.specs.Lines.{IsLine, IsReply, IsShown, is_open}
use Rattle.im_wire.specs.Messages.{HasMessage, message_of}
use Rattle.im_wire.specs.declared.messages.Message.{Message}
use Rattle.im_wire.proofs.LineLemmas.{line-refused, reply-bad-number, reply-bad-session, reply-none, reply-tail}
use Rattle.im_client.specs.Lines.{IsBad}

-- a line is a reply, or none
abbrev ReplyOrNone : List ℕ → Type 0
ReplyOrNone line = ((rest : List ℕ) × IsReply line rest) ⊎ ((rest : List ℕ) → IsReply line rest → ⊥)

reply-or-none : (line : List ℕ) → ReplyOrNone line
reply-or-none line = go (cut-tells 32 line)
  where
    number : (front tail digits last : List ℕ) → IsCut 32 line front tail → IsCut 32 tail digits last → is_word 16 is_session_octet front ≡ true
        → (is_word 20 is_ascii_digit digits ≡ true) ⊎ (is_word 20 is_ascii_digit digits ≡ false) → ReplyOrNone line
    number front tail digits last cut next session (inl is) =
        inl (last, record { session = front; number = digits; is_session = session; is_number = is; text = cut.1 ∙ ap (λ (t : List ℕ). front ++ 32 ∷ t) next.1 })
    number front tail digits last cut next session (inr bad) =
        inr (λ rest. reply-bad-number line rest front tail digits last cut next (λ h. both_ways _ bad h))

    session : (front tail : List ℕ) → IsCut 32 line front tail → (is_word 16 is_session_octet front ≡ true) ⊎ (is_word 16 is_session_octet front ≡ false) → CutOrNone 32 tail → ReplyOrNone line
    session front tail cut (inr bad) next = inr (λ rest. reply-bad-session line rest front tail cut (λ h. both_ways _ bad h))
    session front tail cut (inl is) (inr lacks) = inr (λ rest. reply-tail line rest front tail cut lacks)
    session front tail cut (inl is) (inl c) = number front tail c.0 c.1 cut c.2 is (truth (is_word 20 is_ascii_digit c.0))

    go : CutOrNone 32 line → ReplyOrNone line
    go (inl c) = session c.0 c.1 c.2 (truth (is_word 16 is_session_octet c.0)) (cut-tells 32 c.1)
    go (inr lacks) = inr (λ rest. reply-none line rest lacks)

-- a text has a message, or none
abbrev MessageOrNone : List ℕ → Type 0
MessageOrNone text = ((m : Message) × HasMessage text m) ⊎ ((m : Message) → HasMessage text m → ⊥)

no-value : (r : Option Data) (d : Data) → r ≡ None → r ≡ Some d → ⊥
no-value r d a b = cc

no-message : (r : Option Data) (d e : Data) (m : Message) → r ≡ Some d → r ≡ Some e → message_of d ≡ None → message_of e ≡ Some m → ⊥
no-message r d e m a b none some = cc

message-or-none : (text : List ℕ) → MessageOrNone text
message-or-none text = go (truth (is_utf8 text))
  where
    says : (d : Data) → IsUtf8 text → read text ≡ Some d → (r : Option Message) → message_of d ≡ r → MessageOrNone text
    says d good value (Some m) is = inl (m, (good, (d, value, is)))
    says d good value None is = inr (λ m h. no-message (read text) d h.1.0 m value h.1.1 is h.1.2)

    reads : IsUtf8 text → (r : Option Data) → read text ≡ r → MessageOrNone text
    reads good (Some d) value = says d good value (message_of d) refl
    reads good None none = inr (λ m h. no-value (read text) h.1.0 none h.1.1)

    go : (is_utf8 text ≡ true) ⊎ (is_utf8 text ≡ false) → MessageOrNone text
    go (inl is) = reads (IsUtf8-from_is_utf8 text is) (read text) refl
    go (inr bad) = inr (λ m h. both_ways _ bad (is_utf8-from_IsUtf8 text h.0))

-- a line says something, or is bad
abbrev pub LineOrBad : List ℕ → Type 0
LineOrBad line = ((o : Option Message) × IsLine line o) ⊎ IsBad line

pub line-or-bad : (line : List ℕ) → LineOrBad line
line-or-bad [] = inl (None, inl refl)
line-or-bad (x ∷ line) = go (reply-or-none (x ∷ line))
  where
    some : x ∷ line ≡ [] → ⊥
    some e = cc

    shows : (text : List ℕ) → IsShown (x ∷ line) text → MessageOrNone text → LineOrBad (x ∷ line)
    shows text shown (inl m) = inl (Some m.0, (text, shown, m.1))
    shows text shown (inr none) = inr (line-refused (x ∷ line) text shown none)

    opens : (rest : List ℕ) → IsReply (x ∷ line) rest → (is_open rest ≡ true) ⊎ (is_open rest ≡ false) → LineOrBad (x ∷ line)
    opens rest reply (inl is) = shows rest (inl (reply, is)) (message-or-none rest)
    opens rest reply (inr other) = inl (None, inr (rest, reply, other))

    go : ReplyOrNone (x ∷ line) → LineOrBad (x ∷ line)
    go (inl r) = opens r.0 r.1 (truth (is_open r.0))
    go (inr none) = shows (x ∷ line) (inr (refl, some, none)) (message-or-none (x ∷ line))
