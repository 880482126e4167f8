-- A line is cut, and read, in one way.
use Rattle.std.proofs.Common.{◌≡◌, ℕ, List, [], ◌∷◌, ◌++◌, true, Option, Some, None, Err, inl, inr, refl, sym, subst, ap, ◌∙◌}
use Rattle.std.proofs.lemmas.Bool.{both_ways}
use Rattle.std.specs.Char.{is_ascii_digit}
use Rattle.serde_json.specs.Data.{Data}
use Rattle.im_wire.specs.Messages.{message_of, HasMessage}
use Rattle.im_wire.specs.declared.errors.WireError.{WireError}
use Rattle.im_wire.specs.declared.errors.WireError.TheVariants.{Memory, Syntax}
use Rattle.im_wire.specs.declared.messages.Message.{Message}
use Rattle.im_octet.proofs.Common.{some-is}
use Rattle.im_text.specs.Cuts.{Lacks, IsCut}
use Rattle.im_text.proofs.CutLemmas.{Lacks-mark, cut-unique}
use Rattle.im_text.proofs.WordLemmas.{Lacks-word}
use Rattle.im_text.specs.Fields.{is_session_octet, IsSession}
use Rattle.im_wire.specs.Gives.{ReadsOrRefuses}
use Rattle.im_text.specs.Words.{IsDigits}
use Rattle.im_wire.specs.Lines.{is_open, IsReply, IsShown, IsLine}

session-lacks : (line rest : List ℕ) (r : IsReply line rest) → Lacks 32 r.session
session-lacks line rest r = Lacks-word 16 is_session_octet 32 r.session refl r.is_session

number-lacks : (line rest : List ℕ) (r : IsReply line rest) → Lacks 32 r.number
number-lacks line rest r = Lacks-word 20 is_ascii_digit 32 r.number refl r.is_number

pub reply-none : (line rest : List ℕ) → Lacks 32 line → IsReply line rest → ⊥
reply-none line rest l r = Lacks-mark 32 r.session (r.number ++ 32 ∷ rest) (subst (λ (t : List ℕ). Lacks 32 t) r.text l)

pub reply-session : (line rest front tail : List ℕ) → IsCut 32 line front tail → (r : IsReply line rest) → (r.session ≡ front) × (r.number ++ 32 ∷ rest ≡ tail)
reply-session line rest front tail cut r = cut-unique 32 r.session front _ tail (session-lacks line rest r) cut.0 (sym r.text ∙ cut.1)

pub reply-tail : (line rest front tail : List ℕ) → IsCut 32 line front tail → Lacks 32 tail → IsReply line rest → ⊥
reply-tail line rest front tail cut l r =
    let e = reply-session line rest front tail cut r in
    Lacks-mark 32 r.number rest (subst (λ (t : List ℕ). Lacks 32 t) (sym e.1) l)

pub reply-number : (line rest front tail number last : List ℕ) → IsCut 32 line front tail → IsCut 32 tail number last → (r : IsReply line rest) → (r.number ≡ number) × (rest ≡ last)
reply-number line rest front tail number last cut cut2 r =
    let e = reply-session line rest front tail cut r in
    cut-unique 32 r.number number rest last (number-lacks line rest r) cut2.0 (e.1 ∙ cut2.1)

pub reply-bad-session : (line rest front tail : List ℕ) → IsCut 32 line front tail → (IsSession front → ⊥) → IsReply line rest → ⊥
reply-bad-session line rest front tail cut bad r =
    let e = reply-session line rest front tail cut r in
    bad (subst (λ (t : List ℕ). IsSession t) e.0 r.is_session)

pub reply-bad-number : (line rest front tail number last : List ℕ) → IsCut 32 line front tail → IsCut 32 tail number last → (IsDigits number → ⊥) → IsReply line rest → ⊥
reply-bad-number line rest front tail number last cut cut2 bad r =
    let e = reply-number line rest front tail number last cut cut2 r in
    bad (subst (λ (t : List ℕ). IsDigits t) e.0 r.is_number)

pub reply-unique : (line a b : List ℕ) → IsReply line a → IsReply line b → a ≡ b
reply-unique line a b r s =
    let first : IsCut 32 line s.session (s.number ++ 32 ∷ b) = (session-lacks line b s, s.text) in
    (reply-number line a s.session (s.number ++ 32 ∷ b) s.number b first (number-lacks line b s, refl) r).1

shown-unique : (line a b : List ℕ) → IsShown line a → IsShown line b → a ≡ b
shown-unique line a b (inl x) (inl y) = reply-unique line a b x.0 y.0
shown-unique line a b (inl x) (inr y) = absurd (y.2 a x.0)
shown-unique line a b (inr x) (inl y) = absurd (x.2 b y.0)
shown-unique line a b (inr x) (inr y) = x.0 ∙ sym y.0

reply-some : (rest : List ℕ) → IsReply [] rest → ⊥
reply-some rest r = reply-none [] rest refl r

shown-passed : (line text : List ℕ) → IsShown line text → IsLine line None → ⊥
shown-passed line text (inl x) (inl e) = reply-some text (subst (λ (t : List ℕ). IsReply t text) e x.0)
shown-passed line text (inl x) (inr y) = both_ways (is_open y.0) y.2 (subst (λ (t : List ℕ). is_open t ≡ true) (reply-unique line text y.0 x.0 y.1) x.1)
shown-passed line text (inr x) (inl e) = x.1 e
shown-passed line text (inr x) (inr y) = x.2 y.0 y.1

-- a text with no message, where the line shows it
pub line-refused : (line text : List ℕ) → IsShown line text → ((m : Message) → HasMessage text m → ⊥) → (o : Option Message) → IsLine line o → ⊥
line-refused line text shown none None h = shown-passed line text shown h
line-refused line text shown none (Some m) h = none m (subst (λ (t : List ℕ). HasMessage t m) (shown-unique line h.0 text h.1 shown) h.2)

-- a text says one message at most
pub message-unique : (text : List ℕ) (m n : Message) → HasMessage text m → HasMessage text n → m ≡ n
message-unique text m n h k =
    let same : h.1.0 ≡ k.1.0 = some-is h.1.0 k.1.0 (sym h.1.1 ∙ k.1.1) in
    some-is m n (sym h.1.2 ∙ ap (λ (d : Data). message_of d) same ∙ k.1.2)

pub line-unique : (line : List ℕ) (a b : Option Message) → IsLine line a → IsLine line b → a ≡ b
line-unique line None None h k = refl
line-unique line None (Some m) h k = absurd (shown-passed line k.0 k.1 h)
line-unique line (Some m) None h k = absurd (shown-passed line h.0 h.1 k)
line-unique line (Some m) (Some n) h k =
    let same = shown-unique line k.0 h.0 k.1 h.1 in
    ap Some (message-unique h.0 m n h.2 (subst (λ (t : List ℕ). HasMessage t n) same k.2))

pub reads-refused : (line text : List ℕ) (e : WireError) → IsShown line text → ReadsOrRefuses {X = Message} (Err e) (HasMessage text) → ReadsOrRefuses {X = Option Message} (Err e) (IsLine line)
reads-refused line text Memory shown h = tt
reads-refused line text Syntax shown h = line-refused line text shown h
