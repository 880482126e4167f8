-- A script is read in one way.
use Rattle.std.proofs.Common.{◌≡◌, ℕ, zero, suc, List, [], ◌∷◌, ◌++◌, Option, true, false, inl, inr, refl, subst, sym, ap, ap₂, ◌∙◌}
use Rattle.std.proofs.lemmas.Bool.{and_parts, both_ways}
use Rattle.im_text.specs.Words.{is_word}
use Rattle.im_text.proofs.CutLemmas.{cut-unique, head-is, heads-differ}
use Rattle.im_text.proofs.WordLemmas.{number-unique}
use Rattle.im_draft.specs.declared.drafts.Draft.{Draft}
use Rattle.im_draft.specs.declared.preconditions.Pre.{Pre}
use Rattle.im_script.specs.declared.commands.Command.{Command}
use Rattle.im_script.specs.declared.commands.Command.TheVariants.{Set, Get, Scan, History, Header, State, Prove, Advance, Item, Link, Sql}
use Rattle.im_script.specs.declared.commands.Line.{Line}
use Rattle.im_text.specs.Fields.{is_session_octet, IsSession}
use Rattle.im_text.proofs.LineLemmas.{texts-unique}
use Rattle.im_draft.specs.Drafts.{deletion}
use Rattle.im_script.specs.Script.{IsCommand, IsScriptLine, IsPassedOver, Say, Stop, end_of_phase, with_name, IsScript, StopsAfter}
use Rattle.im_script.proofs.FieldLemmas.{octets-unique, session-lacks}
use Rattle.im_script.proofs.AskedLemmas.{asked-unique}
use Rattle.im_script.proofs.NumberLemmas.{numbers-unique, item-unique}
use Rattle.im_script.proofs.LookupLemmas.{lookup-unique}
use Rattle.im_script.proofs.CommandLemmas.{only-set, only-delete, only-get, only-scan, only-history, only-header, only-state, only-prove, only-advance, only-item, only-link, only-sql}

command-unique : (text : List ℕ) (a b : Command) → IsCommand text a → IsCommand text b → a ≡ b
command-unique text (Set p c) b (inl x) y =
    let z = only-set x.0 b (subst (λ (t : List ℕ). IsCommand t b) x.1 y) in
    let e = asked-unique x.0 p z.0 c z.1 x.2 z.3 in
    ap₂ (λ (l : List Pre) (m : List Draft). Set l m) e.0 e.1 ∙ sym z.2
command-unique text (Set p c) b (inr (key, word, begins, k, none, one)) y =
    let z = only-delete word b (subst (λ (t : List ℕ). IsCommand t b) begins y) in
    ap₂ (λ (l : List Pre) (m : List Draft). Set l m) none one
    ∙ ap (λ (o : List ℕ). Set [] (deletion o ∷ [])) (octets-unique word key z.0 k z.2) ∙ sym z.1
command-unique text (Get k u) b x y =
    let z = only-get x.0 b (subst (λ (t : List ℕ). IsCommand t b) x.1 y) in
    let e = lookup-unique x.0 k z.0 u z.1 x.2 z.3 in
    ap₂ (λ (o : List ℕ) (v : Option ℕ). Get o v) e.0 e.1 ∙ sym z.2
command-unique text (Scan k u) b x y =
    let z = only-scan x.0 b (subst (λ (t : List ℕ). IsCommand t b) x.1 y) in
    let e = lookup-unique x.0 k z.0 u z.1 x.2 z.3 in
    ap₂ (λ (o : List ℕ) (v : Option ℕ). Scan o v) e.0 e.1 ∙ sym z.2
command-unique text (History k) b x y =
    let z = only-history x.0 b (subst (λ (t : List ℕ). IsCommand t b) x.1 y) in
    ap History (octets-unique x.0 k z.0 x.2 z.2) ∙ sym z.1
command-unique text (Header m) b x y =
    let z = only-header x.0 b (subst (λ (t : List ℕ). IsCommand t b) x.1 y) in
    ap Header (number-unique x.0 m z.0 x.2 z.2) ∙ sym z.1
command-unique text State b x y = sym (only-state [] b (subst (λ (t : List ℕ). IsCommand t b) x y)).0
command-unique text (Prove m n) b x y =
    let z = only-prove x.0 b (subst (λ (t : List ℕ). IsCommand t b) x.1 y) in
    let e = numbers-unique x.0 m n z.0 z.1 x.2 z.3 in
    ap₂ (λ (k l : ℕ). Prove k l) e.0 e.1 ∙ sym z.2
command-unique text (Advance m n) b x y =
    let z = only-advance x.0 b (subst (λ (t : List ℕ). IsCommand t b) x.1 y) in
    let e = numbers-unique x.0 m n z.0 z.1 x.2 z.3 in
    ap₂ (λ (k l : ℕ). Advance k l) e.0 e.1 ∙ sym z.2
command-unique text (Item n i u) b x y =
    let z = only-item x.0 b (subst (λ (t : List ℕ). IsCommand t b) x.1 y) in
    let e = item-unique x.0 n i z.0 z.1 u z.2 x.2 z.4 in
    ap₂ (λ (k j : ℕ). Item k j u) e.0 e.1 ∙ ap (λ (v : Option ℕ). Item z.0 z.1 v) e.2 ∙ sym z.3
command-unique text (Link m) b x y =
    let z = only-link x.0 b (subst (λ (t : List ℕ). IsCommand t b) x.1 y) in
    ap Link (number-unique x.0 m z.0 x.2 z.2) ∙ sym z.1
command-unique text (Sql statement) b x y =
    let z = only-sql x.0 b (subst (λ (t : List ℕ). IsCommand t b) x.1 y) in
    ap Sql (x.2.0 ∙ sym z.2.0) ∙ sym z.1

-- a text says one line at most
pub line-unique : (text : List ℕ) (a b : Line) → IsScriptLine text a → IsScriptLine text b → a ≡ b
line-unique text a b x y =
    let e = cut-unique 58 a.session b.session (32 ∷ x.0) (32 ∷ y.0) (session-lacks a.session x.2) (session-lacks b.session y.2) (sym x.1 ∙ y.1) in
    let rest = (head-is 32 32 x.0 y.0 e.1).1 in
    let same = command-unique y.0 a.command b.command (subst (λ (t : List ℕ). IsCommand t a.command) rest x.3) y.3 in
    ap₂ (λ (s : List ℕ) (c : Command). record { session = s; command = c }) e.0 same

no-session : IsSession [] → ⊥
unfolding is_word
no-session h = both_ways false refl h

first-octet : (o : ℕ) (session : List ℕ) → IsSession (o ∷ session) → is_session_octet o ≡ true
unfolding is_word
first-octet o session h = (and_parts _ _ (and_parts _ _ h).1).0

begins-no-session : (session rest text : List ℕ) (o : ℕ) → is_session_octet o ≡ false → IsSession session → o ∷ text ≡ session ++ 58 ∷ rest → ⊥
begins-no-session [] rest text o other h e = no-session h
begins-no-session (p ∷ session) rest text o other h e =
    both_ways _ other (subst (λ (x : ℕ). is_session_octet x ≡ true) (sym (head-is o p text _ e).0) (first-octet p session h))

some-text : (session rest : List ℕ) → [] ≡ session ++ 58 ∷ rest → ⊥
some-text [] rest e = cc
some-text (o ∷ session) rest e = cc

-- what is passed over says no line
pub passed-no-line : (text : List ℕ) (line : Line) → IsPassedOver text → IsScriptLine text line → ⊥
passed-no-line text line (inl e) h = some-text line.session (32 ∷ h.0) (sym e ∙ h.1)
passed-no-line text line (inr x) h = begins-no-session line.session (32 ∷ h.0) x.0 35 refl h.2 (sym x.1 ∙ h.1)

-- what has an octet isn't empty
pub some-octets : (o : ℕ) (rest : List ℕ) → o ∷ rest ≡ [] → ⊥
some-octets o rest e = cc

-- the text that ends a phase isn't passed over
pub end-not-passed : (text : List ℕ) → text ≡ end_of_phase → IsPassedOver text → ⊥
end-not-passed text e (inl p) = some-octets 45 (45 ∷ 45 ∷ []) (sym e ∙ p)
end-not-passed text e (inr p) = heads-differ 45 35 (45 ∷ 45 ∷ []) p.0 refl (sym e ∙ p.1)

-- and says no line
pub end-no-line : (text : List ℕ) (line : Line) → text ≡ end_of_phase → IsScriptLine text line → ⊥
end-no-line text line e h = begins-no-session line.session (32 ∷ h.0) (45 ∷ 45 ∷ []) 45 refl h.2 (sym e ∙ h.1)

say-unique : (names : List (List ℕ)) (texts : List (List ℕ)) (a b : List Line) (p q : List (List Line)) → Say names texts a p → Say names texts b q → (a ≡ b) × (p ≡ q)
say-unique names [] a b p q x y = (x.0 ∙ sym y.0, x.1 ∙ sym y.1)
say-unique names (t ∷ ts) a b p q (inl x) (inl y) = say-unique names ts a b p q x.1 y.1
say-unique names (t ∷ ts) a b p q (inl x) (inr (inl y)) = absurd (end-not-passed t y.0 x.0)
say-unique names (t ∷ ts) a b p q (inl x) (inr (inr y)) = absurd (passed-no-line t y.0 x.0 y.3)
say-unique names (t ∷ ts) a b p q (inr (inl x)) (inl y) = absurd (end-not-passed t x.0 y.0)
say-unique names (t ∷ ts) a b p q (inr (inl x)) (inr (inl y)) =
    let same = say-unique names ts x.2.0 y.2.0 x.2.1 y.2.1 x.2.3 y.2.3 in
    (x.1 ∙ sym y.1, x.2.2 ∙ ap₂ (λ (l : List Line) (m : List (List Line)). l ∷ m) same.0 same.1 ∙ sym y.2.2)
say-unique names (t ∷ ts) a b p q (inr (inl x)) (inr (inr y)) = absurd (end-no-line t y.0 x.0 y.3)
say-unique names (t ∷ ts) a b p q (inr (inr x)) (inl y) = absurd (passed-no-line t x.0 y.0 x.3)
say-unique names (t ∷ ts) a b p q (inr (inr x)) (inr (inl y)) = absurd (end-no-line t x.0 y.0 x.3)
say-unique names (t ∷ ts) a b p q (inr (inr x)) (inr (inr y)) =
    let e = line-unique t x.0 y.0 x.3 y.3 in
    let same = say-unique (with_name names y.0.session) ts x.1 y.1 p q (subst (λ (z : Line). Say (with_name names z.session) ts x.1 p) e x.5) y.5 in
    (x.2 ∙ ap₂ (λ (h : Line) (r : List Line). h ∷ r) e same.0 ∙ sym y.2, same.1)

say-stop : (names : List (List ℕ)) (texts : List (List ℕ)) (a : List Line) (p : List (List Line)) (n : ℕ) → Say names texts a p → Stop names texts n → ⊥
say-stop names [] a p n x y = y
say-stop names (t ∷ ts) a p zero (inl x) y = y.0 x.0
say-stop names (t ∷ ts) a p zero (inr (inl x)) y = y.1 x.0
say-stop names (t ∷ ts) a p zero (inr (inr x)) y = y.2 x.0 x.3 x.4
say-stop names (t ∷ ts) a p (suc n) (inl x) (inl y) = say-stop names ts a p n x.1 y.1
say-stop names (t ∷ ts) a p (suc n) (inl x) (inr (inl y)) = end-not-passed t y.0 x.0
say-stop names (t ∷ ts) a p (suc n) (inl x) (inr (inr y)) = passed-no-line t y.0 x.0 y.1
say-stop names (t ∷ ts) a p (suc n) (inr (inl x)) (inl y) = end-not-passed t x.0 y.0
say-stop names (t ∷ ts) a p (suc n) (inr (inl x)) (inr (inl y)) = say-stop names ts x.2.0 x.2.1 n x.2.3 y.1
say-stop names (t ∷ ts) a p (suc n) (inr (inl x)) (inr (inr y)) = end-no-line t y.0 x.0 y.1
say-stop names (t ∷ ts) a p (suc n) (inr (inr x)) (inl y) = passed-no-line t x.0 y.0 x.3
say-stop names (t ∷ ts) a p (suc n) (inr (inr x)) (inr (inl y)) = end-no-line t x.0 y.0 x.3
say-stop names (t ∷ ts) a p (suc n) (inr (inr x)) (inr (inr y)) =
    let e = line-unique t x.0 y.0 x.3 y.1 in
    say-stop (with_name names y.0.session) ts x.1 p n (subst (λ (z : Line). Say (with_name names z.session) ts x.1 p) e x.5) y.3

stop-unique : (names : List (List ℕ)) (texts : List (List ℕ)) (m n : ℕ) → Stop names texts m → Stop names texts n → m ≡ n
stop-unique names [] m n x y = absurd x
stop-unique names (t ∷ ts) zero zero x y = refl
stop-unique names (t ∷ ts) zero (suc n) x (inl y) = absurd (x.0 y.0)
stop-unique names (t ∷ ts) zero (suc n) x (inr (inl y)) = absurd (x.1 y.0)
stop-unique names (t ∷ ts) zero (suc n) x (inr (inr y)) = absurd (x.2 y.0 y.1 y.2)
stop-unique names (t ∷ ts) (suc m) zero (inl x) y = absurd (y.0 x.0)
stop-unique names (t ∷ ts) (suc m) zero (inr (inl x)) y = absurd (y.1 x.0)
stop-unique names (t ∷ ts) (suc m) zero (inr (inr x)) y = absurd (y.2 x.0 x.1 x.2)
stop-unique names (t ∷ ts) (suc m) (suc n) (inl x) (inl y) = ap suc (stop-unique names ts m n x.1 y.1)
stop-unique names (t ∷ ts) (suc m) (suc n) (inl x) (inr (inl y)) = absurd (end-not-passed t y.0 x.0)
stop-unique names (t ∷ ts) (suc m) (suc n) (inl x) (inr (inr y)) = absurd (passed-no-line t y.0 x.0 y.1)
stop-unique names (t ∷ ts) (suc m) (suc n) (inr (inl x)) (inl y) = absurd (end-not-passed t x.0 y.0)
stop-unique names (t ∷ ts) (suc m) (suc n) (inr (inl x)) (inr (inl y)) = ap suc (stop-unique names ts m n x.1 y.1)
stop-unique names (t ∷ ts) (suc m) (suc n) (inr (inl x)) (inr (inr y)) = absurd (end-no-line t y.0 x.0 y.1)
stop-unique names (t ∷ ts) (suc m) (suc n) (inr (inr x)) (inl y) = absurd (passed-no-line t x.0 y.0 x.1)
stop-unique names (t ∷ ts) (suc m) (suc n) (inr (inr x)) (inr (inl y)) = absurd (end-no-line t x.0 y.0 x.1)
stop-unique names (t ∷ ts) (suc m) (suc n) (inr (inr x)) (inr (inr y)) =
    let e = line-unique t x.0 y.0 x.1 y.1 in
    ap suc (stop-unique (with_name names y.0.session) ts m n (subst (λ (z : Line). Stop (with_name names z.session) ts m) e x.3) y.3)

-- a script is read in one way at most
pub script-unique : (octets : List ℕ) (a b : List (List Line)) → IsScript octets a → IsScript octets b → a ≡ b
script-unique octets a b x y =
    let same = texts-unique octets x.0 y.0 x.1 y.1 in
    let u = x.2 in
    let v = y.2 in
    let both = say-unique [] y.0 u.0 v.0 u.1 v.1 (subst (λ (t : List (List ℕ)). Say [] t u.0 u.1) same u.3) v.3 in
    u.2 ∙ ap₂ (λ (l : List Line) (m : List (List Line)). l ∷ m) both.0 both.1 ∙ sym v.2

-- a script stops at no line
pub read-or-stop : (octets : List ℕ) (script : List (List Line)) (n : ℕ) → IsScript octets script → StopsAfter octets n → ⊥
read-or-stop octets script n x y =
    let u = x.2 in say-stop [] y.0 u.0 u.1 n (subst (λ (t : List (List ℕ)). Say [] t u.0 u.1) (texts-unique octets x.0 y.0 x.1 y.1) u.3) y.2

-- what stops stops at one line
pub one-stop : (octets : List ℕ) (m n : ℕ) → StopsAfter octets m → StopsAfter octets n → m ≡ n
one-stop octets m n x y =
    stop-unique [] y.0 m n (subst (λ (t : List (List ℕ)). Stop [] t m) (texts-unique octets x.0 y.0 x.1 y.1) x.2) y.2
