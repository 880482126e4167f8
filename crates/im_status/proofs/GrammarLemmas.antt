-- The script that `gen` runs is in the grammar, and says its lines.
use Rattle.std.proofs.Common.{◌≡◌, ◌⊎◌, ◌∙◌, ◌+◌, ◌-◌, ◌*◌, ◌/◌, ◌%◌, ◌^◌, ◌<◌, ◌≤◌, ◌==◌, ◌||◌, cond, nat_le, ℕ, zero, suc, Bool, true, false, List, [], ◌∷◌, ◌++◌, length, map, None, codes, refl, sym, ap, subst, inl, inr, arith, append_assoc}
use Rattle.std.proofs.lemmas.Bool.{and_from, and_parts, false≢true, le-leb, leb-true}
use Rattle.std.proofs.lemmas.Fmt.{decimal_by_steps}
use Rattle.std.proofs.lemmas.Grind.{fold-append}
use Rattle.std.proofs.lemmas.List.{append-nil}
use Rattle.std.specs.Char.{is_ascii_digit}
use Rattle.std.specs.Fmt.{decimal}
use Rattle.std.specs.Int.{is_in_range}
use Rattle.std.specs.List.{list_all}
use Rattle.im_text.specs.Cuts.{Lacks}
use Rattle.im_text.specs.Fields.{IsOctets, IsSession, is_bare, is_bare_octet}
use Rattle.im_text.specs.Lines.{AreTexts}
use Rattle.im_text.specs.Words.{IsNumber, is_word, number_value}
use Rattle.im_text.proofs.CutLemmas.{Lacks-append}
use Rattle.im_accept.proofs.DigitLemmas.{decimal-digits, decimal-lacks, decimal-word}
use Rattle.im_gen.specs.Generator.{advance_text, asked_text, behind_text, generator_after, item_text, key_of, own_text, script_text, source_of}
use Rattle.im_draft.specs.Drafts.{deletion}
use Rattle.im_script.specs.Script.{AreNumbers, IsCommand, IsScript, IsScriptLine, MayFollow, Say, with_name}
use Rattle.im_script.specs.declared.commands.Command.{Command}
use Rattle.im_script.specs.declared.commands.Command.TheVariants.{Set, State, Advance, Item, Link}
use Rattle.im_status.specs.GeneratedLines.{asked_commands, behind_commands, generated_entry, generated_key, generated_line, own_command, script_commands, script_lines}

-- the octets are texts, each ended by LF, that say these commands in the script's session
abbrev pub Say-ended : List ℕ → List Command → Type 0
Say-ended octets [] = octets ≡ []
Say-ended octets (c ∷ cs) =
    (text : List ℕ) × (behind : List ℕ) × (octets ≡ text ++ 10 ∷ behind) × Lacks 10 text × IsScriptLine text (generated_line c) × Say-ended behind cs

pub ended-append : (cs ds : List Command) (a b : List ℕ) → Say-ended a cs → Say-ended b ds → Say-ended (a ++ b) (cs ++ ds)
ended-append [] ds a b e f = subst (λ (x : List ℕ). Say-ended (x ++ b) ds) (sym e) f
ended-append (c ∷ cs) ds a b e f =
    (e.0, e.1 ++ b, ap (λ (x : List ℕ). x ++ b) e.2 ∙ append_assoc e.0 (10 ∷ e.1) b, e.3, e.4, ended-append cs ds e.1 b e.5 f)

-- the names of the lines before are none, or that of the script's session
abbrev Alike : List (List ℕ) → Type 0
Alike names = (names ≡ []) ⊎ (names ≡ codes "a" ∷ [])

may-follow : (names : List (List ℕ)) (c : Command) → Alike names → MayFollow names (generated_line c)
may-follow names c (inl none) = subst (λ (ns : List (List ℕ)). MayFollow ns (generated_line c)) (sym none) refl
may-follow names c (inr one) = subst (λ (ns : List (List ℕ)). MayFollow ns (generated_line c)) (sym one) refl

alike-next : (names : List (List ℕ)) → Alike names → Alike (with_name names (codes "a"))
alike-next names (inl none) = inr (ap (λ (ns : List (List ℕ)). with_name ns (codes "a")) none)
alike-next names (inr one) = inr (ap (λ (ns : List (List ℕ)). with_name ns (codes "a")) one)

ended-say : (cs : List Command) (octets : List ℕ) (names : List (List ℕ)) → Alike names → Say-ended octets cs
    → (texts : List (List ℕ)) × AreTexts octets texts × Say names texts (map generated_line cs) []
ended-say [] octets names alike e = ([], e, (refl, refl))
ended-say (c ∷ cs) octets names alike e =
    let rest = ended-say cs e.1 (with_name names (codes "a")) (alike-next names alike) e.5 in
    (e.0 ∷ rest.0, (e.3, inr (e.1, e.2, rest.1)), inr (inr (generated_line c, map generated_line cs, refl, e.4, may-follow names c alike, rest.2)))

-- ---- numbers and words

number_value-decimal : (n : ℕ) → n < 2 ^ 64 → number_value (decimal n) ≡ n
number_value-decimal n small = decimal_by_steps (λ (m : ℕ) (ds : List ℕ). number_value ds ≡ m) one more n small
  where
    one : (m : ℕ) → m < 10 → number_value ((48 + m) ∷ []) ≡ m
    one m l = omega arith

    more : (m : ℕ) (ds : List ℕ) → 10 ≤ m → number_value ds ≡ m / 10 → number_value (ds ++ ((48 + m % 10) ∷ [])) ≡ m
    more m ds l is =
        fold-append (λ (k d : ℕ). k * 10 + (d - 48)) 0 ds ((48 + m % 10) ∷ [])
        ∙ ap (λ (k : ℕ). k * 10 + (48 + m % 10 - 48)) is
        ∙ omega arith

number-is : (n : ℕ) → n ≤ 1048576 → IsNumber (decimal n) n
number-is n few = (decimal-word n few, number_value-decimal n (omega arith), omega arith)

third : (a b c d : Bool) → c ≡ true → (a || b || c || d) ≡ true
third true b c d is = refl
third false true c d is = refl
third false false true d is = refl
third false false false d is = absurd (false≢true is)

digit-bare : (d : ℕ) → is_ascii_digit d ≡ true → is_bare_octet d ≡ true
digit-bare d digit =
    let parts = and_parts (nat_le 48 d) (nat_le d 57) digit in
    let low : 48 ≤ d = leb-true 48 d parts.0 in
    third (is_in_range 65 90 d) (is_in_range 97 122 d) (is_in_range 45 57 d) (d == 95) (and_from (nat_le 45 d) (nat_le d 57) (le-leb 45 d (omega (arith, low))) parts.1)

digits-bare : (ds : List ℕ) → list_all is_ascii_digit ds ≡ true → list_all is_bare_octet ds ≡ true
digits-bare [] all = refl
digits-bare (d ∷ ds) all =
    let parts = and_parts (is_ascii_digit d) (list_all is_ascii_digit ds) all in
    and_from _ _ (digit-bare d parts.0) (digits-bare ds parts.1)

-- a letter and digits are a bare word, which stands for itself
key-word : (n : ℕ) → IsOctets (codes "k" ++ decimal n) (codes "k" ++ decimal n)
unfolding is_bare
key-word n = inl (and_from _ _ (and_from _ _ (le-leb 1 (length (codes "k" ++ decimal n)) (omega arith)) (digits-bare (decimal n) (decimal-digits n))) refl, refl)

value-word : (n : ℕ) → IsOctets (codes "v" ++ decimal n) (codes "v" ++ decimal n)
unfolding is_bare
value-word n = inl (and_from _ _ (and_from _ _ (le-leb 1 (length (codes "v" ++ decimal n)) (omega arith)) (digits-bare (decimal n) (decimal-digits n))) refl, refl)

session-is : IsSession (codes "a")
unfolding is_word
session-is = refl

-- ---- lines

-- a line of the script's session, of what stands behind its mark
line-is : (rest : List ℕ) (c : Command) → IsCommand rest c → IsScriptLine (codes "a: " ++ rest) (generated_line c)
line-is rest c is = (rest, refl, session-is, is)

one-line : (rest : List ℕ) (c : Command) → Lacks 10 rest → IsCommand rest c → Say-ended ((codes "a: " ++ rest) ++ codes "\n") (c ∷ [])
one-line rest c lacks is = (codes "a: " ++ rest, [], refl, Lacks-append 10 (codes "a: ") rest refl lacks, line-is rest c is, refl)

link-said : Say-ended (codes "a: link 15\n") (Link 15 ∷ [])
unfolding is_word
link-said = one-line (codes "link 15") (Link 15) refl (codes "15", refl, (refl, refl, omega arith))

state-said : Say-ended (codes "a: state\n") (State ∷ [])
state-said = one-line (codes "state") State refl refl

deletion-said : (key : ℕ) → Say-ended (codes "a: del k" ++ decimal key ++ codes "\n") (Set [] (deletion (generated_key key) ∷ []) ∷ [])
deletion-said key =
    one-line (codes "del k" ++ decimal key) (Set [] (deletion (generated_key key) ∷ []))
    (Lacks-append 10 (codes "del k") (decimal key) refl (decimal-lacks 10 key refl))
    (inr (generated_key key, generated_key key, refl, key-word key, refl, refl))

-- the text of an entry
abbrev field-of : ℕ → ℕ → List ℕ
field-of i key = generated_key key ++ 61 ∷ (codes "v" ++ decimal i)

field-lacks : (i key : ℕ) → Lacks 10 (field-of i key)
field-lacks i key =
    Lacks-append 10 (generated_key key) (61 ∷ (codes "v" ++ decimal i)) (Lacks-append 10 (codes "k") (decimal key) refl (decimal-lacks 10 key refl))
    (Lacks-append 10 (codes "=v") (decimal i) refl (decimal-lacks 10 i refl))

set-said : (i key : ℕ) → Say-ended (codes "a: set k" ++ decimal key ++ codes "=v" ++ decimal i ++ codes "\n") (Set [] (generated_entry i key ∷ []) ∷ [])
set-said i key =
    let rest : List ℕ = codes "set " ++ field-of i key in
    let whole : ((codes "a: set k" ++ decimal key) ++ codes "=v") ++ decimal i ≡ codes "a: " ++ rest =
    append_assoc (codes "a: set k" ++ decimal key) (codes "=v") (decimal i) ∙ append_assoc (codes "a: set k") (decimal key) (codes "=v" ++ decimal i) in
    let said : Say-ended ((codes "a: " ++ rest) ++ codes "\n") (Set [] (generated_entry i key ∷ []) ∷ []) =
    one-line rest (Set [] (generated_entry i key ∷ [])) (Lacks-append 10 (codes "set ") (field-of i key) refl (field-lacks i key))
    (inl (
      32 ∷ field-of i key,
      refl,
      (
        [],
        32 ∷ field-of i key,
        refl,
        refl,
        (
          field-of i key,
          [],
          ap (λ (x : List ℕ). 32 ∷ x) (sym (append-nil (field-of i key))),
          ([], generated_key key, codes "v" ++ decimal i, refl, inl (refl, refl), key-word key, value-word i),
          refl,
        ),
      ),
    )) in
    subst (λ (x : List ℕ). Say-ended (x ++ codes "\n") (Set [] (generated_entry i key ∷ []) ∷ [])) (sym whole) said

own-said : (i key : ℕ) → Say-ended (own_text i key) (own_command i key ∷ [])
own-said i key = go (i % 16 == 0) (i % 16 == 8)
  where
    go : (linked deleted : Bool)
        → Say-ended (cond linked (codes "a: link 15\n") (cond deleted (codes "a: del k" ++ decimal key ++ codes "\n") (codes "a: set k" ++ decimal key ++ codes "=v" ++ decimal i ++ codes "\n")))
        (cond linked (Link 15) (cond deleted (Set [] (deletion (generated_key key) ∷ [])) (Set [] (generated_entry i key ∷ []))) ∷ [])
    go true deleted = link-said
    go false true = deletion-said key
    go false false = set-said i key

-- ---- what a client asks for

source-few : (j : ℕ) → j ≤ 1562 → source_of j ≤ 1048576
source-few j few = go (j == 1)
  where
    go : (b : Bool) → cond b 1 (60 * (j - 1)) ≤ 1048576
    go true = omega arith
    go false = omega arith

advance-said : (j : ℕ) → j ≤ 1562 → Say-ended (advance_text j) (Advance (source_of j) (60 * j) ∷ [])
advance-said j few =
    let s : List ℕ = decimal (source_of j) in
    let t : List ℕ = decimal (60 * j) in
    let numbers : List ℕ = s ++ 32 ∷ t in
    let rest : List ℕ = codes "advance " ++ numbers in
    let whole : ((codes "a: advance " ++ s) ++ codes " ") ++ t ≡ codes "a: " ++ rest =
    append_assoc (codes "a: advance " ++ s) (codes " ") t ∙ append_assoc (codes "a: advance ") s (codes " " ++ t) in
    let lacks : Lacks 10 numbers = Lacks-append 10 s (32 ∷ t) (decimal-lacks 10 (source_of j) refl) (decimal-lacks 10 (60 * j) refl) in
    let is : AreNumbers numbers (source_of j) (60 * j) =
    (s, t, refl, number-is (source_of j) (source-few j few), number-is (60 * j) (omega arith)) in
    let said : Say-ended ((codes "a: " ++ rest) ++ codes "\n") (Advance (source_of j) (60 * j) ∷ []) =
    one-line rest (Advance (source_of j) (60 * j)) (Lacks-append 10 (codes "advance ") numbers refl lacks) (numbers, refl, is) in
    subst (λ (x : List ℕ). Say-ended (x ++ codes "\n") (Advance (source_of j) (60 * j) ∷ [])) (sym whole) said

zero-is : IsNumber (codes "0") 0
unfolding is_word
zero-is = (refl, refl, omega arith)

item-said : (j : ℕ) → j ≤ 1562 → Say-ended (item_text j) (Item (60 * j) 0 None ∷ [])
item-said j few =
    let t : List ℕ = decimal (60 * j) in
    let numbers : List ℕ = t ++ codes " 0" in
    let rest : List ℕ = codes "item " ++ numbers in
    let whole : (codes "a: item " ++ t) ++ codes " 0\n" ≡ (codes "a: " ++ rest) ++ codes "\n" =
    append_assoc (codes "a: item ") t (codes " 0\n") ∙ ap (λ (x : List ℕ). codes "a: item " ++ x) (sym (append_assoc t (codes " 0") (codes "\n"))) in
    let lacks : Lacks 10 numbers = Lacks-append 10 t (codes " 0") (decimal-lacks 10 (60 * j) refl) refl in
    let is : AreNumbers numbers (60 * j) 0 = (t, codes "0", refl, number-is (60 * j) (omega arith), zero-is) in
    let said : Say-ended ((codes "a: " ++ rest) ++ codes "\n") (Item (60 * j) 0 None ∷ []) =
    one-line rest (Item (60 * j) 0 None) (Lacks-append 10 (codes "item ") numbers refl lacks)
    (numbers, refl, (numbers, [], sym (append-nil numbers), is, omega arith, refl)) in
    subst (λ (x : List ℕ). Say-ended x (Item (60 * j) 0 None ∷ [])) (sym whole) said

asked-said : (j : ℕ) → j ≤ 1562 → Say-ended (asked_text j) (asked_commands j)
asked-said j few =
    ended-append (Advance (source_of j) (60 * j) ∷ []) (Item (60 * j) 0 None ∷ []) (advance_text j) (item_text j) (advance-said j few) (item-said j few)

behind-said : (i : ℕ) → i ≤ 100000 → Say-ended (behind_text i) (behind_commands i)
behind-said i few = go (i == 1) (i % 64 == 0)
  where
    go : (first asked : Bool)
        → Say-ended (cond first (codes "a: state\n") (cond asked (asked_text (i / 64)) [])) (cond first (State ∷ []) (cond asked (asked_commands (i / 64)) []))
    go true asked = state-said
    go false true = asked-said (i / 64) (omega arith)
    go false false = refl

script-said : (n : ℕ) → n ≤ 100000 → Say-ended (script_text n) (script_commands n)
script-said zero few = refl
script-said (suc n) few =
    let key = key_of (generator_after (suc n)) in
    ended-append (script_commands n ++ own_command (suc n) key ∷ []) (behind_commands (suc n)) (script_text n ++ own_text (suc n) key) (behind_text (suc n))
    (ended-append (script_commands n) (own_command (suc n) key ∷ []) (script_text n) (own_text (suc n) key) (script-said n (omega arith)) (own-said (suc n) key))
    (behind-said (suc n) few)

-- the script is in the grammar, and says its lines: it has one phase
pub script-is : (n : ℕ) → n ≤ 100000 → IsScript (script_text n) (script_lines n ∷ [])
script-is n few =
    let said = ended-say (script_commands n) (script_text n) [] (inl refl) (script-said n few) in
    (said.0, said.1, (script_lines n, [], refl, said.2))
