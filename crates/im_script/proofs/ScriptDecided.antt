-- Whether a text says a line, and whether octets are a script.
use Rattle.std.proofs.Common.{◌≡◌, ◌≢◌, ◌⊎◌, ◌==◌, ◌||◌, ℕ, zero, suc, length, nat_lt, List, [], ◌∷◌, ◌++◌, Option, Some, None, true, false, codes, inl, inr, refl, sym, subst, ap, ◌∙◌, append_assoc}
use Rattle.std.specs.Str.{bytes_eq, is_utf8}
use Rattle.std.proofs.lemmas.Bool.{both_ways}
use Rattle.std.proofs.lemmas.Bool.Decides.{eqb_tells}
use Rattle.std.proofs.lemmas.Slice.Eq.{bytes_eq-Decides}
use Rattle.std.proofs.lemmas.Str.{IsUtf8-from_is_utf8, is_utf8-from_IsUtf8}
use Rattle.im_text.specs.Cuts.{IsCut, Lacks}
use Rattle.im_text.specs.Finds.{Finds}
use Rattle.im_text.specs.Lines.{AreTexts}
use Rattle.im_text.specs.Words.{IsNumber, is_word}
use Rattle.im_text.proofs.CutLemmas.{Lacks-mark, append-same, heads-differ}
use Rattle.im_text.proofs.LineLemmas.{texts-exist}
use Rattle.im_text.specs.Fields.{IsOctets, is_session_octet}
use Rattle.im_script.specs.declared.commands.Command.{Command}
use Rattle.im_script.specs.declared.commands.Command.TheVariants.{Set, Get, Scan, History, Header, State, Prove, Advance, Item, Link, Sql}
use Rattle.im_script.specs.declared.commands.Line.{Line}
use Rattle.im_draft.specs.Drafts.{deletion}
use Rattle.im_script.specs.Script.{AreNumbers, IsAt, IsCommand, IsScriptLine, IsLookup, IsPassedOver, IsScript, IsStatementText, MayFollow, Say, Stop, end_of_phase, has_name, with_name, StopsAfter}
use Rattle.im_script.specs.Arguments.{IsSet, IsDelete, IsGet, IsScanCommand, IsHistoryCommand, IsHeaderCommand, IsIndex, IsState, IsProve, IsAdvance, IsItemCommand, IsLink, IsSql}
use Rattle.im_script.proofs.CommandLemmas.{advance-no-numbers, found-set, found-delete, found-get, found-scan, found-history, found-header, found-state, found-prove, found-advance, found-item, found-link, found-sql, prove-no-numbers}
use Rattle.im_text.proofs.DecideLemmas.{truth}
use Rattle.im_script.proofs.Decisions.{Decided, after-decided, by-cut, decided-by, decided-else, first-field, index-decided, number-decided, octets-decided}
use Rattle.im_script.proofs.FieldsDecided.{AsksBoth, asked-decided}
use Rattle.im_script.proofs.LineLemmas.{line-bad-command, line-bad-session, line-no-space}
use Rattle.im_script.proofs.LookupLemmas.{lookup-bad-at, lookup-bad-octets}
use Rattle.im_script.proofs.NumberLemmas.{item-bad-index, item-bad-number, item-bad-under, item-of, numbers-bad-first, numbers-bad-second}
use Rattle.im_script.proofs.Unique.{line-unique, some-octets}

no-at : (o : ℕ) (text : List ℕ) → ((digits : List ℕ) (n : ℕ) → o ∷ text ≡ codes " @" ++ digits → IsNumber digits n → ⊥) → (at : Option ℕ) → IsAt (o ∷ text) at → ⊥
no-at o text none None h = cc
no-at o text none (Some n) h = none h.0 n h.1 h.2

at-decided : (text : List ℕ) → Decided (IsAt text)
at-decided [] = inl (None, refl)
at-decided (o ∷ text) =
    decided-by (λ (digits : List ℕ). o ∷ text ≡ codes " @" ++ digits) (IsAt (o ∷ text))
    (λ digits e. decided-by (IsNumber digits) (IsAt (o ∷ text)) (λ n d. inl (Some n, (digits, e, d)))
    (λ none. no-at o text (λ more n begins d. none n (subst (λ (t : List ℕ). IsNumber t n) (append-same (codes " @") more digits (sym begins ∙ e)) d)))
    (number-decided digits))
    (λ none. no-at o text (λ more n begins d. none more begins)) (after-decided (codes " @") (o ∷ text))

-- octets that a text looks up, and the transaction that it names
abbrev LooksUp : List ℕ → List ℕ × Option ℕ → Type 0
LooksUp text lookup = IsLookup text lookup.0 lookup.1

lookup-decided : (text : List ℕ) → Decided (LooksUp text)
lookup-decided text =
    let (word, mark, first) = first-field text in
    decided-by (IsAt mark) (LooksUp text)
    (λ at a. decided-by (IsOctets word) (LooksUp text) (λ octets o. inl ((octets, at), (word, mark, first.1, o, a)))
    (lookup-bad-octets text word mark first) (octets-decided word))
    (lookup-bad-at text word mark first) (at-decided mark)

-- two numbers that a text says
abbrev SaysBoth : List ℕ → ℕ × ℕ → Type 0
SaysBoth text numbers = AreNumbers text numbers.0 numbers.1

numbers-decided : (text : List ℕ) → Decided (SaysBoth text)
numbers-decided text = by-cut (SaysBoth text) 32 text
    (λ front back cut. decided-by (IsNumber front) (SaysBoth text)
    (λ m first. decided-by (IsNumber back) (SaysBoth text) (λ n second. inl ((m, n), (front, back, cut.1, first, second)))
    (numbers-bad-second text front back cut) (number-decided back))
    (numbers-bad-first text front back cut) (number-decided front))
    (λ lacks numbers h. Lacks-mark 32 h.0 h.1 (subst (λ (t : List ℕ). Lacks 32 t) h.2 lacks))

no-item : (text : List ℕ) → Lacks 32 text → (c : Command) → IsItemCommand text c → ⊥
no-item text lacks c (n, i, u, is, (numbers, mark, e, (a, b, parted, ha, hb), small, under)) =
    let whole : text ≡ a ++ 32 ∷ (b ++ mark) = e ∙ ap (λ (t : List ℕ). t ++ mark) parted ∙ append_assoc a (32 ∷ b) mark in
    Lacks-mark 32 a (b ++ mark) (subst (λ (t : List ℕ). Lacks 32 t) whole lacks)

item-decided : (text : List ℕ) → Decided (IsItemCommand text)
item-decided text = by-cut (IsItemCommand text) 32 text
    (λ front tail cut. let (second, mark, first) = first-field tail in
    decided-by (IsNumber front) (IsItemCommand text)
    (λ n number. decided-by (IsIndex second) (IsItemCommand text)
    (λ i index. decided-by (IsAt mark) (IsItemCommand text)
    (λ u under. inl (Item n i u, (n, i, u, refl, item-of text front tail second mark n i u cut first number index under)))
    (item-bad-under text front tail second mark cut first) (at-decided mark))
    (item-bad-index text front tail second mark cut first) (index-decided second))
    (item-bad-number text front tail second mark cut first) (number-decided front))
    (no-item text)

set-decided : (text : List ℕ) → Decided (IsSet text)
set-decided text =
    decided-by (AsksBoth text) (IsSet text) (λ asked h. inl (Set asked.0 asked.1, (asked.0, asked.1, refl, h))) (λ none c h. none (h.0, h.1) h.3) (asked-decided text)

delete-decided : (text : List ℕ) → Decided (IsDelete text)
delete-decided text =
    decided-by (IsOctets text) (IsDelete text) (λ key k. inl (Set [] (deletion key ∷ []), (key, refl, k))) (λ none c h. none h.0 h.2) (octets-decided text)

get-decided : (text : List ℕ) → Decided (IsGet text)
get-decided text =
    decided-by (LooksUp text) (IsGet text) (λ l h. inl (Get l.0 l.1, (l.0, l.1, refl, h))) (λ none c h. none (h.0, h.1) h.3) (lookup-decided text)

scan-decided : (text : List ℕ) → Decided (IsScanCommand text)
scan-decided text =
    decided-by (LooksUp text) (IsScanCommand text) (λ l h. inl (Scan l.0 l.1, (l.0, l.1, refl, h))) (λ none c h. none (h.0, h.1) h.3) (lookup-decided text)

history-decided : (text : List ℕ) → Decided (IsHistoryCommand text)
history-decided text =
    decided-by (IsOctets text) (IsHistoryCommand text) (λ key k. inl (History key, (key, refl, k))) (λ none c h. none h.0 h.2) (octets-decided text)

header-decided : (text : List ℕ) → Decided (IsHeaderCommand text)
header-decided text =
    decided-by (IsNumber text) (IsHeaderCommand text) (λ n h. inl (Header n, (n, refl, h))) (λ none c h. none h.0 h.2) (number-decided text)

state-decided : (text : List ℕ) → Decided (IsState text)
state-decided [] = inl (State, (refl, refl))
state-decided (o ∷ text) = inr none
  where
    none : (c : Command) → IsState (o ∷ text) c → ⊥
    none c h = let e : o ∷ text ≡ [] = h.1 in cc

prove-decided : (text : List ℕ) → Decided (IsProve text)
prove-decided text =
    decided-by (SaysBoth text) (IsProve text) (λ p h. inl (Prove p.0 p.1, (p.0, p.1, refl, h))) (prove-no-numbers text) (numbers-decided text)

advance-decided : (text : List ℕ) → Decided (IsAdvance text)
advance-decided text =
    decided-by (SaysBoth text) (IsAdvance text) (λ p h. inl (Advance p.0 p.1, (p.0, p.1, refl, h))) (advance-no-numbers text) (numbers-decided text)

link-decided : (text : List ℕ) → Decided (IsLink text)
link-decided text =
    decided-by (IsNumber text) (IsLink text) (λ n h. inl (Link n, (n, refl, h))) (λ none c h. none h.0 h.2) (number-decided text)

statement-decided : (text : List ℕ) → Decided (IsStatementText text)
statement-decided [] = inr (λ statement h. h.1 refl)
statement-decided (o ∷ text) = go (truth (is_utf8 (o ∷ text)))
  where
    go : (is_utf8 (o ∷ text) ≡ true) ⊎ (is_utf8 (o ∷ text) ≡ false) → Decided (IsStatementText (o ∷ text))
    go (inl is) = inl (o ∷ text, (refl, some-octets o text, IsUtf8-from_is_utf8 (o ∷ text) is))
    go (inr other) = inr (λ statement h. both_ways _ other (is_utf8-from_IsUtf8 (o ∷ text) h.2))

sql-decided : (text : List ℕ) → Decided (IsSql text)
sql-decided text =
    decided-by (IsStatementText text) (IsSql text) (λ statement h. inl (Sql statement, (statement, refl, h))) (λ none c h. none h.0 h.2) (statement-decided text)

-- a text doesn't begin with a word
abbrev LacksWord : List ℕ → List ℕ → Type 0
LacksWord text word = (rest : List ℕ) → text ≡ word ++ rest → ⊥

-- a text that begins with the word of no command says none
no-command : (text : List ℕ) → LacksWord text (codes "set") → LacksWord text (codes "del ") → LacksWord text (codes "get ") → LacksWord text (codes "scan ") → LacksWord text (codes "history ") → LacksWord text (codes "header ")
    → LacksWord text (codes "state") → LacksWord text (codes "prove ") → LacksWord text (codes "advance ") → LacksWord text (codes "item ") → LacksWord text (codes "link ") → LacksWord text (codes "sql ") → (c : Command) → IsCommand text c → ⊥
no-command text set delete get scan history header state prove advance item link sql (Set pres drafts) (inl h) = set h.0 h.1
no-command text set delete get scan history header state prove advance item link sql (Set pres drafts) (inr h) = delete h.1 h.2
no-command text set delete get scan history header state prove advance item link sql (Get key at) h = get h.0 h.1
no-command text set delete get scan history header state prove advance item link sql (Scan prefix at) h = scan h.0 h.1
no-command text set delete get scan history header state prove advance item link sql (History key) h = history h.0 h.1
no-command text set delete get scan history header state prove advance item link sql (Header n) h = header h.0 h.1
no-command text set delete get scan history header state prove advance item link sql State h = state [] h
no-command text set delete get scan history header state prove advance item link sql (Prove m n) h = prove h.0 h.1
no-command text set delete get scan history header state prove advance item link sql (Advance m n) h = advance h.0 h.1
no-command text set delete get scan history header state prove advance item link sql (Item n i u) h = item h.0 h.1
no-command text set delete get scan history header state prove advance item link sql (Link n) h = link h.0 h.1
no-command text set delete get scan history header state prove advance item link sql (Sql statement) h = sql h.0 h.1

says-command : (text : List ℕ) (P : Command → Type 0) → ((o : Option Command) → Finds o P → Finds o (IsCommand text)) → Decided P → Decided (IsCommand text)
says-command text P found (inl h) = inl (h.0, found (Some h.0) h.1)
says-command text P found (inr none) = inr (found None none)

-- what stands behind a word decides, and else what no such word says
by-word : (text word : List ℕ) (P : List ℕ → Command → Type 0) → ((rest : List ℕ) → text ≡ word ++ rest → (o : Option Command) → Finds o (P rest) → Finds o (IsCommand text)) → ((rest : List ℕ) → Decided (P rest)) → (LacksWord text word → Decided (IsCommand text)) → Decided (IsCommand text)
by-word text word P found decided other =
    decided-else (λ (rest : List ℕ). text ≡ word ++ rest) (IsCommand text) (λ rest e. says-command text (P rest) (found rest e) (decided rest)) other (after-decided word text)

command-decided : (text : List ℕ) → Decided (IsCommand text)
command-decided text = by-word text (codes "set") IsSet (found-set text) set-decided
    (λ set. by-word text (codes "del ") IsDelete (found-delete text) delete-decided
    (λ delete. by-word text (codes "get ") IsGet (found-get text) get-decided
    (λ get. by-word text (codes "scan ") IsScanCommand (found-scan text) scan-decided
    (λ scan. by-word text (codes "history ") IsHistoryCommand (found-history text) history-decided
    (λ history. by-word text (codes "header ") IsHeaderCommand (found-header text) header-decided
    (λ header. by-word text (codes "state") IsState (found-state text) state-decided
    (λ state. by-word text (codes "prove ") IsProve (found-prove text) prove-decided
    (λ prove. by-word text (codes "advance ") IsAdvance (found-advance text) advance-decided
    (λ advance. by-word text (codes "item ") IsItemCommand (found-item text) item-decided
    (λ item. by-word text (codes "link ") IsLink (found-link text) link-decided
    (λ link. by-word text (codes "sql ") IsSql (found-sql text) sql-decided
    (λ sql. inr (no-command text set delete get scan history header state prove advance item link sql)))))))))))))

-- the line that a text says
pub line-decided : (text : List ℕ) → Decided (IsScriptLine text)
line-decided text = by-cut (IsScriptLine text) 58 text (λ front tail cut. go front tail cut (truth (is_word 16 is_session_octet front)))
    (λ lacks line h. Lacks-mark 58 line.session (32 ∷ h.0) (subst (λ (t : List ℕ). Lacks 58 t) h.1 lacks))
  where
    go : (front tail : List ℕ) → IsCut 58 text front tail → (is_word 16 is_session_octet front ≡ true) ⊎ (is_word 16 is_session_octet front ≡ false) → Decided (IsScriptLine text)
    go front tail cut (inl is) =
        decided-by (λ (rest : List ℕ). tail ≡ codes " " ++ rest) (IsScriptLine text)
        (λ rest e. decided-by (IsCommand rest) (IsScriptLine text)
        (λ c h. inl (record { session = front; command = c }, (rest, cut.1 ∙ ap (λ (t : List ℕ). front ++ 58 ∷ t) e, is, h)))
        (line-bad-command text front tail rest cut e) (command-decided rest))
        (line-no-space text front tail cut) (after-decided (codes " ") tail)
    go front tail cut (inr other) = inr (line-bad-session text front tail cut (λ h. both_ways _ other h))

passed-decided : (text : List ℕ) → IsPassedOver text ⊎ (IsPassedOver text → ⊥)
passed-decided [] = inl (inl refl)
passed-decided (o ∷ text) = go (eqb_tells o 35)
  where
    none : (o == 35) ≡ false → IsPassedOver (o ∷ text) → ⊥
    none other (inl e) = cc
    none other (inr c) = heads-differ o 35 text c.0 other c.1

    go : (((o == 35) ≡ true) × (o ≡ 35)) ⊎ (((o == 35) ≡ false) × (o ≢ 35)) → IsPassedOver (o ∷ text) ⊎ (IsPassedOver (o ∷ text) → ⊥)
    go (inl same) = inl (inr (text, ap (λ (p : ℕ). p ∷ text) same.1))
    go (inr other) = inr (none other.0)

end-decided : (text : List ℕ) → (text ≡ end_of_phase) ⊎ (text ≡ end_of_phase → ⊥)
end-decided text = go (truth (bytes_eq text end_of_phase))
  where
    go : (bytes_eq text end_of_phase ≡ true) ⊎ (bytes_eq text end_of_phase ≡ false) → (text ≡ end_of_phase) ⊎ (text ≡ end_of_phase → ⊥)
    go (inl same) = inl ((bytes_eq-Decides text end_of_phase).0 same)
    go (inr other) = inr (λ e. both_ways _ other ((bytes_eq-Decides text end_of_phase).1 e))

follow-decided : (names : List (List ℕ)) (line : Line) → MayFollow names line ⊎ (MayFollow names line → ⊥)
follow-decided names line = go (truth (has_name names line.session || nat_lt (length names) 8))
  where
    go : ((has_name names line.session || nat_lt (length names) 8) ≡ true) ⊎ ((has_name names line.session || nat_lt (length names) 8) ≡ false) → MayFollow names line ⊎ (MayFollow names line → ⊥)
    go (inl is) = inl is
    go (inr other) = inr (λ h. both_ways _ other h)

-- behind lines of sessions with these names, the texts say lines and phases, or they stop
abbrev SaysOrStops : List (List ℕ) → List (List ℕ) → Type 0
SaysOrStops names texts = ((lines : List Line) × (more : List (List Line)) × Say names texts lines more) ⊎ ((n : ℕ) × Stop names texts n)

one-text : (names : List (List ℕ)) (text : List ℕ) (texts : List (List ℕ)) → ((behind : List (List ℕ)) → SaysOrStops behind texts) → SaysOrStops names (text ∷ texts)
one-text names text texts rest = go (passed-decided text)
  where
    passed : IsPassedOver text → SaysOrStops names texts → SaysOrStops names (text ∷ texts)
    passed p (inl h) = inl (h.0, h.1, inl (p, h.2))
    passed p (inr h) = inr (suc h.0, inl (p, h.1))

    ended : text ≡ end_of_phase → SaysOrStops names texts → SaysOrStops names (text ∷ texts)
    ended e (inl h) = inl ([], h.0 ∷ h.1, inr (inl (e, refl, (h.0, h.1, refl, h.2))))
    ended e (inr h) = inr (suc h.0, inr (inl (e, h.1)))

    said : (line : Line) → IsScriptLine text line → MayFollow names line → SaysOrStops (with_name names line.session) texts → SaysOrStops names (text ∷ texts)
    said line is follows (inl h) = inl (line ∷ h.0, h.1, inr (inr (line, h.0, refl, is, follows, h.2)))
    said line is follows (inr h) = inr (suc h.0, inr (inr (line, is, follows, h.1)))

    placed : (IsPassedOver text → ⊥) → (text ≡ end_of_phase → ⊥) → (line : Line) → IsScriptLine text line → MayFollow names line ⊎ (MayFollow names line → ⊥) → SaysOrStops names (text ∷ texts)
    placed unpassed unended line is (inl follows) = said line is follows (rest (with_name names line.session))
    placed unpassed unended line is (inr bad) =
        inr (zero, (unpassed, unended, λ other so follows. bad (subst (λ (l : Line). MayFollow names l) (line-unique text other line so is) follows)))

    read : (IsPassedOver text → ⊥) → (text ≡ end_of_phase → ⊥) → Decided (IsScriptLine text) → SaysOrStops names (text ∷ texts)
    read unpassed unended (inl h) = placed unpassed unended h.0 h.1 (follow-decided names h.0)
    read unpassed unended (inr none) = inr (zero, (unpassed, unended, λ line is follows. none line is))

    other : (IsPassedOver text → ⊥) → (text ≡ end_of_phase) ⊎ (text ≡ end_of_phase → ⊥) → SaysOrStops names (text ∷ texts)
    other unpassed (inl e) = ended e (rest names)
    other unpassed (inr unended) = read unpassed unended (line-decided text)

    go : IsPassedOver text ⊎ (IsPassedOver text → ⊥) → SaysOrStops names (text ∷ texts)
    go (inl p) = passed p (rest names)
    go (inr unpassed) = other unpassed (end-decided text)

say-or-stop : (names : List (List ℕ)) (texts : List (List ℕ)) → SaysOrStops names texts
say-or-stop names [] = inl ([], [], (refl, refl))
say-or-stop names (text ∷ texts) = one-text names text texts (λ behind. say-or-stop behind texts)

-- octets are a script, or they stop at a line
pub script-or-stop : (octets : List ℕ) → ((script : List (List Line)) × IsScript octets script) ⊎ ((n : ℕ) × StopsAfter octets n)
script-or-stop octets = let t = texts-exist octets in go t.0 t.1 (say-or-stop [] t.0)
  where
    go : (texts : List (List ℕ)) → AreTexts octets texts → SaysOrStops [] texts → ((script : List (List Line)) × IsScript octets script) ⊎ ((n : ℕ) × StopsAfter octets n)
    go texts are (inl h) = inl (h.0 ∷ h.1, (texts, are, (h.0, h.1, refl, h.2)))
    go texts are (inr h) = inr (h.0, (texts, are, h.1))
