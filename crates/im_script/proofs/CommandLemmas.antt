-- Commands by their words, and where a text is none.
use Rattle.std.proofs.Common.{◌≡◌, ◌==◌, ℕ, List, [], ◌∷◌, ◌++◌, codes, false, Option, Some, None, inl, inr, refl, subst, sym, ap₂}
use Rattle.im_text.specs.Finds.{Finds}
use Rattle.im_text.specs.Words.{IsNumber}
use Rattle.im_text.proofs.CutLemmas.{append-same, head-is, heads-differ}
use Rattle.im_draft.specs.declared.drafts.Draft.{Draft}
use Rattle.im_draft.specs.declared.preconditions.Pre.{Pre}
use Rattle.im_text.specs.Fields.{IsOctets}
use Rattle.im_script.specs.declared.commands.Command.{Command}
use Rattle.im_script.specs.declared.commands.Command.TheVariants.{Set, Get, Scan, History, Header, State, Prove, Advance, Item, Link, Sql}
use Rattle.im_script.specs.Script.{AreAsked, AreNumbers, IsItem, IsLookup, IsStatementText, IsCommand}
use Rattle.im_script.specs.Arguments.{IsSet, IsDelete, IsGet, IsScanCommand, IsHistoryCommand, IsHeaderCommand, IsState, IsProve, IsAdvance, IsItemCommand, IsLink, IsSql}

seconds-differ : (o p q : ℕ) (a b : List ℕ) → (p == q) ≡ false → o ∷ p ∷ a ≡ o ∷ q ∷ b → ⊥
seconds-differ o p q a b other e = heads-differ p q a b other (head-is o o (p ∷ a) (q ∷ b) e).1

no-set : (o : ℕ) (text : List ℕ) (pres : List Pre) (drafts : List Draft) → (o == 115) ≡ false → (o == 100) ≡ false → IsCommand (o ∷ text) (Set pres drafts) → ⊥
no-set o text pres drafts s d (inl h) = heads-differ o 115 _ _ s h.1
no-set o text pres drafts s d (inr h) = heads-differ o 100 _ _ d h.2

-- where no two numbers stand behind a word
pub prove-no-numbers : (text : List ℕ) → ((numbers : ℕ × ℕ) → AreNumbers text numbers.0 numbers.1 → ⊥) → (c : Command) → IsProve text c → ⊥
prove-no-numbers text none c h = none (h.0, h.1) h.3

pub advance-no-numbers : (text : List ℕ) → ((numbers : ℕ × ℕ) → AreNumbers text numbers.0 numbers.1 → ⊥) → (c : Command) → IsAdvance text c → ⊥
advance-no-numbers text none c h = none (h.0, h.1) h.3

-- a command that begins with a word is that word's
pub only-set : (rest : List ℕ) (c : Command) → IsCommand (codes "set" ++ rest) c → IsSet rest c
only-set rest (Set pres drafts) (inl h) =
    (pres, drafts, refl, subst (λ (t : List ℕ). AreAsked t pres drafts) (append-same (codes "set") h.0 rest (sym h.1)) h.2)
only-set rest (Set pres drafts) (inr h) = absurd (heads-differ 115 100 _ _ refl h.2)
only-set rest (Scan prefix at) h = absurd (seconds-differ 115 101 99 _ _ refl h.1)
only-set rest (Sql statement) h = absurd (seconds-differ 115 101 113 _ _ refl h.1)
only-set rest State h = absurd (seconds-differ 115 101 116 _ _ refl h)
only-set rest other h = absurd (heads-differ 115 _ _ _ refl h.1)

pub only-delete : (rest : List ℕ) (c : Command) → IsCommand (codes "del " ++ rest) c → IsDelete rest c
only-delete rest (Set pres drafts) (inl h) = absurd (heads-differ 100 115 _ _ refl h.1)
only-delete rest (Set pres drafts) (inr (key, word, e, k, p, d)) =
    (key, ap₂ (λ (l : List Pre) (m : List Draft). Set l m) p d, subst (λ (t : List ℕ). IsOctets t key) (append-same (codes "del ") word rest (sym e)) k)
only-delete rest State h = absurd (heads-differ 100 115 _ _ refl h)
only-delete rest other h = absurd (heads-differ 100 _ _ _ refl h.1)

pub only-get : (rest : List ℕ) (c : Command) → IsCommand (codes "get " ++ rest) c → IsGet rest c
only-get rest (Get key at) h =
    (key, at, refl, subst (λ (t : List ℕ). IsLookup t key at) (append-same (codes "get ") h.0 rest (sym h.1)) h.2)
only-get rest (Set pres drafts) h = absurd (no-set 103 _ pres drafts refl refl h)
only-get rest State h = absurd (heads-differ 103 115 _ _ refl h)
only-get rest other h = absurd (heads-differ 103 _ _ _ refl h.1)

pub only-scan : (rest : List ℕ) (c : Command) → IsCommand (codes "scan " ++ rest) c → IsScanCommand rest c
only-scan rest (Scan prefix at) h =
    (prefix, at, refl, subst (λ (t : List ℕ). IsLookup t prefix at) (append-same (codes "scan ") h.0 rest (sym h.1)) h.2)
only-scan rest (Set pres drafts) (inl h) = absurd (seconds-differ 115 99 101 _ _ refl h.1)
only-scan rest (Set pres drafts) (inr h) = absurd (heads-differ 115 100 _ _ refl h.2)
only-scan rest (Sql statement) h = absurd (seconds-differ 115 99 113 _ _ refl h.1)
only-scan rest State h = absurd (seconds-differ 115 99 116 _ _ refl h)
only-scan rest other h = absurd (heads-differ 115 _ _ _ refl h.1)

pub only-history : (rest : List ℕ) (c : Command) → IsCommand (codes "history " ++ rest) c → IsHistoryCommand rest c
only-history rest (History key) h =
    (key, refl, subst (λ (t : List ℕ). IsOctets t key) (append-same (codes "history ") h.0 rest (sym h.1)) h.2)
only-history rest (Set pres drafts) h = absurd (no-set 104 _ pres drafts refl refl h)
only-history rest (Header n) h = absurd (seconds-differ 104 105 101 _ _ refl h.1)
only-history rest State h = absurd (heads-differ 104 115 _ _ refl h)
only-history rest other h = absurd (heads-differ 104 _ _ _ refl h.1)

pub only-header : (rest : List ℕ) (c : Command) → IsCommand (codes "header " ++ rest) c → IsHeaderCommand rest c
only-header rest (Header n) h =
    (n, refl, subst (λ (t : List ℕ). IsNumber t n) (append-same (codes "header ") h.0 rest (sym h.1)) h.2)
only-header rest (Set pres drafts) h = absurd (no-set 104 _ pres drafts refl refl h)
only-header rest (History key) h = absurd (seconds-differ 104 101 105 _ _ refl h.1)
only-header rest State h = absurd (heads-differ 104 115 _ _ refl h)
only-header rest other h = absurd (heads-differ 104 _ _ _ refl h.1)

pub only-state : (rest : List ℕ) (c : Command) → IsCommand (codes "state" ++ rest) c → IsState rest c
only-state rest State h = (refl, append-same (codes "state") rest [] h)
only-state rest (Set pres drafts) (inl h) = absurd (seconds-differ 115 116 101 _ _ refl h.1)
only-state rest (Set pres drafts) (inr h) = absurd (heads-differ 115 100 _ _ refl h.2)
only-state rest (Scan prefix at) h = absurd (seconds-differ 115 116 99 _ _ refl h.1)
only-state rest (Sql statement) h = absurd (seconds-differ 115 116 113 _ _ refl h.1)
only-state rest other h = absurd (heads-differ 115 _ _ _ refl h.1)

pub only-prove : (rest : List ℕ) (c : Command) → IsCommand (codes "prove " ++ rest) c → IsProve rest c
only-prove rest (Prove m n) h =
    (m, n, refl, subst (λ (t : List ℕ). AreNumbers t m n) (append-same (codes "prove ") h.0 rest (sym h.1)) h.2)
only-prove rest (Set pres drafts) h = absurd (no-set 112 _ pres drafts refl refl h)
only-prove rest State h = absurd (heads-differ 112 115 _ _ refl h)
only-prove rest other h = absurd (heads-differ 112 _ _ _ refl h.1)

pub only-advance : (rest : List ℕ) (c : Command) → IsCommand (codes "advance " ++ rest) c → IsAdvance rest c
only-advance rest (Advance m n) h =
    (m, n, refl, subst (λ (t : List ℕ). AreNumbers t m n) (append-same (codes "advance ") h.0 rest (sym h.1)) h.2)
only-advance rest (Set pres drafts) h = absurd (no-set 97 _ pres drafts refl refl h)
only-advance rest State h = absurd (heads-differ 97 115 _ _ refl h)
only-advance rest other h = absurd (heads-differ 97 _ _ _ refl h.1)

pub only-item : (rest : List ℕ) (c : Command) → IsCommand (codes "item " ++ rest) c → IsItemCommand rest c
only-item rest (Item n i u) h =
    (n, i, u, refl, subst (λ (t : List ℕ). IsItem t n i u) (append-same (codes "item ") h.0 rest (sym h.1)) h.2)
only-item rest (Set pres drafts) h = absurd (no-set 105 _ pres drafts refl refl h)
only-item rest State h = absurd (heads-differ 105 115 _ _ refl h)
only-item rest other h = absurd (heads-differ 105 _ _ _ refl h.1)

pub only-link : (rest : List ℕ) (c : Command) → IsCommand (codes "link " ++ rest) c → IsLink rest c
only-link rest (Link n) h =
    (n, refl, subst (λ (t : List ℕ). IsNumber t n) (append-same (codes "link ") h.0 rest (sym h.1)) h.2)
only-link rest (Set pres drafts) h = absurd (no-set 108 _ pres drafts refl refl h)
only-link rest State h = absurd (heads-differ 108 115 _ _ refl h)
only-link rest other h = absurd (heads-differ 108 _ _ _ refl h.1)

pub only-sql : (rest : List ℕ) (c : Command) → IsCommand (codes "sql " ++ rest) c → IsSql rest c
only-sql rest (Sql statement) h =
    (statement, refl, subst (λ (t : List ℕ). IsStatementText t statement) (append-same (codes "sql ") h.0 rest (sym h.1)) h.2)
only-sql rest (Set pres drafts) (inl h) = absurd (seconds-differ 115 113 101 _ _ refl h.1)
only-sql rest (Set pres drafts) (inr h) = absurd (heads-differ 115 100 _ _ refl h.2)
only-sql rest (Scan prefix at) h = absurd (seconds-differ 115 113 99 _ _ refl h.1)
only-sql rest State h = absurd (seconds-differ 115 113 116 _ _ refl h)
only-sql rest other h = absurd (heads-differ 115 _ _ _ refl h.1)

found : (word text rest : List ℕ) (P : Command → Type 0) → text ≡ word ++ rest → ((c : Command) → P c → IsCommand (word ++ rest) c) → ((c : Command) → IsCommand (word ++ rest) c → P c) → (o : Option Command) → Finds o P → Finds o (IsCommand text)
found word text rest P e says only (Some c) h = subst (λ (t : List ℕ). IsCommand t c) (sym e) (says c h)
found word text rest P e says only None h = λ c p. h c (only c (subst (λ (t : List ℕ). IsCommand t c) e p))

-- what is read behind a word is what the command says
pub found-set : (text rest : List ℕ) → text ≡ codes "set" ++ rest → (o : Option Command) → Finds o (IsSet rest) → Finds o (IsCommand text)
found-set text rest e =
    found (codes "set") text rest (IsSet rest) e (λ c h. subst (λ (d : Command). IsCommand (codes "set" ++ rest) d) (sym h.2) (inl (rest, refl, h.3))) (only-set rest)

pub found-delete : (text rest : List ℕ) → text ≡ codes "del " ++ rest → (o : Option Command) → Finds o (IsDelete rest) → Finds o (IsCommand text)
found-delete text rest e =
    found (codes "del ") text rest (IsDelete rest) e (λ c h. subst (λ (d : Command). IsCommand (codes "del " ++ rest) d) (sym h.1) (inr (h.0, rest, refl, h.2, refl, refl))) (only-delete rest)

pub found-get : (text rest : List ℕ) → text ≡ codes "get " ++ rest → (o : Option Command) → Finds o (IsGet rest) → Finds o (IsCommand text)
found-get text rest e =
    found (codes "get ") text rest (IsGet rest) e (λ c h. subst (λ (d : Command). IsCommand (codes "get " ++ rest) d) (sym h.2) (rest, refl, h.3)) (only-get rest)

pub found-scan : (text rest : List ℕ) → text ≡ codes "scan " ++ rest → (o : Option Command) → Finds o (IsScanCommand rest) → Finds o (IsCommand text)
found-scan text rest e =
    found (codes "scan ") text rest (IsScanCommand rest) e (λ c h. subst (λ (d : Command). IsCommand (codes "scan " ++ rest) d) (sym h.2) (rest, refl, h.3)) (only-scan rest)

pub found-history : (text rest : List ℕ) → text ≡ codes "history " ++ rest → (o : Option Command) → Finds o (IsHistoryCommand rest) → Finds o (IsCommand text)
found-history text rest e =
    found (codes "history ") text rest (IsHistoryCommand rest) e (λ c h. subst (λ (d : Command). IsCommand (codes "history " ++ rest) d) (sym h.1) (rest, refl, h.2)) (only-history rest)

pub found-header : (text rest : List ℕ) → text ≡ codes "header " ++ rest → (o : Option Command) → Finds o (IsHeaderCommand rest) → Finds o (IsCommand text)
found-header text rest e =
    found (codes "header ") text rest (IsHeaderCommand rest) e (λ c h. subst (λ (d : Command). IsCommand (codes "header " ++ rest) d) (sym h.1) (rest, refl, h.2)) (only-header rest)

pub found-state : (text rest : List ℕ) → text ≡ codes "state" ++ rest → (o : Option Command) → Finds o (IsState rest) → Finds o (IsCommand text)
found-state text rest e =
    found (codes "state") text rest (IsState rest) e (λ c h. subst (λ (d : Command). IsCommand (codes "state" ++ rest) d) (sym h.0) (rw h.1 refl)) (only-state rest)

pub found-prove : (text rest : List ℕ) → text ≡ codes "prove " ++ rest → (o : Option Command) → Finds o (IsProve rest) → Finds o (IsCommand text)
found-prove text rest e =
    found (codes "prove ") text rest (IsProve rest) e (λ c h. subst (λ (d : Command). IsCommand (codes "prove " ++ rest) d) (sym h.2) (rest, refl, h.3)) (only-prove rest)

pub found-advance : (text rest : List ℕ) → text ≡ codes "advance " ++ rest → (o : Option Command) → Finds o (IsAdvance rest) → Finds o (IsCommand text)
found-advance text rest e =
    found (codes "advance ") text rest (IsAdvance rest) e (λ c h. subst (λ (d : Command). IsCommand (codes "advance " ++ rest) d) (sym h.2) (rest, refl, h.3)) (only-advance rest)

pub found-item : (text rest : List ℕ) → text ≡ codes "item " ++ rest → (o : Option Command) → Finds o (IsItemCommand rest) → Finds o (IsCommand text)
found-item text rest e =
    found (codes "item ") text rest (IsItemCommand rest) e (λ c h. subst (λ (d : Command). IsCommand (codes "item " ++ rest) d) (sym h.3) (rest, refl, h.4)) (only-item rest)

pub found-link : (text rest : List ℕ) → text ≡ codes "link " ++ rest → (o : Option Command) → Finds o (IsLink rest) → Finds o (IsCommand text)
found-link text rest e =
    found (codes "link ") text rest (IsLink rest) e (λ c h. subst (λ (d : Command). IsCommand (codes "link " ++ rest) d) (sym h.1) (rest, refl, h.2)) (only-link rest)

pub found-sql : (text rest : List ℕ) → text ≡ codes "sql " ++ rest → (o : Option Command) → Finds o (IsSql rest) → Finds o (IsCommand text)
found-sql text rest e =
    found (codes "sql ") text rest (IsSql rest) e (λ c h. subst (λ (d : Command). IsCommand (codes "sql " ++ rest) d) (sym h.1) (rest, refl, h.2)) (only-sql rest)
