-- The tree that the script of `gen` leaves.
use Rattle.std.proofs.Common.{◌≡◌, ◌∙◌, ◌+◌, ◌-◌, ◌/◌, ◌%◌, ◌<◌, ◌≤◌, ◌==◌, cond, ℕ, zero, suc, Bool, true, false, List, [], ◌∷◌, ◌++◌, filter, get_or, length, map, Some, None, refl, sym, ap, subst, arith}
use Rattle.std.proofs.lemmas.List.{length-map}
use Rattle.std.proofs.lemmas.Bool.{both_ways, eqb-false, eqb-true, false≢true}
use Rattle.std.proofs.lemmas.List.Elements.{All-head, All-tail}
use Rattle.std.proofs.lemmas.List.FromFn.{length-range_with_len}
use Rattle.std.specs.List.{All, AllPairs, range_with_len}
use Rattle.std.specs.Prelude.{IsTrue}
use Rattle.im_digest.specs.Digests.{Hash}
use Rattle.im_model.specs.declared.transactions.Transaction.{Transaction}
use Rattle.im_draft.specs.Drafts.{deletion}
use Rattle.im_gen.specs.Generator.{generator_after, key_of, linked_of, placed_of}
use Rattle.im_report.specs.Report.{Answered, IsAnswer, Report, floor_after, floor_by, is_placed, tells_tx}
use Rattle.im_report.proofs.PlacedLemmas.{advance-not-placed, get-not-placed, header-not-placed, history-not-placed, item-not-placed, linked-not-placed, prove-not-placed, scanned-not-placed, state-not-placed}
use Rattle.im_script.specs.declared.commands.Command.{Command}
use Rattle.im_script.specs.declared.commands.Command.TheVariants.{Set, Get, Scan, History, Header, State, Prove, Advance, Item, Link, Sql}
use Rattle.im_script.specs.declared.commands.Line.{Line}
use Rattle.im_status.specs.GeneratedLines.{asked_commands, behind_commands, generated_entry, generated_key, generated_line, own_command, script_commands, script_lines}
use Rattle.im_text.proofs.CutLemmas.{head-is}

-- the command asks for a transaction
abbrev sets : Command → Bool
sets (Set pres drafts) = true
sets (Get key at) = false
sets (Scan prefix at) = false
sets (History key) = false
sets (Header k) = false
sets State = false
sets (Prove s t) = false
sets (Advance s t) = false
sets (Item t i under) = false
sets (Link count) = false
sets (Sql text) = true

-- by how many transactions it raises the tree
abbrev raises : Command → ℕ
raises (Set pres drafts) = 0
raises (Get key at) = 0
raises (Scan prefix at) = 0
raises (History key) = 0
raises (Header k) = 0
raises State = 0
raises (Prove s t) = 0
raises (Advance s t) = 0
raises (Item t i under) = 0
raises (Link count) = count
raises (Sql text) = 0

-- how many of these commands ask for a transaction
abbrev set_count : List Command → ℕ
set_count [] = 0
set_count (c ∷ cs) = cond (sets c) 1 0 + set_count cs

-- by how many transactions they raise the tree
abbrev raise_count : List Command → ℕ
raise_count [] = 0
raise_count (c ∷ cs) = raises c + raise_count cs

-- what a line asks for
abbrev command_of : Answered → Command
command_of a = a.line.command

-- ---- a line that placed something asked for it

placed-sets : (hash : Hash) (h : List Transaction) (c : Command) (n : ℕ) (reply : List ℕ) → IsAnswer hash h c n reply → tells_tx reply n ≡ true → sets c ≡ true
placed-sets hash h (Set pres drafts) n reply is placed = refl
placed-sets hash h (Get key at) n reply is placed = absurd (both_ways _ (get-not-placed _ key at reply n is) placed)
placed-sets hash h (Scan prefix at) n reply is placed = absurd (both_ways _ (scanned-not-placed _ prefix at reply n is) placed)
placed-sets hash h (History key) n reply is placed = absurd (both_ways _ (ap (λ (r : List ℕ). tells_tx r n) is ∙ history-not-placed _ n) placed)
placed-sets hash h (Header k) n reply is placed = absurd (both_ways _ (ap (λ (r : List ℕ). tells_tx r n) is ∙ header-not-placed hash _ k n) placed)
placed-sets hash h State n reply is placed = absurd (both_ways _ (ap (λ (r : List ℕ). tells_tx r n) is ∙ state-not-placed hash _ n) placed)
placed-sets hash h (Prove s t) n reply is placed = absurd (both_ways _ (ap (λ (r : List ℕ). tells_tx r n) is ∙ prove-not-placed hash _ s t n) placed)
placed-sets hash h (Advance s t) n reply is placed = absurd (both_ways _ (ap (λ (r : List ℕ). tells_tx r n) is ∙ advance-not-placed hash _ s t n) placed)
placed-sets hash h (Item t i None) n reply is placed = absurd (both_ways _ (ap (λ (r : List ℕ). tells_tx r n) is ∙ item-not-placed hash _ t i n n) placed)
placed-sets hash h (Item t i (Some s)) n reply is placed = absurd (both_ways _ (ap (λ (r : List ℕ). tells_tx r n) is ∙ item-not-placed hash _ t i s n) placed)
placed-sets hash h (Link count) n reply is placed = absurd (both_ways _ (ap (λ (r : List ℕ). tells_tx r n) is ∙ linked-not-placed n) placed)
placed-sets hash h (Sql text) n reply is placed = refl

-- each line that placed something asked for it
abbrev Asked : List Answered → Type 0
Asked [] = Unit {0}
Asked (a ∷ told) = (is_placed a ≡ true → sets (command_of a) ≡ true) × Asked told

-- and each that asked placed something
abbrev Agree : List Answered → Type 0
Agree [] = Unit {0}
Agree (a ∷ told) = (is_placed a ≡ sets (command_of a)) × Agree told

asked-all : (hash : Hash) (h : List Transaction) (told : List Answered) → All (λ (a : Answered). IsAnswer hash h a.line.command a.number a.reply) told → Asked told
asked-all hash h [] each = tt
asked-all hash h (a ∷ told) each = (
  placed-sets hash h (command_of a) a.number a.reply (All-head (λ (b : Answered). IsAnswer hash h b.line.command b.number b.reply) a told each),
  asked-all hash h told (All-tail (λ (b : Answered). IsAnswer hash h b.line.command b.number b.reply) a told each),
)

placed-few : (told : List Answered) → Asked told → length (filter is_placed told) ≤ set_count (map command_of told)
placed-few [] asked = omega arith
placed-few (a ∷ told) asked = go (placed-few told asked.1) (is_placed a) (sets (command_of a)) asked.0
  where
    go : length (filter is_placed told) ≤ set_count (map command_of told) → (p s : Bool) → (p ≡ true → s ≡ true)
        → length (cond p (a ∷ filter is_placed told) (filter is_placed told)) ≤ cond s 1 0 + set_count (map command_of told)
    go rest true true asks = omega (arith, rest)
    go rest true false asks = absurd (false≢true (asks refl))
    go rest false true asks = omega (arith, rest)
    go rest false false asks = omega (arith, rest)

-- where as many placed something as asked, they are the same
agree-all : (told : List Answered) → Asked told → set_count (map command_of told) ≤ length (filter is_placed told) → Agree told
agree-all [] asked enough = tt
agree-all (a ∷ told) asked enough =
    let both = go (is_placed a) (sets (command_of a)) asked.0 enough in
    (both.0, agree-all told asked.1 both.1)
  where
    go : (p s : Bool) → (p ≡ true → s ≡ true) → cond s 1 0 + set_count (map command_of told) ≤ length (cond p (a ∷ filter is_placed told) (filter is_placed told))
        → (p ≡ s) × (set_count (map command_of told) ≤ length (filter is_placed told))
    go true true asks more = (refl, omega (arith, more))
    go true false asks more = absurd (false≢true (asks refl))
    go false true asks more = absurd (omega (arith, more, placed-few told asked.1))
    go false false asks more = (refl, omega (arith, more))

-- ---- the tree behind lines

-- each line has at least this number
abbrev Above : ℕ → List Answered → Type 0
Above p [] = Unit {0}
Above p (a ∷ told) = (p ≤ a.number) × Above p told

-- no number falls
abbrev Rising : List Answered → Type 0
Rising [] = Unit {0}
Rising (a ∷ told) = Above a.number told × Rising told

above-all : (p : ℕ) (told : List Answered) → ((k : ℕ) (d : Answered) → k < length told → p ≤ (get_or told k d).number) → Above p told
above-all p [] each = tt
above-all p (a ∷ told) each = (each 0 a (omega arith), above-all p told (λ k d low. each (suc k) d (omega arith)))

above-none : (told : List Answered) → Above 0 told
above-none [] = tt
above-none (a ∷ told) = (omega arith, above-none told)

rising-all : (told : List Answered) → AllPairs (λ (a b : Answered). (a.number ≤ b.number) × (IsTrue (is_placed b) → a.number < b.number)) told → Rising told
rising-all [] each = tt
rising-all (a ∷ told) each = (
  above-all a.number told (λ k d low. (each 0 (suc k) d (omega arith) (omega arith)).0),
  rising-all told (λ i j d less low. each (suc i) (suc j) d (omega arith) (omega arith)),
)

-- behind so many transactions, each link finds as many as it asks for
abbrev Fits : ℕ → ℕ → List Command → Type 0
Fits p f [] = Unit {0}
Fits p f (c ∷ cs) = (f + raises c ≤ p) × Fits (p + cond (sets c) 1 0) (f + raises c) cs

raised-by : (c : Command) (n p f : ℕ) → f + raises c ≤ p → p ≤ n → floor_by c n f ≡ f + raises c
raised-by (Set pres drafts) n p f fits low = omega arith
raised-by (Get key at) n p f fits low = omega arith
raised-by (Scan prefix at) n p f fits low = omega arith
raised-by (History key) n p f fits low = omega arith
raised-by (Header k) n p f fits low = omega arith
raised-by State n p f fits low = omega arith
raised-by (Prove s t) n p f fits low = omega arith
raised-by (Advance s t) n p f fits low = omega arith
raised-by (Item t i under) n p f fits low = omega arith
raised-by (Link count) n p f fits low = omega (arith, fits, low)
raised-by (Sql text) n p f fits low = omega arith

-- the numbers of the lines that placed something follow p
abbrev Follow : ℕ → List Answered → Type 0
Follow p told = map (λ (a : Answered). a.number) (filter is_placed told) ≡ range_with_len (p + 1) (length (filter is_placed told))

-- what one line more leaves
abbrev Next : ℕ → Bool → List Answered → Type 0
Next p placed told = Above (p + cond placed 1 0) told × Follow (p + cond placed 1 0) told

next : (p : ℕ) (a : Answered) (told : List Answered) → Above p (a ∷ told) → Above a.number told → Follow p (a ∷ told) → Next p (is_placed a) told
next p a told above later follow = go (is_placed a) follow
  where
    go : (b : Bool)
        → map (λ (x : Answered). x.number) (cond b (a ∷ filter is_placed told) (filter is_placed told)) ≡ range_with_len (p + 1) (length (cond b (a ∷ filter is_placed told) (filter is_placed told)))
        → Next p b told
    go true e =
        let both = head-is a.number (p + 1) _ _ e in
        (subst (λ (m : ℕ). Above m told) both.0 later, both.1)
    go false e =
        let same : p ≡ p + 0 = omega arith in
        (subst (λ (m : ℕ). Above m told) same above.1, subst (λ (m : ℕ). Follow m told) same e)

walked : (told : List Answered) (p f : ℕ) → Agree told → Follow p told → Above p told → Rising told → Fits p f (map command_of told)
    → floor_after f told ≡ f + raise_count (map command_of told)
walked [] p f agree follow above rising fits = omega arith
walked (a ∷ told) p f agree follow above rising fits =
    let c : Command = command_of a in
    let more = next p a told above rising.0 follow in
    let here : Next p (sets c) told = subst (λ (b : Bool). Next p b told) agree.0 more in
    let rest : floor_after (f + raises c) told ≡ f + raises c + raise_count (map command_of told) =
    walked told (p + cond (sets c) 1 0) (f + raises c) agree.1 here.1 here.0 rising.1 fits.1 in
    ap (λ (m : ℕ). floor_after m told) (raised-by c a.number p f fits.0 above.0) ∙ rest ∙ omega arith

-- ---- what the script asks for

set_count-append : (cs ds : List Command) → set_count (cs ++ ds) ≡ set_count cs + set_count ds
set_count-append [] ds = omega arith
set_count-append (c ∷ cs) ds = omega (arith, set_count-append cs ds)

raise_count-append : (cs ds : List Command) → raise_count (cs ++ ds) ≡ raise_count cs + raise_count ds
raise_count-append [] ds = omega arith
raise_count-append (c ∷ cs) ds = omega (arith, raise_count-append cs ds)

fits-append : (cs ds : List Command) (p f : ℕ) → Fits p f cs → Fits (p + set_count cs) (f + raise_count cs) ds → Fits p f (cs ++ ds)
fits-append [] ds p f fits more =
    let a : p + 0 ≡ p = omega arith in
    let b : f + 0 ≡ f = omega arith in
    subst (λ (q : ℕ). Fits q f ds) a (subst (λ (g : ℕ). Fits (p + 0) g ds) b more)
fits-append (c ∷ cs) ds p f fits more =
    let a : p + (cond (sets c) 1 0 + set_count cs) ≡ p + cond (sets c) 1 0 + set_count cs = omega arith in
    let b : f + (raises c + raise_count cs) ≡ f + raises c + raise_count cs = omega arith in (
      fits.0,
      fits-append cs ds (p + cond (sets c) 1 0) (f + raises c) fits.1
          (subst (λ (q : ℕ). Fits q (f + raises c + raise_count cs) ds) a (subst (λ (g : ℕ). Fits (p + (cond (sets c) 1 0 + set_count cs)) g ds) b more)),
    )

-- what line i and what stands behind it ask for, by what divides i
own-sets : (i key : ℕ) → ◌≡◌ {A = ℕ} (cond (sets (own_command i key)) 1 0) (cond (i % 16 == 0) 0 1)
own-sets i key = go (i % 16 == 0) (i % 16 == 8)
  where
    go : (linked deleted : Bool)
        → ◌≡◌ {A = ℕ} (cond (sets (cond linked (Link 15) (cond deleted (Set [] (deletion (generated_key key) ∷ [])) (Set [] (generated_entry i key ∷ []))))) 1 0) (cond linked 0 1)
    go true deleted = refl
    go false true = refl
    go false false = refl

own-raises : (i key : ℕ) → raises (own_command i key) ≡ cond (i % 16 == 0) 15 0
own-raises i key = go (i % 16 == 0) (i % 16 == 8)
  where
    go : (linked deleted : Bool) → raises (cond linked (Link 15) (cond deleted (Set [] (deletion (generated_key key) ∷ [])) (Set [] (generated_entry i key ∷ [])))) ≡ cond linked 15 0
    go true deleted = refl
    go false true = refl
    go false false = refl

behind-sets : (i : ℕ) → set_count (behind_commands i) ≡ 0
behind-sets i = go (i == 1) (i % 64 == 0)
  where
    go : (first asked : Bool) → set_count (cond first (State ∷ []) (cond asked (asked_commands (i / 64)) [])) ≡ 0
    go true asked = refl
    go false true = refl
    go false false = refl

behind-raises : (i : ℕ) → raise_count (behind_commands i) ≡ 0
behind-raises i = go (i == 1) (i % 64 == 0)
  where
    go : (first asked : Bool) → raise_count (cond first (State ∷ []) (cond asked (asked_commands (i / 64)) [])) ≡ 0
    go true asked = refl
    go false true = refl
    go false false = refl

behind-fits : (i p f : ℕ) → f ≤ p → Fits p f (behind_commands i)
behind-fits i p f low = go (i == 1) (i % 64 == 0)
  where
    go : (first asked : Bool) → Fits p f (cond first (State ∷ []) (cond asked (asked_commands (i / 64)) []))
    go true asked = (omega (arith, low), tt)
    go false true = (omega (arith, low), (omega (arith, low), tt))
    go false false = tt

-- what the lines up to one more come to
next-placed : (n : ℕ) → placed_of n + cond (suc n % 16 == 0) 0 1 ≡ placed_of (suc n)
next-placed n = go (suc n % 16 == 0) refl
  where
    go : (b : Bool) → (suc n % 16 == 0) ≡ b → placed_of n + cond b 0 1 ≡ placed_of (suc n)
    go true e = let at : suc n % 16 ≡ 0 = eqb-true (suc n % 16) 0 e in omega (arith, at)
    go false e = omega (arith, eqb-false (suc n % 16) 0 e)

next-linked : (n : ℕ) → linked_of n + cond (suc n % 16 == 0) 15 0 ≡ linked_of (suc n)
next-linked n = go (suc n % 16 == 0) refl
  where
    go : (b : Bool) → (suc n % 16 == 0) ≡ b → linked_of n + cond b 15 0 ≡ linked_of (suc n)
    go true e = let at : suc n % 16 ≡ 0 = eqb-true (suc n % 16) 0 e in omega (arith, at)
    go false e = omega (arith, eqb-false (suc n % 16) 0 e)

script-sets : (n : ℕ) → set_count (script_commands n) ≡ placed_of n
script-sets zero = refl
script-sets (suc n) =
    let own : List Command = own_command (suc n) (key_of (generator_after (suc n))) ∷ [] in
    omega (
      arith,
      set_count-append (script_commands n ++ own) (behind_commands (suc n)),
      set_count-append (script_commands n) own,
      own-sets (suc n) (key_of (generator_after (suc n))),
      behind-sets (suc n),
      script-sets n,
      next-placed n,
    )

script-raises : (n : ℕ) → raise_count (script_commands n) ≡ linked_of n
script-raises zero = refl
script-raises (suc n) =
    let own : List Command = own_command (suc n) (key_of (generator_after (suc n))) ∷ [] in
    omega (
      arith,
      raise_count-append (script_commands n ++ own) (behind_commands (suc n)),
      raise_count-append (script_commands n) own,
      own-raises (suc n) (key_of (generator_after (suc n))),
      behind-raises (suc n),
      script-raises n,
      next-linked n,
    )

enough : (n : ℕ) → linked_of n + cond (suc n % 16 == 0) 15 0 ≤ placed_of n
enough n = go (suc n % 16 == 0) refl
  where
    go : (b : Bool) → (suc n % 16 == 0) ≡ b → linked_of n + cond b 15 0 ≤ placed_of n
    go true e = let at : suc n % 16 ≡ 0 = eqb-true (suc n % 16) 0 e in omega (arith, at)
    go false e = omega arith

script-fits : (n : ℕ) → Fits 0 0 (script_commands n)
script-fits zero = tt
script-fits (suc n) =
    let before : List Command = script_commands n in
    let own : Command = own_command (suc n) (key_of (generator_after (suc n))) in
    let one : 0 + raise_count before + raises own ≤ 0 + set_count before =
    omega (arith, script-raises n, script-sets n, own-raises (suc n) (key_of (generator_after (suc n))), enough n) in
    let whole : 0 + raise_count (before ++ own ∷ []) ≤ 0 + set_count (before ++ own ∷ []) =
    omega (arith, one, raise_count-append before (own ∷ []), set_count-append before (own ∷ [])) in
    fits-append (before ++ own ∷ []) (behind_commands (suc n)) 0 0 (fits-append before (own ∷ []) 0 0 (script-fits n) (one, tt))
    (behind-fits (suc n) (0 + set_count (before ++ own ∷ [])) (0 + raise_count (before ++ own ∷ [])) whole)

-- ---- the report of the script

commands-are : (answers : List Answered) (cs : List Command) → map (λ (a : Answered). a.line) answers ≡ map generated_line cs → map command_of answers ≡ cs
commands-are [] [] e = refl
commands-are [] (c ∷ cs) e = cc
commands-are (a ∷ told) [] e = cc
commands-are (a ∷ told) (c ∷ cs) e =
    let both = lines-apart a.line (generated_line c) _ _ e in
    ap (λ (l : Line). l.command ∷ map command_of told) both.0 ∙ ap (λ (ds : List Command). c ∷ ds) (commands-are told cs both.1)
  where
    lines-apart : (x y : Line) (xs ys : List Line) → x ∷ xs ≡ y ∷ ys → (x ≡ y) × (xs ≡ ys)
    lines-apart x y xs ys f = (cc, cc)

-- where the script placed all that it asks for, the tree behind its report has as many transactions as the line says
pub linked-is : (hash : Hash) (n : ℕ) (h : List Transaction) (octets : List ℕ) (r : Report hash [] h (script_lines n) octets) → length h ≡ placed_of n
    → floor_after 0 r.answers ≡ linked_of n
linked-is hash n h octets r many =
    let told : List Answered = r.answers in
    let cs : List Command = script_commands n in
    let same : map command_of told ≡ cs = commands-are told cs r.lines_are in
    let count : length (filter is_placed told) ≡ length h =
    sym (length-map (filter is_placed told) (λ (a : Answered). a.number)) ∙ ap length r.placed ∙ length-range_with_len 1 (length h - 0) ∙ omega arith in
    let follow : Follow 0 told = r.placed ∙ ap (range_with_len 1) (sym (count ∙ omega arith)) in
    let wanted : set_count (map command_of told) ≡ placed_of n = ap set_count same ∙ script-sets n in
    let agree : Agree told = agree-all told (asked-all hash h told r.each) (omega (arith, wanted, count, many)) in
    let fits : Fits 0 0 (map command_of told) = subst (λ (ds : List Command). Fits 0 0 ds) (sym same) (script-fits n) in
    let raised : raise_count (map command_of told) ≡ linked_of n = ap raise_count same ∙ script-raises n in
    omega (arith, walked told 0 0 agree follow (above-none told) (rising-all told r.rising) fits, raised)
