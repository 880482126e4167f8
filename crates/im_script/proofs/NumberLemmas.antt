-- Numbers parted by spaces, and where a text is none.
use Rattle.std.proofs.Common.{◌≡◌, ℕ, List, [], ◌∷◌, ◌++◌, codes, Option, Some, None, inl, inr, refl, subst, sym, ap, ◌∙◌, append_assoc}
use Rattle.std.specs.Char.{is_ascii_digit}
use Rattle.im_text.specs.Cuts.{Lacks, IsCut}
use Rattle.im_text.specs.Finds.{Finds}
use Rattle.im_text.specs.Words.{IsNumber}
use Rattle.im_text.proofs.CutLemmas.{append-same, cut-unique}
use Rattle.im_text.proofs.WordLemmas.{Lacks-word, number-unique}
use Rattle.im_script.specs.Script.{AreNumbers, IsAt, IsItem}
use Rattle.im_script.specs.declared.commands.Command.{Command}
use Rattle.im_script.specs.Arguments.{IsFieldEnd, IsFirstField, IsIndex, IsItemCommand}
use Rattle.im_script.proofs.SetLemmas.{first-unique}

-- where nothing has the property, what found nothing is right
pub nothing-found : {X : Type 0} (P : X → Type 0) (o : Option X) → o ≡ None → ((x : X) → P x → ⊥) → Finds o P
nothing-found P o e none = subst (λ (r : Option _). Finds r P) (sym e) none

number-lacks : (text : List ℕ) (n : ℕ) → IsNumber text n → Lacks 32 text
number-lacks text n h = Lacks-word 20 is_ascii_digit 32 text refl h.0

-- two numbers are cut at the first space
numbers-cut : (text front back : List ℕ) (m n : ℕ) → IsCut 32 text front back → AreNumbers text m n → IsNumber front m × IsNumber back n
numbers-cut text front back m n cut h =
    let e = cut-unique 32 h.0 front h.1 back (number-lacks h.0 m h.3) cut.0 (sym h.2 ∙ cut.1) in
    (subst (λ (t : List ℕ). IsNumber t m) e.0 h.3, subst (λ (t : List ℕ). IsNumber t n) e.1 h.4)

-- a text is no two numbers where none stands before the first space
pub numbers-bad-first : (text front back : List ℕ) → IsCut 32 text front back → ((n : ℕ) → IsNumber front n → ⊥) → (numbers : ℕ × ℕ) → AreNumbers text numbers.0 numbers.1 → ⊥
numbers-bad-first text front back cut none numbers h = none numbers.0 (numbers-cut text front back numbers.0 numbers.1 cut h).0

-- a text is no two numbers where none stands behind the first space
pub numbers-bad-second : (text front back : List ℕ) → IsCut 32 text front back → ((n : ℕ) → IsNumber back n → ⊥) → (numbers : ℕ × ℕ) → AreNumbers text numbers.0 numbers.1 → ⊥
numbers-bad-second text front back cut none numbers h = none numbers.1 (numbers-cut text front back numbers.0 numbers.1 cut h).1

-- a text says two numbers in one way at most
pub numbers-unique : (text : List ℕ) (m n k l : ℕ) → AreNumbers text m n → AreNumbers text k l → (m ≡ k) × (n ≡ l)
numbers-unique text m n k l x y =
    let parts = numbers-cut text y.0 y.1 m n (number-lacks y.0 k y.3, y.2) x in
    (number-unique y.0 m k parts.0 y.3, number-unique y.1 n l parts.1 y.4)

-- what names a transaction ends a field
pub at-end : (text : List ℕ) (under : Option ℕ) → IsAt text under → IsFieldEnd text
at-end text None h = inl h
at-end text (Some n) h = inr (64 ∷ h.0, h.1)

no-mark : (digits : List ℕ) → [] ≡ codes " @" ++ digits → ⊥
no-mark digits e = cc

-- a text names one transaction at most
pub at-unique : (text : List ℕ) (a b : Option ℕ) → IsAt text a → IsAt text b → a ≡ b
at-unique text None None x y = refl
at-unique text None (Some n) x y = absurd (no-mark y.0 (sym x ∙ y.1))
at-unique text (Some m) None x y = absurd (no-mark x.0 (sym y ∙ x.1))
at-unique text (Some m) (Some n) x y =
    let same = append-same (codes " @") x.0 y.0 (sym x.1 ∙ y.1) in
    ap Some (number-unique y.0 m n (subst (λ (t : List ℕ). IsNumber t m) same x.2) y.2)

-- an item's text by its three parts
pub item-of : (text front tail second mark : List ℕ) (number index : ℕ) (under : Option ℕ) → IsCut 32 text front tail → IsFirstField tail second mark → IsNumber front number → IsIndex second index → IsAt mark under → IsItem text number index under
item-of text front tail second mark number index under cut first n i u =
    let e = cut.1 ∙ ap (λ (t : List ℕ). front ++ 32 ∷ t) first.1 ∙ sym (append_assoc front (32 ∷ second) mark) in
    (front ++ 32 ∷ second, mark, e, (front, second, refl, n, i.0), i.1, u)

-- an item's parts are those at the first two spaces
item-parts : (text front tail second mark : List ℕ) (number index : ℕ) (under : Option ℕ) → IsCut 32 text front tail → IsFirstField tail second mark → IsItem text number index under → IsNumber front number × IsIndex second index × IsAt mark under
item-parts text front tail second mark number index under cut first (numbers, end, e, (a, b, n, ha, hb), small, u) =
    let whole : text ≡ a ++ 32 ∷ (b ++ end) = e ∙ ap (λ (t : List ℕ). t ++ end) n ∙ append_assoc a (32 ∷ b) end in
    let fronts = cut-unique 32 a front (b ++ end) tail (number-lacks a number ha) cut.0 (sym whole ∙ cut.1) in
    let backs = first-unique b second end mark (number-lacks b index hb) first.0 (at-end end under u) first.2 (fronts.1 ∙ first.1) in (
      subst (λ (t : List ℕ). IsNumber t number) fronts.0 ha,
      (subst (λ (t : List ℕ). IsNumber t index) backs.0 hb, small),
      subst (λ (t : List ℕ). IsAt t under) backs.1 u,
    )

-- a text is no item where no number stands before the first space
pub item-bad-number : (text front tail second mark : List ℕ) → IsCut 32 text front tail → IsFirstField tail second mark → ((n : ℕ) → IsNumber front n → ⊥) → (c : Command) → IsItemCommand text c → ⊥
item-bad-number text front tail second mark cut first none c (n, i, u, e, h) = none n (item-parts text front tail second mark n i u cut first h).0

-- a text is no item where no index stands between the first two spaces
pub item-bad-index : (text front tail second mark : List ℕ) → IsCut 32 text front tail → IsFirstField tail second mark → ((i : ℕ) → IsIndex second i → ⊥) → (c : Command) → IsItemCommand text c → ⊥
item-bad-index text front tail second mark cut first none c (n, i, u, e, h) = none i (item-parts text front tail second mark n i u cut first h).1

-- a text is no item where no state stands from the second space on
pub item-bad-under : (text front tail second mark : List ℕ) → IsCut 32 text front tail → IsFirstField tail second mark → ((u : Option ℕ) → IsAt mark u → ⊥) → (c : Command) → IsItemCommand text c → ⊥
item-bad-under text front tail second mark cut first none c (n, i, u, e, h) = none u (item-parts text front tail second mark n i u cut first h).2

-- a text says one item at most
pub item-unique : (text : List ℕ) (m i n j : ℕ) (u v : Option ℕ) → IsItem text m i u → IsItem text n j v → (m ≡ n) × (i ≡ j) × (u ≡ v)
item-unique text m i n j u v x (numbers, end, e, (a, b, parted, ha, hb), small, under) =
    let whole : text ≡ a ++ 32 ∷ (b ++ end) = e ∙ ap (λ (t : List ℕ). t ++ end) parted ∙ append_assoc a (32 ∷ b) end in
    let parts = item-parts text a (b ++ end) b end m i u (number-lacks a n ha, whole) (number-lacks b j hb, refl, at-end end v under) x in
    (number-unique a m n parts.0 ha, number-unique b i j parts.1.0 hb, at-unique end u v parts.2 under)
