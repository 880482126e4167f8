-- A message agrees with what is known, or some fact that it shows is unlike the kept one of its place.
use Rattle.std.proofs.Common.{◌≡◌, ◌≢◌, ◌⊎◌, suc, ℤ, pos, negsuc, List, [], ◌∷◌, refl, ap, subst, sym, inl, inr, arith, Option, Some, None}
use Rattle.std.specs.Prelude.{IfSome}
use Rattle.std.specs.List.{AllByRecursion, Contains}
use Rattle.std.proofs.lemmas.Bool.{cases_eq}
use Rattle.std.proofs.lemmas.List.Elements.{All-from_recursion, All-contains, recursion_from_All}
use Rattle.im_model.specs.declared.headers.Header.{Header}
use Rattle.im_model.specs.declared.entries.Entry.{Entry}
use Rattle.im_pairs.proofs.PairLemmas.{equal_or_not}
use Rattle.im_pairs.proofs.HeaderLemmas.{same-fields}
use Rattle.im_pairs.proofs.EntryLemmas.{same-entry-fields}
use Rattle.im_wire.specs.declared.messages.Message.{Message}
use Rattle.im_facts.specs.Facts.{Known, Agrees, IsAlike, IsEntryAlike, Differs, known_header, entry_at, headers_shown, entries_shown}
use Rattle.im_facts.specs.declared.facts.EntryFact.{EntryFact}

-- two things are equal or not
abbrev pub IsOneOrNot : {X : Type 0} → X → X → Type 0
IsOneOrNot a b = (a ≡ b) ⊎ (a ≢ b)

-- by an equation or a difference of one part more
one-more : {X Y : Type 0} (f : X → Y) (a b : X) (P : Type 0) → IsOneOrNot (f a) (f b) → (f a ≡ f b → P ⊎ (a ≢ b)) → P ⊎ (a ≢ b)
one-more f a b P (inl e) next = next e
one-more f a b P (inr ne) next = inr (λ e. ne (ap f e))

signed-one : (a b : ℤ) → IsOneOrNot a b
signed-one (pos m) (pos n) = go (cases_eq m n)
  where
    go : (m ≡ n) ⊎ (m ≡ n → ⊥) → IsOneOrNot (pos m) (pos n)
    go (inl e) = inl (ap pos e)
    go (inr ne) = inr (λ e. ne (cc))
signed-one (pos m) (negsuc n) = inr (λ e. cc)
signed-one (negsuc m) (pos n) = inr (λ e. cc)
signed-one (negsuc m) (negsuc n) = go (cases_eq m n)
  where
    go : (m ≡ n) ⊎ (m ≡ n → ⊥) → IsOneOrNot (negsuc m) (negsuc n)
    go (inl e) = inl (ap negsuc e)
    go (inr ne) = inr (λ e. ne (cc))

-- headers are equal or not
pub header-one : (h k : Header) → IsOneOrNot h k
header-one h k =
    one-more (λ (x : Header). x.id) h k (h ≡ k) (cases_eq h.id k.id) (λ a.
    one-more (λ (x : Header). x.ts) h k (h ≡ k) (signed-one h.ts k.ts) (λ b.
    one-more (λ (x : Header). x.bl_tx_id) h k (h ≡ k) (cases_eq h.bl_tx_id k.bl_tx_id) (λ c.
    one-more (λ (x : Header). x.bl_root) h k (h ≡ k) (equal_or_not h.bl_root k.bl_root) (λ d.
    one-more (λ (x : Header). x.prev_alh) h k (h ≡ k) (equal_or_not h.prev_alh k.prev_alh) (λ e.
    one-more (λ (x : Header). x.version) h k (h ≡ k) (cases_eq h.version k.version) (λ f.
    one-more (λ (x : Header). x.md) h k (h ≡ k) (equal_or_not h.md k.md) (λ g.
    one-more (λ (x : Header). x.nentries) h k (h ≡ k) (cases_eq h.nentries k.nentries) (λ m.
    one-more (λ (x : Header). x.eh) h k (h ≡ k) (equal_or_not h.eh k.eh) (λ n.
    inl (same-fields h k a b c d e f g m n))))))))))

-- entries too
pub entry-one : (a b : Entry) → IsOneOrNot a b
entry-one a b =
    one-more (λ (x : Entry). x.md) a b (a ≡ b) (equal_or_not a.md b.md) (λ p.
    one-more (λ (x : Entry). x.key) a b (a ≡ b) (equal_or_not a.key b.key) (λ q.
    one-more (λ (x : Entry). x.value) a b (a ≡ b) (equal_or_not a.value b.value) (λ r.
    inl (same-entry-fields a b p q r))))

-- one of some fails
abbrev SomeUnlike : (X F : Type 0) → (F → Option X) → (F → X) → List F → Type 0
SomeUnlike X F at of facts = (fact : F) × Contains facts fact × (kept : X) × (at fact ≡ Some kept) × (kept ≢ of fact)

one-like : (X F : Type 0) (at : F → Option X) (of : F → X) (decides : (a b : X) → IsOneOrNot a b) (fact : F) (r : Option X) → at fact ≡ r
    → IfSome (at fact) (λ kept. kept ≡ of fact) ⊎ ((kept : X) × (at fact ≡ Some kept) × (kept ≢ of fact))
one-like X F at of decides fact None e = inl (subst (λ (o : Option X). IfSome o (λ kept. kept ≡ of fact)) (sym e) tt)
one-like X F at of decides fact (Some k) e = go (decides k (of fact))
  where
    go : IsOneOrNot k (of fact) → IfSome (at fact) (λ kept. kept ≡ of fact) ⊎ ((kept : X) × (at fact ≡ Some kept) × (kept ≢ of fact))
    go (inl same) = inl (subst (λ (o : Option X). IfSome o (λ kept. kept ≡ of fact)) (sym e) same)
    go (inr ne) = inr (k, e, ne)

all-like-step : (X F : Type 0) (at : F → Option X) (of : F → X) (fact : F) (facts : List F) → IfSome (at fact) (λ kept. kept ≡ of fact) ⊎ ((kept : X) × (at fact ≡ Some kept) × (kept ≢ of fact))
    → AllByRecursion (λ f. IfSome (at f) (λ kept. kept ≡ of f)) facts ⊎ SomeUnlike X F at of facts
    → AllByRecursion (λ f. IfSome (at f) (λ kept. kept ≡ of f)) (fact ∷ facts) ⊎ SomeUnlike X F at of (fact ∷ facts)
all-like-step X F at of fact facts (inr d) rest = inr (fact, (0, omega arith, refl), d.0, d.1, d.2)
all-like-step X F at of fact facts (inl h) (inl rest) = inl (h, rest)
all-like-step X F at of fact facts (inl h) (inr d) = inr (d.0, (suc d.1.0, omega (arith, d.1.1), d.1.2), d.2, d.3, d.4)

-- each of some is like the kept one, or one isn't
all-like : (X F : Type 0) (at : F → Option X) (of : F → X) (decides : (a b : X) → IsOneOrNot a b) (facts : List F)
    → AllByRecursion (λ f. IfSome (at f) (λ kept. kept ≡ of f)) facts ⊎ SomeUnlike X F at of facts
all-like X F at of decides [] = inl tt
all-like X F at of decides (fact ∷ facts) =
    all-like-step X F at of fact facts (one-like X F at of decides fact (at fact) refl) (all-like X F at of decides facts)

abbrev HeadersLike : Known → Message → Type 0
HeadersLike known message = AllByRecursion (λ (h : Header). IfSome (known_header known.headers h.id) (λ kept. kept ≡ h)) (headers_shown message)

abbrev EntriesLike : Known → Message → Type 0
EntriesLike known message = AllByRecursion (λ (f : EntryFact). IfSome (entry_at known.entries f.tx f.index) (λ kept. kept ≡ f.entry)) (entries_shown message)

abbrev HeaderUnlike : Known → Message → Type 0
HeaderUnlike known message = SomeUnlike Header Header (λ h. known_header known.headers h.id) (λ h. h) (headers_shown message)

abbrev EntryUnlike : Known → Message → Type 0
EntryUnlike known message = SomeUnlike Entry EntryFact (λ f. entry_at known.entries f.tx f.index) (λ f. f.entry) (entries_shown message)

both-like : (known : Known) (message : Message) → HeadersLike known message ⊎ HeaderUnlike known message → EntriesLike known message ⊎ EntryUnlike known message → Agrees known message ⊎ Differs known message
both-like known message (inr d) entries = inr (inl (record { shown = d.0; is_shown = d.1; kept = d.2; is_kept = d.3; unlike = d.4 }))
both-like known message (inl h) (inr d) = inr (inr (record { shown = d.0; is_shown = d.1; kept = d.2; is_kept = d.3; unlike = d.4 }))
both-like known message (inl h) (inl e) = inl (record {
  headers = All-from_recursion (λ (x : Header). IfSome (known_header known.headers x.id) (λ kept. kept ≡ x)) (headers_shown message) h;
  entries = All-from_recursion (λ (f : EntryFact). IfSome (entry_at known.entries f.tx f.index) (λ kept. kept ≡ f.entry)) (entries_shown message) e;
})

-- a message agrees or differs
pub agrees-or-differs : (known : Known) (message : Message) → Agrees known message ⊎ Differs known message
agrees-or-differs known message =
    both-like known message
    (all-like Header Header (λ h. known_header known.headers h.id) (λ h. h) header-one (headers_shown message))
    (all-like Entry EntryFact (λ f. entry_at known.entries f.tx f.index) (λ f. f.entry) entry-one (entries_shown message))

-- and not both
pub not-both : (known : Known) (message : Message) → Agrees known message → Differs known message → ⊥
not-both known message agrees (inl d) =
    d.unlike (subst (λ (o : Option Header). IfSome o (λ kept. kept ≡ d.shown)) d.is_kept
    (All-contains (λ (h : Header). IfSome (known_header known.headers h.id) (λ kept. kept ≡ h)) (headers_shown message) d.shown agrees.headers d.is_shown))
not-both known message agrees (inr d) =
    d.unlike (subst (λ (o : Option Entry). IfSome o (λ kept. kept ≡ d.shown.entry)) d.is_kept
    (All-contains (λ (f : EntryFact). IfSome (entry_at known.entries f.tx f.index) (λ kept. kept ≡ f.entry)) (entries_shown message) d.shown agrees.entries d.is_shown))

-- it agrees where each of its facts does
pub each-agrees : (known : Known) (message : Message) → AllByRecursion (IsAlike known.headers) (headers_shown message) → AllByRecursion (IsEntryAlike known.entries) (entries_shown message) → Agrees known message
each-agrees known message h e = record {
  headers = All-from_recursion (IsAlike known.headers) (headers_shown message) h;
  entries = All-from_recursion (IsEntryAlike known.entries) (entries_shown message) e;
}

no-agreement : (known : Known) (message : Message) → Agrees known message ⊎ Differs known message → (Agrees known message → ⊥) → Differs known message
no-agreement known message (inl agrees) never = absurd (never agrees)
no-agreement known message (inr differs) never = differs

-- and differs where a header doesn't
pub header-differs : (known : Known) (message : Message) → (AllByRecursion (IsAlike known.headers) (headers_shown message) → ⊥) → Differs known message
header-differs known message never =
    no-agreement known message (agrees-or-differs known message) (λ agrees. never (recursion_from_All (IsAlike known.headers) (headers_shown message) agrees.headers))

-- or an entry
pub entry-differs : (known : Known) (message : Message) → (AllByRecursion (IsEntryAlike known.entries) (entries_shown message) → ⊥) → Differs known message
entry-differs known message never =
    no-agreement known message (agrees-or-differs known message) (λ agrees. never (recursion_from_All (IsEntryAlike known.entries) (entries_shown message) agrees.entries))
