-- Reading one item after the other, as a loop does.
use Rattle.std.proofs.Common.{◌≡◌, ℕ, ◌+◌, ◌<◌, ◌≤◌, List, [], ◌∷◌, ◌++◌, length, drop, get_or, Option, Some, None, refl, sym, ap, ◌∙◌, append_assoc}
use Rattle.std.proofs.lemmas.List.{append-nil, at_drop_more, at_drop_all}
use Rattle.serde_json.specs.Data.{Data}
use Rattle.serde_json.specs.View.{view, items_view}
use Rattle.serde_json.specs.declared.value.Value.{Value}
use Rattle.im_wire.specs.declared.errors.WireError.{WireError}
use Rattle.im_wire.specs.declared.errors.WireError.TheVariants.{Memory, Syntax}
use Rattle.im_wire.specs.Fields.{each_of}
use Rattle.im_wire.specs.Gives.{◌>>=◌, Fails}

-- what a reading gives, with these items in front
abbrev pub with_front : {A : Type 0} → List A → Option (List A) → Option (List A)
with_front front read = read >>= λ xs. Some (front ++ xs)

-- one item more in front
front-more : {A : Type 0} (front : List A) (x : A) (rest : Option (List A)) → with_front (front ++ x ∷ []) rest ≡ with_front front (rest >>= λ xs. Some (x ∷ xs))
front-more front x None = refl
front-more front x (Some xs) = ap Some (append_assoc front (x ∷ []) xs)

-- the item at the next place is read
pub item-read : {A : Type 0} (read : Data → Option A) (vs : List Value) (i : ℕ) (v : Value) (x : A) (front next : List A) (whole : Option (List A))
    → i < length vs → v ≡ get_or vs i v → read (view v) ≡ Some x → next ≡ front ++ x ∷ []
    → with_front front (each_of read (items_view (drop i vs))) ≡ whole
    → with_front next (each_of read (items_view (drop (i + 1) vs))) ≡ whole
item-read {A} read vs i v x front next whole lt is e more so_far =
    ap (λ (xs : List A). with_front xs (each_of read (items_view (drop (i + 1) vs)))) more
    ∙ front-more front x (each_of read (items_view (drop (i + 1) vs)))
    ∙ ap (λ (o : Option A). with_front front (o >>= λ y. each_of read (items_view (drop (i + 1) vs)) >>= λ xs. Some (y ∷ xs))) (sym e)
    ∙ ap (λ (w : Value). with_front front (each_of read (items_view (w ∷ drop (i + 1) vs)))) is
    ∙ sym (at_drop_more (λ (ws : List Value). with_front front (each_of read (items_view ws))) vs i v lt)
    ∙ so_far

-- the item at the next place isn't read
pub item-fails : {A : Type 0} (read : Data → Option A) (vs : List Value) (i : ℕ) (v : Value) (error : WireError) (front : List A) (whole : Option (List A))
    → i < length vs → v ≡ get_or vs i v → Fails error (read (view v))
    → with_front front (each_of read (items_view (drop i vs))) ≡ whole
    → Fails error whole
item-fails {A} read vs i v Memory front whole lt is e so_far = tt
item-fails {A} read vs i v Syntax front whole lt is e so_far =
    sym so_far
    ∙ at_drop_more (λ (ws : List Value). with_front front (each_of read (items_view ws))) vs i v lt
    ∙ ap (λ (w : Value). with_front front (each_of read (items_view (w ∷ drop (i + 1) vs)))) (sym is)
    ∙ ap (λ (o : Option A). with_front front (o >>= λ y. each_of read (items_view (drop (i + 1) vs)) >>= λ xs. Some (y ∷ xs))) e

-- all items were read
pub all-read : {A : Type 0} (read : Data → Option A) (vs : List Value) (i : ℕ) (front : List A) (whole : Option (List A))
    → length vs ≤ i
    → with_front front (each_of read (items_view (drop i vs))) ≡ whole
    → whole ≡ Some front
all-read {A} read vs i front whole le so_far =
    sym so_far
    ∙ at_drop_all (λ (ws : List Value). with_front front (each_of read (items_view ws))) vs i le
    ∙ ap Some (append-nil front)
