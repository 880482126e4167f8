-- What is written at a key behind what was put.
use Rattle.std.proofs.Common.{◌≡◌, ◌≢◌, ◌<◌, ◌+◌, ℕ, Bool, true, false, cond, List, [], ◌∷◌, ◌++◌, length, take, get_or, map, flat_map, filter, find, bytes_eq, Option, Some, None, refl, sym, ap, ◌∙◌, subst, arith}
use Rattle.std.proofs.lemmas.List.{take_more, map-append, flat_map_more}
use Rattle.std.proofs.lemmas.Slice.Eq.{bytes_eq-Decides}
use Rattle.std.specs.List.{AllByRecursion}
use Rattle.std.specs.Option.{option_map}
use Rattle.std.specs.declared.cmp.Ordering.{Ordering}
use Rattle.std.specs.declared.cmp.Ordering.TheVariants.{Less, Equal, Greater}
use Rattle.im_octet.proofs.Common.{bytes-other}
use Rattle.im_versions.proofs.ScanLemmas.{same-key, below-turned}
use Rattle.im_versions.specs.Versions.{IsBelow}
use Rattle.im_versions.proofs.VersionLemmas.{below-strict}
use Rattle.im_sqltype.specs.Orders.{octets_cmp}
use Rattle.im_sqltype.specs.declared.values.Value.{Value}
use Rattle.im_sqlmodel.specs.Options.{by_ordering}
use Rattle.im_sqlmodel.specs.Rows.{key_of}
use Rattle.im_sqlmodel.specs.Writes.{put_written, put_all, entry_written, row_written, all_written, deleted, dropped, is_guarded}
use Rattle.im_sqlmodel.specs.declared.rows.StoredRow.{StoredRow}
use Rattle.im_sqlmodel.specs.declared.tables.SqlIndex.{SqlIndex}
use Rattle.im_sqlmodel.specs.declared.tables.Table.{Table}
use Rattle.im_sqlmodel.specs.declared.written.Written.{Written}
use Rattle.im_catalog.proofs.FoundLemmas.{entry-is}
use Rattle.im_sql.specs.Writing.{written_at}

-- ---- one

-- the first of a list, or what the rest says
abbrev pub either : Bool → Option (List ℕ) → Option (Option (List ℕ)) → Option (Option (List ℕ))
either b value rest = cond b (Some value) rest

told : (b : Bool) (w : Written) (others : Option Written) → option_map (λ (v : Written). v.value) (cond b (Some w) others) ≡ either b w.value (option_map (λ (v : Written). v.value) others)
told true w others = refl
told false w others = refl

at-first : (w : Written) (ws : List Written) (key : List ℕ) → written_at (w ∷ ws) key ≡ either (bytes_eq key w.key) w.value (written_at ws key)
at-first w ws key = told (bytes_eq key w.key) w (find (λ (v : Written). bytes_eq key v.key) ws)

-- of two equal keys the second is never found
hidden : (b : Bool) (v : Option (List ℕ)) (w : Option (List ℕ)) (rest : Option (Option (List ℕ))) → either b v rest ≡ either b v (either b w rest)
hidden true v w rest = refl
hidden false v w rest = refl

swapped : (p q : Bool) (v w : Option (List ℕ)) (rest : Option (Option (List ℕ))) → (p ≡ true → q ≡ true → ⊥) → either p v (either q w rest) ≡ either q w (either p v rest)
swapped true true v w rest clash = absurd (clash refl refl)
swapped true false v w rest clash = refl
swapped false true v w rest clash = refl
swapped false false v w rest clash = refl

put-step : (o : Ordering) (w x : Written) (xs : List Written) (key : List ℕ) → o ≡ octets_cmp w.key x.key
    → written_at (put_written w xs) key ≡ either (bytes_eq key w.key) w.value (written_at xs key)
    → written_at (by_ordering o (w ∷ x ∷ xs) (w ∷ xs) (x ∷ put_written w xs)) key ≡ either (bytes_eq key w.key) w.value (written_at (x ∷ xs) key)
put-step Less w x xs key is rest = at-first w (x ∷ xs) key
put-step Equal w x xs key is rest =
    at-first w xs key ∙ hidden (bytes_eq key w.key) w.value x.value (written_at xs key)
    ∙ ap (λ (k : List ℕ). either (bytes_eq key w.key) w.value (either (bytes_eq key k) x.value (written_at xs key))) (same-key w.key x.key is)
    ∙ ap (either (bytes_eq key w.key) w.value) (sym (at-first x xs key))
put-step Greater w x xs key is rest =
    at-first x (put_written w xs) key ∙ ap (either (bytes_eq key x.key) x.value) rest
    ∙ swapped (bytes_eq key x.key) (bytes_eq key w.key) x.value w.value (written_at xs key)
    (λ p q.
    let same : x.key ≡ w.key = sym ((bytes_eq-Decides key x.key).0 p) ∙ (bytes_eq-Decides key w.key).0 q in
    below-itself w.key x.key is same)
    ∙ ap (either (bytes_eq key w.key) w.value) (sym (at-first x xs key))
  where
    below-itself : (a b : List ℕ) → Greater ≡ octets_cmp a b → b ≡ a → ⊥
    below-itself a b e same =
        let below = below-turned a b e in
        let itself = subst (λ k. IsBelow b k) (sym same) below in
        below-strict b b itself itself

-- what is put at a key is there, and each other key is as it was
pub put-at : (w : Written) (ws : List Written) (key : List ℕ) → written_at (put_written w ws) key ≡ either (bytes_eq key w.key) w.value (written_at ws key)
put-at w [] key = at-first w [] key
put-at w (x ∷ xs) key = put-step (octets_cmp w.key x.key) w x xs key refl (put-at w xs key)

-- ---- several

pub put-all-apart : (ws written : List Written) (key : List ℕ) → AllByRecursion (λ (w : Written). key ≢ w.key) ws → written_at (put_all ws written) key ≡ written_at written key
put-all-apart [] written key apart = refl
put-all-apart (w ∷ ws) written key apart =
    put-all-apart ws (put_written w written) key apart.1 ∙ put-at w written key
    ∙ ap (λ (b : Bool). either b w.value (written_at written key)) (bytes-other key w.key apart.0)

-- entries stand under other keys than rows
entries-apart : (t : Table) (row : List Value) (indexes : List SqlIndex) (key : List ℕ) → get_or key 1 0 ≡ 4 → AllByRecursion (λ (w : Written). key ≢ w.key) (map (entry_written t row) indexes)
entries-apart t row [] key second = tt
entries-apart t row (i ∷ is) key second = (entry-is 4 key t row i (omega arith) second, entries-apart t row is key second)

deleted-apart : (t : Table) (row : List Value) (indexes : List SqlIndex) (key : List ℕ) → get_or key 1 0 ≡ 4 → AllByRecursion (λ (w : Written). key ≢ w.key) (map (λ i. deleted (entry_written t row i)) indexes)
deleted-apart t row [] key second = tt
deleted-apart t row (i ∷ is) key second = (entry-is 4 key t row i (omega arith) second, deleted-apart t row is key second)

dropped-apart : (t : Table) (indexes : List SqlIndex) (there : Option StoredRow) (key : List ℕ) → get_or key 1 0 ≡ 4 → AllByRecursion (λ (w : Written). key ≢ w.key) (dropped t indexes there)
dropped-apart t indexes None key second = tt
dropped-apart t indexes (Some s) key second = deleted-apart t s.row indexes key second

-- at a row's key: the row, where it is its own, else what was there
pub row-put : (t : Table) (indexes : List SqlIndex) (row other : List Value) (there : Option StoredRow) (written : List Written)
    → written_at (put_all (all_written t indexes row) (put_all (dropped t indexes there) written)) (key_of t other)
    ≡ either (bytes_eq (key_of t other) (key_of t row)) (row_written t row).value (written_at written (key_of t other))
row-put t indexes row other there written =
    let key : List ℕ = key_of t other in
    let before : List Written = put_all (dropped t indexes there) written in
    put-all-apart (map (entry_written t row) indexes) (put_written (row_written t row) before) key (entries-apart t row indexes key refl)
    ∙ put-at (row_written t row) before key
    ∙ ap (either (bytes_eq key (key_of t row)) (row_written t row).value) (put-all-apart (dropped t indexes there) written key (dropped-apart t indexes there key refl))

-- ---- one after the other

put-all-append : (xs ys written : List Written) → put_all (xs ++ ys) written ≡ put_all ys (put_all xs written)
put-all-append [] ys written = refl
put-all-append (x ∷ xs) ys written = put-all-append xs ys (put_written x written)

-- one more
pub put-all-push : (xs : List Written) (x : Written) (written : List Written) → put_all (xs ++ x ∷ []) written ≡ put_written x (put_all xs written)
put-all-push xs x written = put-all-append xs (x ∷ []) written

-- the next of a list, as it is written
pub put-next : {A : Type 0} (f : A → Written) (xs : List A) (i : ℕ) (x : A) (written : List Written) → i < length xs → x ≡ get_or xs i x
    → put_all (map f (take (i + 1) xs)) written ≡ put_written (f x) (put_all (map f (take i xs)) written)
put-next f xs i x written l is =
    ap (λ ys. put_all (map f ys) written) (take_more xs i x l)
    ∙ ap (λ ws. put_all ws written) (map-append f (take i xs) (get_or xs i x ∷ []))
    ∙ put-all-push (map f (take i xs)) (f (get_or xs i x)) written
    ∙ ap (λ y. put_written (f y) (put_all (map f (take i xs)) written)) (sym is)

pub put-yielded : {A : Type 0} (f : A → Written) (xs : List A) (x : A) (written : List Written) → put_all (map f (xs ++ x ∷ [])) written ≡ put_written (f x) (put_all (map f xs) written)
put-yielded f xs x written = ap (λ ws. put_all ws written) (map-append f xs (x ∷ [])) ∙ put-all-push (map f xs) (f x) written

-- the next of a list, as the several that it is written as
pub put-many : {A : Type 0} (f : A → List Written) (xs : List A) (i : ℕ) (x : A) (written : List Written) → i < length xs → x ≡ get_or xs i x
    → put_all (flat_map f (take (i + 1) xs)) written ≡ put_all (f x) (put_all (flat_map f (take i xs)) written)
put-many f xs i x written l is =
    ap (λ ys. put_all (flat_map f ys) written) (take_more xs i x l)
    ∙ ap (λ ws. put_all ws written) (sym (flat_map_more f [] (take i xs) (get_or xs i x)))
    ∙ put-all-append (flat_map f (take i xs)) (f (get_or xs i x)) written
    ∙ ap (λ y. put_all (f y) (put_all (flat_map f (take i xs)) written)) (sym is)

-- ---- the keys that are guarded

unguarded : (key : List ℕ) (keys : List (List ℕ)) → is_guarded key ≡ false → filter is_guarded (key ∷ keys) ≡ filter is_guarded keys
unguarded key keys none = ap (λ (b : Bool). cond b (key ∷ filter is_guarded keys) (filter is_guarded keys)) none

abbrev keys_in : List Written → List (List ℕ)
keys_in ws = map (λ (w : Written). w.key) ws

-- they stay the same where another key is put
pub put-unguarded : (w : Written) (ws : List Written) → is_guarded w.key ≡ false → filter is_guarded (keys_in (put_written w ws)) ≡ filter is_guarded (keys_in ws)
put-unguarded w [] none = unguarded w.key [] none
put-unguarded w (x ∷ xs) none = elim (octets_cmp w.key x.key) as (λ (o : Ordering). octets_cmp w.key x.key ≡ o
    → filter is_guarded (keys_in (by_ordering o (w ∷ x ∷ xs) (w ∷ xs) (x ∷ put_written w xs))) ≡ filter is_guarded (keys_in (x ∷ xs))) [
      | Less ↦ λ e. unguarded w.key (keys_in (x ∷ xs)) none
      | Equal ↦ λ e. unguarded w.key (keys_in xs) none ∙ sym (unguarded x.key (keys_in xs) (ap is_guarded (sym (same-key w.key x.key (sym e))) ∙ none))
      | Greater ↦ λ e. ap (λ (ks : List (List ℕ)). cond (is_guarded x.key) (x.key ∷ ks) ks) (put-unguarded w xs none)
    ] refl
