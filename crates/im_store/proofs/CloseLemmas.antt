-- Passes that come together by the holder of all roles.
use Rattle.std.proofs.Common.{◌≡◌, ◌+◌, ◌++◌, true, [], ◌∷◌, ◌∙◌, ℕ, suc, List, length, refl, ap, subst, arith}
use Rattle.std.specs.List.{All, sum_by}
use Rattle.std.proofs.lemmas.List.Sums.{sum_by-cons}
use Rattle.im_table.specs.Known.{KnownPass}
use Rattle.im_table.specs.Passes.{book_role, index_role, journal_role, tree_role}
use Rattle.im_table.specs.Views.{chosen, either_of, picked, view_joined}
use Rattle.im_table.specs.declared.roles.Roles.{Roles}
use Rattle.im_table.specs.declared.view.View.{View}

pub nil_of : (xs : List KnownPass) → length xs ≡ 0 → xs ≡ []
nil_of [] e = refl
nil_of (x ∷ xs) e = absurd (omega (arith, e))

-- what holds of each of a list holds of one within
pub all_middle : (P : KnownPass → Type 0) (xs ys : List KnownPass) (x : KnownPass) → All P (xs ++ x ∷ ys) → P x
all_middle P [] ys x all = all 0 x (omega arith)
all_middle P (y ∷ xs) ys x all = all_middle P xs ys x (λ k d lt. all (suc k) d (omega (arith, lt)))

-- of nothing each there is nothing in all
pub sum_none : (f : KnownPass → ℕ) (xs : List KnownPass) → All (λ p. f p ≡ 0) xs → sum_by f xs ≡ 0
sum_none f [] all = refl
sum_none f (x ∷ xs) all = omega (arith, sum_by-cons f x xs, all 0 x (omega arith), sum_none f xs (λ k d lt. all (suc k) d (omega (arith, lt))))

-- what holds of each behind an equal value
pub all_same : {X : Type 0} (P : X → KnownPass → Type 0) (a b : X) (ps : List KnownPass) → a ≡ b → All (λ p. P a p) ps → All (λ p. P b p) ps
all_same P a b ps same all = subst (λ x. All (λ p. P x p) ps) same all

-- all roles
abbrev all_roles : Roles
all_roles = record { journal = true; index = true; book = true; tree = true }

-- joined to the holder of all roles a pass changes neither its list, nor its numbers, nor its roles
joined_seen : (a b : View) → a.roles ≡ all_roles → (view_joined a b).seen ≡ a.seen
joined_seen a b is = ap (λ (r : Roles). chosen r.book b.roles.book a.seen b.seen) is

joined_least : (a b : View) → a.roles ≡ all_roles → (view_joined a b).least ≡ a.least
joined_least a b is = ap (λ (r : Roles). picked r b.roles a.least b.least) is

joined_roles : (a b : View) → a.roles ≡ all_roles → (view_joined a b).roles ≡ all_roles
joined_roles a b is = ap (λ (r : Roles). either_of r b.roles) is

module _ (old other new : KnownPass) (all : old.view.roles ≡ all_roles) (view : new.view ≡ view_joined old.view other.view) where
  pub held_seen : new.view.seen ≡ old.view.seen
  held_seen = ap (λ (v : View). v.seen) view ∙ joined_seen old.view other.view all

  pub held_least : new.view.least ≡ old.view.least
  held_least = ap (λ (v : View). v.least) view ∙ joined_least old.view other.view all

  pub held_roles : new.view.roles ≡ all_roles
  held_roles = ap (λ (v : View). v.roles) view ∙ joined_roles old.view other.view all

-- what the keepers of the four locks come together to, the book's first: its list, the journal's numbers, the tree's size, and all roles
module _ (k w i t a b d : KnownPass) (rk : k.view.roles ≡ book_role) (rw : w.view.roles ≡ journal_role) (ri : i.view.roles ≡ index_role) (rt : t.view.roles ≡ tree_role)
    (va : a.view ≡ view_joined k.view w.view) (vb : b.view ≡ view_joined a.view i.view) (vd : d.view ≡ view_joined b.view t.view) where
  abbrev four : Roles → Roles → Roles → Roles → View
  four p q r s =
      view_joined (view_joined (view_joined (record k.view { roles = p }) (record w.view { roles = q })) (record i.view { roles = r })) (record t.view { roles = s })

  gathered : d.view ≡ four book_role journal_role index_role tree_role
  gathered =
      vd ∙ ap (λ (v : View). view_joined v t.view) (vb ∙ ap (λ (v : View). view_joined v i.view) va)
      ∙ ap (λ (r : Roles). four r w.view.roles i.view.roles t.view.roles) rk
      ∙ ap (λ (r : Roles). four book_role r i.view.roles t.view.roles) rw
      ∙ ap (λ (r : Roles). four book_role journal_role r t.view.roles) ri
      ∙ ap (λ (r : Roles). four book_role journal_role index_role r) rt

  pub gathered_roles : d.view.roles ≡ all_roles
  gathered_roles = ap (λ (v : View). v.roles) gathered

  pub gathered_seen : d.view.seen ≡ k.view.seen
  gathered_seen = ap (λ (v : View). v.seen) gathered

  pub gathered_durable : d.view.least.durable ≡ w.view.least.durable
  gathered_durable = ap (λ (v : View). v.least.durable) gathered

  pub gathered_failed : d.view.least.failed ≡ w.view.least.failed
  gathered_failed = ap (λ (v : View). v.least.failed) gathered

  pub gathered_linked : d.view.least.linked ≡ t.view.least.linked
  gathered_linked = ap (λ (v : View). v.least.linked) gathered

  pub gathered_weight : k.view.weight ≡ 0 → w.view.weight ≡ 0 → i.view.weight ≡ 0 → t.view.weight ≡ 0 → d.view.weight ≡ 0
  gathered_weight ek ew ei et =
      let e : d.view.weight ≡ ((k.view.weight + w.view.weight) + i.view.weight) + t.view.weight = ap (λ (v : View). v.weight) gathered in
      omega (arith, e, ek, ew, ei, et)

  pub gathered_leaves : k.view.leaves ≡ 0 → w.view.leaves ≡ 0 → i.view.leaves ≡ 0 → t.view.leaves ≡ 0 → d.view.leaves ≡ 0
  gathered_leaves ek ew ei et =
      let e : d.view.leaves ≡ ((k.view.leaves + w.view.leaves) + i.view.leaves) + t.view.leaves = ap (λ (v : View). v.leaves) gathered in
      omega (arith, e, ek, ew, ei, et)

  pub gathered_faults : k.view.faults ≡ 0 → w.view.faults ≡ 0 → i.view.faults ≡ 0 → t.view.faults ≡ 0 → d.view.faults ≡ 0
  gathered_faults ek ew ei et =
      let e : d.view.faults ≡ ((k.view.faults + w.view.faults) + i.view.faults) + t.view.faults = ap (λ (v : View). v.faults) gathered in
      omega (arith, e, ek, ew, ei, et)

  pub gathered_own : k.view.own ≡ [] → w.view.own ≡ [] → i.view.own ≡ [] → t.view.own ≡ [] → d.view.own ≡ []
  gathered_own ek ew ei et =
      ap (λ (v : View). v.own) gathered
      ∙ ap (λ (l : List ℕ). ((l ++ w.view.own) ++ i.view.own) ++ t.view.own) ek
      ∙ ap (λ (l : List ℕ). (l ++ i.view.own) ++ t.view.own) ew
      ∙ ap (λ (l : List ℕ). l ++ t.view.own) ei
      ∙ et
