-- Passes that are split off the first one, and put under the locks.
use Rattle.std.proofs.Common.{◌≡◌, ◌∙◌, true, false, List, refl, ap, sym, subst}
use Rattle.std.proofs.lemmas.Bool.{false≢true}
use Rattle.im_table.specs.Known.{KnownPass, TableId}
use Rattle.im_table.specs.Passes.{book_role, index_role, journal_role, tree_role, IsKeeper}
use Rattle.im_table.specs.Views.{left_of, opener, right_of, AreHeld}
use Rattle.im_table.specs.declared.items.LogItem.{LogItem}
use Rattle.im_table.specs.declared.roles.Roles.{Roles}
use Rattle.im_table.specs.declared.view.View.{View}

-- a pass that is split off without weight, and the one that it is split off from
pub left_is : (roles role : Roles) (old new before : View) → roles ≡ role → old ≡ before → new ≡ left_of roles 0 old → new ≡ left_of role 0 before
left_is roles role old new before same was is = is ∙ ap (λ (r : Roles). left_of r 0 old) same ∙ ap (λ (v : View). left_of role 0 v) was

pub right_is : (roles role : Roles) (old new before : View) → roles ≡ role → old ≡ before → new ≡ right_of roles 0 old → new ≡ right_of role 0 before
right_is roles role old new before same was is = is ∙ ap (λ (r : Roles). right_of r 0 old) same ∙ ap (λ (v : View). right_of role 0 v) was

-- such a pass lies under a lock
pub keeper_is : (table : TableId) (role : Roles) (p : KnownPass) (before : View) → p.table ≡ table → p.view ≡ right_of role 0 before → IsKeeper table role p
keeper_is table role p before of is = (
  of,
  ap (λ (v : View). v.roles) is,
  ap (λ (v : View). v.weight) is,
  ap (λ (v : View). v.own) is,
  ap (λ (v : View). v.leaves) is,
  ap (λ (v : View). v.faults) is,
)

-- the roles that are split off are held
pub held_is : (roles role all : Roles) (old before : View) → roles ≡ role → old ≡ before → before.roles ≡ all → AreHeld all role → AreHeld old.roles roles
held_is roles role all old before same was is held =
    subst (λ (r : Roles). AreHeld old.roles r) (sym same) (subst (λ (r : Roles). AreHeld r role) (sym (ap (λ (v : View). v.roles) was ∙ is)) held)

-- what stays behind each of them
abbrev pub behind_writer : List LogItem → View
behind_writer items = left_of journal_role 0 (opener items)

abbrev pub behind_indexer : List LogItem → View
behind_indexer items = left_of index_role 0 (behind_writer items)

abbrev pub behind_keeper : List LogItem → View
behind_keeper items = left_of book_role 0 (behind_indexer items)

-- the roles that are held then
pub held_first : AreHeld (record { journal = true; index = true; book = true; tree = true }) journal_role
held_first = record { journal = λ e. refl; index = λ e. refl; book = λ e. refl; tree = λ e. refl }

pub held_second : AreHeld (record { journal = false; index = true; book = true; tree = true }) index_role
held_second = record { journal = λ e. absurd (false≢true e); index = λ e. refl; book = λ e. refl; tree = λ e. refl }

pub held_third : AreHeld (record { journal = false; index = false; book = true; tree = true }) book_role
held_third = record { journal = λ e. absurd (false≢true e); index = λ e. absurd (false≢true e); book = λ e. refl; tree = λ e. refl }

pub held_fourth : AreHeld (record { journal = false; index = false; book = false; tree = true }) tree_role
held_fourth = record { journal = λ e. absurd (false≢true e); index = λ e. absurd (false≢true e); book = λ e. absurd (false≢true e); tree = λ e. refl }
