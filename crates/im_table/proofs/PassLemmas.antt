-- A pass behind two calls, and one of which nothing is split off.
use Rattle.std.proofs.Common.{◌≡◌, ◌∙◌, ◌&&◌, ◌-◌, ℕ, Bool, true, ap, arith}
use Rattle.im_octet.proofs.Common.{and-true}
use Rattle.im_table.specs.Known.{KnownPass}
use Rattle.im_table.specs.Passes.{Later}
use Rattle.im_table.specs.Views.{left_of, no_roles, without}
use Rattle.im_table.specs.declared.roles.Roles.{Roles}
use Rattle.im_table.specs.declared.view.View.{View}
use Rattle.im_table.proofs.FrontLemmas.{prefix_trans}

pub later_both : (a b c : KnownPass) → Later a b → Later b c → Later a c
later_both a b c first next = record {
  table = next.table ∙ first.table;
  roles = next.roles ∙ first.roles;
  weight = next.weight ∙ first.weight;
  seen = prefix_trans a.view.seen b.view.seen c.view.seen first.seen next.seen;
  durable = omega (arith, first.durable, next.durable);
  linked = omega (arith, first.linked, next.linked);
  indexed = omega (arith, first.indexed, next.indexed);
  failed = omega (arith, first.failed, next.failed);
}

-- without none of them roles are as they were
without_none : (r : Roles) → without r no_roles ≡ r
without_none r =
    ap (λ (b : Bool). record { journal = b; index = r.index && true; book = r.book && true; tree = r.tree && true }) (and-true r.journal)
    ∙ ap (λ (b : Bool). record { journal = r.journal; index = b; book = r.book && true; tree = r.tree && true }) (and-true r.index)
    ∙ ap (λ (b : Bool). record { journal = r.journal; index = r.index; book = b; tree = r.tree && true }) (and-true r.book)
    ∙ ap (λ (b : Bool). record { journal = r.journal; index = r.index; book = r.book; tree = b }) (and-true r.tree)

-- where nothing is split off a view stays as it was
pub left_none : (v : View) → left_of no_roles 0 v ≡ v
left_none v =
    let same : v.weight - 0 ≡ v.weight = omega arith in
    ap (λ (r : Roles). record v { roles = r; weight = v.weight - 0 }) (without_none v.roles) ∙ ap (λ (n : ℕ). record v { weight = n }) same
