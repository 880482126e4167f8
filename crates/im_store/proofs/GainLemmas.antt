-- What a pass gains, and which loads it makes, behind several calls.
use Rattle.std.proofs.Common.{◌≡◌, ◌≤◌, ◌<◌, ◌+◌, ◌∙◌, [], ◌∷◌, ℕ, List, refl, ap, sym, subst, arith}
use Rattle.std.proofs.lemmas.List.{append-nil}
use mathlib.Core.List.{IsPrefix}
use Rattle.im_table.specs.Known.{KnownPass}
use Rattle.im_table.specs.Passes.{AddsFaults, AddsLeaves, AddsNothing, AddsNumber, Later}
use Rattle.im_table.specs.Views.{looked_durable, looked_failed, looked_indexed, looked_placed}
use Rattle.im_table.specs.declared.items.LogItem.{LogItem}
use Rattle.im_table.specs.declared.view.AllLooks.{AllLooks}
use Rattle.im_table.specs.declared.view.View.{View}
use Rattle.im_table.proofs.FrontLemmas.{prefix_self}
use Rattle.im_table.proofs.PassLemmas.{later_both}
use Rattle.im_store.specs.Gains.{Gains, HasStepped}
use Rattle.im_store.specs.Loads.{LooksOn, SawDurable, SawFailures, SawFewer, SawIndexed}

-- what a step of one of the seats added
pub gains_none : (old new : KnownPass) → AddsNothing old new → Gains [] 0 0 old new
gains_none old new a = record {
  own = a.own ∙ sym (append-nil old.view.own);
  leaves = omega (arith, a.leaves);
  faults = omega (arith, a.faults);
}

pub gains_number : (n : ℕ) (old new : KnownPass) → AddsNumber n old new → Gains (n ∷ []) 0 0 old new
gains_number n old new a = record { own = a.own; leaves = omega (arith, a.leaves); faults = omega (arith, a.faults) }

pub gains_leaves : (n : ℕ) (old new : KnownPass) → AddsLeaves n old new → Gains [] n 0 old new
gains_leaves n old new a = record {
  own = a.own ∙ sym (append-nil old.view.own);
  leaves = a.leaves;
  faults = omega (arith, a.faults);
}

pub gains_faults : (n : ℕ) (old new : KnownPass) → AddsFaults n old new → Gains [] 0 n old new
gains_faults n old new a = record {
  own = a.own ∙ sym (append-nil old.view.own);
  leaves = omega (arith, a.leaves);
  faults = a.faults;
}

-- and no step at all
pub gains_same : (p : KnownPass) → Gains [] 0 0 p p
gains_same p = record { own = sym (append-nil p.view.own); leaves = omega arith; faults = omega arith }

-- two calls: the first linked and told nothing, and the second placed nothing
pub gains_after : (ns : List ℕ) (f : ℕ) (old mid new : KnownPass) → Gains ns 0 0 old mid → Gains [] 0 f mid new → Gains ns 0 f old new
gains_after ns f old mid new g h = record {
  own = h.own ∙ append-nil mid.view.own ∙ g.own;
  leaves = omega (arith, g.leaves, h.leaves);
  faults = omega (arith, g.faults, h.faults);
}

pub gains_before : (a f : ℕ) (old mid new : KnownPass) → Gains [] 0 0 old mid → Gains [] a f mid new → Gains [] a f old new
gains_before a f old mid new g h = record {
  own = h.own ∙ append-nil mid.view.own ∙ g.own;
  leaves = omega (arith, g.leaves, h.leaves);
  faults = omega (arith, g.faults, h.faults);
}

-- loads go on
pub looks_same : (old new : AllLooks) → new ≡ old → LooksOn old new
looks_same old new e = record {
  placed = (let x : new.placed.count ≡ old.placed.count = ap (λ (l : AllLooks). l.placed.count) e in omega (arith, x));
  durable = (let x : new.durable.count ≡ old.durable.count = ap (λ (l : AllLooks). l.durable.count) e in omega (arith, x));
  linked = (let x : new.linked.count ≡ old.linked.count = ap (λ (l : AllLooks). l.linked.count) e in omega (arith, x));
  indexed = (let x : new.indexed.count ≡ old.indexed.count = ap (λ (l : AllLooks). l.indexed.count) e in omega (arith, x));
  failed = (let x : new.failed.count ≡ old.failed.count = ap (λ (l : AllLooks). l.failed.count) e in omega (arith, x));
}

pub looks_both : (a b c : AllLooks) → LooksOn a b → LooksOn b c → LooksOn a c
looks_both a b c x y = record {
  placed = omega (arith, x.placed, y.placed);
  durable = omega (arith, x.durable, y.durable);
  linked = omega (arith, x.linked, y.linked);
  indexed = omega (arith, x.indexed, y.indexed);
  failed = omega (arith, x.failed, y.failed);
}

-- by one load of the word placed
pub looks_placed : (old : View) (new : AllLooks) (n : ℕ) → new ≡ (looked_placed old n).looks → LooksOn old.looks new
looks_placed old new n e = record {
  placed = (let x : new.placed.count ≡ old.looks.placed.count + 1 = ap (λ (l : AllLooks). l.placed.count) e in omega (arith, x));
  durable = (let x : new.durable.count ≡ old.looks.durable.count = ap (λ (l : AllLooks). l.durable.count) e in omega (arith, x));
  linked = (let x : new.linked.count ≡ old.looks.linked.count = ap (λ (l : AllLooks). l.linked.count) e in omega (arith, x));
  indexed = (let x : new.indexed.count ≡ old.looks.indexed.count = ap (λ (l : AllLooks). l.indexed.count) e in omega (arith, x));
  failed = (let x : new.failed.count ≡ old.looks.failed.count = ap (λ (l : AllLooks). l.failed.count) e in omega (arith, x));
}

-- by one load of the word indexed
pub looks_indexed : (old : View) (new : AllLooks) (n : ℕ) → new ≡ (looked_indexed old n).looks → LooksOn old.looks new
looks_indexed old new n e = record {
  placed = (let x : new.placed.count ≡ old.looks.placed.count = ap (λ (l : AllLooks). l.placed.count) e in omega (arith, x));
  durable = (let x : new.durable.count ≡ old.looks.durable.count = ap (λ (l : AllLooks). l.durable.count) e in omega (arith, x));
  linked = (let x : new.linked.count ≡ old.looks.linked.count = ap (λ (l : AllLooks). l.linked.count) e in omega (arith, x));
  indexed = (let x : new.indexed.count ≡ old.looks.indexed.count + 1 = ap (λ (l : AllLooks). l.indexed.count) e in omega (arith, x));
  failed = (let x : new.failed.count ≡ old.looks.failed.count = ap (λ (l : AllLooks). l.failed.count) e in omega (arith, x));
}

-- a pass that nothing happened to
pub later_self : (p : KnownPass) → Later p p
later_self p = record {
  table = refl;
  roles = refl;
  weight = refl;
  seen = prefix_self p.view.seen;
  durable = omega arith;
  linked = omega arith;
  indexed = omega arith;
  failed = omega arith;
}

pub follows_self : (p : KnownPass) → HasStepped 0 p p
follows_self p = record { later = later_self p; gains = gains_same p; looks = looks_same p.view.looks p.view.looks refl }

-- two parts of a call, of which the first told no failure
pub follows_then : (b : ℕ) (old mid new : KnownPass) → HasStepped 0 old mid → HasStepped b mid new → HasStepped b old new
follows_then b old mid new x y = record {
  later = later_both old mid new x.later y.later;
  gains = gains_before 0 b old mid new x.gains y.gains;
  looks = looks_both old.view.looks mid.view.looks new.view.looks x.looks y.looks;
}

-- a step that shows a locked value without a load
pub follows_shown : (old new : KnownPass) → Later old new → AddsNothing old new → new.view.looks ≡ old.view.looks → HasStepped 0 old new
follows_shown old new later adds looks = record {
  later = later;
  gains = gains_none old new adds;
  looks = looks_same old.view.looks new.view.looks looks;
}

-- and one that loads the word placed
pub follows_placed : (n : ℕ) (old new : KnownPass) → Later old new → AddsNothing old new → new.view.looks ≡ (looked_placed old.view n).looks → HasStepped 0 old new
follows_placed n old new later adds looks = record {
  later = later;
  gains = gains_none old new adds;
  looks = looks_placed old.view new.view.looks n looks;
}

-- and one that loads the word indexed
pub follows_indexed : (n : ℕ) (old new : KnownPass) → Later old new → AddsNothing old new → new.view.looks ≡ (looked_indexed old.view n).looks → HasStepped 0 old new
follows_indexed n old new later adds looks = record {
  later = later;
  gains = gains_none old new adds;
  looks = looks_indexed old.view new.view.looks n looks;
}

pub shown_indexed : (n : ℕ) (old new : KnownPass) → Later old new → new.view.looks ≡ (looked_indexed old.view n).looks → new.view.least.indexed ≡ n → SawIndexed old new n
shown_indexed n old new later looks known = record {
  loaded = record {
    more = (let x : new.view.looks.indexed.count ≡ old.view.looks.indexed.count + 1 = ap (λ (l : AllLooks). l.indexed.count) looks in omega (arith, x));
    last = ap (λ (l : AllLooks). l.indexed.last) looks;
  };
  least = omega (arith, later.indexed, known);
  known = omega (arith, known);
}

-- a step of the journal, which may tell a failure
pub follows_told : (k : ℕ) (old new : KnownPass) → Later old new → AddsFaults k old new → new.view.looks ≡ old.view.looks → HasStepped k old new
follows_told k old new later adds looks = record {
  later = later;
  gains = gains_faults k old new adds;
  looks = looks_same old.view.looks new.view.looks looks;
}

-- what a load leaves as it was
later_by : (old new : KnownPass) → new.table ≡ old.table → new.view.roles ≡ old.view.roles → new.view.weight ≡ old.view.weight → new.view.seen ≡ old.view.seen
    → old.view.least.durable ≤ new.view.least.durable → old.view.least.linked ≤ new.view.least.linked → old.view.least.indexed ≤ new.view.least.indexed
    → old.view.least.failed ≤ new.view.least.failed → Later old new
later_by old new table roles weight seen durable linked indexed failed = record {
  table = table;
  roles = roles;
  weight = weight;
  seen = subst (λ (l : List LogItem). IsPrefix old.view.seen l) (sym seen) (prefix_self old.view.seen);
  durable = durable;
  linked = linked;
  indexed = indexed;
  failed = failed;
}

-- a load of the word durable
module _ (old new : KnownPass) (n : ℕ) (table : new.table ≡ old.table) (view : new.view ≡ looked_durable old.view n) (least : old.view.least.durable ≤ n) where
  pub load_durable_later : Later old new
  load_durable_later =
      let d : new.view.least.durable ≡ n = ap (λ (v : View). v.least.durable) view in
      let l : new.view.least.linked ≡ old.view.least.linked = ap (λ (v : View). v.least.linked) view in
      let i : new.view.least.indexed ≡ old.view.least.indexed = ap (λ (v : View). v.least.indexed) view in
      let f : new.view.least.failed ≡ old.view.least.failed = ap (λ (v : View). v.least.failed) view in
      later_by old new table (ap (λ (v : View). v.roles) view) (ap (λ (v : View). v.weight) view) (ap (λ (v : View). v.seen) view)
      (omega (arith, d, least)) (omega (arith, l)) (omega (arith, i)) (omega (arith, f))

  pub load_durable_gains : Gains [] 0 0 old new
  load_durable_gains = record {
    own = ap (λ (v : View). v.own) view ∙ sym (append-nil old.view.own);
    leaves = (let x : new.view.leaves ≡ old.view.leaves = ap (λ (v : View). v.leaves) view in omega (arith, x));
    faults = (let x : new.view.faults ≡ old.view.faults = ap (λ (v : View). v.faults) view in omega (arith, x));
  }

  pub load_durable_follows : HasStepped 0 old new
  load_durable_follows = record {
    later = load_durable_later;
    gains = load_durable_gains;
    looks = record {
      placed = (let x : new.view.looks.placed.count ≡ old.view.looks.placed.count = ap (λ (v : View). v.looks.placed.count) view in omega (arith, x));
      durable = (let x : new.view.looks.durable.count ≡ old.view.looks.durable.count + 1 = ap (λ (v : View). v.looks.durable.count) view in omega (arith, x));
      linked = (let x : new.view.looks.linked.count ≡ old.view.looks.linked.count = ap (λ (v : View). v.looks.linked.count) view in omega (arith, x));
      indexed = (let x : new.view.looks.indexed.count ≡ old.view.looks.indexed.count = ap (λ (v : View). v.looks.indexed.count) view in omega (arith, x));
      failed = (let x : new.view.looks.failed.count ≡ old.view.looks.failed.count = ap (λ (v : View). v.looks.failed.count) view in omega (arith, x));
    };
  }

  pub load_durable_saw : SawDurable old new n
  load_durable_saw = record {
    loaded = record {
      more = (let x : new.view.looks.durable.count ≡ old.view.looks.durable.count + 1 = ap (λ (v : View). v.looks.durable.count) view in omega (arith, x));
      last = ap (λ (v : View). v.looks.durable.last) view;
    };
    least = least;
    known = (let x : new.view.least.durable ≡ n = ap (λ (v : View). v.least.durable) view in omega (arith, x));
  }

-- a load of the word indexed
module _ (old new : KnownPass) (n : ℕ) (table : new.table ≡ old.table) (view : new.view ≡ looked_indexed old.view n) (least : old.view.least.indexed ≤ n) where
  pub load_indexed_follows : HasStepped 0 old new
  load_indexed_follows =
      let d : new.view.least.durable ≡ old.view.least.durable = ap (λ (v : View). v.least.durable) view in
      let l : new.view.least.linked ≡ old.view.least.linked = ap (λ (v : View). v.least.linked) view in
      let i : new.view.least.indexed ≡ n = ap (λ (v : View). v.least.indexed) view in
      let f : new.view.least.failed ≡ old.view.least.failed = ap (λ (v : View). v.least.failed) view in
      record {
        later = later_by old new table (ap (λ (v : View). v.roles) view) (ap (λ (v : View). v.weight) view) (ap (λ (v : View). v.seen) view)
            (omega (arith, d)) (omega (arith, l)) (omega (arith, i, least)) (omega (arith, f));
        gains = record {
          own = ap (λ (v : View). v.own) view ∙ sym (append-nil old.view.own);
          leaves = (let x : new.view.leaves ≡ old.view.leaves = ap (λ (v : View). v.leaves) view in omega (arith, x));
          faults = (let x : new.view.faults ≡ old.view.faults = ap (λ (v : View). v.faults) view in omega (arith, x));
        };
        looks = record {
          placed = (let x : new.view.looks.placed.count ≡ old.view.looks.placed.count = ap (λ (v : View). v.looks.placed.count) view in omega (arith, x));
          durable = (let x : new.view.looks.durable.count ≡ old.view.looks.durable.count = ap (λ (v : View). v.looks.durable.count) view in omega (arith, x));
          linked = (let x : new.view.looks.linked.count ≡ old.view.looks.linked.count = ap (λ (v : View). v.looks.linked.count) view in omega (arith, x));
          indexed = (let x : new.view.looks.indexed.count ≡ old.view.looks.indexed.count + 1 = ap (λ (v : View). v.looks.indexed.count) view in omega (arith, x));
          failed = (let x : new.view.looks.failed.count ≡ old.view.looks.failed.count = ap (λ (v : View). v.looks.failed.count) view in omega (arith, x));
        };
      }

  pub load_indexed_saw : SawIndexed old new n
  load_indexed_saw = record {
    loaded = record {
      more = (let x : new.view.looks.indexed.count ≡ old.view.looks.indexed.count + 1 = ap (λ (v : View). v.looks.indexed.count) view in omega (arith, x));
      last = ap (λ (v : View). v.looks.indexed.last) view;
    };
    least = least;
    known = (let x : new.view.least.indexed ≡ n = ap (λ (v : View). v.least.indexed) view in omega (arith, x));
  }

-- a load of the word failed
module _ (old new : KnownPass) (n : ℕ) (table : new.table ≡ old.table) (view : new.view ≡ looked_failed old.view n) (least : old.view.least.failed ≤ n) where
  pub load_failed_follows : HasStepped 0 old new
  load_failed_follows =
      let d : new.view.least.durable ≡ old.view.least.durable = ap (λ (v : View). v.least.durable) view in
      let l : new.view.least.linked ≡ old.view.least.linked = ap (λ (v : View). v.least.linked) view in
      let i : new.view.least.indexed ≡ old.view.least.indexed = ap (λ (v : View). v.least.indexed) view in
      let f : new.view.least.failed ≡ n = ap (λ (v : View). v.least.failed) view in
      record {
        later = later_by old new table (ap (λ (v : View). v.roles) view) (ap (λ (v : View). v.weight) view) (ap (λ (v : View). v.seen) view)
            (omega (arith, d)) (omega (arith, l)) (omega (arith, i)) (omega (arith, f, least));
        gains = record {
          own = ap (λ (v : View). v.own) view ∙ sym (append-nil old.view.own);
          leaves = (let x : new.view.leaves ≡ old.view.leaves = ap (λ (v : View). v.leaves) view in omega (arith, x));
          faults = (let x : new.view.faults ≡ old.view.faults = ap (λ (v : View). v.faults) view in omega (arith, x));
        };
        looks = record {
          placed = (let x : new.view.looks.placed.count ≡ old.view.looks.placed.count = ap (λ (v : View). v.looks.placed.count) view in omega (arith, x));
          durable = (let x : new.view.looks.durable.count ≡ old.view.looks.durable.count = ap (λ (v : View). v.looks.durable.count) view in omega (arith, x));
          linked = (let x : new.view.looks.linked.count ≡ old.view.looks.linked.count = ap (λ (v : View). v.looks.linked.count) view in omega (arith, x));
          indexed = (let x : new.view.looks.indexed.count ≡ old.view.looks.indexed.count = ap (λ (v : View). v.looks.indexed.count) view in omega (arith, x));
          failed = (let x : new.view.looks.failed.count ≡ old.view.looks.failed.count + 1 = ap (λ (v : View). v.looks.failed.count) view in omega (arith, x));
        };
      }

  pub load_failed_saw : 0 < n → SawFailures old new n
  load_failed_saw some = record {
    loaded = record {
      more = (let x : new.view.looks.failed.count ≡ old.view.looks.failed.count + 1 = ap (λ (v : View). v.looks.failed.count) view in omega (arith, x));
      last = ap (λ (v : View). v.looks.failed.last) view;
    };
    some = some;
    known = (let x : new.view.least.failed ≡ n = ap (λ (v : View). v.least.failed) view in omega (arith, x));
  }

-- what was loaded in a part of a call was loaded in the call
pub saw_durable_on : (old a b new : KnownPass) (n : ℕ) → HasStepped 0 old a → SawDurable a b n → Later b new → new.view.looks.durable ≡ b.view.looks.durable → SawDurable old new n
saw_durable_on old a b new n first saw rest same = record {
  loaded = record {
    more = (let x : new.view.looks.durable.count ≡ b.view.looks.durable.count = ap (λ l. l.count) same in omega (arith, first.looks.durable, saw.loaded.more, x));
    last = ap (λ l. l.last) same ∙ saw.loaded.last;
  };
  least = omega (arith, first.later.durable, saw.least);
  known = omega (arith, saw.known, rest.durable);
}

pub saw_indexed_on : (old a b new : KnownPass) (n : ℕ) → HasStepped 0 old a → SawIndexed a b n → Later b new → new.view.looks.indexed ≡ b.view.looks.indexed → SawIndexed old new n
saw_indexed_on old a b new n first saw rest same = record {
  loaded = record {
    more = (let x : new.view.looks.indexed.count ≡ b.view.looks.indexed.count = ap (λ l. l.count) same in omega (arith, first.looks.indexed, saw.loaded.more, x));
    last = ap (λ l. l.last) same ∙ saw.loaded.last;
  };
  least = omega (arith, first.later.indexed, saw.least);
  known = omega (arith, saw.known, rest.indexed);
}

pub saw_failures_on : (old mid new : KnownPass) (n : ℕ) → LooksOn old.view.looks mid.view.looks → SawFailures mid new n → SawFailures old new n
saw_failures_on old mid new n first saw = record {
  loaded = record { more = omega (arith, first.failed, saw.loaded.more); last = saw.loaded.last };
  some = saw.some;
  known = saw.known;
}

-- that fewer were durable in a part of a call
pub saw_fewer_on : (old mid new : KnownPass) (n : ℕ) → Later old mid → LooksOn old.view.looks mid.view.looks → SawFewer mid new n → SawFewer old new n
saw_fewer_on old mid new n later looks saw = record {
  durable = saw.durable;
  saw = record {
    loaded = record { more = omega (arith, looks.durable, saw.saw.loaded.more); last = saw.saw.loaded.last };
    least = omega (arith, later.durable, saw.saw.least);
    known = saw.saw.known;
  };
  fewer = saw.fewer;
}

pub saw_fewer_still : (old mid new : KnownPass) (n : ℕ) → SawFewer old mid n → Later mid new → new.view.looks.durable ≡ mid.view.looks.durable → SawFewer old new n
saw_fewer_still old mid new n saw later same = record {
  durable = saw.durable;
  saw = saw_durable_on old old mid new saw.durable (follows_self old) saw.saw later same;
  fewer = saw.fewer;
}
