-- What wasn't placed, and what is told of it.
use Rattle.std.proofs.Common.{◌≡◌, ◌⊎◌, ◌≤◌, ℕ, ℤ, List, Option, Some, length, inl, inr, sym, subst, arith, ⊎_elim}
use mathlib.Core.List.{IsPrefix}
use Rattle.im_model.specs.History.{IsHistory}
use Rattle.im_table.specs.Histories.{history_of}
use Rattle.im_table.specs.Known.{KnownPass}
use Rattle.im_table.specs.Passes.{Later}
use Rattle.im_table.specs.declared.items.LogItem.{LogItem}
use Rattle.im_tx.specs.Asked.{Asked}
use Rattle.im_versions.specs.Admits.{place_refusal}
use Rattle.im_versions.specs.declared.refusals.PlaceError.{PlaceError}
use Rattle.im_versions.specs.declared.refusals.PlaceError.TheVariants as place
use Rattle.im_store.specs.Commits.{Explains, IsRefusedAt}
use Rattle.im_store.specs.Loads.{LooksOn}
use Rattle.im_store.specs.Placing.{reach_of, unplaced, IsNotDone, TellsNotPlaced}
use Rattle.im_store.specs.declared.errors.CommitError.{CommitError}
use Rattle.im_store.specs.declared.store.committing.NotPlaced.{NotPlaced}
use Rattle.im_store.specs.declared.store.committing.NotPlaced.TheVariants.{Memory, Refused}
use Rattle.im_store.proofs.CommitLemmas.{halt_on, halted_refused, refused_later, refused_now, refused_told}
use Rattle.im_store.proofs.GainLemmas.{saw_failures_on, saw_fewer_on}

module _ (time : Option ℤ) (asked : Asked) (old : KnownPass) where
  -- the book refused it behind its whole list, or memory ran out
  pub not_placed : (items : List LogItem) (why : PlaceError) (at : ℕ) (new : KnownPass) (u : NotPlaced) → u ≡ unplaced why at → IsPrefix old.view.seen items
      → old.view.least.durable ≤ length items → IsHistory (history_of items) → at ≡ length items → new.view.seen ≡ items
      → (why ≡ place.Memory) ⊎ (place_refusal (history_of items) asked.pres ≡ Some why) → IsNotDone asked old new u
  not_placed items why at new u is begins known history here seen refusal =
      subst (λ (x : NotPlaced). IsNotDone asked old new x) (sym is) (of why refusal)
    where
      judged : (w : PlaceError) → place_refusal (history_of items) asked.pres ≡ Some w → IsRefusedAt asked old new w at
      judged w r = refused_now time asked old items w at new begins known history here seen r

      of : (w : PlaceError) → (w ≡ place.Memory) ⊎ (place_refusal (history_of items) asked.pres ≡ Some w) → IsNotDone asked old new (unplaced w at)
      of place.Memory r = tt
      of place.Full (inl e) = absurd (cc (e))
      of place.Full (inr r) = judged place.Full r
      of (place.Missing key) (inl e) = absurd (cc (e))
      of (place.Missing key) (inr r) = judged (place.Missing key) r
      of (place.Exists key tx) (inl e) = absurd (cc (e))
      of (place.Exists key tx) (inr r) = judged (place.Exists key tx) r
      of (place.Modified key tx) (inl e) = absurd (cc (e))
      of (place.Modified key tx) (inr r) = judged (place.Modified key tx) r

  -- what is told of it explains the commit's error
  pub tells_explains : (mid new : KnownPass) (u : NotPlaced) (error : CommitError) → IsNotDone asked old mid u → Later old mid → Later mid new
      → LooksOn old.view.looks mid.view.looks → TellsNotPlaced mid new u error → Explains time asked old new error
  tells_explains mid new Memory error judged before later looks told = subst (λ (e : CommitError). Explains time asked old new e) (sym told) tt
  tells_explains mid new (Refused why at) error judged before later looks told =
      let here = refused_later time asked old mid new why at judged later in
      ⊎_elim (λ t. refused_told time asked old new why at error t.0 here t.1)
      (λ t. halted_refused time asked old new t.0 error why at t.1 here (saw_fewer_on old mid new at before looks t.3)
      (halt_on old mid new t.0 before.failed (λ f saw. saw_failures_on old mid new f looks saw) t.2))
      told

  -- it was judged behind no more than the pass has seen
  pub reach_within : (mid : KnownPass) (u : NotPlaced) → IsNotDone asked old mid u → reach_of u ≤ length mid.view.seen
  reach_within mid Memory judged = omega arith
  reach_within mid (Refused why at) judged = judged.within
