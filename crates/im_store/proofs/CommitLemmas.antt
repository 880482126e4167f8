-- What was placed or refused goes on to be so, and which error tells it.
use Rattle.std.proofs.Common.{◌≡◌, ◌≤◌, ◌-◌, ◌++◌, ◌∷◌, [], ◌∙◌, ℕ, ℤ, List, Option, None, Some, length, take, slice_get, ap, sym, subst, arith, length-append}
use Rattle.std.proofs.Math.Seq.{take-length}
use mathlib.Core.List.{IsPrefix}
use Rattle.im_journal.specs.declared.errors.JournalError.{JournalError}
use Rattle.im_journal.specs.declared.errors.JournalError.TheVariants as halts
use Rattle.im_model.specs.History.{IsHistory}
use Rattle.im_seated_book.specs.Seats.{IsPlaced}
use Rattle.im_table.specs.Histories.{history_of}
use Rattle.im_table.specs.Known.{KnownPass}
use Rattle.im_table.specs.Passes.{Later}
use Rattle.im_table.specs.declared.items.LogItem.{LogItem}
use Rattle.im_table.proofs.FrontLemmas.{prefix_length, get_front}
use Rattle.im_table.proofs.HistoryLemmas.{history_length, take_front}
use Rattle.im_tx.specs.Asked.{Asked}
use Rattle.im_versions.specs.Admits.{place_refusal}
use Rattle.im_versions.specs.declared.refusals.PlaceError.{PlaceError}
use Rattle.im_versions.specs.declared.refusals.PlaceError.TheVariants as place
use Rattle.im_store.specs.Commits.{Explains, HasPlaced, IsNotPlaced, IsRefusedAt}
use Rattle.im_store.specs.Errors.{halted, refused}
use Rattle.im_store.specs.Loads.{SawFailures, SawFewer}
use Rattle.im_store.specs.Settling.{ExplainsHalt}
use Rattle.im_store.specs.declared.errors.CommitError.{CommitError}
use Rattle.im_store.proofs.FrontLemmas.{get_last, take_whole}

module _ (time : Option ℤ) (asked : Asked) (old : KnownPass) where
  -- what the book placed stands in the pass's list
  pub placed_now : (items : List LogItem) (bl number : ℕ) (new : KnownPass) → IsPrefix old.view.seen items → old.view.least.durable ≤ length items
      → IsPlaced items asked bl time old new number → HasPlaced time asked old new number
  placed_now items bl number new begins known p =
      let put = p.put in
      let item = put.item in
      let before : number - 1 ≡ length items = omega (arith, put.number_is) in
      let list : items ++ item ∷ [] ≡ new.view.seen = sym put.seen in
      let long : number ≤ length (items ++ item ∷ []) = omega (arith, put.number_is, length-append items (item ∷ [])) in
      let le = prefix_length old.view.seen items begins in
      record {
        above = omega (arith, le, put.number_is);
        later = omega (arith, known, put.number_is);
        within = subst (λ (l : List LogItem). number ≤ length l) list long;
        at = record {
          item = item;
          item_is = subst (λ (l : List LogItem). slice_get l (number - 1) ≡ Some item) list
              (ap (λ (n : ℕ). slice_get (items ++ item ∷ []) n) before ∙ get_last items item);
          fresh = put.fresh;
          entries_are = put.entries_are;
          timed = put.timed;
          admitted = subst (λ (l : List LogItem). place_refusal (history_of (take (number - 1) l)) asked.pres ≡ None) list
              (ap (λ (n : ℕ). place_refusal (history_of (take n (items ++ item ∷ []))) asked.pres) before
              ∙ ap (λ (l : List LogItem). place_refusal (history_of l) asked.pres) (take_whole items (item ∷ [])) ∙ p.admitted);
          least = omega (arith, put.least, put.bl_is);
          most = omega (arith, put.most, put.bl_is);
        };
      }

  -- and stands there behind further steps
  pub placed_later : (mid new : KnownPass) (n : ℕ) → HasPlaced time asked old mid n → Later mid new → HasPlaced time asked old new n
  placed_later mid new n p l =
      let le = prefix_length mid.view.seen new.view.seen l.seen in
      let front : n - 1 ≤ length mid.view.seen = omega (arith, p.within) in
      record {
        above = p.above;
        later = p.later;
        within = omega (arith, p.within, le);
        at = record {
          item = p.at.item;
          item_is = get_front mid.view.seen new.view.seen (n - 1) p.at.item l.seen p.at.item_is;
          fresh = p.at.fresh;
          entries_are = p.at.entries_are;
          timed = p.at.timed;
          admitted = subst (λ (x : List LogItem). place_refusal (history_of x) asked.pres ≡ None) (take_front mid.view.seen new.view.seen (n - 1) l.seen front) p.at.admitted;
          least = p.at.least;
          most = omega (arith, p.at.most, l.linked);
        };
      }

  -- what was refused behind a whole list was refused behind as many of its transactions
  pub refused_now : (items : List LogItem) (why : PlaceError) (at : ℕ) (new : KnownPass) → IsPrefix old.view.seen items → old.view.least.durable ≤ length items
      → IsHistory (history_of items) → at ≡ length items → new.view.seen ≡ items → place_refusal (history_of items) asked.pres ≡ Some why → IsRefusedAt asked old new why at
  refused_now items why at new begins known history here seen refused =
      let le = prefix_length old.view.seen items begins in
      let whole : take at new.view.seen ≡ items = ap (λ (n : ℕ). take n new.view.seen) here ∙ ap (λ (l : List LogItem). take (length items) l) seen ∙ take-length items in
      record {
        above = omega (arith, le, here);
        later = omega (arith, known, here);
        within = omega (arith, here, ap (λ (l : List LogItem). length l) seen);
        few = omega (arith, here, history_length items, history.few);
        refused = ap (λ (l : List LogItem). place_refusal (history_of l) asked.pres) whole ∙ refused;
      }

  pub refused_later : (mid new : KnownPass) (why : PlaceError) (at : ℕ) → IsRefusedAt asked old mid why at → Later mid new → IsRefusedAt asked old new why at
  refused_later mid new why at r l =
      let le = prefix_length mid.view.seen new.view.seen l.seen in
      record {
        above = r.above;
        later = r.later;
        within = omega (arith, r.within, le);
        few = r.few;
        refused = subst (λ (x : List LogItem). place_refusal (history_of x) asked.pres ≡ Some why) (take_front mid.view.seen new.view.seen at l.seen r.within) r.refused;
      }

  -- the error of a transaction that was placed
  pub halted_placed : (new : KnownPass) (cause : JournalError) (error : CommitError) (n : ℕ) → error ≡ halted cause (Some n) → HasPlaced time asked old new n
      → ExplainsHalt old new cause → Explains time asked old new error
  halted_placed new cause error n is placed why =
      subst (λ (e : CommitError). Explains time asked old new e) (sym is) (of cause why)
    where
      of : (cause : JournalError) → ExplainsHalt old new cause → Explains time asked old new (halted cause (Some n))
      of halts.DiskFault why = (placed, why.0, why.1)
      of (halts.Stopped faults) why = (placed, why)
      of halts.Memory why = placed

  -- that of one that was refused, where the disk let the call down
  pub halted_refused : (new : KnownPass) (cause : JournalError) (error : CommitError) (why : PlaceError) (at : ℕ) → error ≡ halted cause None → IsRefusedAt asked old new why at
      → SawFewer old new at → ExplainsHalt old new cause → Explains time asked old new error
  halted_refused new cause error why at is judged fewer told =
      subst (λ (e : CommitError). Explains time asked old new e) (sym is) (of cause told)
    where
      none : IsNotPlaced asked old new
      none = record { why = why; at = at; judged = judged; fewer = fewer }

      of : (cause : JournalError) → ExplainsHalt old new cause → Explains time asked old new (halted cause None)
      of halts.DiskFault told = (none, told.0, told.1)
      of (halts.Stopped faults) told = (none, told)
      of halts.Memory told = tt

  -- and that of one that was refused, as it was
  pub refused_told : (new : KnownPass) (why : PlaceError) (at : ℕ) (error : CommitError) → error ≡ refused why at → IsRefusedAt asked old new why at → at ≤ new.view.least.durable
      → Explains time asked old new error
  refused_told new why at error is judged durable =
      subst (λ (e : CommitError). Explains time asked old new e) (sym is) (of why judged)
    where
      of : (why : PlaceError) → IsRefusedAt asked old new why at → Explains time asked old new (refused why at)
      of place.Memory judged = tt
      of place.Full judged = record { judged = judged; durable = durable }
      of (place.Missing key) judged = record { judged = judged; durable = durable }
      of (place.Exists key tx) judged = record { judged = judged; durable = durable }
      of (place.Modified key tx) judged = record { judged = judged; durable = durable }

-- what a part of a call tells of failures is told of the call
pub halt_on : (old mid new : KnownPass) (cause : JournalError) → old.view.least.failed ≤ mid.view.least.failed → ((f : ℕ) → SawFailures mid new f → SawFailures old new f) → ExplainsHalt mid new cause → ExplainsHalt old new cause
halt_on old mid new halts.DiskFault more on why = (why.0, omega (arith, more, why.1))
halt_on old mid new (halts.Stopped faults) more on why = on faults why
halt_on old mid new halts.Memory more on why = tt
