-- What a store begins with in which nothing is placed.
use Rattle.std.proofs.Common.{◌≡◌, ◌<◌, ◌∙◌, ℕ, zero, suc, List, [], ◌∷◌, length, map, refl, sym, ap, subst, arith}
use Rattle.std.specs.Prelude.{Option, slice_index_or}
use Rattle.im_digest.specs.Digests.{Hash}
use Rattle.im_disk.specs.Disk.{Told}
use Rattle.im_format.specs.declared.records.Record.{Record}
use Rattle.im_format.specs.declared.references.ValueRef.{ValueRef}
use Rattle.im_table.specs.declared.items.LogItem.{LogItem}
use Rattle.im_book.specs.Booked.{Booked, IsBook}
use Rattle.im_journal.specs.Kept.{IsAtRest, Kept}
use Rattle.im_opening.specs.Found.{IsFound}
use Rattle.im_opening.specs.Reach.{txs_of}
use Rattle.im_seated_book.specs.Seats.{HoldsItems}
use Rattle.im_seated_journal.specs.Seats.{ServesItems}
use Rattle.im_seated_journal.proofs.StartLemmas.{rests_serve}

-- the ends of empty value logs
abbrev pub no_ends : List ℕ
no_ends = 0 ∷ 0 ∷ 0 ∷ 0 ∷ []

each_none : (number : ℕ) → number < 4 → slice_index_or no_ends number 0 ≡ 0
each_none zero lt = refl
each_none (suc zero) lt = refl
each_none (suc (suc zero)) lt = refl
each_none (suc (suc (suc zero))) lt = refl
each_none (suc (suc (suc (suc n)))) lt = absurd (omega (arith, lt))

-- the book of no transaction
pub holds_none : (hash : Hash) (found seen : List LogItem) (book : Booked) (refs : List (List ValueRef)) (ends : List ℕ) → found ≡ [] → seen ≡ [] → book.transactions ≡ [] → IsBook hash book
    → refs ≡ [] → ends ≡ no_ends → HoldsItems hash found seen book refs ends
holds_none hash found seen book refs ends none empty txs is bare same =
    subst (λ (l : List ℕ). HoldsItems hash found seen book refs l) (sym same) (subst (λ (l : List (List ValueRef)). HoldsItems hash found seen book l no_ends) (sym bare)
    (subst (λ (l : List LogItem). HoldsItems hash l seen book [] no_ends) (sym none) (subst (λ (l : List LogItem). HoldsItems hash [] l book [] no_ends) (sym empty) (record {
      transactions = txs;
      is_book = is;
      goes_on = record { rest = []; begins = refl; fresh = λ k d lt. absurd (omega (arith, lt)) };
      refs_are = refl;
      referred = tt;
      ends_are = record { each = each_none };
      room = record { each = λ number lt. omega (arith, each_none number lt) };
    }))))

-- a journal that found nothing serves the empty list
pub serves_none : {D : Type 0} (told : D → Option Told) (faults : D → ℕ) (hash : Hash) (k : Kept D) (records : List Record) → IsFound told hash k records → records ≡ [] → k.failures ≡ 0
    → ServesItems told faults hash [] (told k.disk) (faults k.disk) [] k
serves_none {D} told faults hash k records found none sound =
    let rest = subst (λ (l : List Record). IsAtRest told hash (txs_of l) found.batches k) none found.rests in
    rests_serve told faults hash [] found.batches k rest (ap (λ (l : List Record). map (λ (r : Record). r.refs) l) (found.joined_is ∙ none)) (found.all ∙ ap (λ (l : List Record). length l) none) sound
