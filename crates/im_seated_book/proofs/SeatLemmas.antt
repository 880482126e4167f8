-- The book of a list that goes on by one item.
use Rattle.std.proofs.Common.{◌≡◌, ℕ, ℤ, suc, ◌+◌, ◌≤◌, ◌∙◌, List, [], ◌∷◌, ◌++◌, length, map, drop, false, refl, sym, ap, subst, arith, append_assoc, length-append, Option, Some, None}
use Rattle.std.proofs.lemmas.List.{append-nil, drop-append-le, map-append}
use Rattle.std.proofs.lemmas.List.Elements.{All-push}
use Rattle.std.specs.Prelude.{All, FitsSigned, IfSome}
use Rattle.std.specs.Int.{w64}
use Rattle.im_digest.specs.Digests.{Hash}
use Rattle.im_edge.specs.Clocks.{AddsTimes}
use Rattle.im_edge.proofs.Times.{times-both}
use Rattle.im_format.specs.Records.{AreReferences}
use Rattle.im_format.specs.declared.references.ValueRef.{ValueRef}
use Rattle.im_model.specs.History.{IsTransaction}
use Rattle.im_model.specs.declared.entries.Entry.{Entry}
use Rattle.im_model.specs.declared.transactions.Transaction.{Transaction}
use Rattle.im_tx.specs.Asked.{Asked, IsAsked}
use Rattle.im_vlog.specs.Ends.{AreEnds, HaveRoom}
use Rattle.im_table.specs.Histories.{GoesOn}
use Rattle.im_table.specs.Known.{KnownPass}
use Rattle.im_table.specs.Passes.{AddsNothing, Later}
use Rattle.im_table.specs.References.{references_of, HaveLengths}
use Rattle.im_table.specs.declared.items.LogItem.{LogItem}
use Rattle.im_book.specs.Booked.{Booked, IsBook}
use Rattle.im_seated_book.specs.Seats.{HaveReferences, HasTimed, HoldsItems, IsPut, times_behind}

-- one item more goes on behind what was found
pub goes_more : (found items : List LogItem) (item : LogItem) → GoesOn found items → item.found ≡ false → GoesOn found (items ++ item ∷ [])
goes_more found items item g new = record {
  rest = g.rest ++ item ∷ [];
  begins = ap (λ (l : List LogItem). l ++ item ∷ []) g.begins ∙ append_assoc found g.rest (item ∷ []);
  fresh = All-push (λ (x : LogItem). x.found ≡ false) g.rest item g.fresh new;
}

-- what was found is no longer than the list
pub found_within : (found items : List LogItem) → GoesOn found items → length found ≤ length items
found_within found items g = omega (arith, ap (λ (l : List LogItem). length l) g.begins, length-append found g.rest)

-- references that fit values have their lengths
pub lengths_fit : (hash : Hash) (number : ℕ) (entries : List Entry) (refs : List ValueRef) → AreReferences hash number entries refs → HaveLengths entries refs
lengths_fit hash number [] [] are = refl
lengths_fit hash number [] (ref ∷ refs) are = absurd are
lengths_fit hash number (entry ∷ entries) [] are = absurd are
lengths_fit hash number (entry ∷ entries) (ref ∷ refs) are = cc (are.0.len, lengths_fit hash number entries refs are.1)

-- its references stand behind the others
references_more : (items : List LogItem) (item : LogItem) → references_of (items ++ item ∷ []) ≡ references_of items ++ item.refs
references_more [] item = append-nil item.refs
references_more (x ∷ items) item =
    ap (λ (l : List ValueRef). x.refs ++ l) (references_more items item) ∙ sym (append_assoc x.refs (references_of items) item.refs)

referred_more : (hash : Hash) (n : ℕ) (items : List LogItem) (item : LogItem) → HaveReferences hash n items → AreReferences hash (n + length items) item.tx.entries item.refs
    → HaveReferences hash n (items ++ item ∷ [])
referred_more hash n [] item are one = (subst (λ (k : ℕ). AreReferences hash k item.tx.entries item.refs) (omega arith) one, tt)
referred_more hash n (x ∷ items) item are one =
    let same : n + suc (length items) ≡ n + 1 + length items = omega arith in
    (are.0, referred_more hash (n + 1) items item are.1 (subst (λ (k : ℕ). AreReferences hash k item.tx.entries item.refs) same one))

-- the book and the references of one item more
pub holds_more : (hash : Hash) (found items : List LogItem) (item : LogItem) (book after : Booked) (refs more : List (List ValueRef)) (ends next : List ℕ) → HoldsItems hash found items book refs ends
    → item.found ≡ false → after.transactions ≡ book.transactions ++ item.tx ∷ [] → IsBook hash after → more ≡ refs ++ item.refs ∷ []
    → AreReferences hash (length items + 1) item.tx.entries item.refs → AreEnds next (references_of items ++ item.refs) → HaveRoom (length items + 1 + 1) next
    → HoldsItems hash found (items ++ item ∷ []) after more next
holds_more hash found items item book after refs more ends next h new grown is taken referred behind room =
    let number : length items + 1 ≡ 1 + length items = omega arith in
    let count : length items + 1 + 1 ≡ length (items ++ item ∷ []) + 1 = omega (arith, length-append items (item ∷ [])) in
    record {
      transactions = grown ∙ ap (λ (l : List Transaction). l ++ item.tx ∷ []) h.transactions ∙ sym (map-append (λ (x : LogItem). x.tx) items (item ∷ []));
      is_book = is;
      goes_on = goes_more found items item h.goes_on new;
      refs_are = taken ∙ ap (λ (l : List (List ValueRef)). l ++ item.refs ∷ []) h.refs_are ∙ sym (map-append (λ (x : LogItem). x.refs) items (item ∷ []));
      referred = referred_more hash 1 items item h.referred (subst (λ (k : ℕ). AreReferences hash k item.tx.entries item.refs) number referred);
      ends_are = subst (λ (l : List ValueRef). AreEnds next l) (sym (references_more items item)) behind;
      room = subst (λ (k : ℕ). HaveRoom k next) count room;
    }

-- the same items in a book of the same lists
pub holds_same : (hash : Hash) (found items : List LogItem) (book after : Booked) (refs more : List (List ValueRef)) (ends : List ℕ) → HoldsItems hash found items book refs ends
    → after.transactions ≡ book.transactions → IsBook hash after → more ≡ refs → HoldsItems hash found items after more ends
holds_same hash found items book after refs more ends h same is taken = record {
  transactions = same ∙ h.transactions;
  is_book = is;
  goes_on = h.goes_on;
  refs_are = taken ∙ h.refs_are;
  referred = h.referred;
  ends_are = h.ends_are;
  room = h.room;
}

-- a time behind others that are all the clock's
all_timed : (time : Option ℤ) (times : List ℤ) (ts : ℤ) → IfSome time (λ t. All (λ x. x ≡ t) times) → IfSome time (λ t. ts ≡ t) → IfSome time (λ t. All (λ x. x ≡ t) (times ++ ts ∷ []))
all_timed None times ts all one = tt
all_timed (Some t) times ts all one = All-push (λ (x : ℤ). x ≡ t) times ts all one

-- one time more
pub timed_more : (time constant later : Option ℤ) (before now next : Option (List ℤ)) (found items : List LogItem) (item : LogItem) → HasTimed time constant before now found items → later ≡ constant
    → IfSome time (λ t. item.tx.ts ≡ t) → AddsTimes now next (item.tx.ts ∷ []) → length found ≤ length items → HasTimed time later before next found (items ++ item ∷ [])
timed_more time constant later before now next found items item h same told given le =
    let times : times_behind found (items ++ item ∷ []) ≡ times_behind found items ++ item.tx.ts ∷ [] =
    ap (λ (l : List LogItem). map (λ (x : LogItem). x.tx.ts) l) (drop-append-le (length found) items (item ∷ []) le) ∙ map-append (λ (x : LogItem). x.tx.ts) (drop (length found) items) (item ∷ []) in
    record {
      same = same ∙ h.same;
      timed = subst (λ (l : List ℤ). IfSome time (λ t. All (λ x. x ≡ t) l)) (sym times) (all_timed time (times_behind found items) item.tx.ts h.timed told);
      given = subst (λ (l : List ℤ). AddsTimes before next l) (sym times) (times-both before now next (times_behind found items) (item.tx.ts ∷ []) h.given given);
    }

-- what was asked for is a transaction
pub asked_is : (asked : Asked) (tx : Transaction) (before : ℕ) → IsAsked asked → tx.entries ≡ asked.entries → tx.bl ≤ before → FitsSigned w64 tx.ts → IsTransaction before tx
asked_is asked tx before is same bl timed =
    subst (λ (t : Transaction). IsTransaction before t) (ap (λ e. record tx { entries = e }) (sym same)) (record {
      some = is.some;
      few = is.few;
      entries = is.each;
      distinct = is.distinct;
      linked = bl;
      timed = timed;
    })

-- what was placed behind a pass that has added nothing before
pub put_later : (items : List LogItem) (entries : List Entry) (bl : ℕ) (time : Option ℤ) (old mid new : KnownPass) (number : ℕ) → Later old mid → AddsNothing old mid → IsPut items entries bl time mid new number
    → IsPut items entries bl time old new number
put_later items entries bl time old mid new number later nothing put = record {
  item = put.item;
  number_is = put.number_is;
  fresh = put.fresh;
  entries_are = put.entries_are;
  bl_is = put.bl_is;
  timed = put.timed;
  seen = put.seen;
  adds = record {
    own = put.adds.own ∙ ap (λ (l : List ℕ). l ++ number ∷ []) nothing.own;
    leaves = put.adds.leaves ∙ nothing.leaves;
    faults = put.adds.faults ∙ nothing.faults;
  };
  least = omega (arith, later.linked, put.least);
  most = put.most;
}
