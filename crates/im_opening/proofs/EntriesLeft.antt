-- How far the entries of a record are read.
use Rattle.std.proofs.Common.{◌≡◌, ℕ, suc, zero, ◌+◌, ◌<◌, ◌≤◌, List, [], ◌∷◌, ◌++◌, length, length-append, map, refl, ap, sym, ◌∙◌, subst, arith, append_assoc, Ok, Err}
use Rattle.std.proofs.lemmas.List.{append-nil, map-append}
use Rattle.im_digest.specs.Digests.{Hash}
use Rattle.im_disk.specs.Disk.{Files}
use Rattle.im_format.specs.Damages.{index_of, slot_checks, slots_checks, value_check}
use Rattle.im_format.specs.Reading.{entry_in, slot_at, slots_at, slots_end}
use Rattle.im_format.specs.declared.damages.Damage.{Damage}
use Rattle.im_format.specs.declared.references.ValueRef.{ValueRef}
use Rattle.im_model.specs.declared.entries.Entry.{Entry}
use Rattle.im_mtree.specs.Checks.{first_fail}
use Rattle.im_mtree.proofs.CheckLemmas.{fail_append, fail_first}
use Rattle.im_opening.specs.Answers.{Tells}
use Rattle.im_opening.specs.Parts.{AreEntriesAt, IsEntryAt, entry_checks}
use Rattle.im_opening.specs.declared.errors.OpenError.{OpenError}
use Rattle.im_opening.specs.declared.errors.OpenError.TheVariants.{DiskFault, Damaged, Memory}
use Rattle.im_format.proofs.KeyLemmas.{AreApart, IsFresh, index-fresh}

-- what is read of them, and what is left, make this
pub record EntriesLeft (hash : Hash) (image : Files) (id at count : ℕ) (entries : List Entry) (refs : List ValueRef) (end : ℕ) : Type 0 where
  pub rest : ℕ
  pub sum : length entries + rest ≡ count
  pub entries_are : entries ++ map (entry_in image) (slots_at (image 0) end rest) ≡ map (entry_in image) (slots_at (image 0) at count)
  pub refs_are : refs ++ map (λ slot. slot.ref) (slots_at (image 0) end rest) ≡ map (λ slot. slot.ref) (slots_at (image 0) at count)
  pub end_is : slots_end (image 0) end rest ≡ slots_end (image 0) at count
  pub finds : first_fail (slots_checks hash image id (map (λ e. e.key) entries) end rest) ≡ first_fail (slots_checks hash image id [] at count)

pub entries-first : (hash : Hash) (image : Files) (id at count : ℕ) → EntriesLeft hash image id at count [] [] at
entries-first hash image id at count = record {
  rest = count;
  sum = omega arith;
  entries_are = refl;
  refs_are = refl;
  end_is = refl;
  finds = refl;
}

module _ (hash : Hash) (image : Files) (id at count : ℕ) (entries : List Entry) (refs : List ValueRef) (end : ℕ) where
  -- the checks of an entry and of those behind it
  one-more : (r : ℕ) → slots_checks hash image id (map (λ e. e.key) entries) end (suc r)
      ≡ entry_checks hash image id (map (λ e. e.key) entries) end
      ++ slots_checks hash image id (map (λ e. e.key) entries ++ (slot_at (image 0) end).key ∷ []) (slot_at (image 0) end).end r
  one-more r =
      let slot = slot_at (image 0) end in
      sym (append_assoc (slot_checks image id (map (λ e. e.key) entries) slot) (value_check hash image slot ∷ []) _)

  next-by : (rest : ℕ) → length entries + rest ≡ count → length entries < count
      → entries ++ map (entry_in image) (slots_at (image 0) end rest) ≡ map (entry_in image) (slots_at (image 0) at count)
      → refs ++ map (λ slot. slot.ref) (slots_at (image 0) end rest) ≡ map (λ slot. slot.ref) (slots_at (image 0) at count)
      → slots_end (image 0) end rest ≡ slots_end (image 0) at count
      → first_fail (slots_checks hash image id (map (λ e. e.key) entries) end rest) ≡ first_fail (slots_checks hash image id [] at count)
      → first_fail (entry_checks hash image id (map (λ e. e.key) entries) end) ≡ Ok tt
      → EntriesLeft hash image id at count
      (entries ++ entry_in image (slot_at (image 0) end) ∷ []) (refs ++ (slot_at (image 0) end).ref ∷ []) (slot_at (image 0) end).end
  next-by zero sum lt es rs en finds ok = absurd (omega arith)
  next-by (suc r) sum lt es rs en finds ok =
      let slot = slot_at (image 0) end in
      let entry = entry_in image slot in
      record {
        rest = r;
        sum = omega (arith, length-append entries (entry ∷ []));
        entries_are = append_assoc entries (entry ∷ []) _ ∙ es;
        refs_are = append_assoc refs (slot.ref ∷ []) _ ∙ rs;
        end_is = en;
        finds =
            ap (λ (ks : List (List ℕ)). first_fail (slots_checks hash image id ks slot.end r)) (map-append (λ (e : Entry). e.key) entries (entry ∷ []))
            ∙ sym (fail_append (entry_checks hash image id (map (λ e. e.key) entries) end) _ ok)
            ∙ ap first_fail (sym (one-more r))
            ∙ finds;
      }

  pub entries-next : (e : Entry) (ref : ValueRef) (next : ℕ) → EntriesLeft hash image id at count entries refs end → length entries < count
      → IsEntryAt image end e ref next → first_fail (entry_checks hash image id (map (λ e. e.key) entries) end) ≡ Ok tt
      → EntriesLeft hash image id at count (entries ++ e ∷ []) (refs ++ ref ∷ []) next
  entries-next e ref next left lt is ok =
      let made = next-by left.rest left.sum lt left.entries_are left.refs_are left.end_is left.finds ok in
      let P : Entry → Type 0 = λ x. EntriesLeft hash image id at count (entries ++ x ∷ []) (refs ++ (slot_at (image 0) end).ref ∷ []) (slot_at (image 0) end).end in
      let Q : ValueRef → Type 0 = λ x. EntriesLeft hash image id at count (entries ++ e ∷ []) (refs ++ x ∷ []) (slot_at (image 0) end).end in
      let R : ℕ → Type 0 = λ x. EntriesLeft hash image id at count (entries ++ e ∷ []) (refs ++ ref ∷ []) x in
      subst R (sym is.end_is) (subst Q (sym is.ref_is) (subst P (sym is.entry_is) made))

  damage-by : (rest : ℕ) (d : Damage) → length entries + rest ≡ count → length entries < count
      → first_fail (slots_checks hash image id (map (λ e. e.key) entries) end rest) ≡ first_fail (slots_checks hash image id [] at count)
      → first_fail (entry_checks hash image id (map (λ e. e.key) entries) end) ≡ Err d
      → first_fail (slots_checks hash image id [] at count) ≡ Err d
  damage-by zero d sum lt finds bad = absurd (omega arith)
  damage-by (suc r) d sum lt finds bad =
      sym finds ∙ ap first_fail (one-more r) ∙ fail_first (entry_checks hash image id (map (λ e. e.key) entries) end) _ d bad

  pub entries-tell : (error : OpenError) → EntriesLeft hash image id at count entries refs end → length entries < count
      → Tells (entry_checks hash image id (map (λ e. e.key) entries) end) error → Tells (slots_checks hash image id [] at count) error
  entries-tell DiskFault left lt h = tt
  entries-tell (Damaged d) left lt h = damage-by left.rest d left.sum lt left.finds h
  entries-tell Memory left lt h = tt

  last-by : (rest : ℕ) → length entries + rest ≡ count → count ≤ length entries
      → entries ++ map (entry_in image) (slots_at (image 0) end rest) ≡ map (entry_in image) (slots_at (image 0) at count)
      → refs ++ map (λ slot. slot.ref) (slots_at (image 0) end rest) ≡ map (λ slot. slot.ref) (slots_at (image 0) at count)
      → slots_end (image 0) end rest ≡ slots_end (image 0) at count
      → first_fail (slots_checks hash image id (map (λ e. e.key) entries) end rest) ≡ first_fail (slots_checks hash image id [] at count)
      → AreEntriesAt image at count entries refs end × (first_fail (slots_checks hash image id [] at count) ≡ Ok tt)
  last-by zero sum le es rs en finds =
      (record { entries_are = sym (append-nil entries) ∙ es; refs_are = sym (append-nil refs) ∙ rs; end_is = en }, sym finds)
  last-by (suc r) sum le es rs en finds = absurd (omega arith)

  pub entries-last : EntriesLeft hash image id at count entries refs end → count ≤ length entries
      → AreEntriesAt image at count entries refs end × (first_fail (slots_checks hash image id [] at count) ≡ Ok tt)
  entries-last left le = last-by left.rest left.sum le left.entries_are left.refs_are left.end_is left.finds

-- one more entry, whose key is none of those before
apart-more : (keys : List (List ℕ)) (entries : List Entry) (e : Entry) → AreApart keys entries
    → IsFresh e.key (keys ++ map (λ e. e.key) entries) → AreApart keys (entries ++ e ∷ [])
apart-more keys [] e h fresh = (subst (IsFresh e.key) (append-nil keys) fresh, tt)
apart-more keys (x ∷ entries) e h fresh =
    (h.0, apart-more (keys ++ x.key ∷ []) entries e h.1 (subst (IsFresh e.key) (sym (append_assoc keys (x.key ∷ []) (map (λ e. e.key) entries))) fresh))

pub apart-next : (entries : List Entry) (e : Entry) → AreApart [] entries
    → index_of e.key (map (λ e. e.key) entries) ≡ length (map (λ e. e.key) entries) → AreApart [] (entries ++ e ∷ [])
apart-next entries e h fresh = apart-more [] entries e h (index-fresh e.key (map (λ e. e.key) entries) fresh)

-- one more key
pub keys-next : (entries : List Entry) (e : Entry) (keys more : List (List ℕ)) → keys ≡ map (λ e. e.key) entries
    → more ≡ keys ++ e.key ∷ [] → more ≡ map (λ e. e.key) (entries ++ e ∷ [])
keys-next entries e keys more are is =
    is ∙ ap (λ (ks : List (List ℕ)). ks ++ e.key ∷ []) are ∙ sym (map-append (λ (e : Entry). e.key) entries (e ∷ []))
