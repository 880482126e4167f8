use Rattle.std.proofs.Common.{arith, ◌≡◌, ◌+◌, ◌<◌, ◌≤◌, ◌∷◌, ◌++◌, [], ℕ, List, length, length-append, map, refl, sym, ◌∙◌, ap, subst, Ok, Option, All}
use Rattle.std.specs.Prelude.{IfSome}
use Rattle.im_disk.specs.Disk.{Told, seen}
use Rattle.im_format.specs.Damages.{index_of}
use Rattle.im_format.specs.Records.{AreReferences, entries_octets}
use Rattle.im_format.specs.declared.references.ValueRef.{ValueRef}
use Rattle.std.proofs.lemmas.List.{map-append}
use Rattle.std.proofs.lemmas.List.Elements.{All-nil, All-push}
use Rattle.im_model.specs.Entries.{entry_digest}
use Rattle.im_model.specs.History.{IsEntry}
use Rattle.im_model.specs.declared.entries.Entry.{Entry}
use Rattle.im_mtree.specs.Checks.{first_fail}
use Rattle.im_opening.specs.Answers.{HasOpenCause, Tells}
use Rattle.im_opening.specs.Parts.{Shows, entry_checks}
use Rattle.im_opening.specs.declared.errors.OpenError.TheVariants.{Memory}
use Rattle.im_opening.proofs.EntriesLeft.{EntriesLeft, apart-next, entries-first, entries-last, entries-next, entries-tell, keys-next}
use Rattle.im_opening.proofs.Finding.{cause-err, cause-memory, cause-ok, judge-err, ok-leaves}
use Rattle.im_opening.proofs.PlaceLemmas.{entries-longer}
use Rattle.im_opening.proofs.entries.read_entries.Goals as goal
use Rattle.im_format.proofs.KeyLemmas.{AreApart, apart-distinct}
use Rattle.im_format.proofs.EndLemmas.{references_more}

pub loop-alloc-preserved : goal.loop-alloc-preserved
loop-alloc-preserved g c =
    let hash = g.H.Hash32.digest c.args.hash.now in
    let inv = c.loop-alloc.invariant in
    let was = c.loop-alloc.read in
    let now = c.add.new.self in
    let entries = was.entries.items in
    let refs = was.refs.items in
    let e = c.in_ok-next.next.entry in
    let ref = c.in_ok-next.next.value in
    let next = c.in_ok-next.next.end in
    let ens = c.in_ok-next.ensures in
    let one : now.entries.items ≡ entries ++ e ∷ [] = c.in_ok-add.ensures.entries in
    let two : now.refs.items ≡ refs ++ ref ∷ [] = c.in_ok-add.ensures.refs in
    let four : now.end ≡ next = c.in_ok-add.ensures.end in
    let lt : length entries < c.args.count = omega (arith, c.loop-alloc-test.true, c.len.ensures) in
    record {
      told = ens.told ∙ inv.told;
      faults = ok-leaves _ _ c.in_ok-next.next ens.cause ∙ inv.faults;
      place = subst (λ (n : ℕ). n ≤ length c.args.source.now.log.now) (sym four) ens.within;
      few = subst (λ (xs : List Entry). length xs ≤ c.args.count) (sym one) (omega (arith, lt, length-append entries (e ∷ [])));
      keys = keys-next entries e c.loop-alloc.keys c.read_entry.new.keys inv.keys ens.keys ∙ ap (λ (xs : List Entry). map (λ e. e.key) xs) (sym one);
      digests =
          c.in_ok-add.ensures.digests
          ∙ ap (λ (ds : List (List ℕ)). ds ++ c.in_ok-next.next.digest ∷ []) inv.digests
          ∙ ap (λ (d : List ℕ). map (entry_digest hash) entries ++ d ∷ []) ens.digest
          ∙ sym (map-append (entry_digest hash) entries (e ∷ []))
          ∙ ap (λ (xs : List Entry). map (entry_digest hash) xs) (sym one);
      are = subst (All IsEntry) (sym one) (All-push IsEntry entries e inv.are ens.is);
      apart =
          subst (AreApart []) (sym one)
          (apart-next entries e inv.apart (subst (λ (ks : List (List ℕ)). index_of e.key ks ≡ length ks) inv.keys ens.fresh));
      refer =
          subst (λ (xs : List Entry). AreReferences hash c.args.id xs now.refs.items) (sym one)
          (subst (λ (rs : List ValueRef). AreReferences hash c.args.id (entries ++ e ∷ []) rs) (sym two)
          (references_more hash c.args.id entries refs e ref inv.refer ens.refers));
      whole =
          four
          ∙ (subst (λ (xs : List Entry). next ≡ c.args.at + length (entries_octets xs now.refs.items)) (sym one)
          (subst (λ (rs : List ValueRef). next ≡ c.args.at + length (entries_octets (entries ++ e ∷ []) rs)) (sym two)
          (omega (arith, ens.whole, inv.whole, entries-longer hash c.args.id entries refs e ref inv.refer))));
      left = λ t is.
          let told = inv.told ∙ is in
          subst (λ (n : ℕ). EntriesLeft hash (seen t) c.args.id c.args.at c.args.count now.entries.items now.refs.items n) (sym four)
          (subst (λ (xs : List Entry). EntriesLeft hash (seen t) c.args.id c.args.at c.args.count xs now.refs.items next) (sym one)
          (subst (λ (rs : List ValueRef). EntriesLeft hash (seen t) c.args.id c.args.at c.args.count (entries ++ e ∷ []) rs next) (sym two)
          (entries-next hash (seen t) c.args.id c.args.at c.args.count entries refs was.end e ref next (inv.left t is) lt (ens.read t told)
          (subst (λ (ks : List (List ℕ)). first_fail (entry_checks hash (seen t) c.args.id ks was.end) ≡ Ok tt) inv.keys (ens.first t told).is))));
    }

pub returns-in_err-next-clause-first : goal.returns-in_err-next-clause-first
returns-in_err-next-clause-first g c t is =
    let hash = g.H.Hash32.digest c.args.hash.now in
    let inv = c.loop-alloc.invariant in
    let entries = c.loop-alloc.read.entries.items in
    let lt : length entries < c.args.count = omega (arith, c.loop-alloc-test.true, c.len.ensures) in
    judge-err _ _ c.in_err-next.field-0.0 c.from_residual.ensures.1
    (entries-tell hash (seen t) c.args.id c.args.at c.args.count entries c.loop-alloc.read.refs.items c.loop-alloc.read.end c.in_err-next.field-0.0 (inv.left t is) lt
    (subst (λ (ks : List (List ℕ)). Tells (entry_checks hash (seen t) c.args.id ks c.loop-alloc.read.end) c.in_err-next.field-0.0) inv.keys
    (c.in_err-next.ensures.first t (inv.told ∙ is)).is))

pub read_entry-requires-clause-shows : goal.read_entry-requires-clause-shows
read_entry-requires-clause-shows g c =
    let S : Option Told → Type 0 = λ o. IfSome o (λ t. Shows (seen t) c.args.source.now.log.now c.args.source.now.lengths) in
    subst S (sym c.loop-alloc.invariant.told) c.requires.shows

pub read_entry-requires-clause-place : goal.read_entry-requires-clause-place
read_entry-requires-clause-place g c = c.loop-alloc.invariant.place

pub returns-in_err-next-clause-told : goal.returns-in_err-next-clause-told
returns-in_err-next-clause-told g c = c.in_err-next.ensures.told ∙ c.loop-alloc.invariant.told

pub returns-in_err-next-clause-cause : goal.returns-in_err-next-clause-cause
returns-in_err-next-clause-cause g c =
    subst (λ (n : ℕ). HasOpenCause n (g.D.Disk.faults c.read_entry.new.disk) c.from_residual.result) c.loop-alloc.invariant.faults
    (cause-err _ _ c.in_err-next.field-0.0 _ c.in_err-next.ensures.cause c.from_residual.ensures.1)

pub returns-in_err-add-clause-told : goal.returns-in_err-add-clause-told
returns-in_err-add-clause-told g c = c.in_ok-next.ensures.told ∙ c.loop-alloc.invariant.told

pub returns-in_err-add-clause-cause : goal.returns-in_err-add-clause-cause
returns-in_err-add-clause-cause g c =
    cause-memory _ _ _ (ok-leaves _ _ c.in_ok-next.next c.in_ok-next.ensures.cause ∙ c.loop-alloc.invariant.faults) c.from_residual-in_err-add.ensures.1

pub returns-in_err-add-clause-first : goal.returns-in_err-add-clause-first
returns-in_err-add-clause-first g c t is = judge-err _ _ Memory c.from_residual-in_err-add.ensures.1 tt

pub returns-clause-are : goal.returns-clause-are
returns-clause-are g c = c.loop-alloc.invariant.are

pub returns-clause-size : goal.returns-clause-size
returns-clause-size g c = omega (arith, c.loop-alloc.invariant.few, c.loop-alloc-test.false, c.len.ensures)

pub returns-clause-digests : goal.returns-clause-digests
returns-clause-digests g c = c.loop-alloc.invariant.digests

pub returns-clause-refer : goal.returns-clause-refer
returns-clause-refer g c = c.loop-alloc.invariant.refer

pub returns-clause-within : goal.returns-clause-within
returns-clause-within g c = c.loop-alloc.invariant.place

pub returns-clause-whole : goal.returns-clause-whole
returns-clause-whole g c = c.loop-alloc.invariant.whole

pub returns-clause-told : goal.returns-clause-told
returns-clause-told g c = c.loop-alloc.invariant.told

pub returns-clause-cause : goal.returns-clause-cause
returns-clause-cause g c = cause-ok _ _ _ c.loop-alloc.invariant.faults

pub returns-clause-read : goal.returns-clause-read
returns-clause-read g c t is =
    let inv = c.loop-alloc.invariant in
    (entries-last (g.H.Hash32.digest c.args.hash.now) (seen t) c.args.id c.args.at c.args.count c.loop-alloc.read.entries.items c.loop-alloc.read.refs.items
    c.loop-alloc.read.end (inv.left t is) (omega (arith, c.loop-alloc-test.false, c.len.ensures))).0

pub returns-clause-first : goal.returns-clause-first
returns-clause-first g c t is =
    let inv = c.loop-alloc.invariant in
    record {
      is =
          (entries-last (g.H.Hash32.digest c.args.hash.now) (seen t) c.args.id c.args.at c.args.count c.loop-alloc.read.entries.items c.loop-alloc.read.refs.items
          c.loop-alloc.read.end (inv.left t is) (omega (arith, c.loop-alloc-test.false, c.len.ensures))).1;
    }

pub returns-clause-distinct : goal.returns-clause-distinct
returns-clause-distinct g c = apart-distinct c.loop-alloc.read.entries.items c.loop-alloc.invariant.apart

pub loop-alloc-init : goal.loop-alloc-init
loop-alloc-init g c =
    let read = c.with_room-read.result in
    let none : read.entries.items ≡ [] = c.with_room-read.ensures.none.0 in
    let no_digests : read.digests.items ≡ [] = c.with_room-read.ensures.none.1 in
    let no_refs : read.refs.items ≡ [] = c.with_room-read.ensures.none.2 in
    let at : read.end ≡ c.args.at = c.with_room-read.ensures.end in
    let hash = g.H.Hash32.digest c.args.hash.now in
    record {
      told = refl;
      faults = refl;
      place = subst (λ (n : ℕ). n ≤ length c.args.source.now.log.now) (sym at) c.requires.place;
      few = subst (λ (xs : List Entry). length xs ≤ c.args.count) (sym none) (omega arith);
      keys = c.new-keys.ensures ∙ ap (λ (xs : List Entry). map (λ e. e.key) xs) (sym none);
      digests = no_digests ∙ ap (λ (xs : List Entry). map (entry_digest hash) xs) (sym none);
      are = subst (All IsEntry) (sym none) (All-nil IsEntry);
      apart = subst (AreApart []) (sym none) tt;
      refer =
          subst (λ (xs : List Entry). AreReferences hash c.args.id xs read.refs.items) (sym none)
          (subst (λ (rs : List ValueRef). AreReferences hash c.args.id [] rs) (sym no_refs) tt);
      whole =
          at
          ∙ (subst (λ (xs : List Entry). c.args.at ≡ c.args.at + length (entries_octets xs read.refs.items)) (sym none)
          (subst (λ (rs : List ValueRef). c.args.at ≡ c.args.at + length (entries_octets [] rs)) (sym no_refs) (omega arith)));
      left = λ t is.
          subst (λ (n : ℕ). EntriesLeft hash (seen t) c.args.id c.args.at c.args.count read.entries.items read.refs.items n) (sym at)
          (subst (λ (xs : List Entry). EntriesLeft hash (seen t) c.args.id c.args.at c.args.count xs read.refs.items c.args.at) (sym none)
          (subst (λ (rs : List ValueRef). EntriesLeft hash (seen t) c.args.id c.args.at c.args.count [] rs c.args.at) (sym no_refs)
          (entries-first hash (seen t) c.args.id c.args.at c.args.count)));
    }
