use Rattle.std.proofs.Common.{arith, ◌≡◌, ◌≤◌, ◌∷◌, ◌++◌, [], ℕ, List, length, sym, ◌∙◌, ap, subst}
use Rattle.im_disk.specs.Disk.{seen}
use Rattle.im_format.specs.Damages.{index_of}
use Rattle.im_format.specs.Reading.{slot_at, value_at}
use Rattle.im_format.specs.declared.references.ValueRef.{ValueRef}
use Rattle.im_model.specs.declared.entries.Entry.{Entry}
use Rattle.im_opening.specs.Answers.{of_record}
use Rattle.im_opening.specs.Parts.{Shows}
use Rattle.im_opening.specs.declared.errors.OpenError.TheVariants.{Memory}
use Rattle.im_opening.proofs.Finding.{at-told, cause-err, cause-memory, cause-ok, judge-err, ok-leaves}
use Rattle.im_opening.proofs.PlaceLemmas.{slot-ends}
use Rattle.im_opening.proofs.SlotFinds.{key-fresh, slot-fails, value-fails, value-finds}
use Rattle.im_opening.proofs.entries.read_entry.Goals as goal
use Rattle.im_format.proofs.LengthLemmas.{length-entry}

entry-same : (a b c d e f : List ℕ) → a ≡ d → b ≡ e → c ≡ f
    → (let x : Entry = record { md = a; key = b; value = c } in let y : Entry = record { md = d; key = e; value = f } in x ≡ y)
entry-same a b c d e f p q r =
    let A : List ℕ → Entry = λ x. record { md = x; key = b; value = c } in
    let B : List ℕ → Entry = λ x. record { md = d; key = x; value = c } in
    let C : List ℕ → Entry = λ x. record { md = d; key = e; value = x } in
    ap A p ∙ ap B q ∙ ap C r

pub returns-in_err-slot-clause-first : goal.returns-in_err-slot-clause-first
returns-in_err-slot-clause-first g c t is =
    let image = seen t in
    let log = c.args.source.now.log.now in
    let lengths = c.args.source.now.lengths in
    let shows = at-told (λ t. Shows (seen t) log lengths) (g.D.Disk.told c.args.disk.now) t c.requires.shows is in
    judge-err _ _ (of_record c.in_err-slot.field-0.0) c.from_residual.ensures.1
    (slot-fails (g.H.Hash32.digest c.args.hash.now) image log lengths c.args.id c.args.keys.now c.args.at c.in_err-slot.field-0.0 shows c.in_err-slot.ensures.first)

pub returns-in_err-octets-clause-first : goal.returns-in_err-octets-clause-first
returns-in_err-octets-clause-first g c t is =
    let image = seen t in
    let log = c.args.source.now.log.now in
    let lengths = c.args.source.now.lengths in
    let shows = at-told (λ t. Shows (seen t) log lengths) (g.D.Disk.told c.args.disk.now) t c.requires.shows is in
    judge-err _ _ c.in_err-octets.field-0.0 c.from_residual-in_err-octets.ensures.1
    (value-fails (g.H.Hash32.digest c.args.hash.now) image log lengths c.args.id c.args.keys.now c.args.at c.in_ok-slot.slot.value shows
    c.in_ok-slot.ensures.first c.in_ok-slot.ensures.slot.value c.in_err-octets.field-0.0 (c.in_err-octets.ensures.first t is).is)

pub returns-clause-first : goal.returns-clause-first
returns-clause-first g c t is =
    let image = seen t in
    let log = c.args.source.now.log.now in
    let lengths = c.args.source.now.lengths in
    let shows = at-told (λ t. Shows (seen t) log lengths) (g.D.Disk.told c.args.disk.now) t c.requires.shows is in
    record {
      is =
          value-finds (g.H.Hash32.digest c.args.hash.now) image log lengths c.args.id c.args.keys.now c.args.at c.in_ok-slot.slot.value shows
          c.in_ok-slot.ensures.first c.in_ok-slot.ensures.slot.value ∙ (c.in_ok-octets.ensures.first t is).is;
    }

-- the octets of the slot that was read are the entry's
pub entry_of-requires-clause-md : goal.entry_of-requires-clause-md
entry_of-requires-clause-md g c = omega (arith, c.in_ok-slot.ensures.two)

pub entry_of-requires-clause-key : goal.entry_of-requires-clause-key
entry_of-requires-clause-key g c = (c.in_ok-slot.ensures.given, c.in_ok-slot.ensures.short)

pub entry_of-requires-clause-value : goal.entry_of-requires-clause-value
entry_of-requires-clause-value g c = omega (arith, c.in_ok-octets.ensures.size, c.in_ok-slot.ensures.lies.short)

pub returns-clause-is : goal.returns-clause-is
returns-clause-is g c =
    let attributes = c.in_ok-slot.ensures.md in
    let made = c.in_ok-entry.ensures in
    record {
      deleted = attributes.0;
      non_indexable = attributes.1;
      md = made.md ∙ attributes.2;
      key_given = subst (λ (k : List ℕ). 1 ≤ length k) (sym made.key) c.in_ok-slot.ensures.given;
      key_short = subst (λ (k : List ℕ). length k ≤ 1024) (sym made.key) c.in_ok-slot.ensures.short;
      value_short = subst (λ (v : List ℕ). length v ≤ 4096) (sym made.value) (omega (arith, c.in_ok-octets.ensures.size, c.in_ok-slot.ensures.lies.short));
    }

pub returns-clause-refers : goal.returns-clause-refers
returns-clause-refers g c =
    let lies = c.in_ok-slot.ensures.lies in
    let value = c.in_ok-entry.ensures.value in
    record {
      hval = c.in_ok-octets.ensures.digest ∙ ap (g.H.Hash32.digest c.args.hash.now) (sym value);
      len = sym c.in_ok-octets.ensures.size ∙ ap length (sym value);
      log = lies.log;
      room = lies.room;
    }

pub returns-clause-keys : goal.returns-clause-keys
returns-clause-keys g c = c.in_ok-slot.ensures.keys ∙ ap (λ (k : List ℕ). c.args.keys.now ++ k ∷ []) (sym c.in_ok-entry.ensures.key)

pub digest_over-requires : goal.digest_over-requires
digest_over-requires g c = c.in_ok-octets.ensures.digest ∙ ap (g.H.Hash32.digest c.args.hash.now) (sym c.in_ok-entry.ensures.value)

pub returns-clause-cause : goal.returns-clause-cause
returns-clause-cause g c = cause-ok _ _ _ (ok-leaves _ _ c.in_ok-octets.octets c.in_ok-octets.ensures.cause)

pub returns-in_err-octets-clause-cause : goal.returns-in_err-octets-clause-cause
returns-in_err-octets-clause-cause g c =
    cause-err _ _ c.in_err-octets.field-0.0 _ c.in_err-octets.ensures.cause c.from_residual-in_err-octets.ensures.1

pub returns-in_err-entry-clause-cause : goal.returns-in_err-entry-clause-cause
returns-in_err-entry-clause-cause g c =
    cause-memory _ _ _ (ok-leaves _ _ c.in_ok-octets.octets c.in_ok-octets.ensures.cause) c.from_residual-in_err-entry.ensures.1

pub returns-in_err-entry-clause-first : goal.returns-in_err-entry-clause-first
returns-in_err-entry-clause-first g c t is = judge-err _ _ Memory c.from_residual-in_err-entry.ensures.1 tt

pub returns-clause-fresh : goal.returns-clause-fresh
returns-clause-fresh g c =
    let log = c.args.source.now.log.now in
    let is = c.in_ok-entry.ensures.key ∙ c.in_ok-slot.ensures.slot.key in
    subst (λ (k : List ℕ). index_of k c.args.keys.now ≡ length c.args.keys.now) (sym is)
    (key-fresh log c.args.source.now.lengths c.args.id c.args.keys.now (slot_at log c.args.at) c.in_ok-slot.ensures.first)

pub returns-clause-read : goal.returns-clause-read
returns-clause-read g c t is =
    let image = seen t in
    let log = c.args.source.now.log.now in
    let shows = at-told (λ t. Shows (seen t) log c.args.source.now.lengths) (g.D.Disk.told c.args.disk.now) t c.requires.shows is in
    let slot = slot_at (image 0) c.args.at in
    let there = c.in_ok-slot.ensures.slot in
    let entry = c.in_ok-entry.entry in
    let made = c.in_ok-entry.ensures in
    let md = subst (λ (l : List ℕ). c.in_ok-slot.slot.md.now ≡ (slot_at l c.args.at).md) shows.log_is there.md in
    let key = subst (λ (l : List ℕ). c.in_ok-slot.slot.key.now ≡ (slot_at l c.args.at).key) shows.log_is there.key in
    let ref = subst (λ (l : List ℕ). c.in_ok-slot.slot.value ≡ (slot_at l c.args.at).ref) shows.log_is there.value in
    let end = subst (λ (l : List ℕ). c.in_ok-slot.slot.end ≡ (slot_at l c.args.at).end) shows.log_is there.end in
    record {
      entry_is =
          entry-same entry.md entry.key entry.value slot.md slot.key (value_at image slot.ref)
          (made.md ∙ md)
          (made.key ∙ key)
          (made.value ∙ c.in_ok-octets.ensures.octets t is ∙ ap (λ (r : ValueRef). value_at image r) ref);
      ref_is = ref;
      end_is = end;
    }

pub returns-clause-whole : goal.returns-clause-whole
returns-clause-whole g c =
    let log = c.args.source.now.log.now in
    let there = c.in_ok-slot.ensures.slot in
    let ref = c.in_ok-slot.slot.value in
    let entry = c.in_ok-entry.entry in
    let md = c.in_ok-entry.ensures.md ∙ there.md in
    let key = c.in_ok-entry.ensures.key ∙ there.key in
    let size : length ref.hval ≡ 32 = ap length c.in_ok-octets.ensures.digest ∙ g.met.H.Hash32.size c.args.hash.now c.in_ok-octets.octets.items in
    omega (
      arith,
      slot-ends log c.args.source.now.lengths c.args.id c.args.keys.now c.args.at c.in_ok-slot.ensures.first,
      there.end,
      ap length md,
      ap length key,
      length-entry entry ref size,
    )
