use Rattle.std.proofs.Common.{◌<◌, ◌≤◌, ◌∙◌, [], sym, ap, arith, length}
use Rattle.std.proofs.lemmas.List.{get_or_read}
use Rattle.im_model.specs.declared.entries.Entry.{Entry}
use Rattle.im_facts.specs.Facts.{is_beside}
use Rattle.im_facts.specs.declared.facts.EntryFact.{EntryFact}
use Rattle.im_facts.proofs.SearchLemmas.{entry-there, entry-none}
use Rattle.im_facts.proofs.facts.find_entry.Goals as goal
use Rattle.im_facts.proofs.facts.find_entry.Goals.{else-place-facts-via-then-place-facts+else-is_at, else-place-facts-via-else-place-facts}

pub returns-then-is_at : goal.returns-then-is_at
returns-then-is_at c =
    let xs = c.args.facts.now in
    let i = c.entry_place-place.result in
    let r = c.index-facts-place.result in
    let d = c.index-facts-place-then-is_at.result in
    let f : EntryFact = record { tx = c.args.tx; index = c.args.index; entry = r.entry } in
    let within : i < length xs = c.if-place-facts.true in
    let read = get_or_read xs i r within c.index-facts-place.is d in
    entry-there xs f i d within (c.entry_place-place.ensures.point r.entry)
    (ap (λ (k : EntryFact). is_beside k f) (sym read) ∙ sym c.is_at.ensures ∙ c.if-is_at.true)

pub returns : goal.returns
returns c =
    let xs = c.args.facts.now in
    let i = c.entry_place-place.result in
    let e : Entry = record { md = []; key = []; value = [] } in
    let f : EntryFact = record { tx = c.args.tx; index = c.args.index; entry = e } in
    elim c.else-place-facts.branch [
      | else-place-facts-via-then-place-facts+else-is_at w ↦
          entry-none xs f i w.index-facts-place.result c.requires (c.entry_place-place.ensures.point e)
          (λ within. ap (λ (k : EntryFact). is_beside k f) (sym w.index-facts-place.is) ∙ sym w.is_at.ensures ∙ w.if-is_at.false)
      | else-place-facts-via-else-place-facts w ↦
          entry-none xs f i f c.requires (c.entry_place-place.ensures.point e)
          (λ within. let late : length xs ≤ i = w.if-place-facts.false in absurd (omega arith))
    ]
