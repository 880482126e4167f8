use Rattle.std.proofs.Common.{◌≡◌, ◌<◌, ◌≤◌, ◌∙◌, List, false, length, get_or, ap, sym, subst, arith}
use Rattle.std.specs.List.{insert}
use Rattle.std.proofs.lemmas.List.{get_or_read}
use Rattle.im_facts.specs.Facts.{is_beside}
use Rattle.im_facts.specs.declared.facts.EntryFact.{EntryFact}
use Rattle.im_facts.proofs.SearchLemmas.{EntryPoint, entry-stays, entry-inserts}
use Rattle.im_facts.proofs.facts.put_entry.Goals as goal
use Rattle.im_facts.proofs.facts.put_entry.Goals.{else-place-len-via-then-place-len+else-is_at, else-place-len-via-else-place-len}

pub returns-then-is_at : goal.returns-then-is_at
returns-then-is_at c =
    let xs = c.args.facts.now.items in
    let f = c.args.fact in
    let i = c.entry_place-place.result in
    let d = c.index.result.now in
    let within : i < length xs = omega (arith, c.if-place-len.true, c.len.ensures) in
    let point : EntryPoint xs f i = subst (λ (l : List EntryFact). EntryPoint l f i) c.as_slice.ensures.value (c.entry_place-place.ensures.point f.entry) in
    entry-stays xs f i d within point (ap (λ (k : EntryFact). is_beside k f) (sym c.index.ensures) ∙ sym c.is_at.ensures ∙ c.if-is_at.true)

pub returns-in_default : goal.returns-in_default
returns-in_default c =
    let xs = c.args.facts.now.items in
    let f = c.args.fact in
    let i = c.entry_place-place.result in
    let point : EntryPoint xs f i = subst (λ (l : List EntryFact). EntryPoint l f i) c.as_slice.ensures.value (c.entry_place-place.ensures.point f.entry) in
    let le : i ≤ length xs = subst (λ (l : List EntryFact). i ≤ length l) c.as_slice.ensures.value c.entry_place-place.ensures.bound in
    let items : c.insert.new.self.items ≡ insert xs i f = c.in_default.ensures.items in
    let apart : (d : EntryFact) → i < length xs → is_beside (get_or xs i d) f ≡ false =
    elim c.else-place-len.branch [
      | else-place-len-via-then-place-len+else-is_at w ↦ λ d within.
          ap (λ (k : EntryFact). is_beside k f) (sym (get_or_read xs i w.index.result.now within w.index.ensures d)) ∙ sym w.is_at.ensures ∙ w.if-is_at.false
      | else-place-len-via-else-place-len w ↦ λ d within. let late : c.len.result ≤ i = w.if-place-len.false in absurd (omega (arith, c.len.ensures))
    ] in
    items ∙ entry-inserts xs f i le point apart
