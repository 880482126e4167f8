use Rattle.std.proofs.Common.{◌<◌, ◌≤◌, ◌∙◌, Some, ap, arith, length}
use Rattle.std.proofs.lemmas.List.{get_or_read, get_or_default}
use Rattle.im_model.specs.declared.headers.Header.{Header}
use Rattle.im_facts.proofs.SearchLemmas.{header-there, header-none}
use Rattle.im_facts.proofs.facts.find_header.Goals as goal
use Rattle.im_facts.proofs.facts.find_header.Goals.{else-place-headers-via-then-place-headers+else-headers-place, else-place-headers-via-else-place-headers}

pub returns-then-headers-place : goal.returns-then-headers-place
returns-then-headers-place c =
    let xs = c.args.headers.now in
    let i = c.header_place-place.result in
    let d = c.index-headers-place-then-headers-place.result in
    let within : i < length xs = c.if-place-headers.true in
    ap Some (get_or_read xs i d within c.index-headers-place-then-headers-place.is d)
    ∙ header-there xs c.args.header.now i d within c.header_place-place.ensures.point
    (ap (λ (h : Header). h.id) (get_or_default xs i d c.index-headers-place.result within) ∙ c.if-headers-place.true)

pub returns : goal.returns
returns c =
    let xs = c.args.headers.now in
    let h = c.args.header.now in
    let i = c.header_place-place.result in
    elim c.else-place-headers.branch [
      | else-place-headers-via-then-place-headers+else-headers-place w ↦
          header-none xs h i w.index-headers-place.result c.requires c.header_place-place.ensures.point
          (λ within e. w.if-headers-place.false e)
      | else-place-headers-via-else-place-headers w ↦
          header-none xs h i h c.requires c.header_place-place.ensures.point
          (λ within e. let late : length xs ≤ i = w.if-place-headers.false in omega arith)
    ]
