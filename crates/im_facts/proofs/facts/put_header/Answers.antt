use Rattle.std.proofs.Common.{◌≡◌, ◌≢◌, ◌<◌, ◌≤◌, ◌∙◌, List, length, get_or, ap, sym, subst, arith}
use Rattle.std.specs.List.{AllPairs, insert}
use Rattle.std.proofs.lemmas.List.{get_or_read}
use Rattle.im_model.specs.declared.headers.Header.{Header}
use Rattle.im_facts.proofs.SearchLemmas.{HeaderPoint, header-stays, header-inserts, header-rises}
use Rattle.im_facts.proofs.facts.put_header.Goals as goal
use Rattle.im_facts.proofs.facts.put_header.Goals.{else-place-len-via-then-place-len+else-index-header, else-place-len-via-else-place-len}

pub returns-then-index-header-clause-items : goal.returns-then-index-header-clause-items
returns-then-index-header-clause-items c =
    let xs = c.args.headers.now.items in
    let i = c.header_place-place.result in
    let d = c.index.result.now in
    let within : i < length xs = omega (arith, c.if-place-len.true, c.len.ensures) in
    let point : HeaderPoint xs c.args.header i = subst (λ (l : List Header). HeaderPoint l c.args.header i) c.as_slice.ensures.value c.header_place-place.ensures.point in
    header-stays xs c.args.header i d within point (ap (λ (h : Header). h.id) (sym c.index.ensures) ∙ c.if-index-header.true)

pub returns-in_default-clause-items : goal.returns-in_default-clause-items
returns-in_default-clause-items c =
    let xs = c.args.headers.now.items in
    let i = c.header_place-place.result in
    let point : HeaderPoint xs c.args.header i = subst (λ (l : List Header). HeaderPoint l c.args.header i) c.as_slice.ensures.value c.header_place-place.ensures.point in
    let le : i ≤ length xs = subst (λ (l : List Header). i ≤ length l) c.as_slice.ensures.value c.header_place-place.ensures.bound in
    let items : c.insert.new.self.items ≡ insert xs i c.args.header = c.in_default.ensures.items in
    let apart : (d : Header) → i < length xs → (get_or xs i d).id ≢ c.args.header.id =
    elim c.else-place-len.branch [
      | else-place-len-via-then-place-len+else-index-header w ↦ λ d within e.
          w.if-index-header.false (ap (λ (h : Header). h.id) (get_or_read xs i w.index.result.now within w.index.ensures d) ∙ e)
      | else-place-len-via-else-place-len w ↦ λ d within e. let late : c.len.result ≤ i = w.if-place-len.false in omega (arith, c.len.ensures)
    ] in
    items ∙ header-inserts xs c.args.header i le point apart

pub returns-in_default-clause-rising : goal.returns-in_default-clause-rising
returns-in_default-clause-rising c =
    subst (λ (l : List Header). AllPairs (λ (a b : Header). a.id < b.id) l) (sym (returns-in_default-clause-items c)) (header-rises c.args.headers.now.items c.args.header c.requires.rising)
