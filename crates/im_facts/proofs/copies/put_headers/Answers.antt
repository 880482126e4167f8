use Rattle.std.proofs.Common.{◌≡◌, ◌∷◌, ◌∙◌, List, length, ap, sym, arith}
use Rattle.im_model.specs.declared.headers.Header.{Header}
use Rattle.im_facts.specs.Facts.{is_lower, is_level, with_fact}
use Rattle.im_facts.proofs.SearchLemmas.{facts-push}
use Rattle.im_facts.proofs.copies.put_headers.Goals as goal

pub put_header-requires-clause-room : goal.put_header-requires-clause-room
put_header-requires-clause-room c =
    let cons : length c.loop-copy.copy-iterator.rest.items ≡ length (c.in-Some.copy ∷ c.next.new.self.rest.items) = ap length c.in-Some.ensures.steps.0 in
    omega (arith, cons, c.loop-copy.invariant.2)

pub loop-copy-preserved : goal.loop-copy-preserved
loop-copy-preserved c =
    let cons : length c.loop-copy.copy-iterator.rest.items ≡ length (c.in-Some.copy ∷ c.next.new.self.rest.items) = ap length c.in-Some.ensures.steps.0 in (
      c.put_header.ensures.items
          ∙ ap (λ (l : List Header). with_fact is_lower is_level l c.in-Some.copy) c.loop-copy.invariant.0
          ∙ sym (facts-push is_lower is_level c.args.headers.now.items c.loop-copy.yielded c.in-Some.copy),
      c.put_header.ensures.rising,
      omega (arith, cons, c.loop-copy.invariant.2, c.put_header.ensures.len, c.put_header.ensures.capacity),
    )
