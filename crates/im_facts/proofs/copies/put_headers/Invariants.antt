use Rattle.std.proofs.Common.{◌≡◌, ◌≤◌, ◌<◌, ◌+◌, length, vec_len, vec_capacity}
use Rattle.std.specs.List.{AllPairs}
use Rattle.im_model.specs.declared.headers.Header.{Header}
use Rattle.im_facts.specs.Facts.{with_headers}
use Rattle.im_facts.proofs.copies.put_headers.Given as goal

abbrev pub invariant-loop-copy : goal.invariant-loop-copy
invariant-loop-copy l =
    (l.headers.items ≡ with_headers l.initial.headers.items l.yielded)
    × AllPairs (λ (a b : Header). a.id < b.id) l.headers.items
    × (vec_len l.headers + length l.copy-iterator.rest.items ≤ vec_capacity l.headers)
