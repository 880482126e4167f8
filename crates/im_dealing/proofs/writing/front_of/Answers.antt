use Rattle.std.proofs.Common.{◌<◌, ◌≤◌, ◌∙◌, ℕ, List, [], length, refl, ap, sym, arith, get_or, slice_index_or}
use Rattle.std.proofs.Math.ListN.{length-set}
use Rattle.std.proofs.lemmas.List.{length-map}
use Rattle.im_dealing.proofs.WriteLemmas.{eight_zeros, front_ends, front_next, front_none, left_at, left_why}
use Rattle.im_dealing.specs.Written.{texts_left, why_of}
use Rattle.im_dealing.specs.declared.sessions.Ended.{Ended}
use Rattle.im_dealing.proofs.writing.front_of.Goals as goal

pub loop-count-init : goal.loop-count-init
loop-count-init c = record { room = refl; front = front_none c.args.order.now _ (texts_left c.args.ended.now) eight_zeros }

-- the line behind those that were counted has no text
pub returns-then-next-at-clause-many : goal.returns-then-next-at-clause-many
returns-then-next-at-clause-many c =
    let order : List ℕ = c.args.order.now in
    let ended : List Ended = c.args.ended.now in
    let count : ℕ = c.loop-count.count in
    let number : ℕ = get_or order count 0 in
    let next : List ℕ = c.loop-count.next in
    let within : number < length ended = c.requires.few.0 count 0 c.loop-count-test.true in
    let few : number < length (texts_left ended) = omega (arith, within, length-map ended (λ (e : Ended). e.texts)) in
    let room : number < length next = omega (arith, within, c.requires.few.1, c.loop-count.invariant.room) in
    let left = ap (λ (l : List (List ℕ)). length l) (left_at ended number c.index-ended-at.result within ∙ sym c.as_slice.ensures) in
    let none : length (slice_index_or (texts_left ended) number []) ≤ get_or next number 0 = omega (arith, left, c.if-next-at.true) in
    (front_ends order next (texts_left ended) count number c.loop-count.invariant.front c.loop-count-test.true refl few room none).0

pub returns-then-next-at-clause-why : goal.returns-then-next-at-clause-why
returns-then-next-at-clause-why c =
    let order : List ℕ = c.args.order.now in
    let ended : List Ended = c.args.ended.now in
    let count : ℕ = c.loop-count.count in
    let number : ℕ = get_or order count 0 in
    let next : List ℕ = c.loop-count.next in
    let within : number < length ended = c.requires.few.0 count 0 c.loop-count-test.true in
    let few : number < length (texts_left ended) = omega (arith, within, length-map ended (λ (e : Ended). e.texts)) in
    let room : number < length next = omega (arith, within, c.requires.few.1, c.loop-count.invariant.room) in
    let left = ap (λ (l : List (List ℕ)). length l) (left_at ended number c.index-ended-at.result within ∙ sym c.as_slice.ensures) in
    let none : length (slice_index_or (texts_left ended) number []) ≤ get_or next number 0 = omega (arith, left, c.if-next-at.true) in
    let ends = front_ends order next (texts_left ended) count number c.loop-count.invariant.front c.loop-count-test.true refl few room none in
    let last : Ended = c.index-ended-at-then-next-at.result in
    ap (λ (e : Ended). e.why) (sym c.index-ended-at-then-next-at.is) ∙ (sym (left_why ended number last within c.index-ended-at-then-next-at.is) ∙ ap (why_of ended) (sym ends.1))

-- it has one
pub loop-count-preserved : goal.loop-count-preserved
loop-count-preserved c =
    let order : List ℕ = c.args.order.now in
    let ended : List Ended = c.args.ended.now in
    let count : ℕ = c.loop-count.count in
    let number : ℕ = get_or order count 0 in
    let next : List ℕ = c.loop-count.next in
    let within : number < length ended = c.requires.few.0 count 0 c.loop-count-test.true in
    let few : number < length (texts_left ended) = omega (arith, within, length-map ended (λ (e : Ended). e.texts)) in
    let room : number < length next = omega (arith, within, c.requires.few.1, c.loop-count.invariant.room) in
    let left = ap (λ (l : List (List ℕ)). length l) (left_at ended number c.index-ended-at.result within ∙ sym c.as_slice.ensures) in
    let some : get_or next number 0 < length (slice_index_or (texts_left ended) number []) = omega (arith, left, c.if-next-at.false) in
    record {
      room = omega (arith, length-set {A = ℕ}, c.loop-count.invariant.room);
      front = front_next order next (texts_left ended) count number c.loop-count.invariant.front c.loop-count-test.true refl few room some;
    }
