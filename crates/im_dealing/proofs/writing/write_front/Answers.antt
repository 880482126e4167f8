use Rattle.std.proofs.Common.{◌≡◌, ◌<◌, ◌+◌, ◌∙◌, ℕ, List, [], ◌∷◌, length, refl, ap, sym, arith, get_or, slice_index_or}
use Rattle.std.proofs.Math.ListN.{length-set}
use Rattle.std.proofs.lemmas.List.{length-map}
use Rattle.im_dealing.proofs.WriteLemmas.{eight_zeros, left_texts, on_err, small_next, small_zeros, written_next, written_none, written_part, written_within}
use Rattle.im_dealing.specs.Written.{texts_left}
use Rattle.im_dealing.specs.declared.sessions.Ended.{Ended}
use Rattle.im_dealing.proofs.writing.write_front.Goals as goal

pub loop-number-init : goal.loop-number-init
loop-number-init g c =
    let next : List ℕ = 0 ∷ 0 ∷ 0 ∷ 0 ∷ 0 ∷ 0 ∷ 0 ∷ 0 ∷ [] in
    record {
      room = refl;
      small = small_zeros next eight_zeros;
      written = written_none c.args.order.now next (texts_left c.args.ended.now) (g.K.Sink.written c.args.sink.now) eight_zeros c.requires.many;
      faults = refl;
    }

-- the session has a text left
pub text_at-requires : goal.text_at-requires
text_at-requires g c =
    let order : List ℕ = c.args.order.now in
    let ended : List Ended = c.args.ended.now in
    let count : ℕ = c.loop-number.number-index in
    let number : ℕ = get_or order count 0 in
    let next : List ℕ = c.loop-number.next in
    let within : number < length ended = c.requires.few.0 count 0 c.loop-number-test.true in
    let few : number < length (texts_left ended) = omega (arith, within, length-map ended (λ (e : Ended). e.texts)) in
    let room : number < length next = omega (arith, within, c.requires.few.1, c.loop-number.invariant.room) in
    let some = written_within order next (texts_left ended) count number (g.K.Sink.written c.args.sink.now) (g.K.Sink.written c.loop-number.sink) c.loop-number.invariant.written c.loop-number-test.true refl few room in
    let left = ap (λ (l : List (List ℕ)). length l) (left_texts ended number c.index-ended-at.result within c.index-ended-at.is) in
    omega (arith, some, left)

-- a front part of it was written
pub returns-in_err-write_all-clause-unfinished : goal.returns-in_err-write_all-clause-unfinished
returns-in_err-write_all-clause-unfinished g c =
    let order : List ℕ = c.args.order.now in
    let ended : List Ended = c.args.ended.now in
    let count : ℕ = c.loop-number.number-index in
    let number : ℕ = get_or order count 0 in
    let next : List ℕ = c.loop-number.next in
    let within : number < length ended = c.requires.few.0 count 0 c.loop-number-test.true in
    let few : number < length (texts_left ended) = omega (arith, within, length-map ended (λ (e : Ended). e.texts)) in
    let room : number < length next = omega (arith, within, c.requires.few.1, c.loop-number.invariant.room) in
    let some = written_within order next (texts_left ended) count number (g.K.Sink.written c.args.sink.now) (g.K.Sink.written c.loop-number.sink) c.loop-number.invariant.written c.loop-number-test.true refl few room in
    let left = left_texts ended number c.index-ended-at.result within c.index-ended-at.is in
    let text : c.text_at.result.now ≡ get_or (slice_index_or (texts_left ended) number []) (get_or next number 0) [] =
    c.text_at.ensures ∙ ap (λ (l : List (List ℕ)). get_or l (get_or next number 0) []) (sym left) in
    on_err _ c.from_residual.result
    (written_part order next (texts_left ended) count number c.text_at.result.now (g.K.Sink.written c.args.sink.now) (g.K.Sink.written c.loop-number.sink) (g.K.Sink.written c.write_all.new.sink)
    c.loop-number.invariant.written c.loop-number-test.true refl few room some text c.in_err-write_all.ensures.unfinished)

pub overflow_add-next : goal.overflow_add-next
overflow_add-next g c = omega (arith, c.loop-number.invariant.small (get_or c.args.order.now c.loop-number.number-index 0), c.loop-number-test.true, c.loop-number.auto.number-index-end)

-- it was written whole
pub loop-number-preserved : goal.loop-number-preserved
loop-number-preserved g c =
    let order : List ℕ = c.args.order.now in
    let ended : List Ended = c.args.ended.now in
    let count : ℕ = c.loop-number.number-index in
    let number : ℕ = get_or order count 0 in
    let next : List ℕ = c.loop-number.next in
    let i = c.loop-number.invariant in
    let within : number < length ended = c.requires.few.0 count 0 c.loop-number-test.true in
    let few : number < length (texts_left ended) = omega (arith, within, length-map ended (λ (e : Ended). e.texts)) in
    let room : number < length next = omega (arith, within, c.requires.few.1, i.room) in
    let some = written_within order next (texts_left ended) count number (g.K.Sink.written c.args.sink.now) (g.K.Sink.written c.loop-number.sink) i.written c.loop-number-test.true refl few room in
    let left = left_texts ended number c.index-ended-at.result within c.index-ended-at.is in
    let text : c.text_at.result.now ≡ get_or (slice_index_or (texts_left ended) number []) (get_or next number 0) [] =
    c.text_at.ensures ∙ ap (λ (l : List (List ℕ)). get_or l (get_or next number 0) []) (sym left) in
    record {
      room = omega (arith, length-set {A = ℕ}, i.room);
      small = small_next next number count (get_or next number 0 + 1) i.small (omega (arith, i.small number));
      written = written_next order next (texts_left ended) count number c.text_at.result.now (g.K.Sink.written c.args.sink.now) (g.K.Sink.written c.loop-number.sink) (g.K.Sink.written c.write_all.new.sink)
          i.written c.loop-number-test.true refl few room some text c.in_ok-write_all.ensures.whole;
      faults = c.in_ok-write_all.ensures.same ∙ i.faults;
    }
