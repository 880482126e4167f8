use Rattle.std.proofs.Common.{◌≡◌, ◌∙◌, List, length, ap, arith, sym}
use Rattle.std.proofs.lemmas.List.{length-map}
use Rattle.im_dealing.proofs.GatherLemmas.{done_passes}
use Rattle.im_dealing.specs.declared.sessions.Session.{Session}
use Rattle.im_script.specs.declared.commands.Line.{Line}
use Rattle.im_session.proofs.PlayedLemmas.{HasSteps, hands_many, order_few, plays, split_off, taken_in, whole_again}
use Rattle.im_table.specs.Known.{KnownPass, TableId}
use Rattle.im_session.proofs.play.play.Given.{Over}
use Rattle.im_session.proofs.play.play.Goals.{After-gather-ended}
use Rattle.im_session.proofs.play.play.Goals as goal

-- as many sessions as names begin, and the weight is enough for them
pub hand_out-sessions-requires-clause-room : goal.hand_out-sessions-requires-clause-room
hand_out-sessions-requires-clause-room g c =
    let room = c.in_ok-order.field-0 in
    let many = hands_many c.args.names.now c.args.phase room.order.items room.lines.items c.in_ok-order.ensures.dealt in
    (omega (arith, many, c.requires.few), omega (arith, many, c.requires.few, c.requires.pass.1, c.pass-linker.ensures.left.1, c.pass-indexer.ensures.left.1))

pub hand_out-sessions-requires-clause-none : goal.hand_out-sessions-requires-clause-none
hand_out-sessions-requires-clause-none g c =
    let room = c.in_ok-order.field-0 in
    let many = hands_many c.args.names.now c.args.phase room.order.items room.lines.items c.in_ok-order.ensures.dealt in
    (c.in_ok-order.ensures.none.0, omega (arith, many, c.in_ok-order.ensures.room.0))

-- the helpers' passes are new
pub run_phase-sessions-requires-clause-helpers : goal.run_phase-sessions-requires-clause-helpers
run_phase-sessions-requires-clause-helpers g c =
    let one = c.pass-linker.ensures in
    let two = c.pass-indexer.ensures in
    λ lives outlive. (
      record { helper = record { pass = one.given.0; weight = one.given.1; none = one.none.0; calm = one.none.2 }; leaves = one.none.1 },
      record { helper = record { pass = two.given.0; weight = two.given.1; none = two.none.0; calm = two.none.2 }; leaves = two.none.1 },
    )

-- as many sessions have ended
pub gather-ended-requires-clause-passes : goal.gather-ended-requires-clause-passes
gather-ended-requires-clause-passes g c = done_passes g.N.TipName.digest g.N.TipName.table c.hand_out-sessions.result.items c.run_phase-sessions.result.0.items c.run_phase-sessions.ensures.done

pub gather-ended-requires-clause-room : goal.gather-ended-requires-clause-room
gather-ended-requires-clause-room g c =
    let hands : List (List Line) = c.in_ok-order.field-0.lines.items in
    let before : List Session = c.hand_out-sessions.result.items in
    let dealt = hands_many c.args.names.now c.args.phase c.in_ok-order.field-0.order.items hands c.in_ok-order.ensures.dealt in
    let handed : length before ≡ length hands =
    sym (length-map before (λ (s : Session). s.lines.items)) ∙ ap (λ (ls : List (List Line)). length ls) c.hand_out-sessions.ensures.lines in
    let done = c.run_phase-sessions.ensures.done.many in
    (omega (arith, done, handed, dealt, c.requires.few), c.in_ok-order.ensures.none.1, omega (arith, done, handed, dealt, c.in_ok-order.ensures.room.1))

-- what each step of the phase says
steps : (g : Over) (c : After-gather-ended g) → HasSteps g.N.TipName.digest g.N.TipName.table c.args.links c.args.names.now c.args.phase c.in_ok-order.field-0.order.items c.hand_out-sessions.result.items
    c.run_phase-sessions.result.0.items c.gather-ended.result.items c.args.main.now c.gather-ended.new.main
steps g c =
    let table : TableId = g.N.TipName.table in
    let old : KnownPass = c.args.main.now in
    let first : KnownPass = c.pass-linker.new.pass in
    let second : KnownPass = c.pass-indexer.new.pass in
    let handed : KnownPass = c.hand_out-sessions.new.main in
    let third : KnownPass = c.end.new.pass in
    let mid : KnownPass = c.end-2.new.pass in
    let linker : KnownPass = c.run_phase-sessions.result.1 in
    let indexer : KnownPass = c.run_phase-sessions.result.2 in
    let split = c.pass-linker.ensures in
    let split_more = c.pass-indexer.ensures in
    let out = c.hand_out-sessions.ensures in
    let ran = c.run_phase-sessions.ensures in
    let end = c.end.ensures in
    let end_more = c.end-2.ensures in
    record {
      hands = c.in_ok-order.field-0.lines.items;
      first = first;
      second = second;
      handed = handed;
      third = third;
      mid = mid;
      linker = linker;
      indexer = indexer;
      named = c.requires.named;
      apart = c.requires.apart;
      dealt = c.in_ok-order.ensures.dealt;
      whole = c.requires.pass;
      one = split_off table old first (omega (arith, c.requires.pass.1)) split.left split.same split.gains;
      two = split_off table first second (omega (arith, c.requires.pass.1, split.left.1)) split_more.left split_more.same split_more.gains;
      out = out.left;
      copies = out.begins;
      lines = out.lines;
      done = ran.done;
      helps = ran.linker;
      idles = ran.idle;
      indexes = ran.indexer;
      takes = taken_in table handed linker third end.pass end.seen end.durable end.linked end.failed end.gains;
      takes_more = taken_in table third indexer mid end_more.pass end_more.seen end_more.durable end_more.linked end_more.failed end_more.gains;
      gathered = c.gather-ended.ensures;
    }

pub returns-clause-played : goal.returns-clause-played
returns-clause-played g c = plays (steps g (goal.at.returns-clause-played g c).After-gather-ended)

pub returns-clause-pass : goal.returns-clause-pass
returns-clause-pass g c = whole_again (steps g (goal.at.returns-clause-pass g c).After-gather-ended)

pub returns-clause-order : goal.returns-clause-order
returns-clause-order g c = order_few (steps g (goal.at.returns-clause-order g c).After-gather-ended) c.requires.few
