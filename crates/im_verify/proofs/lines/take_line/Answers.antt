use Rattle.std.proofs.Common.{ℕ, List}
use Rattle.std.specs.Prelude.{Option, option_copied}
use Rattle.im_wire.specs.declared.messages.Message.{Message}
use Rattle.im_verify.specs.Turns.{done, WrittenAndKept}
use Rattle.im_verify.proofs.TurnLemmas.{accepted-told, half-told, turn-told}
use Rattle.im_verify.proofs.lines.take_line.Goals as goal

pub returns-clause-ok : goal.returns-clause-ok
returns-clause-ok g c =
    let hash : List ℕ → List ℕ = g.H.Hash32.digest c.args.client.now.hash in
    let from : WrittenAndKept = done (g.K.Sink.written c.args.sink.now) (g.P.Keeper.kept c.args.keeper.now) in
    let to : WrittenAndKept = done (g.K.Sink.written c.keep_and_tell-end.new.sink) (g.P.Keeper.kept c.keep_and_tell-end.new.keeper) in
    let message : Option Message = option_copied c.as_ref.result in
    turn-told hash c.args.number c.args.line.now c.args.client.now.kept c.take_line_out.new.self.kept c.in_ok-taking.taking.taken c.in_ok-taking.taking.accepted message from to c.keep_and_tell-end.result
    c.in_ok-taking.ensures.told c.as_ref.ensures.value c.keep_and_tell-end.ensures.end c.keep_and_tell-end.ensures.ok

pub returns-clause-part : goal.returns-clause-part
returns-clause-part g c = λ e known knows.
    let hash : List ℕ → List ℕ = g.H.Hash32.digest c.args.client.now.hash in
    let from : WrittenAndKept = done (g.K.Sink.written c.args.sink.now) (g.P.Keeper.kept c.args.keeper.now) in
    let to : WrittenAndKept = done (g.K.Sink.written c.keep_and_tell-end.new.sink) (g.P.Keeper.kept c.keep_and_tell-end.new.keeper) in
    let message : Option Message = option_copied c.as_ref.result in
    half-told hash c.args.number c.args.line.now known c.take_line_out.new.self.kept c.in_ok-taking.taking.taken c.in_ok-taking.taking.accepted message from to
    (c.in_ok-taking.ensures.told known knows) c.as_ref.ensures.value (c.keep_and_tell-end.ensures.part e)

pub returns-clause-accepted : goal.returns-clause-accepted
returns-clause-accepted g c = λ e known knows.
    let hash : List ℕ → List ℕ = g.H.Hash32.digest c.args.client.now.hash in
    let message : Option Message = option_copied c.as_ref.result in
    accepted-told hash c.args.line.now known c.take_line_out.new.self.kept c.in_ok-taking.taking.taken c.in_ok-taking.taking.accepted message
    (c.in_ok-taking.ensures.told known knows) c.as_ref.ensures.value (c.keep_and_tell-end.ensures.accepted e)
