use Rattle.std.proofs.Common.{◌≡◌, ◌<◌, ◌∙◌, ℕ, List, ap, ap₂, length, sym, subst, take, refl, Option, Result, Ok, Err, OnErr, OnOk}
use Rattle.std.specs.Io.KnownBytes.{Appends}
use Rattle.std.specs.List.{flat_map}
use Rattle.im_counts.specs.Counts.{Rose}
use Rattle.im_dealing.proofs.ScriptLemmas.{front_first, front_many, told_part, told_stop, told_whole}
use Rattle.im_dealing.specs.Phases.{EndsPhase}
use Rattle.im_dealing.specs.Scripts.{EndsBy}
use Rattle.im_dealing.specs.Written.{first_texts, stop_of}
use Rattle.im_dealing.specs.declared.errors.LineError.{LineError}
use Rattle.im_dealing.specs.declared.errors.Stopped.TheVariants as stops
use Rattle.im_dealing.specs.declared.sessions.Ended.{Ended}
use Rattle.im_edge.specs.declared.sink.WriteFault.{WriteFault as TheFault}
use Rattle.im_report.specs.Sessions.{phase_text}
use Rattle.im_dealing.proofs.writing.tell.Goals as goal

-- a line has no reply
pub returns-in-Some-clause-wrote : goal.returns-in-Some-clause-wrote
returns-in-Some-clause-wrote g c = λ outcomes texts ends.
    let order : List ℕ = c.as_slice-lines.result.now in
    let ended : List Ended = c.as_slice-sessions.result.now in
    let lines : order ≡ c.args.played.order.items = c.as_slice-lines.ensures.value in
    let sessions : ended ≡ c.args.played.ended.items = c.as_slice-sessions.ensures.value in
    let count : ℕ = c.front_of-count.result.count in
    let text : List ℕ = flat_map (λ t. t) (first_texts (take count order) ended) in
    let is : text ≡ phase_text outcomes = ap (flat_map (λ t. t)) (front_first order ended count c.front_of-count.ensures.many) ∙ (ap₂ (λ (o : List ℕ) (e : List Ended). flat_map (λ t. t) (first_texts o e)) lines sessions ∙ texts) in
    let stop : c.front_of-count.result.why ≡ stop_of c.args.played.order.items c.args.played.ended.items = c.front_of-count.ensures.why ∙ ap₂ stop_of lines sessions in
    let before = g.K.Sink.written c.args.sink.now in
    let now = g.K.Sink.written c.write_front-wrote.new.sink in
    let faults_before : ℕ = g.K.Sink.faults c.args.sink.now in
    let faults_now : ℕ = g.K.Sink.faults c.write_front-wrote.new.sink in
    let w = c.write_front-wrote.ensures in
    told_stop outcomes c.in-Some.why before now faults_before faults_now c.write_front-wrote.result text is
    (subst (λ (why : Option LineError). EndsPhase outcomes why) (sym stop ∙ c.in-Some.is) ends) w.whole w.unfinished w.failed w.once w.same

-- all was written
pub returns-in-Ok-clause-wrote : goal.returns-in-Ok-clause-wrote
returns-in-Ok-clause-wrote g c = λ outcomes texts ends.
    let order : List ℕ = c.as_slice-lines.result.now in
    let ended : List Ended = c.as_slice-sessions.result.now in
    let lines : order ≡ c.args.played.order.items = c.as_slice-lines.ensures.value in
    let sessions : ended ≡ c.args.played.ended.items = c.as_slice-sessions.ensures.value in
    let count : ℕ = c.front_of-count.result.count in
    let text : List ℕ = flat_map (λ t. t) (first_texts (take count order) ended) in
    let is : text ≡ phase_text outcomes = ap (flat_map (λ t. t)) (front_first order ended count c.front_of-count.ensures.many) ∙ (ap₂ (λ (o : List ℕ) (e : List Ended). flat_map (λ t. t) (first_texts o e)) lines sessions ∙ texts) in
    let stop : c.front_of-count.result.why ≡ stop_of c.args.played.order.items c.args.played.ended.items = c.front_of-count.ensures.why ∙ ap₂ stop_of lines sessions in
    let before = g.K.Sink.written c.args.sink.now in
    let now = g.K.Sink.written c.write_front-wrote.new.sink in
    let faults_before : ℕ = g.K.Sink.faults c.args.sink.now in
    let faults_now : ℕ = g.K.Sink.faults c.write_front-wrote.new.sink in
    let w = c.write_front-wrote.ensures in
    told_whole outcomes before now faults_before faults_now text is (subst (λ (why : Option LineError). EndsPhase outcomes why) (sym stop ∙ c.in-None.is) ends)
    (subst (λ (r : Result Unit TheFault). OnOk r (Appends before now text)) c.in-Ok.is w.whole) (subst (λ (r : Result Unit TheFault). OnOk r (faults_now ≡ faults_before)) c.in-Ok.is w.same)

-- a front part of it was
pub returns-in-Err-clause-wrote : goal.returns-in-Err-clause-wrote
returns-in-Err-clause-wrote g c = λ outcomes texts ends.
    let order : List ℕ = c.as_slice-lines.result.now in
    let ended : List Ended = c.as_slice-sessions.result.now in
    let lines : order ≡ c.args.played.order.items = c.as_slice-lines.ensures.value in
    let sessions : ended ≡ c.args.played.ended.items = c.as_slice-sessions.ensures.value in
    let count : ℕ = c.front_of-count.result.count in
    let text : List ℕ = flat_map (λ t. t) (first_texts (take count order) ended) in
    let is : text ≡ phase_text outcomes = ap (flat_map (λ t. t)) (front_first order ended count c.front_of-count.ensures.many) ∙ (ap₂ (λ (o : List ℕ) (e : List Ended). flat_map (λ t. t) (first_texts o e)) lines sessions ∙ texts) in
    let stop : c.front_of-count.result.why ≡ stop_of c.args.played.order.items c.args.played.ended.items = c.front_of-count.ensures.why ∙ ap₂ stop_of lines sessions in
    let before = g.K.Sink.written c.args.sink.now in
    let now = g.K.Sink.written c.write_front-wrote.new.sink in
    let faults_before : ℕ = g.K.Sink.faults c.args.sink.now in
    let faults_now : ℕ = g.K.Sink.faults c.write_front-wrote.new.sink in
    let w = c.write_front-wrote.ensures in
    told_part outcomes before now faults_before faults_now text is (subst (λ (why : Option LineError). EndsPhase outcomes why) (sym stop ∙ c.in-None.is) ends)
    (subst (λ (r : Result Unit TheFault). OnErr r ((n : ℕ) × (n < length text) × Appends before now (take n text))) c.in-Err.is w.unfinished)
    (subst (λ (r : Result Unit TheFault). OnErr r (Rose faults_before faults_now)) c.in-Err.is w.failed) w.once

-- the lines that are told are as many as have texts
pub write_front-wrote-requires-clause-many : goal.write_front-wrote-requires-clause-many
write_front-wrote-requires-clause-many g c =
    front_many c.as_slice-lines.result.now c.as_slice-sessions.result.now c.front_of-count.result.count c.front_of-count.ensures.many c.front_of-count.ensures.within

-- and so the script ends
stop_is : (order lines : List ℕ) (ended sessions : List Ended) (why stop : Option LineError) → why ≡ stop_of lines sessions → lines ≡ order → sessions ≡ ended → why ≡ stop → stop ≡ stop_of order ended
stop_is order lines ended sessions why stop is same_order same_ended same = sym same ∙ (is ∙ ap₂ stop_of same_order same_ended)

pub returns-in-Some-clause-by : goal.returns-in-Some-clause-by
returns-in-Some-clause-by g c =
    let stop = stop_is c.args.played.order.items _ c.args.played.ended.items _ _ _ c.front_of-count.ensures.why c.as_slice-lines.ensures.value c.as_slice-sessions.ensures.value c.in-Some.is in
    subst (λ (why : Option LineError). EndsBy why (Err (stops.Line c.in-Some.why))) stop refl

pub returns-in-Ok-clause-by : goal.returns-in-Ok-clause-by
returns-in-Ok-clause-by g c =
    let stop = stop_is c.args.played.order.items _ c.args.played.ended.items _ _ _ c.front_of-count.ensures.why c.as_slice-lines.ensures.value c.as_slice-sessions.ensures.value c.in-None.is in
    subst (λ (why : Option LineError). EndsBy why (Ok tt)) stop (λ why is. cc)

pub returns-in-Err-clause-by : goal.returns-in-Err-clause-by
returns-in-Err-clause-by g c =
    let stop = stop_is c.args.played.order.items _ c.args.played.ended.items _ _ _ c.front_of-count.ensures.why c.as_slice-lines.ensures.value c.as_slice-sessions.ensures.value c.in-None.is in
    subst (λ (why : Option LineError). EndsBy why (Err stops.Write)) stop (λ why is. cc)
