use Rattle.std.proofs.Common.{◌≡◌, ◌≤◌, ◌+◌, ◌-◌, ℕ, length, take, get_or, true≢false, sym, ap, subst, ◌∙◌, arith}
use Rattle.im_versions.specs.declared.versions.Version.{Version}
use Rattle.im_sqlmodel.specs.Kept.{IsFirstUnsound}
use Rattle.im_sqlsound.proofs.LoopLemmas.{by-sorted, upto-first, upto-last, upto-next, group-of, numbers-m, sound-m, changes-m, first-m}
use Rattle.im_sqlsound.proofs.kept.kept.Goals as goal

pub loop-at-init : goal.loop-at-init
loop-at-init g c = λ history stands few.
    let n = c.args.n in
    let all = c.as_slice-all.result.now in
    let by = by-sorted (take n history) c.in_ok-changes.field-0 c.into_vec-changes.result.items all (c.in_ok-changes.ensures history stands few) c.into_vec-changes.ensures
    (c.as_slice-all.ensures.value ∙ c.in_ok-sort_by_number.ensures) in
    (omega arith, (0, upto-first history n all few by))

pub is_sound_behind-requires : goal.is_sound_behind-requires
is_sound_behind-requires g c =
    let r = c.requires in
    let history = r.0 in
    let stands = r.1 in
    let few = r.2 in
    let n = c.args.n in
    let all = c.as_slice-all.result.now in
    let by = by-sorted (take n history) c.in_ok-changes.field-0 c.into_vec-changes.result.items all (c.in_ok-changes.ensures history stands few) c.into_vec-changes.ensures
    (c.as_slice-all.ensures.value ∙ c.in_ok-sort_by_number.ensures) in
    let inv = c.loop-at.invariant history stands few in
    let at = c.loop-at.at in
    let end : ℕ = c.end_of-end.result in
    let k : ℕ = inv.1.0 in
    let v : Version = get_or all at c.index-all-at.result in
    let tx : ℕ = v.tx in
    let group = group-of all at end v c.loop-at-test.true (ap (λ (d : Version). get_or all at d) c.index-all-at.is) c.end_of-end.ensures.after c.end_of-end.ensures.within c.end_of-end.ensures.same c.end_of-end.ensures.next in
    let numbers = numbers-m history n few all by at end k tx inv.1.1 group in
    let low : tx ≤ length history = (let most : tx ≤ n = numbers.1 in omega (arith, most, few)) in
    (history, stands, numbers.0, low, sound-m history n few all by at end k tx inv.1.1 group, changes-m history n few all by at end k tx inv.1.1 group)

pub loop-at-preserved : goal.loop-at-preserved
loop-at-preserved g c = λ history stands few.
    let n = c.args.n in
    let all = c.as_slice-all.result.now in
    let by = by-sorted (take n history) c.in_ok-changes.field-0 c.into_vec-changes.result.items all (c.in_ok-changes.ensures history stands few) c.into_vec-changes.ensures
    (c.as_slice-all.ensures.value ∙ c.in_ok-sort_by_number.ensures) in
    let inv = c.loop-at.invariant history stands few in
    let at = c.loop-at.at in
    let end : ℕ = c.end_of-end.result in
    let k : ℕ = inv.1.0 in
    let v : Version = get_or all at c.index-all-at.result in
    let tx : ℕ = v.tx in
    let group = group-of all at end v c.loop-at-test.true (ap (λ (d : Version). get_or all at d) c.index-all-at.is) c.end_of-end.ensures.after c.end_of-end.ensures.within c.end_of-end.ensures.same c.end_of-end.ensures.next in
    let numbers = numbers-m history n few all by at end k tx inv.1.1 group in
    let low : tx ≤ length history = (let most : tx ≤ n = numbers.1 in omega (arith, most, few)) in
    let judged = c.in_ok-sound.ensures history stands numbers.0 low (sound-m history n few all by at end k tx inv.1.1 group) (changes-m history n few all by at end k tx inv.1.1 group) in
    (c.end_of-end.ensures.within, ((tx - 1) + 1, upto-next history n few all by at end k tx inv.1.1 group (judged.0 c.if-not-sound.false)))

pub returns-then-not-sound-clause-not_kept : goal.returns-then-not-sound-clause-not_kept
returns-then-not-sound-clause-not_kept g c = λ history stands few told is.
    let n = c.args.n in
    let all = c.as_slice-all.result.now in
    let by = by-sorted (take n history) c.in_ok-changes.field-0 c.into_vec-changes.result.items all (c.in_ok-changes.ensures history stands few) c.into_vec-changes.ensures
    (c.as_slice-all.ensures.value ∙ c.in_ok-sort_by_number.ensures) in
    let inv = c.loop-at.invariant history stands few in
    let at = c.loop-at.at in
    let end : ℕ = c.end_of-end.result in
    let k : ℕ = inv.1.0 in
    let v : Version = get_or all at c.index-all-at.result in
    let tx : ℕ = v.tx in
    let group = group-of all at end v c.loop-at-test.true (ap (λ (d : Version). get_or all at d) c.index-all-at.is) c.end_of-end.ensures.after c.end_of-end.ensures.within c.end_of-end.ensures.same c.end_of-end.ensures.next in
    let numbers = numbers-m history n few all by at end k tx inv.1.1 group in
    let low : tx ≤ length history = (let most : tx ≤ n = numbers.1 in omega (arith, most, few)) in
    let judged = c.in_ok-sound.ensures history stands numbers.0 low (sound-m history n few all by at end k tx inv.1.1 group) (changes-m history n few all by at end k tx inv.1.1 group) in
    let same : tx ≡ told = cc in
    subst (IsFirstUnsound (take n history)) same (first-m history n few all by at end k tx inv.1.1 group (λ held. absurd (true≢false (sym (judged.1 held) ∙ c.if-not-sound.true))))

pub returns-clause-kept : goal.returns-clause-kept
returns-clause-kept g c = λ history stands few.
    let n = c.args.n in
    let all = c.as_slice-all.result.now in
    let by = by-sorted (take n history) c.in_ok-changes.field-0 c.into_vec-changes.result.items all (c.in_ok-changes.ensures history stands few) c.into_vec-changes.ensures
    (c.as_slice-all.ensures.value ∙ c.in_ok-sort_by_number.ensures) in
    let inv = c.loop-at.invariant history stands few in
    upto-last history n c.loop-at.at inv.1.0 all few by inv.1.1 c.loop-at-test.false
