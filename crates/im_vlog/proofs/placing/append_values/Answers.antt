use Rattle.std.proofs.Common.{◌≡◌, ◌<◌, ◌≤◌, ◌+◌, ◌-◌, ◌*◌, ◌^◌, ◌%◌, ◌++◌, ◌∷◌, [], ℕ, List, length, take, get_or, set, sym, ◌∙◌, ap, subst, arith, rules, append_assoc, length-append, length-set}
use Rattle.std.proofs.lemmas.List.{take_more}
use Rattle.im_format.specs.Places.{AreAppended}
use Rattle.im_format.specs.Records.{AreReferences}
use Rattle.im_format.specs.declared.references.ValueRef.{ValueRef}
use Rattle.im_model.specs.declared.entries.Entry.{Entry}
use Rattle.im_vlog.specs.Ends.{reference_of, AreEnds}
use Rattle.im_vlog.proofs.PlaceLemmas.{appended_more, at_end, ends_more, is_reference, room_more}
use Rattle.im_vlog.proofs.placing.append_values.Goals as goal
use Rattle.im_format.proofs.EndLemmas.{references_more}

one_taken : (es : List Entry) (i : ℕ) (e : Entry) → i < length es → e ≡ get_or es i e → take (i + 1) es ≡ take i es ++ e ∷ []
one_taken es i e lt is = take_more es i e lt ∙ ap (λ (x : Entry). take i es ++ x ∷ []) (sym is)

pub loop-i-preserved : goal.loop-i-preserved
loop-i-preserved g c =
    let hash = g.H.Hash32.digest c.args.hash.now in
    let ref = c.append_value.result in
    let refs = c.loop-i.refs.items in
    let next = c.loop-i.next in
    let entry = c.index-entries-i.result in
    let entries = c.args.entries.now in
    let i = c.loop-i.i in
    let id = c.args.id in
    let number = (id + i) % c.args.logs in
    let value = entry.value in
    let pushed : c.push.new.self.items ≡ refs ++ ref ∷ [] = search rules in
    let small : number < 4 = omega arith in
    let is : ref ≡ reference_of hash value number (get_or next number 0) = search rules in
    let moved : c.append_value.new.ends ≡ set next number (get_or next number 0 + length value) = search rules in
    let short : length value ≤ 4096 = search rules in
    let within : i < length entries = omega arith in
    let taken : take (i + 1) entries ≡ take i entries ++ entry ∷ [] = one_taken entries i entry within c.index-entries-i.is in
    let room : get_or next number 0 ≤ (id - 1) * 2 ^ 22 + 4096 * i = c.loop-i.invariant.room number small in
    record {
      count = ap length pushed ∙ length-append refs (ref ∷ []) ∙ ap (λ (k : ℕ). k + 1) c.loop-i.invariant.count;
      appended = λ before are. subst (AreAppended c.args.logs id 0 before) (sym pushed)
          (appended_more c.args.logs id 0 before refs ref (c.loop-i.invariant.appended before are)
          (ap (λ (r : ValueRef). r.log) is ∙ ap (λ (k : ℕ). (id + k) % c.args.logs) (omega (arith, c.loop-i.invariant.count)))
          (at_end hash value number next ref is (before ++ refs) small (c.loop-i.invariant.now before are)));
      references = subst (λ (l : List ValueRef). AreReferences hash id (take (i + 1) entries) l) (sym pushed)
          (subst (λ (l : List Entry). AreReferences hash id l (refs ++ ref ∷ [])) (sym taken)
          (references_more hash id (take i entries) refs entry ref c.loop-i.invariant.references
          (is_reference hash value number next ref is id ((id - 1) * 2 ^ 22 + 4096 * i) small room (omega (arith, short, within, c.requires.few, c.requires.id)))));
      now = λ before are. subst (λ (l : List ℕ). AreEnds l (before ++ c.push.new.self.items)) (sym moved)
          (subst (λ (l : List ValueRef). AreEnds (set next number (get_or next number 0 + length value)) l)
          (append_assoc before refs (ref ∷ []) ∙ ap (λ (l : List ValueRef). before ++ l) (sym pushed))
          (ends_more hash value number next ref is (before ++ refs) small c.loop-i.invariant.size (c.loop-i.invariant.now before are)));
      room = λ k lt. subst (λ (l : List ℕ). get_or l k 0 ≤ (id - 1) * 2 ^ 22 + 4096 * (i + 1)) (sym moved)
          (omega (arith, room_more next number (length value) ((id - 1) * 2 ^ 22 + 4096 * i) 4096 (omega (arith, small, c.loop-i.invariant.size)) short c.loop-i.invariant.room small k lt));
      size = ap length moved ∙ length-set next number (get_or next number 0 + length value) ∙ c.loop-i.invariant.size;
    }
