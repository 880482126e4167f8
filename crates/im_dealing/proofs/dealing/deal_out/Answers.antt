use Rattle.std.proofs.Common.{rules, ◌≡◌, ◌<◌, ◌++◌, ◌∷◌, ◌∙◌, [], ℕ, List, length, map, Some, Vec, Global, ap, sym, subst, arith, slice_set}
use Rattle.std.specs.List.{All}
use Rattle.std.proofs.lemmas.List.{length-map}
use Rattle.std.proofs.lemmas.List.Elements.{All-map}
use Rattle.std.proofs.lemmas.Option.{slice_get_within}
use Rattle.im_dealing.proofs.DealLemmas.{dealt_none, dealt_push, put_hand, put_set}
use Rattle.im_dealing.specs.Dealing.{AreDealt}
use Rattle.im_script.specs.declared.commands.Line.{Line}
use Rattle.im_dealing.proofs.dealing.deal_out.Goals as goal

pub loop-line-init : goal.loop-line-init
loop-line-init c =
    let names : List (List ℕ) = c.args.names.now in
    let held : Vec Line Global → List Line = λ hand. hand.items in
    let hands : List (List Line) = map held c.args.hands.now in
    let many : length hands ≡ length names = length-map c.args.hands.now held ∙ c.requires.hands.0 in
    let none : All (λ (hand : List Line). hand ≡ []) hands = All-map (λ (hand : List Line). hand ≡ []) held c.args.hands.now c.requires.hands.1 in
    subst (λ (order : List ℕ). AreDealt names [] order hands) (sym c.requires.none) (dealt_none names hands many none)

-- the number is that of a name
pub overflow_cast-number : goal.overflow_cast-number
overflow_cast-number c =
    let within = slice_get_within c.args.names.now c.number_of-number.result c.as_slice.result.now c.number_of-number.ensures.is in
    omega (arith, within, c.requires.few)

pub offset_bounds-hands-number : goal.offset_bounds-hands-number
offset_bounds-hands-number c =
    let within = slice_get_within c.args.names.now c.number_of-number.result c.as_slice.result.now c.number_of-number.ensures.is in
    omega (arith, within, c.requires.few)

pub bounds-hands-number : goal.bounds-hands-number
bounds-hands-number c =
    let within = slice_get_within c.args.names.now c.number_of-number.result c.as_slice.result.now c.number_of-number.ensures.is in
    omega (arith, within, c.loop-line.auto.hands, c.requires.hands.0)

-- one line more was dealt
pub loop-line-preserved : goal.loop-line-preserved
loop-line-preserved c =
    let names : List (List ℕ) = c.args.names.now in
    let line : Line = c.in-Some.line in
    let number : ℕ = c.number_of-number.result in
    let held : Vec Line Global → List Line = λ hand. hand.items in
    let before : List (Vec Line Global) = c.loop-line.hands in
    let hand : Vec Line Global = c.push.new.self in
    let order : List ℕ = c.loop-line.order.items in
    let lines : List Line = c.loop-line.yielded ++ line ∷ [] in
    let within = slice_get_within names number c.as_slice.result.now c.number_of-number.ensures.is in
    let few : number < length before = omega (arith, within, c.loop-line.auto.hands, c.requires.hands.0) in
    let numbered : c.push-in-loop-line.new.self.items ≡ order ++ number ∷ [] = search rules in
    let taken : held hand ≡ held c.index-hands-number.result ++ line ∷ [] = search rules in
    let put : map held (slice_set before number hand) ≡ put_hand number line (map held before) =
    put_set held before number hand c.index-hands-number.result line few (taken ∙ ap (λ (h : Vec Line Global). held h ++ line ∷ []) c.index-hands-number.is) in
    let dealt : AreDealt names lines (order ++ number ∷ []) (put_hand number line (map held before)) =
    dealt_push names c.loop-line.yielded order (map held before) line number c.requires.apart c.loop-line.invariant (c.number_of-number.ensures.is ∙ ap Some c.as_slice.ensures) in
    subst (λ (hands : List (List Line)). AreDealt names lines c.push-in-loop-line.new.self.items hands) (sym put)
    (subst (λ (o : List ℕ). AreDealt names lines o (put_hand number line (map held before))) (sym numbered) dealt)
