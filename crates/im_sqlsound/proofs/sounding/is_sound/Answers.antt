use Rattle.std.proofs.Common.{◌≡◌, ◌+◌, ◌∷◌, [], true, Vec, Global, Bool, Option, MatchOption, inl, inr, refl, take, sym, subst, ◌↔◌, ◌∙◌}
use Rattle.std.proofs.lemmas.Bool.{true≢false}
use Rattle.im_sqlmodel.specs.Kept.{IsSqlSound}
use Rattle.im_catalog.proofs.FoundLemmas.{if-ok}
use Rattle.im_sqlsound.specs.Sounding.{AreFound, NoneAreFound, Hang}
use Rattle.im_sqlsound.specs.declared.found.TableFound.{TableFound}
use Rattle.im_sqlsound.proofs.SoundLemmas.{settled-behind, judged-sound}
use Rattle.im_sqlsound.proofs.JudgedLemmas.{sound-settled, sound-found, sound-hangs}
use Rattle.im_sqlsound.proofs.sounding.is_sound.Goals as goal

pub is_settled-requires-clause-old : goal.is_settled-requires-clause-old
is_settled-requires-clause-old c = let r = c.requires in (take r.1 r.0, 0 ∷ [], r.4)

pub is_settled-requires-clause-new : goal.is_settled-requires-clause-new
is_settled-requires-clause-new c = let r = c.requires in (take (r.1 + 1) r.0, 0 ∷ [], r.5)

pub tables_found-requires : goal.tables_found-requires
tables_found-requires c = let r = c.requires in (take (r.1 + 1) r.0, 0 ∷ [], r.5)

pub do_hang-sound-requires-clause-scan : goal.do_hang-sound-requires-clause-scan
do_hang-sound-requires-clause-scan c = let r = c.requires in (take (r.1 + 1) r.0, 0 ∷ [], r.5)

pub do_hang-sound-requires-clause-rising : goal.do_hang-sound-requires-clause-rising
do_hang-sound-requires-clause-rising c = c.requires.6.1

pub returns-then-not-is_settled : goal.returns-then-not-is_settled
returns-then-not-is_settled c = λ history k less sound old new by. (
  λ e. absurd (true≢false (sym e)),
  λ is. absurd (true≢false (sym (c.is_settled.ensures.1 (
    sound-settled history k c.args.before.now c.args.shown.now less old new is 1 (inl refl),
    sound-settled history k c.args.before.now c.args.shown.now less old new is 2 (inr refl),
  )) ∙ c.if-not-is_settled.true)),
)

pub returns-in_default : goal.returns-in_default
returns-in_default c = λ history k less sound old new by. (
  λ e. absurd (true≢false (sym e)),
  λ is. absurd (
      let none = subst (λ (o : Option (Vec TableFound Global)). MatchOption o (NoneAreFound c.args.shown.now) (λ (gs : Vec TableFound Global). AreFound c.args.shown.now gs.items)) c.in_default.is c.in_ok-tables.ensures in
      let found = sound-found (take (k + 1) history) c.args.shown.now is new in
      none found.0 found.1),
)

pub returns : goal.returns
returns c = λ history k less sound old new by.
    let h = take (k + 1) history in
    let fs = c.as_slice.result.now in
    let told = subst (λ (o : Option (Vec TableFound Global)). MatchOption o (NoneAreFound c.args.shown.now) (λ (gs : Vec TableFound Global). AreFound c.args.shown.now gs.items)) c.in-Some.is c.in_ok-tables.ensures in
    let found = subst (AreFound c.args.shown.now) (sym c.as_slice.ensures.value) told in
    let settled = c.is_settled.ensures.0 c.if-not-is_settled.false in
    if-ok (λ (b : Bool). (b ≡ true) ↔ Hang c.args.shown.now c.args.changes.now fs) (λ (b : Bool). (b ≡ true) ↔ IsSqlSound h) c.do_hang-sound.result
    (λ b is. (
      λ e. judged-sound h c.args.shown.now c.args.changes.now fs new by found (is.0 e) (settled-behind history k c.args.before.now c.args.shown.now less sound old new settled),
      λ held. is.1 (sound-hangs h c.args.shown.now c.args.changes.now fs held new by found),
    ))
    c.do_hang-sound.ensures
