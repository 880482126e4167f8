use Rattle.std.proofs.Common.{◌≡◌, Err, ap, refl, subst}
use Rattle.im_verify.specs.Judged.{StopsHeld}
use Rattle.im_verify.proofs.KeepLemmas.{stops_held, takes_held}
use Rattle.im_verify.proofs.ShowLemmas.{shows_part, shows_told, text-known}
use Rattle.im_verify.proofs.show.show_lines.Goals as goal

pub returns-in-Ok-write_all-clause-ok : goal.returns-in-Ok-write_all-clause-ok
returns-in-Ok-write_all-clause-ok g c = λ held read _.
    let hash = g.H.Hash32.digest c.args.hash.now in
    let took = c.in-Ok.ensures.ok in
    shows_told hash held took.0 _ _ _ _ (takes_held hash held c.args.lines.now c.args.lines.now took.0 read refl took.2) c.as_slice.ensures.value
    (text-known hash c.in-Ok.client.kept took.0 _ took.1 c.in-Ok-known_text.ensures) c.in-Ok-write_all.ensures.whole

pub returns-clause-part : goal.returns-clause-part
returns-clause-part g c = λ held read _.
    let hash = g.H.Hash32.digest c.args.hash.now in
    let took = c.in-Ok.ensures.ok in
    shows_part hash held took.0 _ _ _ _ (takes_held hash held c.args.lines.now c.args.lines.now took.0 read refl took.2) c.as_slice.ensures.value
    (text-known hash c.in-Ok.client.kept took.0 _ took.1 c.in-Ok-known_text.ensures) c.in-Err.ensures.unfinished

pub returns-in-Err-Line-clause-stops : goal.returns-in-Err-Line-clause-stops
returns-in-Err-Line-clause-stops g c = λ held read k e.
    let same : c.in-Err-Line.line ≡ k = cc in
    subst (StopsHeld (g.H.Hash32.digest c.args.hash.now) held) same
    (stops_held (g.H.Hash32.digest c.args.hash.now) held c.args.lines.now c.args.lines.now c.in-Err-Line.line read refl (c.in-Err-Line.ensures.line c.in-Err-Line.line (ap Err c.in-Err-Line.field-0-is)))
