use Rattle.std.proofs.Common.{rules, ◌≡◌, ◌∙◌, List, [], ◌∷◌, ◌++◌, None, length, ap, sym, subst, arith}
use mathlib.Core.List.{IsPrefix}
use Rattle.im_model.specs.declared.entries.Entry.{Entry}
use Rattle.im_model.specs.History.{IsHistory}
use Rattle.im_versions.specs.Admits.{place_refusal}
use Rattle.im_table.specs.Histories.{history_of}
use Rattle.im_table.specs.declared.items.LogItem.{LogItem}
use Rattle.im_table.proofs.PassLemmas.{later_both}
use Rattle.im_seated_book.specs.Seats.{IsPut}
use Rattle.im_seated_book.proofs.SeatLemmas.{put_later}
use Rattle.im_seated_book.proofs.seated.SeatedBook.place.Goals as goal

pub put-requires-clause-asked : goal.put-requires-clause-asked
put-requires-clause-asked g c = (c.args.prepared, c.into_parts-entries.ensures.asked, c.into_parts-entries.ensures.entries)

pub put-requires-clause-law : goal.put-requires-clause-law
put-requires-clause-law g c item new entries =
    let list = c.show.new.self in
    let begins = subst (λ (l : List LogItem). IsPrefix c.args.pass.now.view.seen l) c.show.ensures.seen.0 c.show.ensures.later.seen in
    let admitted : place_refusal (history_of list) c.args.prepared.pres ≡ None = search rules in
    subst (λ (l : List LogItem). g.L.Law.allows (l ++ item ∷ [])) (sym c.judge.ensures.same)
    (c.requires.law list begins c.show.ensures.meets.law admitted item new (entries ∙ c.into_parts-entries.ensures.entries))

pub returns-clause-later : goal.returns-clause-later
returns-clause-later g c = later_both c.args.pass.now c.show.new.pass c.put.new.pass c.show.ensures.later c.in_ok-number.ensures.later

pub returns-clause-above : goal.returns-clause-above
returns-clause-above g c =
    let begins = subst (λ (l : List LogItem). IsPrefix c.args.pass.now.view.seen l) (c.show.ensures.seen.0 ∙ c.show.ensures.same) c.show.ensures.later.seen in
    (begins, omega (arith, c.show.ensures.later.durable, c.show.ensures.durable, c.show.ensures.seen.1, ap (λ (l : List LogItem). length l) c.show.ensures.same))

pub returns-clause-placed : goal.returns-clause-placed
returns-clause-placed g c =
    let list = c.args.self.now in
    let time = g.N.TipName.time in
    let put = c.in_ok-number.ensures.placed in
    let here = subst (λ (l : List LogItem). IsPut l c.into_parts-entries.result.0 c.put.new.tree.size time c.show.new.pass c.put.new.pass c.in_ok-number.number) (c.judge.ensures.same ∙ c.show.ensures.same) put in
    let asked = subst (λ (l : List Entry). IsPut list l c.put.new.tree.size time c.show.new.pass c.put.new.pass c.in_ok-number.number) c.into_parts-entries.ensures.entries here in
    record {
      put = put_later list c.args.prepared.entries c.put.new.tree.size time c.args.pass.now c.show.new.pass c.put.new.pass c.in_ok-number.number c.show.ensures.later c.show.ensures.adds asked;
      admitted = search rules;
    }

pub returns-clause-history : goal.returns-clause-history
returns-clause-history g c = subst (λ (l : List LogItem). IsHistory (history_of l)) c.show.ensures.same c.show.ensures.history
