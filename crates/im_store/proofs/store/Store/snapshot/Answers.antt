use Rattle.std.proofs.Common.{rules, ◌≡◌, ◌∙◌, ℕ, List, refl, ap, subst, sym, arith}
use Rattle.im_octet.proofs.Common.{if-err}
use Rattle.im_index.specs.Indexed.{Indexed}
use Rattle.im_seated_index.specs.Seats.{HasTaken}
use Rattle.im_store.specs.Reading.{ExplainsSnapshot}
use Rattle.im_store.specs.declared.errors.SnapshotError.TheVariants as reads
use Rattle.im_table.specs.References.{IsLawful}
use Rattle.im_table.specs.declared.items.LogItem.{LogItem}
use Rattle.im_table.specs.declared.view.AllLooks.{AllLooks}
use Rattle.im_table.specs.declared.view.View.{View}
use Rattle.im_table.proofs.PassLemmas.{later_both}
use Rattle.im_store.proofs.GainLemmas.{follows_self, follows_indexed, follows_then, later_self, load_durable_follows, load_durable_saw, load_indexed_follows, load_indexed_saw, saw_durable_on, saw_indexed_on, shown_indexed}
use Rattle.im_store.proofs.ReadLemmas.{load_placed_follows}
use Rattle.im_store.proofs.store.Store.snapshot.Goals as goal
use Rattle.im_seated_index.proofs.SeatLemmas.{taken_within}

-- fewer are durable
pub returns-then-durable-n-clause-later : goal.returns-then-durable-n-clause-later
returns-then-durable-n-clause-later g c =
    let l = c.load_durable-durable in
    (load_durable_follows c.args.pass.now l.new.pass l.result l.ensures.table l.ensures.view l.ensures.finds.least).later

pub returns-then-durable-n-clause-gains : goal.returns-then-durable-n-clause-gains
returns-then-durable-n-clause-gains g c =
    let l = c.load_durable-durable in
    (load_durable_follows c.args.pass.now l.new.pass l.result l.ensures.table l.ensures.view l.ensures.finds.least).gains

pub returns-then-durable-n-clause-err : goal.returns-then-durable-n-clause-err
returns-then-durable-n-clause-err g c =
    let l = c.load_durable-durable in
    (load_durable_saw c.args.pass.now l.new.pass l.result l.ensures.table l.ensures.view l.ensures.finds.least, omega arith)

-- fewer are indexed
pub returns-then-indexed-n-clause-later : goal.returns-then-indexed-n-clause-later
returns-then-indexed-n-clause-later g c =
    let l = c.load_durable-durable in
    let i = c.load_indexed-indexed in
    (follows_then 0 c.args.pass.now l.new.pass i.new.pass (load_durable_follows c.args.pass.now l.new.pass l.result l.ensures.table l.ensures.view l.ensures.finds.least)
    (load_indexed_follows l.new.pass i.new.pass i.result i.ensures.table i.ensures.view i.ensures.finds.least)).later

pub returns-then-indexed-n-clause-gains : goal.returns-then-indexed-n-clause-gains
returns-then-indexed-n-clause-gains g c =
    let l = c.load_durable-durable in
    let i = c.load_indexed-indexed in
    (follows_then 0 c.args.pass.now l.new.pass i.new.pass (load_durable_follows c.args.pass.now l.new.pass l.result l.ensures.table l.ensures.view l.ensures.finds.least)
    (load_indexed_follows l.new.pass i.new.pass i.result i.ensures.table i.ensures.view i.ensures.finds.least)).gains

pub returns-then-indexed-n-clause-err : goal.returns-then-indexed-n-clause-err
returns-then-indexed-n-clause-err g c =
    let l = c.load_durable-durable in
    let i = c.load_indexed-indexed in
    let first = load_durable_follows c.args.pass.now l.new.pass l.result l.ensures.table l.ensures.view l.ensures.finds.least in
    let second = load_indexed_follows l.new.pass i.new.pass i.result i.ensures.table i.ensures.view i.ensures.finds.least in
    let saw = load_durable_saw c.args.pass.now l.new.pass l.result l.ensures.table l.ensures.view l.ensures.finds.least in (
      l.result,
      saw_durable_on c.args.pass.now c.args.pass.now l.new.pass i.new.pass l.result (follows_self c.args.pass.now) saw second.later (ap (λ (v : View). v.looks.durable) i.ensures.view),
      omega arith,
      saw_indexed_on c.args.pass.now l.new.pass i.new.pass i.new.pass i.result first
          (load_indexed_saw l.new.pass i.new.pass i.result i.ensures.table i.ensures.view i.ensures.finds.least) (later_self i.new.pass) refl,
      omega arith,
    )

-- it has as many
pub snapshot-requires : goal.snapshot-requires
snapshot-requires g c =
    let same : c.deref.result.now ≡ c.show.new.self = search rules in
    omega (
      arith,
      c.show.ensures.taken.0,
      c.show.ensures.taken.1,
      c.show.ensures.later.indexed,
      ap (λ (v : View). v.least.indexed) c.load_indexed-indexed.ensures.view,
      ap (λ (i : Indexed). i.taken) same,
    )

-- memory ran out
pub returns-in_err-snapshot-clause-err : goal.returns-in_err-snapshot-clause-err
returns-in_err-snapshot-clause-err g c =
    if-err (λ e. ExplainsSnapshot c.args.pass.now c.load_placed.new.pass c.args.n e) c.from_residual.result reads.Memory c.from_residual.ensures.1 tt

pub returns-in_err-snapshot-clause-later : goal.returns-in_err-snapshot-clause-later
returns-in_err-snapshot-clause-later g c =
    let l = c.load_durable-durable in
    let i = c.load_indexed-indexed in
    let first = load_durable_follows c.args.pass.now l.new.pass l.result l.ensures.table l.ensures.view l.ensures.finds.least in
    let second = load_indexed_follows l.new.pass i.new.pass i.result i.ensures.table i.ensures.view i.ensures.finds.least in
    let third = follows_indexed c.show.result i.new.pass c.show.new.pass c.show.ensures.later c.show.ensures.adds c.show.ensures.looks in
    let last = load_placed_follows c.show.new.pass c.load_placed.new.pass c.load_placed.result c.load_placed.ensures.table c.load_placed.ensures.sees.view in
    (follows_then 0 c.args.pass.now c.show.new.pass c.load_placed.new.pass
    (follows_then 0 c.args.pass.now i.new.pass c.show.new.pass (follows_then 0 c.args.pass.now l.new.pass i.new.pass first second) third) last).later

pub returns-in_err-snapshot-clause-gains : goal.returns-in_err-snapshot-clause-gains
returns-in_err-snapshot-clause-gains g c =
    let l = c.load_durable-durable in
    let i = c.load_indexed-indexed in
    let first = load_durable_follows c.args.pass.now l.new.pass l.result l.ensures.table l.ensures.view l.ensures.finds.least in
    let second = load_indexed_follows l.new.pass i.new.pass i.result i.ensures.table i.ensures.view i.ensures.finds.least in
    let third = follows_indexed c.show.result i.new.pass c.show.new.pass c.show.ensures.later c.show.ensures.adds c.show.ensures.looks in
    let last = load_placed_follows c.show.new.pass c.load_placed.new.pass c.load_placed.result c.load_placed.ensures.table c.load_placed.ensures.sees.view in
    (follows_then 0 c.args.pass.now c.show.new.pass c.load_placed.new.pass
    (follows_then 0 c.args.pass.now i.new.pass c.show.new.pass (follows_then 0 c.args.pass.now l.new.pass i.new.pass first second) third) last).gains

-- it is shown
pub returns-clause-later : goal.returns-clause-later
returns-clause-later g c =
    let l = c.load_durable-durable in
    let i = c.load_indexed-indexed in
    let first = load_durable_follows c.args.pass.now l.new.pass l.result l.ensures.table l.ensures.view l.ensures.finds.least in
    let second = load_indexed_follows l.new.pass i.new.pass i.result i.ensures.table i.ensures.view i.ensures.finds.least in
    let third = follows_indexed c.show.result i.new.pass c.show.new.pass c.show.ensures.later c.show.ensures.adds c.show.ensures.looks in
    let last = load_placed_follows c.show.new.pass c.load_placed.new.pass c.load_placed.result c.load_placed.ensures.table c.load_placed.ensures.sees.view in
    (follows_then 0 c.args.pass.now c.show.new.pass c.load_placed.new.pass
    (follows_then 0 c.args.pass.now i.new.pass c.show.new.pass (follows_then 0 c.args.pass.now l.new.pass i.new.pass first second) third) last).later

pub returns-clause-gains : goal.returns-clause-gains
returns-clause-gains g c =
    let l = c.load_durable-durable in
    let i = c.load_indexed-indexed in
    let first = load_durable_follows c.args.pass.now l.new.pass l.result l.ensures.table l.ensures.view l.ensures.finds.least in
    let second = load_indexed_follows l.new.pass i.new.pass i.result i.ensures.table i.ensures.view i.ensures.finds.least in
    let third = follows_indexed c.show.result i.new.pass c.show.new.pass c.show.ensures.later c.show.ensures.adds c.show.ensures.looks in
    let last = load_placed_follows c.show.new.pass c.load_placed.new.pass c.load_placed.result c.load_placed.ensures.table c.load_placed.ensures.sees.view in
    (follows_then 0 c.args.pass.now c.show.new.pass c.load_placed.new.pass
    (follows_then 0 c.args.pass.now i.new.pass c.show.new.pass (follows_then 0 c.args.pass.now l.new.pass i.new.pass first second) third) last).gains

-- the pass's list is the one that it had seen as it loaded the word placed
pub returns-clause-meets : goal.returns-clause-meets
returns-clause-meets g c =
    let allows = g.L.Law.allows in
    let sees = c.load_placed.ensures.sees in
    subst (λ (l : List LogItem). IsLawful allows g.N.TipName.logs l) (sym (ap (λ (v : View). v.seen) sees.view))
    (subst (λ (k : ℕ). IsLawful allows k c.show.new.pass.view.seen) c.args.self.now.logged sees.lawful)

pub returns-clause-ok : goal.returns-clause-ok
returns-clause-ok g c =
    let l = c.load_durable-durable in
    let i = c.load_indexed-indexed in
    let show = c.show in
    let look = c.load_placed in
    let view = look.ensures.sees.view in
    let first = load_durable_follows c.args.pass.now l.new.pass l.result l.ensures.table l.ensures.view l.ensures.finds.least in
    let second = load_indexed_follows l.new.pass i.new.pass i.result i.ensures.table i.ensures.view i.ensures.finds.least in
    let last = load_placed_follows show.new.pass look.new.pass look.result look.ensures.table view in
    let seen : look.new.pass.view.seen ≡ show.new.pass.view.seen = ap (λ (v : View). v.seen) view in
    let first_of = subst (λ (x : List LogItem). HasTaken x show.new.self) (sym seen) show.ensures.first in
    let within = taken_within look.new.pass.view.seen show.new.self first_of in
    let same : c.deref.result.now ≡ show.new.self = search rules in
    record {
      durable = l.result;
      saw_durable = saw_durable_on c.args.pass.now c.args.pass.now l.new.pass look.new.pass l.result (follows_self c.args.pass.now)
          (load_durable_saw c.args.pass.now l.new.pass l.result l.ensures.table l.ensures.view l.ensures.finds.least)
          (later_both l.new.pass show.new.pass look.new.pass (later_both l.new.pass i.new.pass show.new.pass second.later show.ensures.later) last.later)
          (ap (λ (v : View). v.looks.durable) view ∙ ap (λ (x : AllLooks). x.durable) show.ensures.looks ∙ ap (λ (v : View). v.looks.durable) i.ensures.view);
      within_durable = omega arith;
      indexed = show.result;
      saw_indexed = saw_indexed_on c.args.pass.now i.new.pass show.new.pass look.new.pass show.result (follows_then 0 c.args.pass.now l.new.pass i.new.pass first second)
          (shown_indexed show.result i.new.pass show.new.pass show.ensures.later show.ensures.looks show.ensures.taken.1) last.later (ap (λ (v : View). v.looks.indexed) view);
      within_indexed = omega (arith, show.ensures.taken.1, show.ensures.later.indexed, ap (λ (v : View). v.least.indexed) i.ensures.view);
      seen = omega (arith, within, show.ensures.taken.0, show.ensures.taken.1, show.ensures.later.indexed, ap (λ (v : View). v.least.indexed) i.ensures.view);
      shows = c.in_ok-snapshot.ensures look.new.pass.view.seen (subst (λ (x : Indexed). HasTaken look.new.pass.view.seen x) (sym same) first_of);
    }
