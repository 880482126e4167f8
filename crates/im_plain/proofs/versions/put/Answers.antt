use Rattle.std.proofs.Common.{◌≡◌, ◌⊎◌, List, sym, subst}
use Rattle.std.specs.List.{All, IsAmong, insert}
use Rattle.im_versions.specs.declared.versions.Version.{Version}
use Rattle.im_versions.proofs.ListLemmas.{among-itself}
use Rattle.im_versions.proofs.ScanLemmas.{Rising, put-rising, put-only, put-kept}
use Rattle.im_plain.proofs.versions.put.Goals as goal

pub returns-in_ok-insert-clause-rising : goal.returns-in_ok-insert-clause-rising
returns-in_ok-insert-clause-rising c =
    let items : c.insert.new.self.items ≡ insert c.args.shown.now.items c.in-Some.place c.args.version = c.in_ok-insert.ensures.items in
    subst Rising (sym items)
    (put-rising c.args.shown.now.items c.as_slice.result.now c.in-Some.place c.args.version c.as_slice-2.result.now c.as_slice.ensures.value c.as_slice-2.ensures c.in-Some.ensures.within c.requires c.in-Some.ensures.below c.in-Some.ensures.above)

pub returns-in_ok-insert-clause-only : goal.returns-in_ok-insert-clause-only
returns-in_ok-insert-clause-only c =
    let items : c.insert.new.self.items ≡ insert c.args.shown.now.items c.in-Some.place c.args.version = c.in_ok-insert.ensures.items in
    subst (λ (vs : List Version). All (λ v. (v ≡ c.args.version) ⊎ IsAmong c.args.shown.now.items v) vs) (sym items) (put-only c.args.shown.now.items c.in-Some.place c.args.version)

pub returns-in_ok-insert-clause-kept : goal.returns-in_ok-insert-clause-kept
returns-in_ok-insert-clause-kept c =
    let items : c.insert.new.self.items ≡ insert c.args.shown.now.items c.in-Some.place c.args.version = c.in_ok-insert.ensures.items in
    subst (λ (vs : List Version). All (IsAmong vs) c.args.shown.now.items) (sym items) (put-kept c.args.shown.now.items c.in-Some.place c.args.version)

pub returns-in_default-clause-kept : goal.returns-in_default-clause-kept
returns-in_default-clause-kept c = among-itself c.args.shown.now.items
