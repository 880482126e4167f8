use Rattle.std.proofs.Common.{◌≡◌, List, map, filter, Bor, ap, sym, ◌∙◌, rules}
use Rattle.std.proofs.lemmas.Simd.{map-map}
use Rattle.std.proofs.lemmas.Map.Iter.{iter_end}
use Rattle.std.specs.BTreeMap.{values}
use Rattle.std.specs.Map.Iter.{deref}
use Rattle.im_versions.specs.declared.versions.Version.{Version}
use Rattle.im_index.proofs.ScanLemmas.{is_kept, Lent, versions_at}
use Rattle.im_index.proofs.maps.live_of.Goals as goal

pub returns-clause-live : goal.returns-clause-live
returns-clause-live c =
    let whole : map deref c.loop-version.yielded ≡ values c.args.newest.now = search (rules, iter_end) in
    c.loop-version.invariant ∙ ap (filter is_kept) (kept-same c.loop-version.yielded c.args.newest.now.entries whole)
  where
    kept-same : (shown : List (Bor (Bor Version))) (entries : List Lent) → map deref shown ≡ map (λ e. e.1) entries
        → map (λ v. v.now.now) shown ≡ versions_at entries
    kept-same shown entries whole =
        sym (map-map (λ (v : Bor Version). v.now) deref shown)
        ∙ ap (map (λ (v : Bor Version). v.now)) whole
        ∙ map-map (λ (v : Bor Version). v.now) (λ (e : Lent). e.1) entries
