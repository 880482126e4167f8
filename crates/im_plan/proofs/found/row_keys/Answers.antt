use Rattle.std.proofs.Common.{◌+◌, ◌∷◌, [], ℕ, List, take, sym, subst, arith}
use Rattle.std.proofs.lemmas.List.{map-append, take_all}
use Rattle.std.specs.List.{AllZip}
use Rattle.im_versions.specs.declared.versions.Version.{Version}
use Rattle.im_catalog.proofs.ZipLemmas.{zip-more}
use Rattle.im_plan.specs.Plans.{HasEntryText, IsKeyOfEntry}
use Rattle.im_plan.proofs.EntryRowLemmas.{Octets8, octets_of}
use Rattle.im_plan.proofs.found.row_keys.Goals as goal

pub row_key_of-requires-clause-text : goal.row_key_of-requires-clause-text
row_key_of-requires-clause-text c =
    subst (HasEntryText c.args.table.now c.args.index.now) (sym c.entry-item.is) (c.requires.texts c.loop-entry.entry-index c.entry-item.result c.loop-entry-test.true)

pub loop-entry-preserved : goal.loop-entry-preserved
loop-entry-preserved c =
    let R = IsKeyOfEntry c.args.table.now c.args.index.now in
    subst (λ (keys : List Octets8). AllZip R (take (c.loop-entry.entry-index + 1) c.args.entries.now) (octets_of keys)) (sym c.in_ok-push.ensures.items)
    (subst (λ (octets : List (List ℕ)). AllZip R (take (c.loop-entry.entry-index + 1) c.args.entries.now) octets) (sym (map-append (λ (k : Octets8). k.items) c.loop-entry.keys.items (c.in_ok-key.key ∷ [])))
    (zip-more R c.args.entries.now (octets_of c.loop-entry.keys.items) c.loop-entry.entry-index c.entry-item.result c.in_ok-key.key.items
    c.loop-entry-test.true c.entry-item.is c.loop-entry.invariant c.in_ok-key.ensures))

pub returns : goal.returns
returns c =
    subst (λ (entries : List Version). AllZip (IsKeyOfEntry c.args.table.now c.args.index.now) entries (octets_of c.loop-entry.keys.items))
    (take_all c.loop-entry.entry-index c.args.entries.now (omega arith)) c.loop-entry.invariant
