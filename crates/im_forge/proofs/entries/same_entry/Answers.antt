use Rattle.std.proofs.Common.{rules, ◌≡◌, ◌≢◌, ◌++◌, ◌∙◌, ap, sym, subst, length, reverse}
use Rattle.std.proofs.lemmas.Result.{IfOk-weaker}
use Rattle.im_model.specs.Entries.{entry_digest}
use Rattle.im_model.specs.Paths.{up_strings}
use Rattle.im_forge.specs.Same.{IsSame}
use Rattle.im_forge.specs.declared.same.Same.{Same}
use Rattle.im_forge.proofs.EntryLemmas.{both_strings, same-values, pair-of_entries, pair-of_paths, paths-ready}
use Rattle.im_forge.proofs.entries.same_entry.Goals as goal

pub returns-in-Equal : goal.returns-in-Equal
returns-in-Equal g c =
    IfOk-weaker c.same_value.result _ _
    (λ same told. same-values (g.H.Hash32.digest c.args.hash.now) c.args.entry.now c.args.entry2.now
    (up_strings (g.H.Hash32.digest c.args.hash.now) c.args.width c.args.i (entry_digest (g.H.Hash32.digest c.args.hash.now) c.args.entry.now) (reverse c.args.path.now)
    ++ up_strings (g.H.Hash32.digest c.args.hash.now) c.args.width c.args.i (entry_digest (g.H.Hash32.digest c.args.hash.now) c.args.entry2.now) (reverse c.args.path2.now))
    c.in_ok-x.x c.in_ok-y.y same c.entry_fits.ensures c.entry_fits-2.ensures c.in_ok-x.ensures c.in_ok-y.ensures c.in-Equal.ensures told)
    c.same_value.ensures

pub returns-then-eq : goal.returns-then-eq
returns-then-eq g c =
    let one : c.digest_of-leaf.result ≡ c.digest_of-leaf2.result = search rules in
    let is : c.digest_of-leaf.result ≡ entry_digest (g.H.Hash32.digest c.args.hash.now) c.args.entry.now =
    c.digest_of-leaf.ensures ∙ ap (g.H.Hash32.digest c.args.hash.now) (c.in-Pair.ensures.1 ∙ c.in_ok-x.ensures) in
    let is2 : c.digest_of-leaf2.result ≡ entry_digest (g.H.Hash32.digest c.args.hash.now) c.args.entry2.now =
    c.digest_of-leaf2.ensures ∙ ap (g.H.Hash32.digest c.args.hash.now) (c.in-Pair.ensures.2 ∙ c.in_ok-y.ensures) in
    pair-of_entries (g.H.Hash32.digest c.args.hash.now) c.args.entry.now c.args.entry2.now
    (up_strings (g.H.Hash32.digest c.args.hash.now) c.args.width c.args.i (entry_digest (g.H.Hash32.digest c.args.hash.now) c.args.entry.now) (reverse c.args.path.now)
    ++ up_strings (g.H.Hash32.digest c.args.hash.now) c.args.width c.args.i (entry_digest (g.H.Hash32.digest c.args.hash.now) c.args.entry2.now) (reverse c.args.path2.now))
    c.in_ok-x.x c.in_ok-y.y c.in-Pair.x c.in-Pair.y c.in_ok-x.ensures c.in_ok-y.ensures (sym is ∙ one ∙ is2) c.in-Pair.ensures

pub part-requires : goal.part-requires
part-requires g c =
    let differ : c.digest_of-leaf.result ≢ c.digest_of-leaf2.result = search rules in
    paths-ready c.args.width c.args.i c.digest_of-leaf.result c.digest_of-leaf2.result c.args.path.now c.args.path2.now c.told-path c.told-path2
    c.requires.within c.requires.path c.requires.path2 differ
    (ap length c.digest_of-leaf.ensures ∙ g.met.H.Hash32.size c.args.hash.now _) (ap length c.digest_of-leaf2.ensures ∙ g.met.H.Hash32.size c.args.hash.now _)

pub returns-in_ok-parted-in-Pair : goal.returns-in_ok-parted-in-Pair
returns-in_ok-parted-in-Pair g c =
    let differ : c.digest_of-leaf.result ≢ c.digest_of-leaf2.result = search rules in
    let is : c.digest_of-leaf.result ≡ entry_digest (g.H.Hash32.digest c.args.hash.now) c.args.entry.now =
    c.digest_of-leaf.ensures ∙ ap (g.H.Hash32.digest c.args.hash.now) (c.in-Pair.ensures.1 ∙ c.in_ok-x.ensures) in
    let is2 : c.digest_of-leaf2.result ≡ entry_digest (g.H.Hash32.digest c.args.hash.now) c.args.entry2.now =
    c.digest_of-leaf2.ensures ∙ ap (g.H.Hash32.digest c.args.hash.now) (c.in-Pair.ensures.2 ∙ c.in_ok-y.ensures) in
    subst (λ (same : Same). IsSame (c.args.entry.now ≡ c.args.entry2.now) (g.H.Hash32.digest c.args.hash.now) (both_strings (g.H.Hash32.digest c.args.hash.now) c.args.entry.now c.args.entry2.now
    (up_strings (g.H.Hash32.digest c.args.hash.now) c.args.width c.args.i (entry_digest (g.H.Hash32.digest c.args.hash.now) c.args.entry.now) (reverse c.args.path.now)
    ++ up_strings (g.H.Hash32.digest c.args.hash.now) c.args.width c.args.i (entry_digest (g.H.Hash32.digest c.args.hash.now) c.args.entry2.now) (reverse c.args.path2.now))) same)
    (sym c.into_pair.ensures)
    (pair-of_paths (g.H.Hash32.digest c.args.hash.now) c.args.width c.args.i c.args.entry.now c.args.entry2.now (reverse c.args.path.now) (reverse c.args.path2.now)
    c.digest_of-leaf.result c.digest_of-leaf2.result c.in_ok-parted-in-Pair.parted is is2 differ c.requires.one_root c.in_ok-parted-in-Pair.ensures)
