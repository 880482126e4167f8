use Rattle.std.proofs.Common.{◌≡◌, ◌≤◌, ◌∙◌, ap, sym, subst, arith, ℕ, List, [], ◌∷◌, ◌++◌, length, take}
use Rattle.std.proofs.lemmas.List.{length-take-le}
use Rattle.im_digest.specs.Digests.{Hash}
use Rattle.im_mtree.specs.Kept.{IsFrontier}
use Rattle.im_model.specs.declared.transactions.Transaction.{Transaction}
use Rattle.im_book.specs.Booked.{last_bl}
use Rattle.im_book.proofs.BookLemmas.{alhs-counted}
use Rattle.im_book.proofs.RootLemmas.{kept-behind}
use Rattle.im_book.proofs.book.Book.push_over.Goals as goal
use Rattle.im_model.proofs.HistoryLemmas.{root-of-first, last-bl-behind}

pub extend_to-requires-clause-within : goal.extend_to-requires-clause-within
extend_to-requires-clause-within g c =
    let count : length c.args.self.now.alhs ≡ length c.args.self.now.transactions = alhs-counted (g.H.Hash32.digest c.args.hash.now) c.args.self.now c.requires.book in
    omega (arith, ap length c.alhs.ensures, c.requires.limits.linked)

pub header_for-next-requires-clause-root : goal.header_for-next-requires-clause-root
header_for-next-requires-clause-root g c =
    let hash : Hash = g.H.Hash32.digest c.args.hash.now in
    let bl : ℕ = c.args.tx.bl in
    let alhs : List (List ℕ) = c.args.self.now.alhs in
    let count : length alhs ≡ length c.args.self.now.transactions = alhs-counted hash c.args.self.now c.requires.book in
    let within : bl ≤ length alhs = omega (arith, c.requires.limits.linked) in
    let kept : IsFrontier hash (take bl alhs) c.extend_to.new.frontier =
    subst (λ (ds : List (List ℕ)). IsFrontier hash (take bl ds) c.extend_to.new.frontier) c.alhs.ensures c.extend_to.ensures in
    c.root_of-top.ensures (take bl alhs) kept ∙ root-of-first hash alhs bl within

pub returns-clause-kept : goal.returns-clause-kept
returns-clause-kept g c =
    let hash : Hash = g.H.Hash32.digest c.args.hash.now in
    let bl : ℕ = c.args.tx.bl in
    let alhs : List (List ℕ) = c.args.self.now.alhs in
    let count : length alhs ≡ length c.args.self.now.transactions = alhs-counted hash c.args.self.now c.requires.book in
    let within : bl ≤ length alhs = omega (arith, c.requires.limits.linked) in
    let kept : IsFrontier hash (take bl alhs) c.extend_to.new.frontier =
    subst (λ (ds : List (List ℕ)). IsFrontier hash (take bl ds) c.extend_to.new.frontier) c.alhs.ensures c.extend_to.ensures in
    kept-behind hash alhs c.push.new.self.alhs bl c.alh-digest.result c.extend_to.new.frontier within kept
    (c.push.ensures.alhs ∙ ap (λ (ds : List (List ℕ)). ds ++ c.alh-digest.result ∷ []) c.reserve.ensures.same.2)

pub returns-clause-last : goal.returns-clause-last
returns-clause-last g c =
    let hash : Hash = g.H.Hash32.digest c.args.hash.now in
    let bl : ℕ = c.args.tx.bl in
    let alhs : List (List ℕ) = c.alhs.result.now in
    let count : length c.args.self.now.alhs ≡ length c.args.self.now.transactions = alhs-counted hash c.args.self.now c.requires.book in
    let within : bl ≤ length alhs = omega (arith, ap length c.alhs.ensures, c.requires.limits.linked) in
    c.extend_to.ensures.counted ∙ length-take-le bl alhs within
    ∙ sym (ap (λ (txs : List Transaction). last_bl txs) (c.push.ensures.grown ∙ ap (λ (txs : List Transaction). txs ++ c.args.tx ∷ []) c.reserve.ensures.same.0) ∙ last-bl-behind 0 c.args.self.now.transactions c.args.tx)
