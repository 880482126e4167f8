use Rattle.std.proofs.Common.{◌≡◌, ◌∙◌, ℕ, List, length, take, ap, subst, sym, arith}
use Rattle.std.proofs.Math.Seq.{take-length}
use Rattle.std.proofs.lemmas.Result.{IfOk-weaker}
use Rattle.im_digest.specs.Digests.{Hash}
use Rattle.im_levels.specs.Leveled.{IsLeveled, Stored}
use Rattle.im_linker.specs.Trees.{IsTreeOf}
use Rattle.im_model.specs.declared.transactions.Transaction.{Transaction}
use Rattle.im_store.specs.Found.{items_of}
use Rattle.im_store.proofs.OpenLemmas.{found_count}
use Rattle.im_store_opening.proofs.OpenLemmas.{found_history, whole_book, whole_records, whole_tree}
use Rattle.im_table.proofs.HistoryLemmas.{history_length}
use Rattle.im_store_opening.proofs.parts.parts_of.Goals as goal

pub raise-requires-clause-tree : goal.raise-requires-clause-tree
raise-requires-clause-tree g c =
    let found = c.args.found in
    let slice : c.as_slice.result.now ≡ found.alhs.items = c.as_slice.ensures.value in
    let K : List (List ℕ) → Type 0 = λ l. IsLeveled (g.H.Hash32.digest c.args.hash.now) (take found.tree.size l) found.tree in
    subst K (sym slice) c.requires.found.tree

pub raise-requires-clause-up : goal.raise-requires-clause-up
raise-requires-clause-up g c =
    let found = c.args.found in
    omega (arith, c.requires.found.linked, c.len-count.ensures, found.alhs.ok.0)

pub raise-requires-clause-within : goal.raise-requires-clause-within
raise-requires-clause-within g c = omega (arith, c.len-count.ensures, ap (λ (l : List (List ℕ)). length l) c.as_slice.ensures.value, c.args.found.alhs.ok.0)

-- the history is no longer than a store can be
pub parts_over-requires-clause-few : goal.parts_over-requires-clause-few
parts_over-requires-clause-few g c =
    let rs = c.args.found.records.items in
    let count = ap (λ (l : List Transaction). length l) (found_history rs) in
    omega (arith, count, found_count rs, history_length (items_of rs), c.requires.found.history.few)

pub returns-in-Ok : goal.returns-in-Ok
returns-in-Ok g c =
    let hash : Hash = g.H.Hash32.digest c.args.hash.now in
    let found = c.args.found in
    let one = c.requires.found in
    let alhs : List (List ℕ) = found.alhs.items in
    let all : c.len-count.result ≡ length alhs = omega (arith, c.len-count.ensures, found.alhs.ok.0) in
    let N : ℕ → Type 0 = λ n. take n alhs ≡ alhs in
    let M : List (List ℕ) → Type 0 = λ l. IsLeveled hash l c.raise.new.tree in
    let leaves : IsLeveled hash alhs c.raise.new.tree =
    subst M (ap (λ (l : List (List ℕ)). take c.len-count.result l) c.as_slice.ensures.value ∙ subst N (sym all) (take-length alhs)) c.in-Ok.ensures.leaves in
    let tree = whole_tree hash found one c.raise.new.tree leaves (c.in-Ok.ensures.size ∙ all) in
    IfOk-weaker c.parts_over.result _ _ (λ r made. record {
      found = made.found_is;
      logs_are = made.logs_are;
      some = c.requires.logs.0;
      few = c.requires.logs.1;
      table = made.table;
      view = made.view;
      records_are = whole_records hash found one;
      index_is = made.index_is;
      transactions_are = made.transactions_are;
      book_is = whole_book hash found one r.1.book made.transactions_are made.headers_are made.alhs_are;
      refs_are = made.refs_are;
      tree_is = subst (λ (s : Stored). IsTreeOf hash (items_of found.records.items) s) (sym made.tree_is) tree.0;
      whole = ap (λ (s : Stored). s.size) made.tree_is ∙ tree.1;
    }) c.parts_over.ensures
