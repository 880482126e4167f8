use Rattle.std.proofs.Common.{◌≡◌, ◌∙◌, ℕ, List, length, take, sym, ap, subst, arith}
use Rattle.std.proofs.Math.Seq.{take-length}
use Rattle.std.proofs.lemmas.List.{length-map, take_all}
use Rattle.std.proofs.lemmas.Result.{IfOk-weaker}
use Rattle.im_digest.specs.Digests.{Hash}
use Rattle.im_format.specs.declared.records.Record.{Record}
use Rattle.im_index.specs.Indexed.{IsIndexOf}
use Rattle.im_levels.specs.Leveled.{IsLeveled, Stored}
use Rattle.im_model.specs.History.{alhs_of, IsHistory}
use Rattle.im_model.specs.declared.transactions.Transaction.{Transaction}
use Rattle.im_model.proofs.HistoryLemmas.{length-alhs_of}
use Rattle.im_opening.specs.Reach.{txs_of}
use Rattle.im_proof.specs.Built.{headers_of}
use Rattle.im_core.proofs.opening.lists_of.Goals as goal

pub raise-requires-clause-tree : goal.raise-requires-clause-tree
raise-requires-clause-tree g c =
    let found = c.args.found in
    subst (λ (l : List (List ℕ)). IsLeveled (g.H.Hash32.digest c.args.hash.now) (take found.tree.size l) found.tree) (sym c.as_slice.ensures.value) c.requires.tree

pub raise-requires-clause-within : goal.raise-requires-clause-within
raise-requires-clause-within g c = omega (arith, c.requires.linked, ap (λ (l : List (List ℕ)). length l) c.as_slice.ensures.value)

pub lists_over-requires : goal.lists_over-requires
lists_over-requires g c = omega (arith, length-map c.args.found.records.items (λ (r : Record). r.tx), c.requires.history.few)

pub returns-in-Ok : goal.returns-in-Ok
returns-in-Ok g c =
    let hash : Hash = g.H.Hash32.digest c.args.hash.now in
    let found = c.args.found in
    let txs : List Transaction = txs_of found.records.items in
    let leaves : c.as_slice.result.now ≡ alhs_of hash txs = c.as_slice.ensures.value ∙ c.requires.alhs in
    let all : take (length txs) (alhs_of hash txs) ≡ alhs_of hash txs = take_all (length txs) (alhs_of hash txs) (omega (arith, length-alhs_of hash txs)) in
    let leveled : IsLeveled hash (take (length txs) (alhs_of hash txs)) c.raise.new.tree =
    subst (λ (l : List (List ℕ)). IsLeveled hash l c.raise.new.tree) (leaves ∙ sym all) c.in-Ok.ensures in
    IfOk-weaker c.lists_over.result _ _ (λ lists is. record {
      book_is = record {
        history = subst IsHistory (sym is.0) c.requires.history;
        headers = is.1 ∙ c.requires.headers ∙ ap (headers_of hash) (sym is.0);
        alhs = is.2 ∙ c.requires.alhs ∙ ap (alhs_of hash) (sym is.0);
      };
      placed_is = is.0;
      tree_is = subst (λ (s : Stored). IsLeveled hash (take (length txs) (alhs_of hash txs)) s) (sym is.3) leveled;
      index_is = subst (λ (l : List Transaction). IsIndexOf lists.index l) (sym (take-length txs)) is.4;
    }) c.lists_over.ensures
