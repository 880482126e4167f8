use Rattle.std.proofs.Common.{◌≡◌, ◌∙◌, List, length, map, take, refl, ap, arith, inl, inr}
use Rattle.std.proofs.lemmas.Bool.{false≢true}
use Rattle.std.proofs.lemmas.Result.{IfOk-weaker}
use Rattle.std.specs.Prelude.{slice_index_or}
use Rattle.im_core.proofs.ReadLemmas.{tx-told}
use Rattle.im_core.proofs.UpLemmas.{between-down, between-up, placed-count}
use Rattle.im_digest.specs.Digests.{Hash}
use Rattle.im_machine.specs.declared.outputs.Output.TheVariants as says
use Rattle.im_model.specs.Entries.{entry_digest}
use Rattle.im_model.specs.History.{transaction_of}
use Rattle.im_model.specs.declared.entries.Entry.{Entry}
use Rattle.im_model.specs.declared.transactions.Transaction.{Transaction}
use Rattle.im_proof.specs.Between.{dual_between, no_entry}
use Rattle.im_proof.specs.Built.{path_of}
use Rattle.im_proof.specs.declared.proofs.DualProof.{DualProof}
use Rattle.im_core.proofs.store.OpenStore.prove_item.Goals as goal

pub returns-then-not-are_durable : goal.returns-then-not-are_durable
returns-then-not-are_durable g c m u =
    inr ((λ b. false≢true (c.if-not-are_durable.ensures.1 (between-down (g.H.Hash32.digest c.args.hash.now) c.args.self.now m u c.args.number c.args.state b.0))), refl)

pub tx-requires-clause-first : goal.tx-requires-clause-first
tx-requires-clause-first g c = (c.if-not-are_durable.ensures.0 refl).some

pub tx-requires-clause-last : goal.tx-requires-clause-last
tx-requires-clause-last g c =
    let b = c.if-not-are_durable.ensures.0 refl in
    let u = c.requires.1 in
    omega (arith, b.order, b.within, u.durable, u.order.durable_placed, placed-count (g.H.Hash32.digest c.args.hash.now) c.args.self.now c.requires.0 u)

pub returns-then-width-place : goal.returns-then-width-place
returns-then-width-place g c m u =
    let hash : Hash = g.H.Hash32.digest c.args.hash.now in
    let entries : c.as_slice-entries.result.now ≡ (transaction_of m.placed c.args.number).entries =
    c.as_slice-entries.ensures ∙ ap (λ (t : Transaction). t.entries) (tx-told hash c.args.self.now m u c.args.number c.tx.result.now c.tx.ensures) in
    inr ((λ b. omega (arith, b.1, c.if-width-place.true, ap (λ (l : List Entry). length l) entries)), refl)

pub dual-requires-clause-between : goal.dual-requires-clause-between
dual-requires-clause-between g c = c.if-not-are_durable.ensures.0 refl

pub returns : goal.returns
returns g c m u =
    let hash : Hash = g.H.Hash32.digest c.args.hash.now in
    let i = c.args.index in
    let entries : c.as_slice-entries.result.now ≡ (transaction_of m.placed c.args.number).entries =
    c.as_slice-entries.ensures ∙ ap (λ (t : Transaction). t.entries) (tx-told hash c.args.self.now m u c.args.number c.tx.result.now c.tx.ensures) in
    IfOk-weaker c.item.result _ _
    (λ output told. inl (
      (
        between-up hash c.args.self.now m u c.args.number c.args.state (c.if-not-are_durable.ensures.0 refl),
        omega (arith, c.if-width-place.false, ap (λ (l : List Entry). length l) entries),
      ),
      told
          ∙ ap (λ (p : DualProof). says.Item p (slice_index_or c.as_slice-entries.result.now i no_entry) (path_of hash (map (entry_digest hash) c.as_slice-entries.result.now) i)) (c.in_ok-dual.ensures m u)
          ∙ ap (λ (l : List Entry). says.Item (dual_between hash (take c.args.state m.placed) c.args.number c.args.state) (slice_index_or l i no_entry) (path_of hash (map (entry_digest hash) l) i)) entries,
    ))
    c.item.ensures
