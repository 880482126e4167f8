-- What is read and proved of what is durable.
use Rattle.std.proofs.Common.{◌≡◌, ◌≤◌, ◌-◌, ◌∙◌, ℕ, List, length, take, get_or, refl, sym, ap, subst, arith, inl}
use Rattle.std.proofs.lemmas.List.{take-take}
use Rattle.im_core.specs.Parts.{Answers, IsUp}
use Rattle.im_core.specs.declared.store.OpenStore.{OpenStore}
use Rattle.im_core.proofs.UpLemmas.{tree-size}
use Rattle.im_digest.specs.Digests.{Hash}
use Rattle.im_dual.specs.Kept.{header_at, no_header}
use Rattle.im_levels.specs.Leveled.{IsLeveled}
use Rattle.im_machine.specs.Answers.{header_at_end, IsShown}
use Rattle.im_machine.specs.Machines.{Machine}
use Rattle.im_machine.specs.declared.events.Event.TheVariants as on
use Rattle.im_machine.specs.declared.outputs.Output.TheVariants as says
use Rattle.im_machine.specs.declared.questions.KeyQuestion.{KeyQuestion}
use Rattle.im_model.specs.History.{alhs_of, header_of, no_transaction, transaction_of}
use Rattle.im_model.specs.declared.headers.Header.{Header}
use Rattle.im_model.specs.declared.transactions.Transaction.{Transaction}
use Rattle.im_model.proofs.HeaderLemmas.{header-prefix, next-bl}
use Rattle.im_proof.specs.Built.{headers_of}
use Rattle.im_proof.proofs.HeaderLemmas.{headers-length, headers-nth}
use Rattle.im_versions.specs.declared.versions.Version.{Version}

module _ (hash : Hash) (s : OpenStore) (m : Machine) (u : IsUp hash s m) where
  -- the header of a durable transaction is that of the last of the first ones
  pub header-told : (number : ℕ) (header : Header) → 1 ≤ number → number ≤ m.durable → header ≡ header_of hash s.book.transactions number
      → says.Header header ≡ header_at_end hash m.placed number
  header-told number header some within is =
      let durable : m.durable ≤ length m.placed = u.order.durable_placed in
      ap (λ (x : Header). says.Header x)
      (is ∙ ap (λ (l : List Transaction). header_of hash l number) u.lists.placed_is ∙ sym (header-prefix hash m.placed number number some (omega arith) (omega (arith, within, durable))))

  -- the headers are those of the placed transactions
  pub headers-are : s.book.headers ≡ headers_of hash m.placed
  headers-are = u.lists.book_is.headers ∙ ap (headers_of hash) u.lists.placed_is

  pub headers-count : length s.book.headers ≡ length m.placed
  headers-count = ap (λ (l : List Header). length l) headers-are ∙ headers-length hash m.placed

  -- the tree has the first Alh
  pub tree-leaves : IsLeveled hash (take s.tree.size (alhs_of hash m.placed)) s.tree
  tree-leaves = subst (λ (n : ℕ). IsLeveled hash (take n (alhs_of hash m.placed)) s.tree) (sym (tree-size hash s m u)) u.lists.tree_is

  -- no header has a larger tree
  pub trees-within : (t : ℕ) → 1 ≤ t → t ≤ length m.placed → (header_at s.book.headers t).bl_tx_id ≤ s.tree.size
  trees-within t some within =
      let tx : Transaction = get_or m.placed (t - 1) no_transaction in
      let kept : header_at s.book.headers t ≡ header_of hash m.placed t =
      ap (λ (hs : List Header). get_or hs (t - 1) no_header) headers-are ∙ headers-nth hash m.placed t no_header some within in
      let told : (header_at s.book.headers t).bl_tx_id ≡ tx.bl =
      ap (λ (x : Header). x.bl_tx_id) kept ∙ next-bl hash (alhs_of hash (take (t - 1) m.placed)) tx in
      let least : tx.bl ≤ m.linked = u.order.least (t - 1) no_transaction (omega (arith, some, within)) in
      omega (arith, told, least, tree-size hash s m u)

  -- the entries of a durable transaction
  pub tx-told : (number : ℕ) (tx : Transaction) → tx ≡ transaction_of s.book.transactions number → tx ≡ transaction_of m.placed number
  tx-told number tx is = is ∙ ap (λ (l : List Transaction). transaction_of l number) u.lists.placed_is

  -- what is shown of a snapshot
  pub shown-step : (session number : ℕ) (question : KeyQuestion) (versions : List Version) → number ≤ m.indexed
      → IsShown (take number (take number (take m.indexed m.placed))) question versions → Answers hash m (on.Snap session number question) (says.Versions versions) s
  shown-step session number question versions within shown =
      let twice : take number (take number (take m.indexed m.placed)) ≡ take number m.placed =
      take-take number number (take m.indexed m.placed) (omega arith) ∙ take-take number m.indexed m.placed within in
      (m, inl ((u.up, within), ((versions, refl, subst (λ (l : List Transaction). IsShown l question versions) twice shown), refl)), u)
