-- The parts of an open store, and the machine: numbers, and events that change little.
use Rattle.std.proofs.Common.{◌≡◌, ◌≤◌, ◌+◌, ◌^◌, ◌-◌, ◌∙◌, ℕ, List, length, min, true, refl, sym, ap, subst, arith, inl, inr}
use Rattle.std.proofs.lemmas.Bool.{true≢false}
use Rattle.std.proofs.lemmas.List.{length-take-le}
use Rattle.im_core.specs.Answers.{Gives}
use Rattle.im_core.specs.Parts.{Answers, IsUp}
use Rattle.im_core.specs.declared.store.OpenStore.{OpenStore}
use Rattle.im_digest.specs.Digests.{Hash}
use Rattle.im_machine.specs.Allowed.{Allows, IsBetween, MayProve}
use Rattle.im_machine.specs.Answers.{header_at_end, proof_of, word_of}
use Rattle.im_machine.specs.Machines.{Machine}
use Rattle.im_machine.specs.Steps.{loaded}
use Rattle.im_machine.specs.declared.events.Event.{Event}
use Rattle.im_machine.specs.declared.events.Event.TheVariants as on
use Rattle.im_machine.specs.declared.outputs.Output.{Output}
use Rattle.im_machine.specs.declared.outputs.Output.TheVariants as says
use Rattle.im_machine.specs.declared.questions.ProofQuestion.{ProofQuestion}
use Rattle.im_machine.specs.declared.words.Word.{Word}
use Rattle.im_machine.specs.declared.words.Word.TheVariants.{Placed, Durable, Linked, Indexed, Failed}
use Rattle.im_model.specs.History.{alhs_of, IsHistory}
use Rattle.im_model.specs.declared.transactions.Transaction.{Transaction}
use Rattle.im_model.proofs.HistoryLemmas.{length-alhs_of}

-- an event that isn't allowed changes nothing
pub not-allowed : (hash : Hash) (s : OpenStore) (m : Machine) (event : Event) → IsUp hash s m → (Allows hash m event → ⊥) → Answers hash m event says.NotAllowed s
not-allowed hash s m event u denied = (m, inr (denied, refl, refl), u)

module _ (hash : Hash) (s : OpenStore) (m : Machine) (u : IsUp hash s m) where
  -- the placed transactions are a history
  pub placed-history : IsHistory m.placed
  placed-history = subst IsHistory u.lists.placed_is u.lists.book_is.history

  pub placed-count : length s.book.transactions ≡ length m.placed
  placed-count = ap (λ (l : List Transaction). length l) u.lists.placed_is

  -- there is an Alh for each
  pub alhs-count : length (alhs_of hash m.placed) ≡ length m.placed
  alhs-count = length-alhs_of hash m.placed

  -- the tree has as many leaves as are linked
  pub tree-size : s.tree.size ≡ m.linked
  tree-size =
      let linked : m.linked ≤ m.durable = u.order.linked_durable in
      let durable : m.durable ≤ length m.placed = u.order.durable_placed in
      u.lists.tree_is.counted ∙ length-take-le m.linked (alhs_of hash m.placed) (omega (arith, alhs-count, linked, durable))

  -- the index has taken as many as are indexed
  pub index-size : s.index.taken ≡ m.indexed
  index-size =
      let indexed : m.indexed ≤ m.durable = u.order.indexed_durable in
      let durable : m.durable ≤ length m.placed = u.order.durable_placed in
      u.lists.index_is.taken ∙ length-take-le m.indexed m.placed (omega (arith, indexed, durable))

  -- what is between durable numbers by the journal is so by the machine, and the other way round
  pub between-up : (source target : ℕ) → IsBetween source target s.journal.durable → IsBetween source target m.durable
  between-up source target b = subst (λ (n : ℕ). IsBetween source target n) u.durable b

  pub between-down : (source target : ℕ) → IsBetween source target m.durable → IsBetween source target s.journal.durable
  between-down source target b = subst (λ (n : ℕ). IsBetween source target n) (sym u.durable) b

  -- a session is told of what is durable
  pub acknowledged : (session number : ℕ) (output : Output) → Gives (IsBetween number number m.durable) (header_at_end hash m.placed number) output
      → Answers hash m (on.Ack session number) output s
  acknowledged session number output (inl is) = (m, inl ((u.up, is.0), (is.1, refl)), u)
  acknowledged session number output (inr denied) = (m, inr ((λ a. denied.0 a.1), denied.1, refl), u)

  pub proved : (session : ℕ) (question : ProofQuestion) (output : Output) → Gives (MayProve m question) (proof_of hash m.placed question) output
      → Answers hash m (on.Prove session question) output s
  proved session question output (inl is) = (m, inl ((u.up, is.0), (is.1, refl)), u)
  proved session question output (inr denied) = (m, inr ((λ a. denied.0 a.1), denied.1, refl), u)

  -- whatever sessions were told, the parts are the same
  pub up-told : (sessions : ℕ → ℕ) → IsUp hash s (record m { sessions = sessions })
  up-told sessions = record {
    up = u.up;
    lists = u.lists;
    order = u.order;
    disk = u.disk;
    durable = u.durable;
    failures = u.failures;
    stopped = u.stopped;
    going = λ going. let g = u.going going in record { none = g.none; far = g.far };
  }

  up-loaded : (session : ℕ) (word : Word) → IsUp hash s (loaded m session word)
  up-loaded session Placed = u
  up-loaded session Durable = up-told (loaded m session Durable).sessions
  up-loaded session Linked = u
  up-loaded session Indexed = u
  up-loaded session Failed = u

  pub loads : (session : ℕ) (word : Word) (number : ℕ) → number ≡ word_of m word → Answers hash m (on.Load session word) (says.Word number) s
  loads session word number is = (loaded m session word, inl (u.up, (ap (λ (n : ℕ). says.Word n) is, refl)), up-loaded session word)

  -- a failure is told
  pub faulted : (failures : ℕ) → failures ≡ min (s.failures + 1) (2 ^ 64 - 1)
      → Answers hash m on.Fault says.Done (record { book = s.book; tree = s.tree; index = s.index; journal = s.journal; failures = failures; stopped = true })
  faulted failures is =
      let next : Machine = record m { failures = min (m.failures + 1) (2 ^ 64 - 1); stopped = true } in (
        next,
        inl (u.up, (refl, refl)),
        record {
          up = u.up;
          lists = u.lists;
          order = u.order;
          disk = u.disk;
          durable = u.durable;
          failures = is ∙ ap (λ (n : ℕ). min (n + 1) (2 ^ 64 - 1)) u.failures;
          stopped = refl;
          going = λ going. absurd (true≢false going);
        },
      )
