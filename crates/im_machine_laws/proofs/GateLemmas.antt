-- What a batch leaves whose gate isn't written.
use Rattle.std.proofs.Common.{◌≡◌, ◌≤◌, ◌+◌, ◌∙◌, [], ℕ, List, length, take, true, false, ap, subst, arith, inl, inr, Option, Some, None}
use Rattle.std.proofs.lemmas.List.{length-take-le}
use Rattle.im_digest.specs.Digests.{Hash, GivesDigests}
use Rattle.im_disk.specs.Disk.{seen, Files, Images}
use Rattle.im_disk.specs.Records.{files_of, told_of}
use Rattle.im_format.specs.Standing.{Stands}
use Rattle.im_format.specs.declared.spans.Span.{Span}
use Rattle.im_format.proofs.StandReads.{stands-once}
use Rattle.im_journal.specs.Kept.{Batch, StandsBy}
use Rattle.im_journal.specs.declared.batches.Step.{Step}
use Rattle.im_journal.specs.declared.batches.Step.TheVariants.{Idle, Staging, Staged, Sealed, Gated}
use Rattle.im_journal.proofs.Mids.{mid_stands, rest_stands}
use Rattle.im_machine.specs.Machines.{writes_due, Machine, Progress}
use Rattle.im_machine.specs.Steps.{Steps}
use Rattle.im_machine.specs.declared.events.Event.TheVariants as on
use Rattle.im_machine.specs.declared.outputs.Output.TheVariants as tells
use Rattle.im_machine.specs.Kept.{IsDone}
use Rattle.im_machine_laws.specs.Gates.{IsUngated}
use Rattle.im_machine_laws.proofs.Sound.{kept_as, telling, IsAsFar, IsHeld, IsSound}
use Rattle.im_model.specs.declared.transactions.Transaction.{Transaction}

stands-ungated : (step : Step) (hash : Hash) (history : List Transaction) (durable count : ℕ) (image : Files) (writes written done : ℕ) → StandsBy step hash history durable count image
    → IsDone step writes written done → done ≤ writes + 1 → Stands hash image (take durable history)
stands-ungated Idle hash history durable count image writes written done stands is least = stands
stands-ungated Staging hash history durable count image writes written done stands is least = stands
stands-ungated Staged hash history durable count image writes written done stands is least = stands
stands-ungated Sealed hash history durable count image writes written done stands is least = stands
stands-ungated Gated hash history durable count image writes written done stands is least = absurd (omega (arith, is, least))

ungated-by : (hash : Hash) (m : Machine) (progress : Option Progress) (b : Batch) (image : Files) → IsAsFar hash m progress b → IsUngated m progress → Images m.disk image
    → Stands hash image (take m.durable m.placed)
ungated-by hash m None b image far ungated now = rest_stands telling hash m.placed m.batches (kept_as m b) far image now
ungated-by hash m (Some p) b image far ungated now =
    let many : length b.pieces ≡ length (writes_due m p) = ap (λ (l : List Span). length l) far.0.pieces in
    stands-ungated b.step hash m.placed m.durable (length p.records) image (length b.pieces) b.written p.done
    (mid_stands telling hash m.placed m.batches p.records (kept_as m b) far.0 image now) far.1 (omega (arith, ungated, many))

-- each image stands for what is durable, and no more
pub ungated-images : (hash : Hash) (m : Machine) (image : Files) → IsSound hash m → m.up ≡ true → m.stopped ≡ false → IsUngated m m.progress → Images m.disk image
    → Stands hash image (take m.durable m.placed)
ungated-images hash m image s up going ungated now =
    let h : IsHeld hash m = s.held up going in
    ungated-by hash m m.progress h.0 image h.1 ungated now

-- so an opening of what a crash left gives that
opened-ungated : (hash : Hash) (m next : Machine) (number : ℕ) (history : List Transaction) → GivesDigests hash → Stands hash (seen m.disk) history → Steps hash m on.Open (tells.Opened number) next
    → number ≡ length history
opened-ungated hash m next number history gives stands (inl is) =
    let same : is.1.0 ≡ history = stands-once hash (seen m.disk) is.1.0 history (record { long = gives }) is.1.1 stands in
    let answered : tells.Opened number ≡ tells.Opened (length is.1.0) = is.1.2 in
    let count : number ≡ length is.1.0 = cc in
    count ∙ ap (λ (l : List Transaction). length l) same
opened-ungated hash m next number history gives stands (inr denied) =
    absurd (let answered : tells.Opened number ≡ tells.NotAllowed = denied.1 in let never : ⊥ = cc in never)

pub crash-ungated : (hash : Hash) (m down next : Machine) (image : List (List ℕ)) (number : ℕ) → GivesDigests hash → IsSound hash m → m.up ≡ true → m.stopped ≡ false → IsUngated m m.progress
    → Steps hash m (on.Crash image) tells.Done down → Steps hash down on.Open (tells.Opened number) next → number ≡ m.durable
crash-ungated hash m down next image number gives s up going ungated (inl is) opens =
    let left : Machine = record m { disk = told_of image []; up = false } in
    let now : Steps hash left on.Open (tells.Opened number) next = subst (λ (x : Machine). Steps hash x on.Open (tells.Opened number) next) is.1.1 opens in
    let front : List Transaction = take m.durable m.placed in
    let stands : Stands hash (files_of image) front = ungated-images hash m (files_of image) s up going ungated is.0.2 in
    opened-ungated hash left next number front gives stands now ∙ length-take-le m.durable m.placed s.order.durable_placed
crash-ungated hash m down next image number gives s up going ungated (inr denied) opens =
    absurd (let answered : tells.Done ≡ tells.NotAllowed = denied.1 in let never : ⊥ = cc in never)
