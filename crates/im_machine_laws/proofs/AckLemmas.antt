-- What was acknowledged, behind any run.
use Rattle.std.proofs.Common.{◌≡◌, ◌≤◌, ◌++◌, ◌∷◌, ◌∙◌, [], ℕ, List, length, take, All, refl, sym, ap, arith, inl, inr}
use Rattle.std.proofs.lemmas.List.{length-take-le}
use Rattle.im_digest.specs.Digests.{Hash, GivesDigests}
use Rattle.im_disk.specs.Disk.{Files, Images}
use Rattle.im_format.specs.Standing.{Stands, StandsFrom}
use Rattle.im_machine.specs.Machines.{start, Machine}
use Rattle.im_machine.specs.Runs.{Run}
use Rattle.im_machine.specs.Steps.{Steps}
use Rattle.im_machine.specs.declared.events.Event.{Event}
use Rattle.im_machine.specs.declared.events.Event.TheVariants as on
use Rattle.im_machine.specs.declared.outputs.Output.{Output}
use Rattle.im_machine.specs.declared.outputs.Output.TheVariants as tells
use Rattle.im_machine_laws.specs.Events.{IsEvent}
use Rattle.im_machine_laws.proofs.OpenLemmas.{sound-start}
use Rattle.im_machine_laws.proofs.RunLemmas.{sound-run, stays-run, Stays}
use Rattle.im_machine_laws.proofs.Sound.{IsSound}
use Rattle.im_model.specs.History.{header_of}
use Rattle.im_model.specs.declared.headers.Header.{Header}
use Rattle.im_model.specs.declared.transactions.Transaction.{Transaction}
use Rattle.im_model.proofs.HeaderLemmas.{header-prefix}
use Rattle.im_octet.proofs.Common.{all-left, all-right}

-- a run is that of its first events, and then that of the others
abbrev Splits : Hash → Machine → List Event → List Output → List Event → List Output → Machine → Type 0
Splits hash m before told behind answered end = (mid : Machine) × Run hash m before told mid × Run hash mid behind answered end

run-splits : (hash : Hash) (m : Machine) (before : List Event) (told : List Output) (behind : List Event) (answered : List Output) (end : Machine) → length told ≡ length before
    → Run hash m (before ++ behind) (told ++ answered) end → Splits hash m before told behind answered end
run-splits hash m [] [] behind answered end many run = (m, refl, run)
run-splits hash m [] (o ∷ told) behind answered end many run = absurd (omega (arith, many))
run-splits hash m (e ∷ before) [] behind answered end many run = absurd (omega (arith, many))
run-splits hash m (e ∷ before) (o ∷ told) behind answered end many run =
    let rest : Splits hash run.0 before told behind answered end = run-splits hash run.0 before told behind answered end (omega (arith, many)) run.2 in
    (rest.0, (run.0, run.1, rest.1), rest.2)

-- a header that was told is durable, and that of what is placed
pub record IsTold (hash : Hash) (m : Machine) (number : ℕ) (header : Header) : Type 0 where
  pub some : 1 ≤ number
  pub durable : number ≤ m.durable
  pub is : header ≡ header_of hash m.placed number

told-of : (hash : Hash) (m next : Machine) (session number : ℕ) (header : Header) → IsSound hash m → Steps hash m (on.Ack session number) (tells.Header header) next → IsTold hash m number header
told-of hash m next session number header s (inl is) =
    let some : 1 ≤ number = is.0.1.some in
    let durable : number ≤ m.durable = is.0.1.within in
    let placed : m.durable ≤ length m.placed = s.order.durable_placed in
    let answered : tells.Header header ≡ tells.Header (header_of hash (take number m.placed) number) = is.1.0 in
    let same : header ≡ header_of hash (take number m.placed) number = cc in
    record { some = some; durable = durable; is = same ∙ header-prefix hash m.placed number number some (omega arith) (omega (arith, durable, placed)) }
told-of hash m next session number header s (inr denied) =
    absurd (let answered : tells.Header header ≡ tells.NotAllowed = denied.1 in let never : ⊥ = cc in never)

-- it is so wherever what is durable stays
told-on : (hash : Hash) (m end : Machine) (number : ℕ) (header : Header) → Stays m end → m.durable ≤ length m.placed → end.durable ≤ length end.placed → IsTold hash m number header
    → IsTold hash end number header
told-on hash m end number header stays before behind told =
    let more : m.durable ≤ end.durable = stays.more in
    let here : header_of hash (take m.durable m.placed) number ≡ header_of hash m.placed number = header-prefix hash m.placed number m.durable told.some told.durable before in
    let there : header_of hash (take m.durable end.placed) number ≡ header_of hash end.placed number =
    header-prefix hash end.placed number m.durable told.some told.durable (omega (arith, more, behind)) in
    record {
      some = told.some;
      durable = omega (arith, told.durable, more);
      is = told.is ∙ sym here ∙ ap (λ (l : List Transaction). header_of hash l number) (sym stays.same) ∙ there;
    }

-- behind a run in which it was told
module _ (hash : Hash) (before behind : List Event) (told answered : List Output) (session number : ℕ) (header : Header) (end : Machine) (gives : GivesDigests hash)
    (each : All IsEvent (before ++ on.Ack session number ∷ behind)) (many : length told ≡ length before)
    (run : Run hash start (before ++ on.Ack session number ∷ behind) (told ++ tells.Header header ∷ answered) end) where
  abbrev parts : Splits hash start before told (on.Ack session number ∷ behind) (tells.Header header ∷ answered) end
  parts = run-splits hash start before told (on.Ack session number ∷ behind) (tells.Header header ∷ answered) end many run

  mid-sound : IsSound hash parts.0
  mid-sound = sound-run hash start before told parts.0 gives (sound-start hash gives) (all-left IsEvent before (on.Ack session number ∷ behind) each) parts.1

  rest-each : All IsEvent (on.Ack session number ∷ behind)
  rest-each = all-right IsEvent before (on.Ack session number ∷ behind) each

  pub end-sound : IsSound hash end
  end-sound = sound-run hash parts.0 (on.Ack session number ∷ behind) (tells.Header header ∷ answered) end gives mid-sound rest-each parts.2

  pub end-told : IsTold hash end number header
  end-told =
      told-on hash parts.0 end number header (stays-run hash parts.0 (on.Ack session number ∷ behind) (tells.Header header ∷ answered) end gives mid-sound rest-each parts.2)
      mid-sound.order.durable_placed end-sound.order.durable_placed (told-of hash parts.0 parts.2.0 session number header mid-sound parts.2.1)

  -- and of each history that an image of the disk then stands for
  pub image-told : (image : Files) → Images end.disk image → (history : List Transaction) × Stands hash image history × (number ≤ length history) × (header ≡ header_of hash history number)
  image-told image now =
      let from : StandsFrom hash end.durable end.placed image = end-sound.images image now in
      let least : end.durable ≤ from.count = from.no_fewer in
      let within : number ≤ from.count = omega (arith, end-told.durable, least) in
      let front : List Transaction = take from.count end.placed in
      let size : length front ≡ from.count = length-take-le from.count end.placed from.no_more in (
        front,
        from.stands,
        omega (arith, within, size),
        end-told.is ∙ sym (header-prefix hash end.placed number from.count end-told.some within from.no_more),
      )
