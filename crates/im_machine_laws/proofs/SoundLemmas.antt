-- Events that leave the disk, and a crash.
use Rattle.std.proofs.Common.{◌≡◌, ◌==◌, ◌≤◌, ◌<◌, ◌+◌, ◌++◌, ◌∷◌, [], ℕ, List, length, true, false, Bool, max, refl, sym, subst, arith, ◌∙◌, if◌then◌else◌, Option, Some, None, length-append}
use Rattle.std.proofs.lemmas.Bool.{true≢false}
use Rattle.std.proofs.lemmas.List.Elements.{All-push, All-weaker}
use Rattle.im_digest.specs.Digests.{Hash}
use Rattle.im_disk.specs.Disk.{Images}
use Rattle.im_disk.specs.Records.{files_of, told_of}
use Rattle.im_format.specs.Standing.{StandsFrom}
use Rattle.im_journal.specs.Kept.{Batch}
use Rattle.im_journal.proofs.Longer.{batch_longer, rest_longer, front_longer}
use Rattle.im_machine.specs.Machines.{raised, Machine, Progress}
use Rattle.im_machine.specs.Steps.{loaded}
use Rattle.im_machine.specs.declared.words.Word.{Word}
use Rattle.im_machine.specs.declared.words.Word.TheVariants.{Placed, Durable, Linked, Indexed, Failed}
use Rattle.im_machine.proofs.StepLemmas.{with_tx}
use Rattle.im_machine_laws.proofs.Sound.{kept_as, telling, IsAsFar, IsHeld, IsSound}
use Rattle.im_model.specs.History.{IsHistory}
use Rattle.im_model.specs.declared.transactions.Transaction.{Transaction}

-- what the disk has of the history stays as the history goes on
far-longer : (hash : Hash) (m : Machine) (tx : Transaction) (progress : Option Progress) (b : Batch) → IsHistory (m.placed ++ tx ∷ [])
    → IsAsFar hash m progress b → IsAsFar hash (with_tx m tx) progress b
far-longer hash m tx None b is far = rest_longer telling hash m.placed (tx ∷ []) m.batches (kept_as m b) is far
far-longer hash m tx (Some p) b is far = (batch_longer telling hash m.placed (tx ∷ []) m.batches p.records (kept_as m b) is far.0, far.1)

-- another transaction behind the history
pub sound-placed : (hash : Hash) (m : Machine) (tx : Transaction) → IsSound hash m → m.up ≡ true → IsHistory (m.placed ++ tx ∷ []) → tx.bl ≤ m.linked
    → IsSound hash (with_tx m tx)
sound-placed hash m tx s up is over =
    let one : List Transaction = tx ∷ [] in
    let placed : m.durable ≤ length m.placed = s.order.durable_placed in
    record {
      history = is;
      order = record {
        least = All-push (λ (t : Transaction). t.bl ≤ m.linked) m.placed tx s.order.least over;
        linked_durable = s.order.linked_durable;
        indexed_durable = s.order.indexed_durable;
        durable_placed = omega (arith, placed, length-append m.placed one);
      };
      sessions = s.sessions;
      images = λ image now. front_longer hash m.placed one m.durable image (s.images image now);
      held = λ opened going. let h : IsHeld hash m = s.held opened going in (h.0, far-longer hash m tx m.progress h.0 is h.1);
      closed = λ down. absurd (true≢false (sym up ∙ down));
    }

-- a failure is told
pub sound-fault : (hash : Hash) (m : Machine) (failures : ℕ) → IsSound hash m → m.up ≡ true → IsSound hash (record m { failures = failures; stopped = true })
sound-fault hash m failures s up = record {
  history = s.history;
  order = s.order;
  sessions = s.sessions;
  images = s.images;
  held = λ opened going. absurd (true≢false going);
  closed = s.closed;
}

-- one more is linked
pub sound-link : (hash : Hash) (m : Machine) → IsSound hash m → m.linked < m.durable → IsSound hash (record m { linked = m.linked + 1 })
sound-link hash m s less = record {
  history = s.history;
  order = record {
    least = All-weaker (λ (t : Transaction). t.bl ≤ m.linked) (λ (t : Transaction). t.bl ≤ m.linked + 1) (λ t le. omega (arith, le)) m.placed s.order.least;
    linked_durable = omega (arith, less);
    indexed_durable = s.order.indexed_durable;
    durable_placed = s.order.durable_placed;
  };
  sessions = s.sessions;
  images = s.images;
  held = s.held;
  closed = s.closed;
}

-- one more is indexed
pub sound-index : (hash : Hash) (m : Machine) → IsSound hash m → m.indexed < m.durable → IsSound hash (record m { indexed = m.indexed + 1 })
sound-index hash m s less = record {
  history = s.history;
  order = record { least = s.order.least; linked_durable = s.order.linked_durable; indexed_durable = omega (arith, less); durable_placed = s.order.durable_placed };
  sessions = s.sessions;
  images = s.images;
  held = s.held;
  closed = s.closed;
}

-- a session is told of what is durable
raised-by : (is : Bool) (a n : ℕ) → a ≤ n → (if is then max a n else a) ≤ n
raised-by true a n le = omega (arith, le)
raised-by false a n le = le

raised-within : (sessions : ℕ → ℕ) (session n other : ℕ) → sessions other ≤ n → raised sessions session n other ≤ n
raised-within sessions session n other le = raised-by (other == session) (sessions other) n le

pub sound-load : (hash : Hash) (m : Machine) (session : ℕ) (word : Word) → IsSound hash m → IsSound hash (loaded m session word)
sound-load hash m session Placed s = s
sound-load hash m session Durable s = record {
  history = s.history;
  order = s.order;
  sessions = λ other. raised-within m.sessions session m.durable other (s.sessions other);
  images = s.images;
  held = s.held;
  closed = s.closed;
}
sound-load hash m session Linked s = s
sound-load hash m session Indexed s = s
sound-load hash m session Failed s = s

-- a crash leaves one of the images, and the files are those alone
pub sound-crash : (hash : Hash) (m : Machine) (image : List (List ℕ)) → IsSound hash m → Images m.disk (files_of image) → IsSound hash (record m { disk = told_of image []; up = false })
sound-crash hash m image s left = record {
  history = s.history;
  order = s.order;
  sessions = s.sessions;
  images = λ now same. subst (StandsFrom hash m.durable m.placed) (λ i k. sym (same k) i) (s.images (files_of image) left);
  held = λ up going. absurd (true≢false (sym up));
  closed = λ down. (image, refl);
}
