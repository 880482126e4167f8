-- An image in whose commit log no batch counts stands for the empty history alone.
use Rattle.std.proofs.Common.{◌≡◌, ◌<◌, ◌+◌, ℕ, List, [], ◌∷◌, map, refl, sym, ◌∙◌, arith}
use Rattle.im_digest.specs.Digests.{Hash}
use Rattle.im_disk.specs.Disk.{Files}
use Rattle.im_model.specs.declared.transactions.Transaction.{Transaction}
use Rattle.im_format.specs.Batches.{Counts, joined}
use Rattle.im_format.specs.Standing.{HasBatches, Stands}
use Rattle.im_format.specs.declared.records.Record.{Record}

pub none-stands : (hash : Hash) (image : Files) → (Counts (image 1) 0 → ⊥) → Stands hash image []
none-stands hash image none = record {
  batches = [];
  there = record {
    counted = λ b l. absurd (omega arith);
    last = none;
    filled = λ i d l. absurd (omega arith);
    reads = λ i d l. absurd (omega arith);
    lie = λ i d l. absurd (omega arith);
  };
  transactions_are = refl;
  history_is = record { few = omega arith; follow = tt };
  records_are = tt;
}

none-joined : (hash : Hash) (image : Files) (batches : List (List Record)) → (Counts (image 1) 0 → ⊥) → HasBatches image batches → map (λ r. r.tx) (joined batches) ≡ []
none-joined hash image [] none h = refl
none-joined hash image (batch ∷ batches) none h = absurd (none (h.counted 0 (omega arith)))

pub none-alone : (hash : Hash) (image : Files) (history : List Transaction) → (Counts (image 1) 0 → ⊥) → Stands hash image history → history ≡ []
none-alone hash image history none s = sym s.transactions_are ∙ none-joined hash image s.batches none s.there

pub empty-stands : (hash : Hash) → Stands hash (λ (file : ℕ). []) []
empty-stands hash = none-stands hash (λ (file : ℕ). []) (λ c. absurd (let whole : 0 + 25 < 0 = c.whole in omega arith))
