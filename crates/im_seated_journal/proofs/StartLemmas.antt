-- A journal at rest, as it is opened, serves what was found.
use Rattle.std.proofs.Common.{◌≡◌, ◌∙◌, ℕ, List, [], length, map, take, refl, sym, ap, arith, inl}
use Rattle.std.proofs.Math.Seq.{take-length}
use Rattle.std.proofs.lemmas.List.{length-map}
use Rattle.std.specs.Prelude.{Option}
use Rattle.im_digest.specs.Digests.{Hash}
use Rattle.im_disk.specs.Disk.{Files, Images, Told}
use Rattle.im_disk.proofs.Leaving.{if_told, leaves_nothing}
use Rattle.im_format.specs.Batches.{joined}
use Rattle.im_format.specs.Standing.{Stands, StandsFrom}
use Rattle.im_format.specs.declared.records.Record.{Record}
use Rattle.im_table.specs.Histories.{history_of}
use Rattle.im_table.specs.declared.items.LogItem.{LogItem}
use Rattle.im_table.proofs.FrontLemmas.{prefix_self}
use Rattle.im_table.proofs.HistoryLemmas.{history_length}
use Rattle.im_journal.specs.Kept.{IsAtRest, Kept}
use Rattle.im_journal.proofs.Mids.{rest_stands}
use Rattle.im_seated_journal.specs.Seats.{ServesItems, refs_in}
use Rattle.im_seated_journal.proofs.MadeLemmas.{opened_made}

pub rests_serve : {D : Type 0} (told : D → Option Told) (faults : D → ℕ) (hash : Hash) (items : List LogItem) (batches : List (List Record)) (k : Kept D)
    → IsAtRest told hash (history_of items) batches k → map (λ (r : Record). r.refs) (joined batches) ≡ refs_in items → k.durable ≡ length items → k.failures ≡ 0
    → ServesItems told faults hash items (told k.disk) (faults k.disk) items k
rests_serve {D} told faults hash items batches k rest refs all sound =
    let count : k.durable ≡ length (refs_in items) = all ∙ sym (length-map items (λ (x : LogItem). x.refs)) in
    let from : (image : Files) → Stands hash image (take k.durable (history_of items)) → StandsFrom hash (length items) (history_of items) image =
    λ image stands. record { count = k.durable; no_fewer = omega (arith, all); no_more = omega (arith, all, history_length items); stands = stands } in
    record {
      items = items;
      begins = prefix_self items;
      batches = batches;
      last = [];
      holds = inl rest;
      refs_are = refs ∙ sym (ap (λ (n : ℕ). take n (refs_in items)) count ∙ take-length (refs_in items));
      going = λ _. inl (rest, refl);
      old = omega (arith, all);
      rose = inl (omega (arith, sound));
      calm = λ _. refl;
      made = opened_made told hash items batches k rest all;
      moments = (
        leaves_nothing (StandsFrom hash (length items) (history_of items)) (told k.disk),
        if_told (λ t. (image : Files) → Images t image → Stands hash image (take k.durable (history_of items)))
            (λ t. (image : Files) → Images t image → StandsFrom hash (length items) (history_of items) image)
            (λ t h image now. from image (h image now)) (told k.disk) (rest_stands told hash (history_of items) batches k rest),
      );
    }
