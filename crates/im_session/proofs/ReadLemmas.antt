-- What is read behind the first transactions, and several calls.
use Rattle.std.proofs.Common.{◌≡◌, ℕ, [], length, take, arith, sym}
use Rattle.std.proofs.lemmas.List.{length-take-le}
use Rattle.im_dealing.specs.Shown.{ShowsKeys}
use Rattle.im_index.specs.Indexed.{Indexed}
use Rattle.im_store.proofs.GainLemmas.{gains_before}
use Rattle.im_store.specs.Gains.{Gains}
use Rattle.im_table.proofs.HistoryLemmas.{history_length}
use Rattle.im_table.proofs.PassLemmas.{later_both}
use Rattle.im_table.specs.Histories.{history_of}
use Rattle.im_table.specs.Known.{KnownPass}
use Rattle.im_table.specs.Passes.{Later}

-- so many are shown
pub keys_length : (p : KnownPass) (n : ℕ) (keys : Indexed) → ShowsKeys p n keys → n ≡ length (take n (history_of p.view.seen))
keys_length p n keys shown = sym (length-take-le n (history_of p.view.seen) (omega (arith, shown.seen, history_length p.view.seen)))

-- three calls
pub later_thrice : (a b c d : KnownPass) → Later a b → Later b c → Later c d → Later a d
later_thrice a b c d l m n = later_both a c d (later_both a b c l m) n

pub gains_thrice : (a b c d : KnownPass) → Gains [] 0 0 a b → Gains [] 0 0 b c → Gains [] 0 0 c d → Gains [] 0 0 a d
gains_thrice a b c d g h k = gains_before 0 0 a c d (gains_before 0 0 a b c g h) k
