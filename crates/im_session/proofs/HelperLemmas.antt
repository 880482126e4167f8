-- What runs beside the sessions: a call that places nothing leaves its pass that of a helper; and sessions that ended one by one in their list.
use Rattle.std.proofs.Common.{◌≡◌, ℕ, ◌-◌, ◌<◌, ◌++◌, List, [], length, take, drop, Result, Ok, Err, OnErr, ap, sym, ◌∙◌, subst, arith, append-nil, slice_index_or}
use Rattle.std.specs.Prelude.{IfOk}
use Rattle.std.proofs.Math.Seq.{take-append_seam}
use Rattle.im_dealing.proofs.LineLemmas.{pass_later}
use Rattle.im_dealing.specs.Phases.{AreDone}
use Rattle.im_dealing.specs.Runs.{IsDone, IsHelper, IsIdle}
use Rattle.im_dealing.specs.declared.sessions.Session.{Session}
use Rattle.im_digest.specs.Digests.{Hash}
use Rattle.im_store.specs.Gains.{Gains}
use Rattle.im_store.specs.Growth.{IsLinked}
use Rattle.im_table.specs.Known.{KnownPass, TableId}
use Rattle.im_table.specs.Passes.{Later}

pub helper_on : (table : TableId) (old new : KnownPass) (more : ℕ) → IsHelper table old → Later old new → Gains [] more 0 old new → IsHelper table new
helper_on table old new more h l g = record {
  pass = pass_later table old new h.pass l;
  weight = l.weight ∙ h.weight;
  none = g.own ∙ (append-nil old.view.own ∙ h.none);
  calm = omega (arith, g.faults, h.calm);
}

-- one that linked, or had no memory for it
pub linked_on : {E : Type 0} (table : TableId) (old new : KnownPass) (most : ℕ) (linked : Result ℕ E) → IsHelper table old → Later old new
    → IfOk linked (λ size. (before : ℕ) × IsLinked old new most before size × Gains [] (size - before) 0 old new) → OnErr linked (Gains [] 0 0 old new) → IsHelper table new
linked_on table old new most (Ok size) h l ok err = helper_on table old new (size - ok.0) h l ok.2
linked_on table old new most (Err e) h l ok err = helper_on table old new 0 h l err

-- one that links nothing
pub idle_on : (table : TableId) (old new : KnownPass) → IsIdle table old → Later old new → Gains [] 0 0 old new → IsIdle table new
idle_on table old new i l g = record { helper = helper_on table old new 0 i.helper l g; leaves = omega (arith, g.leaves, i.leaves) }

pub done_slice : (hash : Hash) (table : TableId) (before after : List Session) (n : ℕ) → n ≡ length before → length after ≡ length before
    → ((i : ℕ) (d : Session) → i < length before → IsDone hash table (slice_index_or before i d) (slice_index_or after i d)) → AreDone hash table before (take n (after ++ drop (length after) before))
done_slice hash table before after n e len each =
    let same : n ≡ length after = e ∙ sym len in
    let whole : take n (after ++ drop (length after) before) ≡ after = ap (λ (k : ℕ). take k (after ++ drop (length after) before)) same ∙ take-append_seam after (drop (length after) before) in
    subst (λ (l : List Session). AreDone hash table before l) (sym whole) (record { many = len; each = each })
