-- The anchor by the headers that are kept is the one by the transactions.
use Rattle.std.proofs.Common.{◌≡◌, ◌≤◌, ℕ, List, length, arith, ap, ◌∙◌, nat_lt, if◌then◌else◌, ◌&&◌, Some, None}
use Rattle.im_digest.specs.Digests.{Hash}
use Rattle.im_model.specs.History.{transaction_of}
use Rattle.im_model.specs.declared.headers.Header.{Header}
use Rattle.im_model.specs.declared.transactions.Transaction.{Transaction}
use Rattle.im_proof.specs.Between.{anchor_between, dual_between}
use Rattle.im_proof.specs.Built.{headers_of}
use Rattle.im_dual.specs.Kept.{header_at}
use Rattle.im_dual.proofs.KeptLemmas.{kept-bl}

pub anchor-same : (hash : Hash) (history : List Transaction) (headers : List Header) (s t : ℕ) → headers ≡ headers_of hash history → 1 ≤ s → s ≤ t → t ≤ length headers
    → (old size : ℕ) → old ≡ (header_at headers s).bl_tx_id → size ≡ (header_at headers t).bl_tx_id
    → (if nat_lt old size && nat_lt size s then Some (dual_between hash history size s) else None) ≡ anchor_between hash history s t
unfolding anchor_between
anchor-same hash history headers s t kept some order within old size old-is size-is =
    let one : old ≡ (transaction_of history s).bl = old-is ∙ kept-bl hash history headers s kept some (omega (arith, order, within)) in
    let two : size ≡ (transaction_of history t).bl = size-is ∙ kept-bl hash history headers t kept (omega (arith, some, order)) within in
    ap (λ (n : ℕ). if nat_lt n size && nat_lt size s then Some (dual_between hash history size s) else None) one
    ∙ ap (λ (n : ℕ). if nat_lt (transaction_of history s).bl n && nat_lt n s then Some (dual_between hash history n s) else None) two
