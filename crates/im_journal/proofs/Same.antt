-- When two journals are the same.
use Rattle.std.proofs.Common.{◌≡◌, ℕ, ◌∙◌, ap}
use Rattle.im_journal.specs.Kept.{Batch, Kept}
use Rattle.im_journal.specs.declared.ends.Ends.{Ends}

-- they have the same in each part
pub same_kept : {D : Type 0} (a b : Kept D) → a.disk ≡ b.disk → a.ends ≡ b.ends → a.durable ≡ b.durable → a.batch ≡ b.batch → a.failures ≡ b.failures → a ≡ b
same_kept {D} a b disk ends durable batch failures =
    let one : D → Kept D = λ d. record a { disk = d } in
    let two : Ends → Kept D = λ e. record a { disk = b.disk; ends = e } in
    let three : ℕ → Kept D = λ n. record a { disk = b.disk; ends = b.ends; durable = n } in
    let four : Batch → Kept D = λ t. record a { disk = b.disk; ends = b.ends; durable = b.durable; batch = t } in
    let five : ℕ → Kept D = λ n. record b { failures = n } in
    ap one disk ∙ ap two ends ∙ ap three durable ∙ ap four batch ∙ ap five failures
