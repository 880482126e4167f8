-- A factor by the depth that is left.
use Rattle.std.proofs.Common.{◌≡◌, ℕ, zero, suc, ◌-◌, ◌<◌, Bool, true, false, cond, Err, ap, ◌∙◌, arith}
use Rattle.im_sqlparse.specs.declared.errors.SyntaxKind.TheVariants.{Deep}
use Rattle.im_sqlparse.specs.Input.{Input, kind, fault_at}
use Rattle.im_sqlparse.specs.Conditions.{opens, factor, deeper, comparison}

-- neither NOT nor a parenthesis comes next
pub level : (rev : Bool) (depth : ℕ) (i : Input) → opens (kind i) ≡ false → factor rev depth i ≡ comparison rev i
unfolding factor
level rev zero i o = ap (λ b. cond b (Err (fault_at Deep i)) (comparison rev i)) o
level rev (suc depth) i o = ap (λ b. cond b (deeper (factor rev depth) i) (comparison rev i)) o

-- one comes next, and none may
pub at_bottom : (rev : Bool) (depth : ℕ) (i : Input) → depth ≡ 0 → opens (kind i) ≡ true → factor rev depth i ≡ Err (fault_at Deep i)
unfolding factor
at_bottom rev zero i none o = ap (λ b. cond b (Err (fault_at Deep i)) (comparison rev i)) o
at_bottom rev (suc depth) i none o = absurd (omega arith)

-- one comes next, and may
pub one_deeper : (rev : Bool) (depth : ℕ) (i : Input) → 0 < depth → opens (kind i) ≡ true → factor rev depth i ≡ deeper (factor rev (depth - 1)) i
unfolding factor
one_deeper rev zero i some o = absurd (omega arith)
one_deeper rev (suc depth) i some o =
    let e : depth ≡ suc depth - 1 = omega arith in
    ap (λ b. cond b (deeper (factor rev depth) i) (comparison rev i)) o ∙ ap (λ n. deeper (factor rev n) i) e
