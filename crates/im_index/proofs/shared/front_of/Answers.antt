use Rattle.std.proofs.Common.{◌≡◌, ◌<◌, ◌+◌, ◌*◌, ◌^◌, ℕ, suc, get_or, refl, ap, sym, ◌∙◌, arith}
use Rattle.im_index.specs.Fronts.{leading}
use Rattle.im_index.proofs.KeyFrontLemmas.{leading-fits, leading-more}
use Rattle.im_index.proofs.shared.front_of.Goals as goal

pub loop-i-init : goal.loop-i-init
unfolding leading
loop-i-init c = refl

pub overflow_mul-front : goal.overflow_mul-front
overflow_mul-front c =
    let octets : (i : ℕ) → get_or c.args.key.now i 0 < 256 = λ i. omega (arith, (c.type_inv.key i).fits) in
    let below : leading c.loop-i.i c.args.key.now < 256 ^ 7 = leading-fits c.loop-i.i c.args.key.now octets (omega arith) in
    omega (arith, c.loop-i.invariant)

pub overflow_add-front : goal.overflow_add-front
overflow_add-front c =
    let octets : (i : ℕ) → get_or c.args.key.now i 0 < 256 = λ i. omega (arith, (c.type_inv.key i).fits) in
    let below : leading c.loop-i.i c.args.key.now < 256 ^ 7 = leading-fits c.loop-i.i c.args.key.now octets (omega arith) in
    let octet : get_or c.args.key.now c.loop-i.i 0 < 256 = octets c.loop-i.i in
    omega (arith, c.loop-i.invariant, c.octet_at.ensures, c.from.ensures)

pub loop-i-preserved : goal.loop-i-preserved
loop-i-preserved c =
    let key = c.args.key.now in
    let more : leading (suc c.loop-i.i) key ≡ leading c.loop-i.i key * 256 + get_or key c.loop-i.i 0 = leading-more c.loop-i.i key in
    let next : c.loop-i.i + 1 ≡ suc c.loop-i.i = omega arith in
    let same : c.loop-i.front * 256 + c.from.result ≡ leading (suc c.loop-i.i) key =
    omega (arith, c.loop-i.invariant, c.octet_at.ensures, c.from.ensures) in
    same ∙ ap (λ (n : ℕ). leading n key) (sym next)

pub returns : goal.returns
returns c = record {
  front_is = c.loop-i.invariant ∙ ap (λ (n : ℕ). leading n c.args.key.now) (omega arith);
  octets = λ i. omega (arith, (c.type_inv.key i).fits);
}
