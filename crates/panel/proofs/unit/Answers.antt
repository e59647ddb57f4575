-- `unit`: p is 2 ^ k for a k that is no more than the digits to be dropped.
use Prim.Native.Nat.{ℕ, ◌≤◌, ◌<◌, ◌-◌, ◌*◌, ◌^◌, ◌+◌, zero-le}
use mathlib.Core.Path.{◌≡◌, refl, ap, ◌∙◌}
use native.Mathlib.Nat.{le-div_iff_mul-le, le_trans, pow-suc}
use native.Mathlib.Numerals.{add-one}
use native.Mathlib.Omega.{arith}
use lib.Pow.{pow_pos, pow_mono}
use lib.Ieee.{size}
use Rattle.panel.proofs.Gap.{gap_more, gap-reached, dropped-few}
use Rattle.panel.proofs.unit.Goals.{In-loop-p}
use Rattle.panel.proofs.unit.Goals as goal

-- within the body
abbrev k : In-loop-p → ℕ
k c = c.loop-p.invariant.0

doubled : (c : In-loop-p) → c.loop-p.p * 2 ≡ 2 ^ (k c + 1)
doubled c = ap (λ (p : ℕ). p * 2) c.loop-p.invariant.1 ∙ rw (add-one, pow-suc)

more : (c : In-loop-p) → k c + 1 ≤ size c.args.m - 53
more c = gap_more c.args.m (k c) (rw c.loop-p.invariant.1 at c.loop-p-test.true)

pub loop-p-init : goal.loop-p-init
loop-p-init c = (0, refl, zero-le)

pub nonzero_div-m : goal.nonzero_div-m
nonzero_div-m c = rw c.loop-p.invariant.1 (pow_pos c.loop-p.invariant.0)

pub overflow_mul-p : goal.overflow_mul-p
overflow_mul-p c =
    let e : c.loop-p.p * 2 ≡ 2 ^ (k c + 1) = doubled c in
    let h =
    pow_mono (le_trans (more c) (dropped-few c.args.m c.ranges.m.fits)) in
    omega arith

pub loop-p-smaller : goal.loop-p-smaller
loop-p-smaller c =
    let z : 0 < c.loop-p.p = rw c.loop-p.invariant.1 (pow_pos (k c)) in
    let h : 2 ^ 53 * c.loop-p.p ≤ c.args.m = (le-div_iff_mul-le z).0 c.loop-p-test.true in
    omega arith

pub loop-p-preserved : goal.loop-p-preserved
loop-p-preserved c = (k c + 1, doubled c, more c)

pub returns : goal.returns
returns c =
    let i = c.loop-p.invariant in
    i.1 ∙ gap-reached c.args.m i.0 (rw i.1 at c.loop-p-test.false) i.2
