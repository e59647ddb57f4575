-- `of_size`: the unit and what is left of m by it are small enough for both casts, and the products are those of
-- `of_size`.
-- what `unit` returned is the gap, and has its laws
use Prim.Native.Nat.{◌≤◌, ◌<◌, ◌/◌, ◌^◌}
use native.Mathlib.Nat.{le_of_lt}
use native.Mathlib.Omega.{arith}
use Rattle.panel.proofs.Gap.{gap-pos, gap-small, kept_small}
use Rattle.panel.proofs.Product.{cast-exact, exact-is, between_is}
use Rattle.panel.proofs.of_size.Goals.{After-unit-p}
use Rattle.panel.proofs.of_size.Goals as goal

positive : (c : After-unit-p) → 0 < c.unit-p.result
positive c = rw c.unit-p.ensures (gap-pos c.args.m)

small : (c : After-unit-p) → c.unit-p.result ≤ 2 ^ 53
small c = rw c.unit-p.ensures (gap-small c.args.m c.ranges.m.fits)

kept : (c : After-unit-p) → c.args.m / c.unit-p.result < 2 ^ 53
kept c = rw c.unit-p.ensures (kept_small c.args.m)

pub nonzero_div-q : goal.nonzero_div-q
nonzero_div-q c = positive c

pub int_to_float-low : goal.int_to_float-low
int_to_float-low c = cast-exact _ (le_of_lt (kept (goal.at.int_to_float-low c).After-unit-p))

pub int_to_float-low-2 : goal.int_to_float-low-2
int_to_float-low-2 c = cast-exact _ (small (goal.at.int_to_float-low-2 c).After-unit-p)

pub nonzero_rem-m : goal.nonzero_rem-m
nonzero_rem-m c = positive (goal.at.nonzero_rem-m c).After-unit-p

pub returns-then-m-p-eq0 : goal.returns-then-m-p-eq0
returns-then-m-p-eq0 c =
    exact-is c.args.m c.ranges.m.fits c.unit-p.result c.unit-p.ensures c.if-m-p-eq0.true

pub overflow_add-next : goal.overflow_add-next
overflow_add-next c = omega (arith, kept (goal.at.overflow_add-next c).After-unit-p)

pub int_to_float-high : goal.int_to_float-high
int_to_float-high c = cast-exact _ (omega (arith, kept (goal.at.int_to_float-high c).After-unit-p))

pub int_to_float-high-2 : goal.int_to_float-high-2
int_to_float-high-2 c = cast-exact _ (small (goal.at.int_to_float-high-2 c).After-unit-p)

pub returns : goal.returns
returns c =
    between_is c.args.m c.ranges.m.fits c.unit-p.result c.unit-p.ensures
    c.if-m-p-eq0.false
