-- `few::with_pressure` meets its contract: a call for each axis, at the weight there.
-- the weights, as the code makes them
use mathlib.Core.Path.{◌∙◌}
use Prim.Native.Nat.{◌≤◌}
use lib.IntN.{ℤ, nat_abs}
use mir.Syntax.{w64}
use Rattle.whole.proofs.Size.{Num, num≤, back, fit, bound, ◌⊗◌}
use Rattle.worst.specs.Few.{few_in}
use Rattle.worst.specs.Engine.{with_weight}
use Rattle.worst.proofs.few.with_pressure.Goals.{Start}
use Rattle.worst.proofs.few.with_pressure.Goals as goal

module _ (a : Start) where
  abbrev weight : (area : ℤ) → nat_abs area ≤ 100000 → Num
  weight area h = back w64 (num≤ a.args.pressure a.requires.3) tt ⊗ back w64 (num≤ area h) tt

  abbrev x : Num
  x = weight a.args.f.x a.requires.1.x

  abbrev y : Num
  y = weight a.args.f.y a.requires.1.y

  abbrev z : Num
  z = weight a.args.f.z a.requires.1.z

pub overflow_mul-pressure : goal.overflow_mul-pressure
overflow_mul-pressure c = fit {w = w64} (x (goal.at.overflow_mul-pressure c).Start) tt

pub with_weight-x-requires : goal.with_weight-x-requires
with_weight-x-requires c =
    (c.requires.0.x, c.requires.2, bound (back w64 (x (goal.at.with_weight-x-requires c).Start) tt))

pub overflow_mul-pressure-2 : goal.overflow_mul-pressure-2
overflow_mul-pressure-2 c = fit {w = w64} (y (goal.at.overflow_mul-pressure-2 c).Start) tt

pub with_weight-y-requires : goal.with_weight-y-requires
with_weight-y-requires c =
    (c.requires.0.y, c.requires.2, bound (back w64 (y (goal.at.with_weight-y-requires c).Start) tt))

pub overflow_mul-pressure-3 : goal.overflow_mul-pressure-3
overflow_mul-pressure-3 c = fit {w = w64} (z (goal.at.overflow_mul-pressure-3 c).Start) tt

pub with_weight-z-requires : goal.with_weight-z-requires
with_weight-z-requires c =
    (c.requires.0.z, c.requires.2, bound (back w64 (z (goal.at.with_weight-z-requires c).Start) tt))

pub returns : goal.returns
returns c =
    let at_start = (goal.at.returns c).Start in
    let o = c.args.o in
    let sums = c.args.sums in
    let gone-x = c.with_weight-x.ensures in
    let gone-y = c.with_weight-y.ensures in
    let gone-z = c.with_weight-z.ensures in (
      (λ j. record {
        x = (gone-x.0 ∙ (λ k. with_weight o ((back w64 (x at_start) tt).same k) (few_in sums.x))) j;
        y = (gone-y.0 ∙ (λ k. with_weight o ((back w64 (y at_start) tt).same k) (few_in sums.y))) j;
        z = (gone-z.0 ∙ (λ k. with_weight o ((back w64 (z at_start) tt).same k) (few_in sums.z))) j;
      }),
      λ n h. record { x = gone-x.1 n h.x; y = gone-y.1 n h.y; z = gone-z.1 n h.z },
    )
