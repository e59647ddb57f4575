-- `outside::place_of` meets its contract: the direction is read back as it is.
-- the magnitude is the direction's, which is at most four steps of 45 degrees
use mathlib.Core.Path.{◌≡◌, sym, ap, ◌∙◌, subst}
use Prim.Native.Nat.{ℕ, ◌+◌, ◌-◌, ◌*◌, ◌/◌, ◌<◌}
use native.Mathlib.Omega.{arith}
use lib.IntN.{nat_abs}
use Rattle.whole.proofs.Size.{said}
use Rattle.building.specs.Places.{A}
use Rattle.worst.specs.Table.{places}
use Rattle.worst.proofs.Table.{place-below}
use Rattle.worst.proofs.outside.place_of.Goals.{After-magnitude, Start}
use Rattle.worst.proofs.outside.place_of.Goals as goal

module _ (c : After-magnitude) where
  abbrev start : Start
  start = (goal.at.After-magnitude c).Start

  read : c.magnitude.result ≡ nat_abs start.args.direction
  read = said nat_abs start.args.direction c.magnitude.ensures start.ranges.direction.sfits

  steps : c.magnitude.result ≡ start.requires.turn * 45
  steps = read ∙ ap nat_abs start.requires.way

pub overflow_mul-result : goal.overflow_mul-result
overflow_mul-result c = omega (arith, steps c, c.requires.few)

pub overflow_add-result : goal.overflow_add-result
overflow_add-result c = omega (arith, steps c, c.requires.few, c.requires.from, c.requires.to)

pub returns : goal.returns
returns c =
    let e = ap (λ (n : ℕ). n / 45 * 8 + (c.args.zone - A)) (read c) in
    (e, subst (λ (n : ℕ). n < places) (sym e) (place-below c.args.direction c.args.zone c.requires))
