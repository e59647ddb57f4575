-- A report line is that of an axis and a side, or there is none of its number.
use mathlib.Core.Path.{◌≡◌, refl, ap}
use mathlib.Core.Bool.{Bool, true, false, cond}
use Prim.Native.Nat.{ℕ}
use borrow.Author.Tests.{eqb-true}
use lib.Dec.{eqb}
use lib.IntN.{ℤ, pos, negsuc}
use Rattle.verdict.specs.Verdict.{refusal}
use Rattle.worst.specs.declared.Side.{Side}
use Rattle.worst.specs.declared.Side.TheVariants.{Greatest, Least}
use Rattle.worst.specs.declared.Axis.{Axis}
use Rattle.worst.specs.declared.Axis.TheVariants.{X, Y, Z}
use Rattle.worst.specs.declared.Six.{Six}
use Rattle.worst.specs.declared.AxisForces.{AxisForces}
use Rattle.worst.specs.Rows.{along_axis}
use Rattle.job.specs.Carried.{Carried}
use Rattle.worst.specs.Worst.{extreme, six_extremes, shown_in, line_number}
use Rattle.answers.specs.declared.Extreme.{Extreme}
use Rattle.answers.specs.Answers.{no_host_extreme, host_extreme, report_line, host_line}
use Rattle.column.specs.Column.{axis_of, number_on}

pub data Told (year : ℤ) (six : Six) (line : ℤ) : Extreme → Type 0 where
  one : (axis : Axis) (side : Side) → line ≡ pos (line_number axis side)
      → Told year six line (host_extreme year (shown_in six axis side))
  none : Told year six line (no_host_extreme (refusal 3 0))

pub line-told : (year : ℤ) (six : Six) (line : ℤ) → Told year six line (host_line year six line)
unfolding report_line
line-told year six (negsuc n) = none
line-told year six (pos n) =
    pick 1 (is X Greatest) (pick 2 (is X Least) (pick 3 (is Y Greatest) (pick 4 (is Y Least) (pick 5 (is Z Greatest)
    (pick 6 (is Z Least) none)))))
  where
    is : (axis : Axis) (side : Side) → n ≡ line_number axis side
        → Told year six (pos n) (host_extreme year (shown_in six axis side))
    is axis side e = one axis side (ap (λ k. pos k) e)

    pick : (k : ℕ) {x y : Extreme} → (n ≡ k → Told year six (pos n) x) → Told year six (pos n) y
        → Told year six (pos n) (cond (eqb n k) x y)
    pick k {x} {y} this that = go (eqb n k) refl
      where
        go : (t : Bool) → eqb n k ≡ t → Told year six (pos n) (cond t x y)
        go true e = this (eqb-true n k e)
        go false e = that

-- and its axis is that of the line
pub axis-told : (axis : Axis) (side : Side) → axis_of (pos (line_number axis side)) ≡ axis
axis-told X Greatest = refl
axis-told X Least = refl
axis-told Y Greatest = refl
axis-told Y Least = refl
axis-told Z Greatest = refl
axis-told Z Least = refl

-- of the forces of a face that of the line's axis
pub along-is : (axis : Axis) (f : AxisForces) → number_on axis f.x f.y f.z ≡ along_axis axis f
along-is X f = refl
along-is Y f = refl
along-is Z f = refl

-- ---- of six extremes that of a line, and of a job's six that of an axis and a side

pub line-is : (year : ℤ) (six : Six) (axis : Axis) (side : Side)
    → report_line year six (line_number axis side) ≡ host_extreme year (shown_in six axis side)
unfolding report_line
line-is year six X Greatest = refl
line-is year six X Least = refl
line-is year six Y Greatest = refl
line-is year six Y Least = refl
line-is year six Z Greatest = refl
line-is year six Z Least = refl

pub one-is : (c : Carried) (axis : Axis) (side : Side) → shown_in (six_extremes c) axis side ≡ extreme axis side c
unfolding six_extremes
one-is c X Greatest = refl
one-is c X Least = refl
one-is c Y Greatest = refl
one-is c Y Least = refl
one-is c Z Greatest = refl
one-is c Z Least = refl
