-- The case that a report line shows: its wind and its internal coefficient are ones that the job has.
use mathlib.Core.Path.{◌≡◌, sym, subst}
use Prim.Native.Nat.{ℕ, ◌≤◌}
use native.Mathlib.Omega.{arith}
use lib.IntN.{ℤ}
use lib.ListN.{length}
use Rattle.whole.proofs.Numbers.{numbers-member}
use Rattle.job.specs.declared.Job.{Job}
use Rattle.job.specs.Carried.{carried}
use Rattle.worst.specs.declared.Side.{Side}
use Rattle.worst.specs.declared.Axis.{Axis}
use Rattle.worst.specs.declared.Extreme as worst
use Rattle.worst.specs.Worst.{given, six_extremes, extreme}
use Rattle.worst.specs.Rows.{Taken}
use Rattle.worst.proofs.Rows.{winds-counted, internals-counted}
use Rattle.answers.specs.declared.Extreme.{Extreme}
use Rattle.answers.specs.Answers.{host_line}
use Rattle.column.proofs.OfCase as shows
use Rattle.column.proofs.ReportLines.{Told, one, none, line-told, one-is}

pub record Numbers (j : Job) (wind internal : ℕ) : Type 0 where
  pub wind-low : 1 ≤ wind
  pub wind-high : wind ≤ j.winds.count
  pub internal-low : 1 ≤ internal
  pub internal-high : internal ≤ j.internals.count

module _ (j : Job) (t : Taken j) where
  on-axis : (axis : Axis) (side : Side) → let e = extreme axis side (carried j) in Numbers j e.wind e.internal
  on-axis axis side =
      let g = given (carried j) in
      let p = shows.permitted (carried j) t.order axis side in
      let w = numbers-member (length g.winds) 1 p.wind in
      let i = numbers-member (length g.internals) 1 p.internal in
      subst (λ (e : worst.Extreme). Numbers j e.wind e.internal)
      (sym (shows.named (carried j) t.order axis side))
      (record {
        wind-low = w.low;
        wind-high = omega (arith, w.high, winds-counted j t);
        internal-low = i.low;
        internal-high = omega (arith, i.high, internals-counted j t);
      })

  by-told : {year line : ℤ} {x : Extreme} → Told year (six_extremes (carried j)) line x → x.verdict.number ≡ 0
      → Numbers j x.wind x.internal
  by-told (one axis side h) z =
      subst (λ (e : worst.Extreme). Numbers j e.wind e.internal) (sym (one-is (carried j) axis side))
      (on-axis axis side)
  by-told none z = absurd (omega (arith, z))

  pub case-numbers : (line : ℤ) (x : Extreme) → x ≡ host_line (carried j).year (six_extremes (carried j)) line
      → x.verdict.number ≡ 0 → Numbers j x.wind x.internal
  case-numbers line x e z =
      by-told (subst (Told (carried j).year (six_extremes (carried j)) line) (sym e)
      (line-told (carried j).year (six_extremes (carried j)) line)) z
