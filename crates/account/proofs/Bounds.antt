-- A face of a job under the case that a report line shows: what the code finds, and how large it is.
use mathlib.Core.Path.{◌≡◌, refl, sym, ap, ◌∙◌, subst}
use mathlib.Core.Bool.{Bool, true, false, cond, ◌&&◌}
use Prim.Native.Nat.{ℕ, ◌-◌, ◌≤◌}
use native.Mathlib.Omega.{arith}
use borrow.Author.Tests.{le-leb}
use lib.IntN.{ℤ, pos, nat_abs, ◌*ℤ◌}
use lib.ListN.{get_or}
use Rattle.whole.proofs.Size.{minus-small, times-small}
use Rattle.book.specs.Answer.{Answer}
use Rattle.book.specs.Question.{outside_of, net}
use Rattle.entry.specs.declared.Wind.{Wind}
use Rattle.entry.specs.declared.Face.{Face}
use Rattle.job.specs.declared.Job.{Job}
use Rattle.job.specs.Carried.{carried, no_wind, no_face}
use Rattle.job.specs.Walk.{judged}
use Rattle.worst.specs.declared.Axis.{Axis}
use Rattle.worst.specs.declared.Axis.TheVariants.{X, Y, Z}
use Rattle.worst.specs.declared.UnderWind.{UnderWind}
use Rattle.worst.specs.Forces.{Given, acts, factor_of, area, wind_at, internal_at, face_at}
use Rattle.worst.specs.Worst.{given}
use Rattle.worst.specs.Factors.{profile_of}
use Rattle.worst.specs.Small.{Met}
use Rattle.worst.specs.Rows.{Taken}
use Rattle.worst.specs.UnderWind.{under_wind, under_in}
use Rattle.worst.proofs.CarriedFaces.{as_carried}
use Rattle.worst.proofs.PerFace.{internal-numbered}
use Rattle.worst.proofs.Ranges.{pressure-small}
use Rattle.worst.proofs.Rows.{ready}
use Rattle.worst.proofs.FaceUnder.{face-numbered, under-numbered, under-counted}
use Rattle.column.specs.Column.{number_on}
use Rattle.account.specs.declared.steps.CaseOf.{CaseOf}
use Rattle.account.specs.Coefficients.{outside_in, face_coefficients, no_coefficients}
use Rattle.account.proofs.Case.{Numbers}

net-low : (o i : ℤ) → nat_abs o ≤ 1200 → nat_abs i ≤ 100 → nat_abs (net o i) ≤ 2200
net-low o i h l = minus-small o (i *ℤ pos 10) h (times-small i (pos 10) {k = 100} {l = 10} l (omega arith))

pub shown-low : (t : Bool) (a : Answer) (k : ℕ) (i : ℤ) → nat_abs (outside_in a k) ≤ 1200 → nat_abs i ≤ 100
    → nat_abs (cond t (face_coefficients a k i) no_coefficients).net ≤ 2200
shown-low true a k i h l = net-low (outside_in a k) i h l
shown-low false a k i h l = omega arith

-- of a face's areas that of an axis
pub area-is : (axis : Axis) (f : Face) → number_on axis f.x f.y f.z ≡ area axis f
area-is X f = refl
area-is Y f = refl
area-is Z f = refl

-- a height is no part of an area
pub area-carried : (j : Job) (axis : Axis) (f : Face) → area axis f ≡ area axis (as_carried j f)
area-carried j X f = refl
area-carried j Y f = refl
area-carried j Z f = refl

both : {s t : Bool} → s ≡ true → t ≡ true → (s && t) ≡ true
both p q = rw (p, q)

module _ (j : Job) (t : Taken j) (w i k : ℕ) (n : Numbers j w i) (from : 1 ≤ k) (to : k ≤ j.faces.count) where
  abbrev g : Given
  g = given (carried j)

  abbrev u : Wind
  u = wind_at g w

  abbrev f : Face
  f = get_or j.faces.entry (k - 1) no_face

  pub met : Met j.building (get_or j.winds.entry (w - 1) no_wind) f
  met = ((ready j t).met (w - 1) (omega (arith, n.wind-low, n.wind-high))).each (k - 1) (omega arith)

  -- the wind there
  pub under-is : under_in w k (judged j) ≡ under_wind g u (face_at g k)
  under-is =
      ap (under_in w k) t.accepted
      ∙ under-counted j w k true true (both (le-leb 1 w n.wind-low) (le-leb w _ n.wind-high))
      (both (le-leb 1 k from) (le-leb k _ to))

  pub under_low : nat_abs (under_wind g u (face_at g k)).pressure ≤ 1500000000
  under_low =
      subst (λ (x : UnderWind). nat_abs x.pressure ≤ 1500000000)
      (under-numbered j w k n.wind-low n.wind-high from to)
      (pressure-small j.building.density (factor_of (profile_of j) f) (get_or j.winds.entry (w - 1) no_wind).speed
      met.dense ((ready j t).factors (k - 1) (omega arith)) met.slow.to)

  -- the internal coefficient
  pub internal-low : nat_abs (internal_at g i) ≤ 100
  internal-low =
      subst (λ (z : ℤ). nat_abs z ≤ 100) (sym (internal-numbered j w i n.internal-low n.internal-high))
      ((ready j t).internals.1 (i - 1) (omega (arith, n.internal-low, n.internal-high)))

  -- the coefficients, by the record's face and by the carried one
  pub coefficients-same : (a : ℕ) (x : UnderWind) (c : CaseOf) → x ≡ under_wind g u (face_at g k)
      → c ≡ record { wind = u; internal = internal_at g i }
      → cond x.acts (face_coefficients (outside_of j.year j.building c.wind.direction f.zone) a
      c.internal) no_coefficients
      ≡ cond (acts (face_at g k) u.direction) (face_coefficients (outside_of (carried j).year (carried j).building
      u.direction (face_at g k).zone) a (internal_at g i)) no_coefficients
  unfolding carried
  coefficients-same a x c ex ec =
      let e = sym (face-numbered j k from to) in
      λ m. cond (ex m).acts (face_coefficients (outside_of j.year j.building (ec m).wind.direction (e m).zone) a
      (ec m).internal) no_coefficients
