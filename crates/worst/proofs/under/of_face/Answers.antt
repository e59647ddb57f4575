-- `under::of_face` meets its contract: the speed at the face's factor, and the pressure number of the wind there.
-- the year and the height, read back
use mathlib.Core.Path.{◌≡◌, sym, ap, ◌∙◌, subst}
use lib.IntN.{ℤ, pos}
use lib.Signed.{◌≤ℤ◌}
use mir.Syntax.{w64}
use mir.Val.{SFits, to_z, of_z}
use mir.ValLaws.{to_z-of_z}
use borrow.Author.Rules.{rules}
use Rattle.whole.proofs.Size.{Num, num≤, back, bound}
use Rattle.building.specs.Year.{has_heights}
use Rattle.worst.specs.declared.speeds.Factor.{Factor}
use Rattle.worst.specs.Speed.{factor_at, speed_at}
use Rattle.worst.specs.Forces.{factor_of, pressure}
use Rattle.worst.specs.Factors.{Height, profile_of, Fraction, steps_of}
use mathlib.Core.Bool.{cond}
use mathlib.Core.List.{[]}
use Rattle.worst.proofs.under.of_face.Goals.{After-factor_of-factor, Start}
use Rattle.worst.proofs.under.of_face.Goals as goal

year : (s : Start) → to_z w64 (of_z w64 s.args.job.year) ≡ s.args.job.year
year s = let fits : SFits w64 s.args.job.year = search rules in to_z-of_z w64 _ fits

height : (s : Start) → to_z w64 (of_z w64 s.args.f.height) ≡ s.args.f.height
height s = let fits : SFits w64 s.args.f.height = search rules in to_z-of_z w64 _ fits

-- the factor, and the wind's speed
module _ (c : After-factor_of-factor) where
  abbrev s : Start
  s = (goal.at.After-factor_of-factor c).Start

  factor : c.factor_of-factor.result ≡ factor_of (profile_of s.args.job) s.args.f
  factor =
      c.factor_of-factor.ensures
      ∙ (λ i. factor_at (cond (has_heights (year s i)) (steps_of s.args.job.profile) []) (height s i))

  fraction : Fraction c.factor_of-factor.result
  fraction = subst Fraction (sym factor) s.requires.2

  abbrev speed : Num
  speed = back w64 (num≤ s.args.w.speed s.requires.1.to) tt

pub factor_of-factor-requires : goal.factor_of-factor-requires
factor_of-factor-requires c h =
    let at_start = (goal.at.factor_of-factor-requires c).Start in
    let small = c.requires.3 (ap has_heights (sym (year at_start)) ∙ h) in
    (small.0, subst Height (sym (height at_start)) small.1)

pub speed_at-speed-requires : goal.speed_at-speed-requires
speed_at-speed-requires c =
    let at_factor_of_factor = (goal.at.speed_at-speed-requires c).After-factor_of-factor in
    let slow = c.requires.1 in (
      fraction at_factor_of_factor,
      subst (λ (z : ℤ). pos 0 ≤ℤ z) (sym (speed at_factor_of_factor).same) slow.from,
      bound (speed at_factor_of_factor),
    )

pub pressure_of-pressure-requires : goal.pressure_of-pressure-requires
pressure_of-pressure-requires c =
    (c.requires.0, c.requires.1, fraction (goal.at.pressure_of-pressure-requires c).After-factor_of-factor)

pub returns : goal.returns
returns c =
    let at_factor_of_factor = (goal.at.returns c).After-factor_of-factor in
    let w = c.args.w in
    let density = c.args.job.building.density in
    let speed-fits : SFits w64 c.speed_at-speed.result = search rules in
    let pressure-fits : SFits w64 c.pressure_of-pressure.result = search rules in
    let own : Factor → ℤ = λ k. speed_at k w.speed in
    let speed-is =
    to_z-of_z w64 _ speed-fits ∙ c.speed_at-speed.ensures
    ∙ ap (speed_at c.factor_of-factor.result) (speed at_factor_of_factor).same
    ∙ ap own (factor at_factor_of_factor) in
    let pressure-is =
    to_z-of_z w64 _ pressure-fits ∙ c.pressure_of-pressure.ensures
    ∙ ap (λ k. pressure density (own k)) (factor at_factor_of_factor) in
    λ i. record { acts = c.takes_part-acts.ensures i; speed = speed-is i; pressure = pressure-is i }
