-- `chosen::all_chosen` meets its contract: after i faces the alternatives of the first i stand in all six cases.
use mathlib.Core.Path.{◌≡◌}
use mathlib.Core.List.{List}
use Prim.Native.Nat.{ℕ}
use Rattle.whole.specs.Lists.{first_of}
use Rattle.entry.specs.declared.Step.{Step}
use Rattle.entry.specs.Flat.{faces_in}
use Rattle.job.specs.Carried.{no_face}
use Rattle.pair.specs.declared.Pair.{Pair}
use Rattle.worst.specs.declared.Axis.{Axis}
use Rattle.worst.specs.declared.Axis.TheVariants.{X, Y, Z}
use Rattle.worst.specs.declared.Side.{Side}
use Rattle.worst.specs.declared.Side.TheVariants.{Greatest, Least}
use Rattle.worst.specs.declared.Six.{Six}
use Rattle.worst.specs.declared.tops.Ends.{Ends}
use Rattle.worst.specs.declared.winds.CaseWind.{CaseWind}
use Rattle.worst.specs.declared.winds.SixWinds.{SixWinds}
use Rattle.worst.specs.Engine.{alternatives_of, six_with}
use Rattle.worst.specs.Factors.{FactorsStand}
use Rattle.worst.specs.Lent.{faces_by}
use Rattle.worst.proofs.chosen.all_chosen.Given as goal

abbrev pub at : Axis → Side → SixWinds → CaseWind
at X Greatest u = u.x.greatest
at X Least u = u.x.least
at Y Greatest u = u.y.greatest
at Y Least u = u.y.least
at Z Greatest u = u.z.greatest
at Z Least u = u.z.least

-- the six cases with these alternatives
abbrev pub six_at : Ends Pair → ℕ → (Axis → Side → List ℕ) → Six
six_at e n h = six_with e n (h X Greatest) (h X Least) (h Y Greatest) (h Y Least) (h Z Greatest) (h Z Least)

abbrev pub invariant-loop-i : goal.invariant-loop-i
invariant-loop-i l =
    (profile : List Step) → FactorsStand profile (faces_by l.faces l.flat) l.factors
    → l.six ≡ six_at l.fn.ends l.faces
    (λ axis s.
    alternatives_of axis s l.b profile (at axis s l.under).wind (first_of no_face l.i (faces_in l.faces l.flat)))
