-- The forces of one face at its pressure number, as the code makes them. Only contracts of private functions cite it.
use Rattle.std.specs.Prelude.{cond, List, ◌-◌, ℤ, pos, ◌*ℤ◌, length, get_or}
use Rattle.building.specs.declared.Building.{Building}
use Rattle.book.specs.Answer.{values_of}
use Rattle.book.specs.Question.{outside_of, net}
use Rattle.entry.specs.declared.Wind.{Wind}
use Rattle.entry.specs.declared.Face.{Face}
use Rattle.worst.specs.declared.AxisForces.{AxisForces}
use Rattle.worst.specs.declared.FaceForces.{FaceForces}
use Rattle.worst.specs.declared.forces.Coefficients.{Coefficients}
use Rattle.worst.specs.declared.speeds.Factor.{Factor}
use Rattle.worst.specs.Speed.{speed_at}
use Rattle.worst.specs.Forces.{acts, pressure}
use Rattle.worst.specs.PerFace.{no_force}

-- how many outside coefficients there are, the first and the last
abbrev pub coefficients_of : List ℤ → Coefficients
coefficients_of outs =
    record { count = length outs; first = get_or outs 0 (pos 0); last = get_or outs (length outs - 1) (pos 0) }

abbrev pub coefficients_at : ℤ → Building → Wind → Face → Coefficients
coefficients_at year b w f = coefficients_of (values_of (outside_of year b w.direction f.zone))

-- at an outside coefficient
abbrev pub force_with : Face → ℤ → ℤ → ℤ → AxisForces
force_with f outside internal pressure =
    let n = net outside internal *ℤ pressure in
    record { x = n *ℤ f.x; y = n *ℤ f.y; z = n *ℤ f.z }

-- at its pressure number, where it takes part
abbrev pub forces_with : Face → Coefficients → ℤ → ℤ → FaceForces
forces_with f o internal pressure =
    record {
      count = o.count;
      first = force_with f o.first internal pressure;
      last = force_with f o.last internal pressure;
    }

-- under a wind at a factor
abbrev pub forces_by : ℤ → Building → Wind → Factor → ℤ → Face → FaceForces
forces_by year b w k internal f =
    cond (acts f w.direction)
    (forces_with f (coefficients_at year b w f) internal (pressure b.density (speed_at k w.speed)))
    (record { count = 1; first = no_force; last = no_force })
