-- The forces of a cell as they are handed over, face by face. Only contracts of private functions cite it.
use Rattle.std.specs.Prelude.{◌≡◌, cond, List, ℕ, eqb, ℤ}
use Rattle.whole.specs.Lists.{first_of}
use Rattle.job.specs.declared.Job.{Job}
use Rattle.job.specs.Carried.{carried}
use Rattle.job.specs.InOrder.{InOrder}
use Rattle.job.specs.Walk.{Accepted, judged}
use Rattle.worst.specs.declared.Axis.{Axis}
use Rattle.worst.specs.declared.Axis.TheVariants.{X, Y, Z}
use Rattle.worst.specs.declared.AxisForces.{AxisForces}
use Rattle.worst.specs.declared.FaceForces.{FaceForces}
use Rattle.worst.specs.declared.CellForces.{CellForces}
use Rattle.worst.specs.PerFace.{no_face_forces}

-- a job that is accepted, as what it carries
pub record Taken (j : Job) : Type 0 where
  pub order : InOrder (carried j)
  pub accepted : judged j ≡ Accepted (carried j)

-- of the first n faces
abbrev pub rows : ℕ → CellForces → List FaceForces
rows n forces = first_of no_face_forces n forces.face

-- at an alternative, and there on an axis
abbrev pub taken_at : FaceForces → ℕ → AxisForces
taken_at f k = cond (eqb k 1) f.first f.last

abbrev pub along_axis : Axis → AxisForces → ℤ
along_axis X f = f.x
along_axis Y f = f.y
along_axis Z f = f.z

abbrev pub force_in : Axis → FaceForces → ℕ → ℤ
force_in axis f k = along_axis axis (taken_at f k)
