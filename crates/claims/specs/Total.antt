-- What the total of a case is: the sum over the faces, each with its net coefficient as the question answers it,
-- formula [3.2.8].
use Rattle.std.specs.Prelude.{◌≡◌, true, false, List, [], ◌∷◌, ℕ, ◌-◌, ◌≤◌, ◌<◌, ℤ, pos, ◌+ℤ◌, ◌*ℤ◌, length, get_or}
use Rattle.entry.specs.declared.Wind.{Wind}
use Rattle.entry.specs.declared.Face.{Face}
use Rattle.job.specs.Carried.{Carried}
use Rattle.book.specs.Answer as book
use Rattle.book.specs.Answer.{values_of}
use Rattle.worst.specs.declared.Axis.{Axis}
use Rattle.worst.specs.Forces.{acts, face_speed, pressure, area}
use Rattle.claims.specs.Question.{Net}

module _ (c : Carried) (axis : Axis) (w : Wind) (internal : ℤ) where
  -- "A face's force on an axis is net coefficient × P × projected area": at its alternative k, from 1
  pub data Force (f : Face) : ℕ → ℤ → Type 0 where
    acting : {k : ℕ} {r : book.Answer} → acts f w.direction ≡ true
        → Net c.year c.building w.direction f.zone internal r → 0 < k → k ≤ length (values_of r)
        → Force f k (get_or (values_of r) (k - 1) (pos 0) *ℤ pressure c.building.density (face_speed c.profile w f)
        *ℤ area axis f)
    -- "A face marked for one wind direction adds nothing under the other and has one alternative there, number 1."
    idle : acts f w.direction ≡ false → Force f 1 (pos 0)

  -- faces at their alternatives
  pub data Total : List Face → List ℕ → ℤ → Type 0 where
    none : Total [] [] (pos 0)
    face : {f : Face} {fs : List Face} {k : ℕ} {ks : List ℕ} {u v : ℤ} → Force f k u → Total fs ks v
        → Total (f ∷ fs) (k ∷ ks) (u +ℤ v)
