-- `fault_of` meets its contract: the entry that the numbers say, section by section.
-- a face laid as numbers is that face
use Prim.Native.Nat.{◌%◌, ◌≤◌}
use mathlib.Core.Path.{◌≡◌, ap, ◌∙◌}
use mathlib.Core.List.{List}
use native.Mathlib.Omega.{arith}
use lib.IntN.{ℤ}
use mir.Syntax.{w64}
use Rattle.whole.proofs.Size.{said, returned}
use Rattle.building.specs.declared.Building.{Building}
use Rattle.building.specs.Fault.{first}
use Rattle.building.specs.Building.{faults, building_fault}
use Rattle.building.specs.Year.{has_heights}
use Rattle.entry.specs.declared.Wind.{Wind}
use Rattle.entry.specs.declared.Face.{Face}
use Rattle.entry.specs.Says.{face_of}
use Rattle.entry.specs.Flat.{numbers_of, face_in}
use Rattle.rules.specs.Faults.{wind_faults, step_faults, face_faults}
use Rattle.sheet.specs.Said.{building_in, wind_in, step_in}
use Rattle.sheet.proofs.said.fault_of.Goals as goal

laid : (f : Face) → f.zone ≤ 90 → face_in (numbers_of f) 0 ≡ f
laid f h =
    let q : f.zone % 256 ≡ f.zone = omega arith in
    λ i. record { zone = q i; mark = f.mark; height = f.height; x = f.x; y = f.y; z = f.z }

pub returns-in-B : goal.returns-in-B
unfolding building_fault
returns-in-B c =
    let y = c.args.b.year in
    rw c.in-B.is
    (λ fs l e.
    said (λ (z : ℤ). first (faults z c.building_in.result)) y c.building_fault.ensures
    c.struct_told-1.given.0.1
    ∙ ap (λ (b : Building). first (faults y b)) c.building_in.ensures
    ∙ ap (λ (l : List ℤ). first (faults y (building_in l))) e)

pub returns-in-W : goal.returns-in-W
returns-in-W c =
    let g = c.args.b.building in
    rw c.in-W.is
    (λ fs l e.
    c.wind_fault.ensures
    ∙ ap (λ (w : Wind). first (wind_faults g w)) c.wind_in.ensures
    ∙ ap (λ (l : List ℤ). first (wind_faults g (wind_in l))) e)

pub returns-in-P : goal.returns-in-P
returns-in-P c =
    let z = c.args.b.highest in
    let high = (returned w64 z c.struct_told-in-P-1.given.1.1.1.0.1).same in
    rw c.in-P.is
    (λ fs l e.
    c.step_fault.ensures
    ∙ (λ i. first (step_faults (high i) (c.step_in.ensures i)))
    ∙ ap (λ (l : List ℤ). first (step_faults z (step_in l))) e)

pub returns-in-F : goal.returns-in-F
returns-in-F c =
    let b = c.args.b in
    rw c.in-F.is
    (λ fs l e.
    c.face_fault.ensures
    ∙ ap (λ (f : Face). first (face_faults b f))
    (c.face_in.ensures
    ∙ ap (λ (n : List ℤ). face_in n 0) e
    ∙ laid (face_of (has_heights b.year) fs) l))
