-- `face_fault` meets its contract.
use mathlib.Core.Bool.{Bool, cond}
use mathlib.Core.Path.{◌≡◌, sym, ap, ◌∙◌}
use Rattle.whole.proofs.Size.{said}
use Rattle.building.specs.Test.{too_long}
use Rattle.building.specs.Fault.{first}
use Rattle.entry.specs.declared.Face.{Face}
use Rattle.building.specs.Year.{has_heights}
use Rattle.entry.specs.Says.{carried_face}
use Rattle.rules.specs.Faults.{face_faults}
use Rattle.job.proofs.Written.{mark_too_long, any, long, face-given, long-by}
use Rattle.job.proofs.given.face_fault.Goals as goal

pub returns : goal.returns
returns c =
    let a = c.args in
    let f = c.carried_face-f.result in
    let q = c.struct_told-2-1.given.1 in
    let carries : f ≡ carried_face (has_heights a.b.year) a.face =
    c.carried_face-f.ensures
    ∙ ap (λ (t' : Bool). carried_face t' a.face)
    (said has_heights a.b.year c.has_heights.ensures c.struct_told-1.given.0.1) in
    long-by (said mark_too_long f.mark c.mark_too_long.ensures q.0.1)
    (said too_long f.height c.too_long.ensures q.1.0.1)
    (said too_long f.x c.too_long-2.ensures q.1.1.0.1)
    (said too_long f.y c.too_long-3.ensures q.1.1.1.0.1)
    (said too_long f.z c.too_long-4.ensures q.1.1.1.1.0.1) c.face_fault.ensures
    c.in_form.ensures
    ∙ ap (λ (g : Face). cond (any (long g)) 1 (first (face_faults a.b g))) carries
    ∙ sym (face-given a.b a.face)
