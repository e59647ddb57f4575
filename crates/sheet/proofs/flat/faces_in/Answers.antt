-- `faces_in` meets its contract: after as many turns as `i`, the record holds the first so many faces.
use Prim.Native.Nat.{ℕ}
use mathlib.Core.Path.{◌≡◌, sym, ap, ◌∙◌}
use mathlib.Core.List.{List}
use native.Mathlib.Omega.{arith}
use lib.ListN.{set, replicate}
use Rattle.whole.specs.Lists.{first_of}
use Rattle.whole.proofs.Lists.{first_of-none, first_of-put}
use Rattle.entry.specs.declared.Face.{Face}
use Rattle.entry.specs.Flat.{faces_in}
use Rattle.entry.proofs.Flat.{faces-length, faces-none, faces-more}
use Rattle.job.specs.Carried.{no_face, most_faces}
use Rattle.sheet.proofs.flat.faces_in.Goals as goal

pub loop-i-init : goal.loop-i-init
loop-i-init c =
    ap (replicate most_faces) c.no_face-entry.ensures
    ∙ sym (first_of-none no_face most_faces)
    ∙ ap (first_of no_face most_faces) (sym (faces-none c.args.flat.now))

pub loop-i-preserved : goal.loop-i-preserved
loop-i-preserved c =
    let i = c.loop-i.i in
    let flat = c.args.flat.now in
    (λ k. set (c.loop-i.invariant k) (sym (faces-length i flat) k) (c.face_in.ensures k))
    ∙ sym (first_of-put no_face most_faces (faces_in i flat) _)
    ∙ ap (first_of no_face most_faces) (sym (faces-more i flat))

pub returns : goal.returns
returns c =
    let a = c.args in
    let e : c.loop-i.i ≡ a.n = omega arith in
    ap (λ (entry : List Face). record { count = a.n; entry = entry })
    (c.loop-i.invariant ∙ ap (λ (n : ℕ). first_of no_face most_faces (faces_in n a.flat.now)) e)
