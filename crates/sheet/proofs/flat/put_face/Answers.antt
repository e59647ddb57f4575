-- `put_face` meets its contract: each number of the face is read back as it is.
use Prim.Native.Nat.{◌*◌}
use mathlib.Core.Path.{◌≡◌, ap, ◌∙◌}
use mathlib.Core.List.{List, [], ◌∷◌}
use native.Mathlib.Omega.{arith}
use lib.Seq.{sets}
use mir.Syntax.{w64}
use lib.IntN.{ℤ}
use mir.Val.{to_z, of_z}
use mir.ValLaws.{to_z-of_z}
use Rattle.entry.specs.Flat.{per_face, numbers_of}
use Rattle.sheet.proofs.Plain.{byte-back}
use borrow.Author.Rules.{rules}
use Rattle.sheet.proofs.flat.put_face.Goals.{Start}
use Rattle.sheet.proofs.flat.put_face.Goals as goal

numbers : (c : Start)
    → ◌≡◌ {A = List ℤ}
    (to_z w64 c.args.f.zone
    ∷ to_z w64 (of_z w64 c.args.f.mark)
    ∷ to_z w64 (of_z w64 c.args.f.height)
    ∷ to_z w64 (of_z w64 c.args.f.x)
    ∷ to_z w64 (of_z w64 c.args.f.y)
    ∷ to_z w64 (of_z w64 c.args.f.z)
    ∷ [])
    (numbers_of c.args.f)
numbers c =
    let f = c.args.f in
    λ i.
    byte-back f.zone (omega arith) i
    ∷ to_z-of_z w64 f.mark (search rules) i
    ∷ to_z-of_z w64 f.height (search rules) i
    ∷ to_z-of_z w64 f.x (search rules) i
    ∷ to_z-of_z w64 f.y (search rules) i
    ∷ to_z-of_z w64 f.z (search rules) i
    ∷ []

pub returns-then-flat-at : goal.returns-then-flat-at
returns-then-flat-at c =
    let at_start = (goal.at.returns-then-flat-at c).Start in
    c.put_numbers.ensures ∙ ap (sets c.args.flat.now (per_face * c.args.n)) (numbers at_start)

pub returns : goal.returns
returns c =
    c.put_six.ensures ∙ ap (sets c.args.flat.now (per_face * c.args.n)) (numbers (goal.at.returns c).Start)
