-- `faces::put` meets its contract: its six stores are those of the face's numbers.
-- a list with face i put there
use mathlib.Core.Path.{◌≡◌, sym, ◌∙◌, subst}
use mathlib.Core.List.{List}
use Prim.Native.Nat.{ℕ, ◌*◌, ◌≤◌}
use native.Mathlib.Omega.{arith}
use borrow.Author.Rules.{rules}
use lib.IntN.{ℤ}
use lib.ListN.{length}
use mir.Syntax.{w64, w8}
use mir.Val.{SFits, Fits}
use mir.ValLaws.{to_z-of_z}
use Rattle.whole.proofs.Size.{nat}
use Rattle.entry.specs.declared.Face.{Face}
use Rattle.entry.specs.Flat.{face_in}
use Rattle.worst.proofs.SixNumbers.{six, six-length, face-there, others-stay}
use Rattle.worst.proofs.faces.put.Goals as goal

abbrev Put : List ℤ → ℕ → Face → List ℤ → Type 0
Put l i f m =
    (length m ≡ 1440) × (face_in m i ≡ f) × ((k : ℕ) → (k ≡ i → ⊥) → face_in m k ≡ face_in l k)

pub returns : goal.returns
returns c =
    let l = c.args.flat.now in
    let i = c.args.i in
    let f = c.args.f in
    let zone : Fits w8 f.zone = search rules in
    let low : f.zone ≤ 255 = omega (arith, zone.fits) in
    let mark : SFits w64 f.mark = search rules in
    let height : SFits w64 f.height = search rules in
    let x : SFits w64 f.x = search rules in
    let y : SFits w64 f.y = search rules in
    let z : SFits w64 f.z = search rules in
    subst (Put l i f)
    (λ j.
    six l (6 * i) (sym (nat w64 255 low tt).same j) (sym (to_z-of_z w64 _ mark) j) (sym (to_z-of_z w64 _ height) j)
    (sym (to_z-of_z w64 _ x) j) (sym (to_z-of_z w64 _ y) j) (sym (to_z-of_z w64 _ z) j)) (
      six-length l (6 * i) _ _ _ _ _ _ ∙ c.requires.1,
      face-there l i f (omega (arith, c.requires.0, c.requires.1)) (omega arith),
      others-stay l i f,
    )
