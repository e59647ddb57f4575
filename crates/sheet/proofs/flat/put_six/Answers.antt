-- `put_six` meets its contract: six stores, one after another.
use Prim.Native.Nat.{suc, ◌+◌}
use mathlib.Core.Path.{◌≡◌, refl}
use native.Mathlib.Omega.{arith}
use lib.ListN.{length-set}
use mir.Syntax.{w64}
use mir.ValLaws.{to_z-of_z}
use borrow.Author.Rules.{rules}
use Rattle.sheet.proofs.flat.put_six.Goals as goal

pub bounds-flat-at-2 : goal.bounds-flat-at-2
bounds-flat-at-2 c = simp length-set (search rules)

pub bounds-flat-at-3 : goal.bounds-flat-at-3
bounds-flat-at-3 c = simp length-set (search rules)

pub bounds-flat-at-4 : goal.bounds-flat-at-4
bounds-flat-at-4 c = simp length-set (search rules)

pub bounds-flat-at-5 : goal.bounds-flat-at-5
bounds-flat-at-5 c = simp length-set (search rules)

pub bounds-flat-at-6 : goal.bounds-flat-at-6
bounds-flat-at-6 c = simp length-set (search rules)

pub shape_of-flat : goal.shape_of-flat
shape_of-flat c = simp length-set refl

pub returns : goal.returns
returns c =
    let a = c.args in
    let one : a.at + 1 ≡ suc a.at = omega arith in
    let two : a.at + 2 ≡ suc (suc a.at) = omega arith in
    let three : a.at + 3 ≡ suc (suc (suc a.at)) = omega arith in
    let four : a.at + 4 ≡ suc (suc (suc (suc a.at))) = omega arith in
    let five : a.at + 5 ≡ suc (suc (suc (suc (suc a.at)))) = omega arith in
    rw (
      to_z-of_z w64 a.zone (search rules),
      to_z-of_z w64 a.mark (search rules),
      to_z-of_z w64 a.height (search rules),
      to_z-of_z w64 a.x (search rules),
      to_z-of_z w64 a.y (search rules),
      to_z-of_z w64 a.z (search rules),
      one,
      two,
      three,
      four,
      five,
    )
