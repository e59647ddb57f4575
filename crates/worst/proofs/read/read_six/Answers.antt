-- `read::read_six` meets its contract: up to 24 faces stand in the shorter list, and of more all are read anew.
use mathlib.Core.Path.{◌∙◌}
use mathlib.Core.List.{List}
use Prim.Native.Nat.{◌*◌, ◌≤◌}
use native.Mathlib.Omega.{arith}
use mir.Syntax.{w64}
use lib.IntN.{ℤ, pos}
use lib.ListN.{replicate}
use mir.ValLaws.{to_z-of_z}
use borrow.Author.Rules.{rules}
use Rattle.building.proofs.Judged.{passed_on}
use Rattle.worst.proofs.ReadSheet.{Stands, read-refused, read-stands, stands-in-order, stands-reckoned}
use Rattle.worst.proofs.read.read_six.Goals.{Else-head-gt24}
use Rattle.worst.proofs.read.read_six.Goals as goal

abbrev zeros : List ℤ
zeros = replicate 144 (pos 0)

-- what was read, of so few faces
module _ (c : Else-head-gt24) where
  stands : Stands c.args.s.now c.in_ok-head.head c.read_into.new.flat 144
  stands = read-stands c.args.s.now c.read_into.ensures.0 c.in_ok-head.was zeros c.read_into.ensures.1

  room : 6 * c.in_ok-head.head.faces ≤ 144
  room = omega (arith, c.if-head-gt24.false)

pub returns-in_err-head : goal.returns-in_err-head
returns-in_err-head c =
    passed_on c.from_residual.result c.from_residual.ensures.1
    ∙ read-refused c.args.s.now c.read_into.ensures.0 c.in_err-head.was

pub few_six-requires : goal.few_six-requires
few_six-requires c =
    let accepted = (goal.at.few_six-requires c).Else-head-gt24 in (
      omega (arith, room accepted),
      record { few = (stands accepted).few; stand = omega (arith, room accepted, c.read_into.auto) },
      stands-in-order (stands accepted) (room accepted),
    )

pub returns : goal.returns
returns c =
    let accepted = (goal.at.returns c).Else-head-gt24 in
    stands-reckoned (stands accepted) (room accepted)
    (to_z-of_z w64 c.in_ok-head.head.setting.year (search rules)) c.few_six.ensures
