-- `read::read_long` meets its contract: the list has room for every face.
use mathlib.Core.Path.{◌∙◌}
use mathlib.Core.List.{List}
use Prim.Native.Nat.{◌*◌, ◌≤◌}
use native.Mathlib.Omega.{arith}
use mir.Syntax.{w64}
use lib.IntN.{ℤ, pos}
use lib.ListN.{replicate}
use mir.ValLaws.{to_z-of_z}
use borrow.Author.Rules.{rules}
use Rattle.building.proofs.Judged.{passed_on}
use Rattle.worst.proofs.ReadSheet.{Stands, read-refused, read-stands, stands-in-order, stands-reckoned}
use Rattle.worst.proofs.read.read_long.Goals.{In_ok-head}
use Rattle.worst.proofs.read.read_long.Goals as goal

abbrev zeros : List ℤ
zeros = replicate 1440 (pos 0)

-- what was read
module _ (c : In_ok-head) where
  stands : Stands c.args.s.now c.in_ok-head.head c.read_into.new.flat 1440
  stands = read-stands c.args.s.now c.read_into.ensures.0 c.in_ok-head.was zeros c.read_into.ensures.1

  room : 6 * c.in_ok-head.head.faces ≤ 1440
  room = omega (arith, stands.few)

pub returns-in_err-head : goal.returns-in_err-head
returns-in_err-head c =
    passed_on c.from_residual.result c.from_residual.ensures.1
    ∙ read-refused c.args.s.now c.read_into.ensures.0 c.in_err-head.was

pub six_of-requires : goal.six_of-requires
six_of-requires c =
    let accepted = (goal.at.six_of-requires c).In_ok-head in (
      record { few = (stands accepted).few; stand = omega (arith, room accepted, c.read_into.auto) },
      stands-in-order (stands accepted) (room accepted),
    )

pub returns : goal.returns
returns c =
    let accepted = (goal.at.returns c).In_ok-head in
    stands-reckoned (stands accepted) (room accepted)
    (to_z-of_z w64 c.in_ok-head.head.setting.year (search rules)) c.six_of.ensures
