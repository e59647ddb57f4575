-- `chosen::area_on` meets its contract: each arm reads its axis.
use mir.Syntax.{w64}
use mir.Val.{SFits}
use mir.ValLaws.{to_z-of_z}
use borrow.Author.Rules.{rules}
use Rattle.worst.proofs.chosen.area_on.Goals as goal

pub returns-in-X : goal.returns-in-X
returns-in-X c =
    let f : SFits w64 c.args.f.x = search rules in
    simp (to_z-of_z w64 c.args.f.x f, c.in-X.is)

pub returns-in-Y : goal.returns-in-Y
returns-in-Y c =
    let f : SFits w64 c.args.f.y = search rules in
    simp (to_z-of_z w64 c.args.f.y f, c.in-Y.is)

pub returns-in-Z : goal.returns-in-Z
returns-in-Z c =
    let f : SFits w64 c.args.f.z = search rules in
    simp (to_z-of_z w64 c.args.f.z f, c.in-Z.is)
