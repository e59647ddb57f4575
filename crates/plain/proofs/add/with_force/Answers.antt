-- `add::with_force` meets its contract: a sum on each axis.
use borrow.Author.Rules.{rules}
use mir.Syntax.{w64}
use mir.Val.{SFits}
use Rattle.whole.proofs.Size.{param}
use Rattle.plain.proofs.add.with_force.Goals as goal

pub returns : goal.returns
returns c =
    let x : SFits w64 c.args.f.x = search rules in
    let y : SFits w64 c.args.f.y = search rules in
    let z : SFits w64 c.args.f.z = search rules in
    cc ((param x).same, (param y).same, (param z).same)
