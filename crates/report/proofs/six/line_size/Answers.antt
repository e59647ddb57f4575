-- `line_size` meets its contract: 23 bytes hold any total, so where it ends there is how long it is.
use mathlib.Core.Path.{◌≡◌, sym, subst}
use native.Mathlib.Omega.{arith}
use mir.Syntax.{w64}
use mir.Val.{to_z, of_z}
use Rattle.whole.proofs.Size.{returned}
use Rattle.report.specs.Short.{Fair}
use Rattle.report.proofs.Lengths.{fair-short}
use Rattle.report.proofs.six.line_size.Goals.{Start}
use Rattle.report.proofs.six.line_size.Goals as goal

read : (a : Start) → to_z w64 (of_z w64 a.args.year) ≡ a.args.year
read a = (returned w64 a.args.year a.ranges.year.sfits).same

pub put_total-requires : goal.put_total-requires
put_total-requires c =
    subst (λ y. Fair y c.args.e.now.total) (sym (read (goal.at.put_total-requires c).Start)) c.requires

pub returns : goal.returns
returns c =
    let w = rw (read (goal.at.returns c).Start) at c.put_total.ensures in
    omega (arith, w.end, fair-short c.args.year c.args.e.now.total c.requires)
