-- `put_line` meets its contract: the total, and then the numbers.
use mathlib.Core.Path.{◌≡◌}
use native.Mathlib.Omega.{arith}
use mir.Syntax.{w64}
use mir.Val.{to_z, of_z}
use Rattle.whole.proofs.Size.{returned}
use Rattle.page.proofs.Put.{put-length, then}
use Rattle.report.proofs.Lengths.{after-length}
use Rattle.report.proofs.six.put_line.Goals.{Start}
use Rattle.report.proofs.six.put_line.Goals as goal

read : (a : Start) → to_z w64 (of_z w64 a.args.year) ≡ a.args.year
read a = (returned w64 a.args.year a.ranges.year.sfits).same

pub put_total-next-requires : goal.put_total-next-requires
put_total-next-requires c = rw (read (goal.at.put_total-next-requires c).Start) c.requires.0.total

pub put_case-requires : goal.put_case-requires
put_case-requires c =
    let h = c.requires.0 in
    let w = rw (read (goal.at.put_case-requires c).Start) at c.put_total-next.ensures in (
      h.digits,
      h.counted,
      omega (arith, c.requires.1, after-length c.args.year h, w.end, put-length w),
    )

pub returns : goal.returns
returns c = then (rw (read (goal.at.returns c).Start) at c.put_total-next.ensures) c.put_case.ensures
