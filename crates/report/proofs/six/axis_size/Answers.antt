-- `axis_size` meets its contract.
use mathlib.Core.Path.{◌≡◌, sym, subst}
use native.Mathlib.Omega.{arith}
use mir.Syntax.{w64}
use mir.Val.{to_z, of_z}
use Rattle.whole.proofs.Size.{returned}
use Rattle.report.specs.Lines.{x}
use Rattle.report.specs.Short.{Fair}
use Rattle.report.proofs.Lengths.{after-length, axis-length, fair-short}
use Rattle.report.proofs.six.axis_size.Goals.{Start}
use Rattle.report.proofs.six.axis_size.Goals as goal

read : (a : Start) → to_z w64 (of_z w64 a.args.year) ≡ a.args.year
read a = (returned w64 a.args.year a.ranges.year.sfits).same

pub line_size-greatest-requires : goal.line_size-greatest-requires
line_size-greatest-requires c =
    let at_start = (goal.at.line_size-greatest-requires c).Start in
    subst (λ y. Fair y c.args.e.now.greatest.total) (sym (read at_start)) c.requires.0.total

pub line_size-requires : goal.line_size-requires
line_size-requires c =
    let at_start = (goal.at.line_size-requires c).Start in
    subst (λ y. Fair y c.args.e.now.least.total) (sym (read at_start)) c.requires.1.total

pub overflow_add-result : goal.overflow_add-result
overflow_add-result c =
    let at_start = (goal.at.overflow_add-result c).Start in
    let g = rw (read at_start) at c.line_size-greatest.ensures in
    let l = rw (read at_start) at c.line_size.ensures in
    let y = c.args.year in
    omega (
      arith,
      g,
      l,
      fair-short y c.args.e.now.greatest.total c.requires.0.total,
      fair-short y c.args.e.now.least.total c.requires.1.total,
      c.requires.0.few,
      c.requires.1.few,
    )

pub returns : goal.returns
returns c =
    let at_start = (goal.at.returns c).Start in
    let g = rw (read at_start) at c.line_size-greatest.ensures in
    let l = rw (read at_start) at c.line_size.ensures in
    let y = c.args.year in
    omega (
      arith,
      g,
      l,
      axis-length y x c.args.e.now,
      after-length y c.requires.0,
      after-length y c.requires.1,
    )
