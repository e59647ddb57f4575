-- `put_total` meets its contract: newtons, a space and the remainder; or the units, which fit 64 bits.
-- whether its year has long sheds
use mathlib.Core.Path.{◌≡◌, sym, ◌∙◌}
use mathlib.Core.Bool.{Bool}
use native.Mathlib.Omega.{arith}
use mir.Syntax.{w64}
use Rattle.whole.proofs.Size.{returned, said}
use Rattle.building.specs.Year.{has_long_sheds}
use Rattle.page.proofs.Put.{then}
use Rattle.pair.specs.Total.{most_in_units}
use Rattle.pair.proofs.Sizes.{within_more, as_units-within}
use Rattle.worst.specs.Within.{most_newtons}
use Rattle.report.proofs.Lines.{long-total, short-total}
use Rattle.report.proofs.six.put_total.Goals.{After-has_long_sheds}
use Rattle.report.proofs.six.put_total.Goals as goal

told : (h : After-has_long_sheds) {t : Bool} → h.has_long_sheds.result ≡ t
    → has_long_sheds h.args.year ≡ t
told h e =
    sym (said has_long_sheds h.args.year h.has_long_sheds.ensures h.ranges.year.sfits) ∙ e

pub returns-then-has_long_sheds : goal.returns-then-has_long_sheds
returns-then-has_long_sheds c =
    let at_has_long_sheds = (goal.at.returns-then-has_long_sheds c).After-has_long_sheds in
    let p = c.args.p in
    let read = (returned w64 p.newtons c.struct_told-1.given.0.1).same in
    rw (long-total c.args.year (told at_has_long_sheds c.if-has_long_sheds.true) p)
    (then (then (rw read at c.put_decimal-whole.ensures) c.put_byte-parted.ensures) c.put_natural.ensures)

pub returns : goal.returns
returns c =
    let p = c.args.p in
    let short = told (goal.at.returns c).After-has_long_sheds c.if-has_long_sheds.false in
    let fits = within_more (most_newtons c.args.year) most_in_units p (rw short (omega arith)) c.requires in
    let read =
    (returned w64 c.as_units.result c.as_units.type_inv).same ∙ c.as_units.ensures ∙ as_units-within p fits in
    rw (short-total c.args.year short p) (rw read at c.put_decimal.ensures)
