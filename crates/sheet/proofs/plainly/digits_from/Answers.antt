-- `digits_from` meets its contract: the digits passed are those of a number, which has at most seven.
use mathlib.Core.Path.{◌∙◌}
use native.Mathlib.Omega.{arith}
use Rattle.sheet.proofs.Plain.{digit-on, on}
use Rattle.sheet.proofs.plainly.digits_from.Goals as goal

pub loop-n-preserved : goal.loop-n-preserved
loop-n-preserved c =
    let v = c.loop-n.invariant in
    let s = c.args.s.now in
    let i = c.loop-n.i in (
      on s c.requires.0 v.0 (λ e. omega (arith, e, c.if-b-lt48.false)),
      omega (arith, v.1),
      omega arith,
      v.3 ∙ digit-on s i v.0 c.if-b-lt48.false c.if-b-gt57.false c.loop-n.n v.1,
    )
