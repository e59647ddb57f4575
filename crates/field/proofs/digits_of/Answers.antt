-- `digits_of` meets its contract: after so many digits the number is below as many tens multiplied, and what the rest
-- say after it is what all say.
use Prim.Native.Nat.{◌-◌}
use mathlib.Core.Path.{sym, ◌∙◌}
use native.Mathlib.Omega.{arith}
use lib.ListN.{get_or}
use Rattle.whole.specs.Digits.{value}
use Rattle.field.proofs.Fields.{read_low, read-high, read_next, read-end, value_grows}
use Rattle.field.proofs.digits_of.Goals.{
  then-d-lt48-via-then-d-lt48,
  then-d-lt48-via-else-d-lt48+then-d-gt57,
}
use Rattle.field.proofs.digits_of.Goals as goal

pub returns-then-d-lt48 : goal.returns-then-d-lt48
unfolding value
returns-then-d-lt48 c =
    let s = c.args.s.now in
    let l = c.loop-d in
    elim c.then-d-lt48.branch [
      | then-d-lt48-via-then-d-lt48 w ↦
          sym (l.invariant.2 ∙ read_low s l.d-index l.v c.loop-d-test.true w.if-d-lt48.true)
      | then-d-lt48-via-else-d-lt48+then-d-gt57 w ↦
          sym (l.invariant.2 ∙ read-high s l.d-index l.v c.loop-d-test.true w.if-d-lt48.false w.if-d-gt57.true)
    ]

pub loop-d-preserved : goal.loop-d-preserved
loop-d-preserved c =
    let s = c.args.s.now in
    let l = c.loop-d in (
      l.invariant.0,
      value_grows l.v l.d-index (get_or s l.d-index 0 - 48) l.invariant.1 (omega arith),
      l.invariant.2 ∙ read_next s l.d-index l.v c.loop-d-test.true c.if-d-lt48.false c.if-d-gt57.false,
    )

pub returns : goal.returns
unfolding value
returns c = sym (c.loop-d.invariant.2 ∙ read-end c.args.s.now c.loop-d.d-index c.loop-d.v c.loop-d-test.false)
