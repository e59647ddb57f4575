-- `parts::part_of`: part by part, what is behind the parts before it.
use mathlib.Core.Path.{sym, ◌∙◌}
use native.Mathlib.Omega.{arith}
use Rattle.lines.proofs.Lines.{until_end}
use Rattle.slip.proofs.Split.{behind-none, behind-next, behind-last, behind-all}
use Rattle.slip.proofs.parts.part_of.Goals as goal

pub loop-i-init : goal.loop-i-init
loop-i-init c = let a = c.args in behind-none a.b a.s.now a.n

pub until-e-requires : goal.until-e-requires
until-e-requires c = c.loop-i.invariant.within

pub returns-then-e-s : goal.returns-then-e-s
returns-then-e-s c =
    let a = c.args in
    let s = a.s.now in
    let e = c.until-e.ensures in
    let k = c.if-e-s.true in (
      (λ i. record { from = k i; to = k i })
          ∙ sym (behind-last a.b s a.n c.loop-i.invariant c.loop-i-test.true (omega (arith, e.0, k))),
      omega (arith, k, until_end a.b s c.until-e.result (omega arith)),
      e.1,
    )

pub overflow_add-from : goal.overflow_add-from
overflow_add-from c = omega (arith, c.until-e.ensures.1, c.if-e-s.false)

pub loop-i-preserved : goal.loop-i-preserved
loop-i-preserved c =
    let a = c.args in
    let e = c.until-e.ensures in
    rw e.0
    (behind-next a.b a.s.now a.n c.loop-i.invariant c.loop-i-test.true
    (omega (arith, e.0, e.1, c.if-e-s.false)))

pub until-requires : goal.until-requires
until-requires c = c.loop-i.invariant.within

pub returns : goal.returns
returns c =
    let a = c.args in
    let e = c.until.ensures in (
      (λ i. record { from = c.loop-i.from; to = e.0 i })
          ∙ sym (behind-all a.b a.s.now a.n c.loop-i.invariant (omega (arith, c.loop-i-test.false))),
      e.0,
      e.1,
    )
