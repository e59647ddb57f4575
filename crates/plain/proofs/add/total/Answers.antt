-- `add::total` meets its contract: after i faces the totals are those of the first i.
use mathlib.Core.Path.{◌∙◌}
use native.Mathlib.Omega.{arith}
use Rattle.whole.specs.Lists.{first_of}
use Rattle.worst.specs.Cases.{total}
use Rattle.plain.specs.Walked.{plus}
use Rattle.plain.proofs.Added.{total-next}
use Rattle.plain.proofs.add.total.Goals as goal

pub loop-i-init : goal.loop-i-init
unfolding total first_of
loop-i-init c = let e = c.of_units-none.ensures in λ j. record { x = e j; y = e j; z = e j }

pub loop-i-preserved : goal.loop-i-preserved
loop-i-preserved c =
    c.with_force-all.ensures
    ∙ (λ j. plus (c.loop-i.invariant j) (c.force_at.ensures j))
    ∙ total-next c.args.fs.now c.args.choice c.loop-i.i c.loop-i-test.true (omega arith) c.requires.1
