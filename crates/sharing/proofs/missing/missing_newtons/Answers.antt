-- `missing::missing_newtons` meets its contract: the newtons counted, what is past them and the remainders still to
-- come are all the remainders.
use mathlib.Core.Path.{◌≡◌, sym, ap, ◌∙◌}
use native.Mathlib.Omega.{arith}
use borrow.Author.Rules.{rules}
use lib.IntN.{ℤ, pos}
use Rattle.whole.specs.Newton.{remainder}
use Rattle.whole.proofs.Newton.{remainder-small}
use Rattle.whole.proofs.Size.{said}
use Rattle.sharing.specs.Column.{own_force}
use Rattle.sharing.proofs.Remainders.{lacking, missing-is, remainders-step, remainders-end}
use Rattle.sharing.proofs.missing.missing_newtons.Goals.{
  After-remainder-past,
  At-loop-force,
  then-past-ge20000000000,
  else-past-ge20000000000,
}
use Rattle.sharing.proofs.missing.missing_newtons.Goals as goal

-- the remainder of the next force
module _ (c : After-remainder-past) where
  abbrev l : At-loop-force
  l = (goal.at.After-remainder-past c).At-loop-force

  abbrev next : ℤ
  next = own_force l.args.forces.now l.loop-force.force-index

  taken : c.remainder-past.result ≡ remainder next
  taken = said remainder next c.remainder-past.ensures (search rules)

pub overflow_add-past : goal.overflow_add-past
overflow_add-past c = record { fits = omega (arith, taken c, remainder-small (next c)) }

pub loop-force-preserved : goal.loop-force-preserved
loop-force-preserved c =
    let d = (goal.at.loop-force-preserved c).After-remainder-past in
    let e = taken d in
    let small = remainder-small (next d) in
    let step = remainders-step c.args.forces.now c.loop-force.force-index (omega arith) in
    elim c.if-past-ge20000000000.branch [
      | then-past-ge20000000000 w ↦ (omega arith, omega arith, omega arith)
      | else-past-ge20000000000 w ↦ (omega arith, omega arith, omega arith)
    ]

pub returns : goal.returns
returns c =
    let fs = c.args.forces.now in
    let none = remainders-end fs c.loop-force.force-index (omega arith) in
    let e : c.loop-force.count ≡ lacking fs = omega arith in
    ap pos e ∙ sym (missing-is fs)
