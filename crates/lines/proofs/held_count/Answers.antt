-- `held_count` meets its contract.
use mathlib.Core.Path.{◌≡◌}
use native.Mathlib.Omega.{arith}
use lib.ListN.{length}
use Rattle.lines.proofs.Held.{mapped-length, held-count}
use borrow.Author.Rules.{rules}
use Rattle.lines.proofs.held_count.Goals.{Start}
use Rattle.lines.proofs.held_count.Goals as goal

six : (c : Start) → length c.args.x.fields ≡ 6
six c = search (rules, mapped-length)

pub returns-then-x-lt6 : goal.returns-then-x-lt6
returns-then-x-lt6 c = omega (arith, held-count c.args.x 0 (six (goal.at.returns-then-x-lt6 c).Start))

pub returns : goal.returns
returns c = omega (arith, held-count c.args.x 0 (six (goal.at.returns c).Start))
