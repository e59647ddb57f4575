-- `put_digit` meets its contract.
use mathlib.Core.Path.{refl}
use native.Mathlib.Omega.{arith}
use lib.ListN.{length-set}
use Rattle.report.proofs.Lines.{digit-put}
use Rattle.report.proofs.six.put_digit.Goals as goal

pub bounds-buf-at-2 : goal.bounds-buf-at-2
bounds-buf-at-2 c = simp length-set (omega (arith, c.requires.1))

pub returns : goal.returns
returns c = (digit-put c.args.buf.now c.args.at c.args.n c.requires.0 c.requires.1, refl)
