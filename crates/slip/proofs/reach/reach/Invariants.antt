-- `reach::reach`: line by line, what is called for behind them.
use Rattle.slip.proofs.Walked.{Reaches}
use Rattle.slip.proofs.reach.reach.Given as goal

abbrev pub invariant-loop-i : goal.invariant-loop-i
invariant-loop-i l =
    Reaches l.s l.n l.heights l._i l.sec l.left l.begun l.read l.before l.risen l.next
