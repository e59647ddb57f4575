-- `speeds::fill` meets its contract: in year 1 nothing is changed, and otherwise after i faces the factors of the
-- first i stand in the arrays.
use Rattle.entry.specs.Flat.{faces_in}
use Rattle.worst.specs.Factors.{steps_of}
use Rattle.worst.proofs.Factors.{FirstStand}
use Rattle.worst.proofs.speeds.fill.Given as goal

abbrev pub invariant-loop-i : goal.invariant-loop-i
invariant-loop-i l =
    FirstStand l.faces (steps_of l.profile) (faces_in l.faces l.flat) l.i l.factors
