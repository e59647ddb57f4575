-- `inside::insides_of` meets its contract: after i of them the furthest is that of the first i.
use Rattle.worst.specs.declared.inside.Inside.{Inside}
use Rattle.worst.specs.declared.inside.Insides.{Insides}
use Rattle.worst.specs.Inside.{Furthest, InsidesSmall}
use Rattle.worst.proofs.inside.insides_of.Given as goal

abbrev pub made : Inside → Inside → Inside → Insides
made first low high = record { first = first; low = low; high = high }

abbrev pub invariant-loop-i : goal.invariant-loop-i
invariant-loop-i l =
    InsidesSmall (made l.first l.low l.high) × Furthest l.internals l.i (made l.first l.low l.high)
