-- `faces::gather`: what is gathered is what a record says of the first i faces.
use mathlib.Core.Path.{◌≡◌}
use lib.ListN.{take}
use Rattle.column.specs.Listed.{listed}
use Rattle.column.proofs.faces.gather.Given as goal

abbrev pub invariant-loop-f : goal.invariant-loop-f
invariant-loop-f l = l.all ≡ listed (take l.f-index l.telling)
