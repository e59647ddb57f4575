-- `choices::ways` meets its contract: what is counted after i faces, times the choices of those that are left, is all.
use mathlib.Core.Path.{◌≡◌}
use Prim.Native.Nat.{◌*◌}
use lib.ListN.{drop}
use Rattle.plain.specs.ByNumber.{ways}
use Rattle.plain.proofs.choices.ways.Given as goal

abbrev pub invariant-loop-f : goal.invariant-loop-f
invariant-loop-f l = l.n * ways (drop l.f-index l.fs) ≡ ways l.fs
