-- `order::how_many_ahead` meets its contract: after as many turns as `other`, those of the first so many are counted.
use mathlib.Core.Path.{◌≡◌}
use mathlib.Core.List.{List}
use Prim.Native.Nat.{ℕ}
use lib.IntN.{ℤ}
use Rattle.whole.specs.Lists.{numbers, how_many}
use Rattle.sharing.specs.Column.{is_ahead}
use Rattle.sharing.proofs.order.how_many_ahead.Given as goal

-- those of the first n
abbrev pub among : List ℤ → ℕ → ℕ → ℕ
among fs i n = how_many (λ j. is_ahead fs j i) (numbers n 0)

abbrev pub invariant-loop-other : goal.invariant-loop-other
invariant-loop-other l = l.n ≡ among l.forces l.face l.other
