-- Stored cells within their bounds: the test of each is the library's test of a whole list.
use mathlib.Core.Path.{◌≡◌, refl, ap}
use mathlib.Core.List.{List, [], ◌∷◌}
use mathlib.Core.Bool.{◌&&◌}
use Prim.Native.Nat.{ℕ}
use Rattle.std.specs.List.{list_all}
use Rattle.worst.specs.declared.StoredCell.{StoredCell}
use Rattle.worst.specs.Within.{cell_within, all_within}

pub each-within : (n : ℕ) (l : List StoredCell) → list_all (cell_within n) l ≡ all_within n l
unfolding all_within
each-within n [] = refl
each-within n (t ∷ l) = ap (λ b. cell_within n t && b) (each-within n l)
