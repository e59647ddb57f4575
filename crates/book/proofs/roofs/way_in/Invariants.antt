-- `roofs::way_in`: the loop takes the walk over the rows of the part that are left, of which it holds the first.
-- row i of part k, as it was read
use mathlib.Core.Path.{◌≡◌}
use mathlib.Core.List.{map}
use Prim.Native.Nat.{ℕ, ◌-◌, ◌≤◌}
use lib.ListN.{length, get_or, drop}
use Rattle.book.specs.declared.roofs.Stand.{Stand}
use Rattle.book.specs.Row.{Standing}
use Rattle.book.specs.Line.{way_in}
use Rattle.book.proofs.Coded.{part}
use Rattle.book.proofs.roofs.way_in.Given as goal

abbrev pub Read : ℕ → ℕ → Stand → Type 0
Read k i r =
    (r.0 ≡ get_or (map (λ (s : Standing). s.row.number) (part k)) i 0)
    × (r.1 ≡ get_or (map (λ (s : Standing). s.at) (part k)) i 0)

abbrev pub invariant-loop-i : goal.invariant-loop-i
invariant-loop-i l =
    let i = l.i - 1 in
    (l.i ≤ length (part l.k)) × Read l.k i l.row × (way_in (part l.k) l.x l.d ≡ way_in (drop i (part l.k)) l.x l.d)
