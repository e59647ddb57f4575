-- Stored sums that a job can have are pairs of totals.
use mathlib.Core.Path.{◌≡◌, refl}
use mathlib.Core.Bool.{true}
use mathlib.Core.List.{List, [], ◌∷◌}
use Prim.Native.Nat.{ℕ, zero, suc}
use lib.ListN.{get_or}
use Rattle.whole.proofs.Tests.{and-true}
use Rattle.pair.specs.declared.Pair.{Pair}
use Rattle.pair.specs.Total.{within_newtons}
use Rattle.worst.specs.declared.Span.{Span}
use Rattle.worst.specs.declared.StoredCell.{StoredCell}
use Rattle.worst.specs.Stored.{no_cell, no_span}
use Rattle.worst.specs.Within.{span_within, cell_within, all_within}
use Rattle.worst.specs.Proper.{Proper, ProperSpan, ProperCell}

module _ (n : ℕ) where
  pair-proper : (p : Pair) → within_newtons n p ≡ true → Proper p
  unfolding within_newtons
  pair-proper p h = (and-true _ _ h).0

  span-proper : (p : Span) → span_within n p ≡ true → ProperSpan p
  span-proper p h =
      let b = and-true _ _ h in
      record { greatest = pair-proper p.greatest b.0; least = pair-proper p.least b.1 }

  cell-proper : (t : StoredCell) → cell_within n t ≡ true → ProperCell t
  cell-proper t h =
      let b = and-true _ _ h in
      let d = and-true _ _ b.1 in
      record {
        x = span-proper t.x b.0;
        y = span-proper t.y d.0;
        z = span-proper t.z d.1;
      }

  none-proper : ProperCell no_cell
  none-proper =
      let none : ProperSpan no_span = record { greatest = refl; least = refl } in
      record { x = none; y = none; z = none }

  pub within-proper : (l : List StoredCell) → all_within n l ≡ true → (k : ℕ) → ProperCell (get_or l k no_cell)
  unfolding all_within
  within-proper [] h k = none-proper
  within-proper (t ∷ l) h zero = cell-proper t (and-true (cell_within n t) (all_within n l) h).0
  within-proper (t ∷ l) h (suc k) = within-proper l (and-true (cell_within n t) (all_within n l) h).1 k
