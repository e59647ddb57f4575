-- The four cells of a wind by themselves: the best of them is that of the stored sums, or of the job's own.
use mathlib.Core.Path.{◌≡◌, sym, ap, ◌∙◌, subst}
use mathlib.Core.List.{List}
use Prim.Native.Nat.{ℕ, ◌+◌, ◌-◌, ◌*◌, ◌≤◌, ◌<◌}
use native.Mathlib.Omega.{arith}
use lib.IntN.{ℤ, pos}
use lib.ListN.{get_or}
use Rattle.whole.proofs.Numbers.{numbers-member}
use Rattle.whole.specs.Lists.{numbers}
use Rattle.worst.specs.declared.Axis.{Axis}
use Rattle.worst.specs.declared.Axis.TheVariants.{X, Y, Z}
use Rattle.worst.specs.declared.Side.{Side}
use Rattle.worst.specs.declared.Side.TheVariants.{Greatest, Least}
use Rattle.worst.specs.declared.Stored.{Stored}
use Rattle.worst.specs.declared.StoredCell.{StoredCell}
use Rattle.worst.specs.Best.{at}
use Rattle.worst.specs.Stored.{no_cell, cells_of, span_on, span_side}
use Rattle.worst.specs.Engine.{cell, cell_total, faces_of, axes_of, sum_of, sums_on, internal_numbered, span_with}
use Rattle.worst.specs.Engine.{cell_with, four_best, wind_best}
use Rattle.worst.specs.Inside.{inside_numbered, cell_at}
use Rattle.worst.specs.Quick.{over}
use Rattle.pair.proofs.Units.{units-pair_of, proper-pair_of}
use Rattle.building.specs.declared.Building.{Building}
use Rattle.entry.specs.declared.Step.{Step}
use Rattle.job.specs.declared.Winds.{Winds}
use Rattle.job.specs.declared.Internals.{Internals}
use Rattle.job.specs.declared.Faces.{Faces}
use Rattle.job.specs.Carried.{no_wind}
use Rattle.worst.specs.Sums.{Sums, Axes}
use Rattle.worst.specs.Proper.{ProperSpan, ProperCell, ProperCells}
use Rattle.worst.proofs.Better.{over-same-in}
use Rattle.worst.proofs.StoredSums.{cells_at}
use Rattle.worst.proofs.JobSums.{CellsReckoned}

pub four-stored : (axis : Axis) (s : Side) (t : Stored) (four : List StoredCell) (n w : ℕ)
    → ((i : ℕ) → i < n → get_or four i no_cell ≡ get_or t.cell (4 * (w - 1) + i) no_cell)
    → four_best axis s four n w ≡ wind_best axis s t n w
four-stored axis s t four n w h =
    over-same-in s _ _ (numbers n 1)
    (λ i m.
    let b = numbers-member n 1 m in
    ap (λ c. at (span_side s (span_on axis c)) (cell w i)) (h (i - 1) (omega (arith, b.low, b.high))))

-- the total of a cell, as it is stored and read back
cell-read : (axis : Axis) (s : Side) (p : Axes) (c : ℤ)
    → span_side s (span_on axis (cell_with p c)) ≡ cell_total s (sums_on axis p) c
cell-read X Greatest p c = units-pair_of _
cell-read X Least p c = units-pair_of _
cell-read Y Greatest p c = units-pair_of _
cell-read Y Least p c = units-pair_of _
cell-read Z Greatest p c = units-pair_of _
cell-read Z Least p c = units-pair_of _

-- as the engine reckons them: those of the wind behind the first w
module _ (b : Building) (profile : List Step) (ws : Winds) (is : Internals) (fs : Faces) (w : ℕ)
    (counted : w < ws.count) (below : w < 8) (few : is.count ≤ 4) (four : List StoredCell)
    (are : (i : ℕ) → i < is.count
    → get_or four i no_cell
    ≡ cell_with (axes_of b profile (get_or ws.entry w no_wind) (faces_of fs)) (get_or is.entry i (pos 0))) where
  pub four-own : (h : ℕ → StoredCell) → CellsReckoned b profile ws is fs h → (axis : Axis) (s : Side)
      → four_best axis s four is.count (w + 1) ≡ wind_best axis s (cells_of h) is.count (w + 1)
  four-own h r axis s =
      four-stored axis s (cells_of h) four is.count (w + 1)
      (λ i t.
      let there : 4 * w + i ≡ 4 * (w + 1 - 1) + i = omega arith in
      are i t ∙ sym (r.each w i counted t)
      ∙ sym (cells_at h (4 * w + i) (omega arith))
      ∙ ap (λ k. get_or (cells_of h).cell k no_cell) there)

  -- and each is a pair of totals
  pub four-proper : ProperCells is.count four
  four-proper i t =
      let span : (p : Sums) (c : ℤ) → ProperSpan (span_with p c) =
      λ p c. record {
        greatest = proper-pair_of (cell_total Greatest p c);
        least = proper-pair_of (cell_total Least p c);
      } in
      let p = axes_of b profile (get_or ws.entry w no_wind) (faces_of fs) in
      let c = get_or is.entry i (pos 0) in
      subst ProperCell (sym (are i t)) (record { x = span p.x c; y = span p.y c; z = span p.z c })

-- not stored: of the totals themselves
pub own-best : (b : Building) (profile : List Step) (ws : Winds) (is : Internals) (fs : Faces) (w : ℕ) → w < ws.count
    → w < 8 → is.count ≤ 4 → (h : ℕ → StoredCell) → CellsReckoned b profile ws is fs h → (axis : Axis) (s : Side)
    → let p = sums_on axis (axes_of b profile (get_or ws.entry w no_wind) (faces_of fs)) in
    over s (λ i. cell_at (sum_of s p) p.weight (w + 1) (inside_numbered is i)) (numbers is.count 1)
    ≡ wind_best axis s (cells_of h) is.count (w + 1)
own-best b profile ws is fs w counted below few h r axis s =
    let p = axes_of b profile (get_or ws.entry w no_wind) (faces_of fs) in
    over-same-in s _ _ (numbers is.count 1)
    (λ i m.
    let n = numbers-member is.count 1 m in
    let low = n.low in
    let high = n.high in
    let there : 4 * w + (i - 1) ≡ 4 * (w + 1 - 1) + (i - 1) = omega arith in
    ap (λ z. at z (cell (w + 1) i))
    (sym (cell-read axis s p (internal_numbered is i))
    ∙ ap (λ c. span_side s (span_on axis c))
    (sym (r.each w (i - 1) counted (omega arith))
    ∙ sym (cells_at h (4 * w + (i - 1)) (omega arith))
    ∙ ap (λ k. get_or (cells_of h).cell k no_cell) there)))
