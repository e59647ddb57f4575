-- `furthest::over_winds` meets its contract: after w winds each top is the best cell of the first w.
use mathlib.Core.Path.{◌≡◌, sym, ap, ◌∙◌, subst}
use Prim.Native.Nat.{ℕ, ◌+◌, ◌-◌, ◌*◌, ◌<◌}
use native.Mathlib.Omega.{arith}
use lib.ListN.{get_or}
use Rattle.pair.specs.Total.{units, no_pair}
use Rattle.worst.specs.Best.{better}
use Rattle.whole.specs.Lists.{numbers}
use Rattle.worst.specs.Quick.{over}
use Rattle.worst.specs.Stored.{no_cell}
use Rattle.worst.specs.Engine.{top_of, top_at, wind_best, best_up_to}
use Rattle.worst.specs.Proper.{ProperCell, ProperCells, ProperEnds}
use Rattle.worst.proofs.Better.{over-next}
use Rattle.worst.proofs.Kept.{no_top, no-ends-proper}
use Rattle.worst.proofs.FourCells.{four-stored}
use Rattle.worst.proofs.furthest.over_winds.Goals.{After-stored_cells-four, Start}
use Rattle.worst.proofs.furthest.over_winds.Goals as goal

-- the four cells of wind w + 1
module _ (c : After-stored_cells-four) where
  abbrev a : Start
  a = (goal.at.After-stored_cells-four c).Start

  abbrev w : ℕ
  w = c.loop-w.w

  counted : w < a.args.winds
  counted = c.loop-w-test.true

  same : (i : ℕ) → i < 4 → get_or c.stored_cells-four.result.cell i no_cell
      ≡ get_or a.args.stored.cell (4 * (w + 1 - 1) + i) no_cell
  same = c.stored_cells-four.ensures

  proper : ProperCells a.args.internals c.stored_cells-four.result.cell
  proper k t =
      let h = counted in
      subst ProperCell (sym (same k (omega (arith, a.requires.1))))
      (a.requires.2 (4 * (w + 1 - 1) + k) (omega (arith, a.requires.0, a.requires.1)))

pub loop-w-init : goal.loop-w-init
unfolding over numbers
loop-w-init c =
    let e = c.no_ends-ends.ensures in (
      subst ProperEnds (sym e) no-ends-proper,
      λ axis s. ap (λ e. top_of (top_at axis s e)) e ∙ no_top units no_pair axis s,
    )

pub over_internals-ends-requires : goal.over_internals-ends-requires
over_internals-ends-requires c =
    (c.requires.1, omega arith, c.loop-w.invariant.0, proper c)

pub loop-w-preserved : goal.loop-w-preserved
loop-w-preserved c =
    let at_stored_cells_four = (goal.at.loop-w-preserved c).After-stored_cells-four in
    let l = c.loop-w in
    let s = c.args in
    let t = counted at_stored_cells_four in (
      c.over_internals-ends.ensures.1,
      λ axis side. c.over_internals-ends.ensures.0 axis side
          ∙ (λ i. better side (l.invariant.1 axis side i)
          (four-stored axis side s.stored c.stored_cells-four.result.cell s.internals (w at_stored_cells_four + 1)
          (λ k t. same at_stored_cells_four k (omega (arith, c.requires.1))) i))
          ∙ over-next side (wind_best axis side s.stored s.internals) l.w,
    )

pub returns : goal.returns
returns c =
    let l = c.loop-w in
    let s = c.args in
    let left = c.loop-w-test.false in
    let all : l.w ≡ s.winds = omega arith in
    (λ axis side. l.invariant.1 axis side ∙ ap (best_up_to axis side s.stored s.internals) all, l.invariant.0)
