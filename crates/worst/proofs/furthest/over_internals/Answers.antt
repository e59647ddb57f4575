-- `furthest::over_internals` meets its contract: after i of them each top is the best of what stood before and of the
-- first i.
use mathlib.Core.Path.{◌≡◌, sym, ap, ◌∙◌, subst}
use Prim.Native.Nat.{ℕ, ◌+◌, ◌<◌, ◌-◌}
use native.Mathlib.Omega.{arith}
use lib.IntN.{ℤ}
use lib.ListN.{get_or, take, length-take}
use Rattle.std.proofs.Common.{get_or-take}
use Rattle.worst.specs.declared.Axis.{Axis}
use Rattle.worst.specs.declared.Axis.TheVariants.{X, Y, Z}
use Rattle.worst.specs.declared.Side.{Side}
use Rattle.worst.specs.declared.StoredCell.{StoredCell}
use Rattle.pair.specs.declared.Pair.{Pair}
use Rattle.worst.specs.declared.tops.Top.{Top}
use Rattle.worst.specs.Best.{Best, at, better}
use Rattle.whole.specs.Lists.{numbers}
use Rattle.worst.specs.Quick.{over}
use Rattle.worst.specs.Stored.{no_cell, span_side, span_on}
use Rattle.worst.specs.Engine.{Cell, cell, top_of, end_of, top_at, four_best}
use Rattle.worst.specs.Proper.{ProperCell}
use Rattle.whole.proofs.Numbers.{at-number}
use Rattle.worst.proofs.Better.{better-none, over-after}
use Rattle.worst.proofs.Kept.{every-axis}
use Rattle.worst.proofs.furthest.over_internals.Goals.{In-loop-i, Start}
use Rattle.worst.proofs.furthest.over_internals.Goals as goal

module _ (d : In-loop-i) where
  abbrev a : Start
  a = (goal.at.In-loop-i d).Start

  abbrev i : ℕ
  i = d.loop-i.i

  counted : i < a.args.count
  counted = let t = d.loop-i-test.true in omega (arith, length-take a.args.count a.args.four.cell)

  abbrev cells : ℕ → StoredCell
  cells k = get_or a.args.four.cell k no_cell

  -- the cell that is read is that of the place
  abbrev read : StoredCell
  read = get_or (take a.args.count a.args.four.cell) i no_cell

  same : read ≡ cells i
  same = get_or-take a.args.count a.args.four.cell i no_cell counted

  proper : ProperCell read
  proper = subst ProperCell (sym same) (a.requires.3 i counted)

  -- a top that was kept in the cell's place, or for it
  stepped : (axis : Axis) (s : Side) (t : Top Pair)
      → top_of t ≡ better s (top_of (top_at axis s d.loop-i.best))
      (at (span_side s (span_on axis read)) (cell a.args.wind (i + 1)))
      → top_of t ≡ better s (top_of (top_at axis s a.args.ends))
      (four_best axis s a.args.four.cell (i + 1) a.args.wind)
  stepped axis s t e =
      let w = a.args.wind in
      let value : ℕ → ℤ = λ k. span_side s (span_on axis (cells k)) in
      let one : ℕ → Best Cell = λ k. at (value (k - 1)) (cell w k) in
      let seen : span_side s (span_on axis read) ≡ value (i + 1 - 1) =
      ap (λ t. span_side s (span_on axis t)) same ∙ at-number value i in
      e
      ∙ (λ k. better s (d.loop-i.invariant.1 axis s k) (at (seen k) (cell w (i + 1))))
      ∙ over-after s one (top_of (top_at axis s a.args.ends)) i

pub loop-i-init : goal.loop-i-init
unfolding over numbers
loop-i-init c =
    (c.requires.2, λ axis s. sym (better-none s (top_of (top_at axis s c.args.ends))))

-- what each of the three calls asks
pub with_cell-x-requires : goal.with_cell-x-requires
with_cell-x-requires c =
    (omega (arith, c.requires.1), c.loop-i.invariant.0.x, (proper (goal.at.with_cell-x-requires c).In-loop-i).x)

pub with_cell-y-requires : goal.with_cell-y-requires
with_cell-y-requires c =
    (omega (arith, c.requires.1), c.loop-i.invariant.0.y, (proper (goal.at.with_cell-y-requires c).In-loop-i).y)

pub with_cell-z-requires : goal.with_cell-z-requires
with_cell-z-requires c =
    (omega (arith, c.requires.1), c.loop-i.invariant.0.z, (proper (goal.at.with_cell-z-requires c).In-loop-i).z)

pub loop-i-preserved : goal.loop-i-preserved
loop-i-preserved c =
    let at_loop_i = (goal.at.loop-i-preserved c).In-loop-i in (
      record { x = c.with_cell-x.ensures.1; y = c.with_cell-y.ensures.1; z = c.with_cell-z.ensures.1 },
      every-axis _ (λ s. stepped at_loop_i X s (end_of s c.with_cell-x.result) (c.with_cell-x.ensures.0 s))
          (λ s. stepped at_loop_i Y s (end_of s c.with_cell-y.result) (c.with_cell-y.ensures.0 s))
          (λ s. stepped at_loop_i Z s (end_of s c.with_cell-z.result) (c.with_cell-z.ensures.0 s)),
    )

pub returns : goal.returns
returns c =
    let l = c.loop-i in
    let s = c.args in
    let left = c.loop-i-test.false in
    let e : l.i ≡ s.count = omega (arith, length-take s.count s.four.cell) in (
      subst
          (λ n. (axis : Axis) (side : Side) → top_of (top_at axis side l.best)
          ≡ better side (top_of (top_at axis side s.ends)) (four_best axis side s.four.cell n s.wind))
          e l.invariant.1,
      l.invariant.0,
    )
