-- `walls::wall_row`: the loop looks for the first row among those that are left.
use mathlib.Core.Path.{◌≡◌, refl, sym, ◌∙◌}
use Prim.Native.Nat.{ℕ, ◌<◌}
use native.Mathlib.Omega.{arith}
use lib.ListN.{get_or}
use Rattle.whole.proofs.First.{left_here, left-later, left-none}
use Rattle.building.specs.declared.Sizes.{Sizes}
use Rattle.building.specs.Order.{SizesInOrder}
use Rattle.book.specs.Walls.{no_wall, walls, wall_row}
use Rattle.book.proofs.Rows.{in_row, wall_index, wall-index, wall-below}
use Rattle.book.proofs.walls.wall_row.Goals as goal

-- the row that is found
found : (s : Sizes) → SizesInOrder s → (row : ℕ) → row ≡ wall_index s.h s.a s.b
    → (row < 6) × ((get_or walls row no_wall).row ≡ wall_row s.h s.a s.b)
found s o row e = rw e (wall-below s.h s.a s.b o.h-over-b o.a-over-b, wall-index s.h s.a s.b)

pub loop-row-init : goal.loop-row-init
loop-row-init c = (omega arith, refl)

pub returns-then-in_row : goal.returns-then-in_row
returns-then-in_row c =
    let s = c.args.s in
    let here =
    left_here (in_row s.h s.a s.b) no_wall walls (wall_index s.h s.a s.b) c.loop-row.row
    c.loop-row.invariant (omega arith) (sym c.in_row.ensures ∙ c.if-in_row.true) in
    found s c.requires c.loop-row.row here

pub loop-row-preserved : goal.loop-row-preserved
loop-row-preserved c =
    let s = c.args.s in
    left-later (in_row s.h s.a s.b) no_wall walls (wall_index s.h s.a s.b) c.loop-row.row
    c.loop-row.invariant (omega arith) (sym c.in_row.ensures ∙ c.if-in_row.false)

pub returns : goal.returns
returns c =
    let s = c.args.s in
    let none =
    left-none (in_row s.h s.a s.b) no_wall walls (wall_index s.h s.a s.b) c.loop-row.row
    c.loop-row.invariant (omega arith) in
    found s c.requires 6 (omega (arith, none))
