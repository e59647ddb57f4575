-- `roofs::roof_value`: the rows are the table's, and the value is read from their cells.
-- a row of the table by its number
use mathlib.Core.Path.{◌≡◌, refl, sym, ap, ◌∙◌, subst, subst₂}
use mathlib.Core.List.{List}
use Prim.Native.Nat.{ℕ, ◌^◌, ◌≤◌, ◌<◌}
use native.Mathlib.Omega.{arith}
use lib.IntN.{ℤ, nat_abs}
use lib.Signed.{mag}
use mir.Syntax.{w16, w32}
use mir.Val.{to_z, of_z}
use Rattle.whole.proofs.Size.{returned}
use Rattle.book.specs.declared.line.Spot.{Spot}
use Rattle.book.specs.Row.{Row, hundredths, row_numbered}
use Rattle.book.specs.Line.{Way, on_straight, value_at}
use Rattle.book.specs.Spot.{spot_of}
use Rattle.book.specs.NoHalf.{NoHalf}
use Rattle.book.specs.Roofs.{roof_table, last_number, width, roof_way}
use Rattle.book.proofs.Tables.{Listed}
use Rattle.book.proofs.Roofed.{way-is, way-few, rows-listed, rows-small, roof-no-half}
use Rattle.book.proofs.roofs.roof_value.Goals.{After-cell-lower, After-cell-upper, Start}
use Rattle.book.proofs.roofs.roof_value.Goals as goal

in_table : {r : Row} (kind n col : ℕ) → n ≡ r.number → Listed (roof_table kind) (last_number kind) r → col < width kind
    → (0 < n) × (n ≤ last_number kind) × (col < width kind)
in_table kind n col e l h = (omega (arith, l.from), omega (arith, l.to), h)

-- a cell of it, as the call of `line_at` has it
read : {r : Row} (table : List Row) (k n col : ℕ) {v : ℤ} → mag v < 2 ^ 15 → v ≡ hundredths (row_numbered n table) col
    → n ≡ r.number → Listed table k r → to_z w16 (of_z w16 v) ≡ hundredths r col
read table k n col {v} f e g l =
    (returned w16 v f).same
    ∙ e
    ∙ ap (λ (i : ℕ). hundredths (row_numbered i table) col) g
    ∙ ap (λ (r : Row). hundredths r col) l.found

-- what the spot has: the numbers of the two rows, and the fraction
module _ (s : Start) where
  lower : s.args.w.lower ≡ (roof_way s.args.s).lower.number
  lower = ap (λ (r : Spot). r.lower) s.requires.kind_nonzero.1

  upper : s.args.w.upper ≡ (roof_way s.args.s).upper.number
  upper = ap (λ (r : Spot). r.upper) s.requires.kind_nonzero.1

  listed : let w = roof_way s.args.s in
      let kind = s.args.s.kind in
      Listed (roof_table kind) (last_number kind) w.lower × Listed (roof_table kind) (last_number kind) w.upper
  listed = rows-listed s.args.s s.requires.sizes_in_order s.requires.kind_nonzero.0

from : (c : After-cell-lower) → let a = c.args in
    to_z w16 (of_z w16 c.cell-lower.result) ≡ hundredths (roof_way a.s).lower a.col
from c =
    let at_start = (goal.at.After-cell-lower c).Start in
    let a = c.args in
    let kind = a.s.kind in
    read (roof_table kind) (last_number kind) a.w.lower a.col c.cell-lower.type_inv c.cell-lower.ensures
    (lower at_start)
    (listed at_start).0

to : (c : After-cell-upper) → let a = c.args in
    to_z w16 (of_z w16 c.cell-upper.result) ≡ hundredths (roof_way a.s).upper a.col
to c =
    let at_start = (goal.at.After-cell-upper c).Start in
    let a = c.args in
    let kind = a.s.kind in
    read (roof_table kind) (last_number kind) a.w.upper a.col c.cell-upper.type_inv c.cell-upper.ensures
    (upper at_start)
    (listed at_start).1

-- what holds of the two rows' hundredths and of the fraction holds of what the code has
module _ (s : Start) (v u : ℤ) (from_is : v ≡ hundredths (roof_way s.args.s).lower s.args.col)
    (to_is : u ≡ hundredths (roof_way s.args.s).upper s.args.col) where
  abbrev way : Way
  way = roof_way s.args.s

  alike : (P : ℤ → ℤ → Spot → Type 0)
      → P (hundredths way.lower s.args.col) (hundredths way.upper s.args.col) (spot_of way)
      → P v u s.args.w
  alike P h =
      subst (P v u) (sym s.requires.kind_nonzero.1) (subst₂ (λ (x y : ℤ). P x y (spot_of way)) (sym from_is)
      (sym to_is) h)

  fine : let w = s.args.w in
      (nat_abs v ≤ 250) × (nat_abs u ≤ 250) × (w.part ≤ w.whole) × (0 < w.whole) × (w.whole < 100000000)
  fine =
      let g = way-is s.args.s in
      let r = rows-small s.args.s s.requires.sizes_in_order s.requires.kind_nonzero.0 in
      let few = way-few s.args.s s.requires.sizes_in_order s.requires.kind_nonzero.0 in
      alike
      (λ v u w.
      (nat_abs v ≤ 250) × (nat_abs u ≤ 250) × (w.part ≤ w.whole) × (0 < w.whole) × (w.whole < 100000000))
      (r.0.at s.args.col, r.1.at s.args.col, g.within, g.some, omega arith)

  none : s.args.s.kind ≡ 1 → NoHalf v u s.args.w.part s.args.w.whole
  none e =
      alike (λ v u w. NoHalf v u w.part w.whole)
      (roof-no-half s.args.s s.requires.sizes_in_order s.requires.kind_nonzero.0 e s.args.col)

  valued : {r : ℤ} → mag r < 2 ^ 31 → r ≡ on_straight v u s.args.w.part s.args.w.whole
      → to_z w32 (of_z w32 r) ≡ value_at way s.args.col
  valued {r} f e =
      (returned w32 r f).same
      ∙ e
      ∙ alike (λ v u w. on_straight v u w.part w.whole ≡ value_at way s.args.col) refl

pub cell-lower-requires : goal.cell-lower-requires
cell-lower-requires s =
    in_table s.args.s.kind s.args.w.lower s.args.col (lower s) (listed s).0 s.requires.kind_nonzero.2

pub cell-upper-requires : goal.cell-upper-requires
cell-upper-requires c =
    let at_start = (goal.at.cell-upper-requires c).Start in
    in_table c.args.s.kind c.args.w.upper c.args.col (upper at_start) (listed at_start).1 c.requires.kind_nonzero.2

pub line_at-requires : goal.line_at-requires
line_at-requires c =
    let at_cell_upper = (goal.at.line_at-requires c).After-cell-upper in
    let at_cell_lower = (goal.at.line_at-requires c).After-cell-lower in
    fine (goal.at.line_at-requires c).Start _ _ (from at_cell_lower) (to at_cell_upper)

pub returns-then-s-ge2 : goal.returns-then-s-ge2
returns-then-s-ge2 c =
    let at_start = (goal.at.returns-then-s-ge2 c).Start in
    let at_cell_upper = (goal.at.returns-then-s-ge2 c).After-cell-upper in
    let at_cell_lower = (goal.at.returns-then-s-ge2 c).After-cell-lower in
    valued at_start _ _ (from at_cell_lower) (to at_cell_upper) c.line_at.type_inv c.line_at.ensures

pub slope_at-requires : goal.slope_at-requires
slope_at-requires c =
    let at_start = (goal.at.slope_at-requires c).Start in
    let at_cell_upper = (goal.at.slope_at-requires c).After-cell-upper in
    let at_cell_lower = (goal.at.slope_at-requires c).After-cell-lower in
    let roofed = c.requires.kind_nonzero.0 in record {
      v_bound = fine at_start _ _ (from at_cell_lower)
          (to at_cell_upper);
      no_half = none at_start _ _ (from at_cell_lower) (to at_cell_upper) (omega arith);
    }

pub returns : goal.returns
returns c =
    let at_start = (goal.at.returns c).Start in
    let at_cell_upper = (goal.at.returns c).After-cell-upper in
    let at_cell_lower = (goal.at.returns c).After-cell-lower in
    valued at_start _ _ (from at_cell_lower) (to at_cell_upper) c.slope_at.type_inv c.slope_at.ensures
