-- `cells::of_wind` meets its contract: after i internal coefficients the first i cells stand.
use mathlib.Core.Path.{◌≡◌, sym, ap, ◌∙◌, subst}
use mathlib.Core.List.{[], ◌∷◌}
use Prim.Native.Nat.{ℕ, ◌<◌, ◌≤◌}
use native.Mathlib.Omega.{arith}
use lib.IntN.{pos, nat_abs}
use lib.ListN.{get_or, take, length-take}
use mir.Syntax.{w64}
use mir.Val.{to_z, of_z}
use Rattle.std.proofs.Common.{get_or-take}
use Rattle.whole.proofs.Size.{num≤, back}
use Rattle.worst.specs.declared.StoredCell.{StoredCell}
use Rattle.whole.specs.Lists.{numbers}
use Rattle.worst.specs.Amounts.{axes_in}
use Rattle.worst.specs.Engine.{cell_with, UpTo}
use Rattle.worst.proofs.StoredSums.{up-to-none, up-to-next}
use Rattle.worst.proofs.cells.of_wind.Goals.{In-loop-i, Start}
use Rattle.worst.proofs.cells.of_wind.Goals as goal

-- the internal coefficient, read back from its bits
module _ (c : In-loop-i) where
  abbrev a : Start
  a = (goal.at.In-loop-i c).Start

  abbrev i : ℕ
  i = c.loop-i.i

  counted : i < a.args.internals.count
  counted =
      let t = c.loop-i-test.true in
      omega (arith, length-take a.args.internals.count a.args.internals.entry)

  few : i < 4
  few = let t = counted in omega (arith, a.requires.1.0)

  small : nat_abs (get_or a.args.internals.entry i (pos 0)) ≤ 100
  small = a.requires.1.1 i counted

  internal : to_z w64 (of_z w64 (get_or (take a.args.internals.count a.args.internals.entry) i (pos 0)))
      ≡ get_or a.args.internals.entry i (pos 0)
  internal =
      ap (λ z. to_z w64 (of_z w64 z)) (get_or-take a.args.internals.count a.args.internals.entry i (pos 0) counted)
      ∙ (back w64 (num≤ (get_or a.args.internals.entry i (pos 0)) small) tt).same

-- at first zeros
pub loop-i-init : goal.loop-i-init
unfolding numbers
loop-i-init c =
    let e = c.no_cell-empty.ensures in
    λ h q. subst (λ (z : StoredCell). UpTo 4 h 0 (z ∷ z ∷ z ∷ z ∷ [])) (sym e) (up-to-none 4 h)

pub cell_of-requires : goal.cell_of-requires
cell_of-requires c =
    let at_loop = (goal.at.cell_of-requires c).In-loop-i in
    (c.requires.0, subst (λ z. nat_abs z ≤ 100) (sym (internal at_loop)) (small at_loop))

pub offset_bounds-four-i : goal.offset_bounds-four-i
offset_bounds-four-i c = record { fits = omega (arith, few (goal.at.offset_bounds-four-i c).In-loop-i) }

pub bounds-four-i : goal.bounds-four-i
bounds-four-i c = few (goal.at.bounds-four-i c).In-loop-i

pub loop-i-preserved : goal.loop-i-preserved
loop-i-preserved c =
    let at_loop = (goal.at.loop-i-preserved c).In-loop-i in
    let stored = c.cell_of.ensures ∙ ap (cell_with (axes_in c.args.sums)) (internal at_loop) in
    λ h e. up-to-next 4 h (i at_loop) c.loop-i.four.cell c.cell_of.result (few at_loop) (c.loop-i.invariant h e)
    (e (i at_loop) (counted at_loop) ∙ sym stored)

pub returns : goal.returns
returns c =
    let l = c.loop-i in
    let s = c.args in
    let left = c.loop-i-test.false in
    let all : l.i ≡ s.internals.count = omega (arith, length-take s.internals.count s.internals.entry) in
    λ h e. subst (λ n. UpTo 4 h n l.four.cell) all (l.invariant h e)
