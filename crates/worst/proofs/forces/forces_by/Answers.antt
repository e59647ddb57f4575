-- `forces::forces_by` meets its contract: zeros for a refused job and for numbers past the counts.
use mathlib.Core.Path.{◌≡◌, refl, sym, ap, ◌∙◌}
use mathlib.Core.Bool.{Bool, true, false, cond, ◌&&◌}
use mathlib.Core.List.{[]}
use borrow.Author.Tests.{leb-true}
use lib.Dec.{leb}
use Rattle.whole.proofs.Tests.{and-true}
use Rattle.job.specs.Carried.{carried}
use Rattle.job.specs.Walk.{judged}
use Rattle.worst.specs.Forces.{wind_at, internal_at}
use Rattle.worst.specs.Worst.{given}
use Rattle.worst.specs.PerFace.{forces_up_to, cell_forces, forces_in}
use Rattle.worst.proofs.Reckoned.{refused-is, Taken, taken_is}
use Rattle.worst.proofs.PerFace.{forces-numbered}
use Rattle.worst.proofs.forces.forces_by.Goals.{Else-not-is_numbered, Else-not-is_numbered-2, Else-v-ne0, Start}
use Rattle.worst.proofs.forces.forces_by.Goals as goal

-- a job that is taken
module _ (e : Else-v-ne0) where
  abbrev a : Start
  a = (goal.at.Else-v-ne0 e).Start

  taken : Taken a.args.job a.args.v a.requires
  taken = taken_is a.args.job a.args.v a.requires e.if-v-ne0.false

  -- by whether there are a wind and an internal coefficient of these numbers
  by-numbers : (p q : Bool) → (leb 1 a.args.wind && leb a.args.wind a.args.job.winds.count) ≡ p
      → (leb 1 a.args.internal && leb a.args.internal a.args.job.internals.count) ≡ q
      → let g = given (carried a.args.job) in
      cond (p && q) (cell_forces g (wind_at g a.args.wind) (internal_at g a.args.internal)) (forces_up_to [])
      ≡ forces_in a.args.wind a.args.internal (judged a.args.job)
  by-numbers p q d f =
      sym (ap (forces_in a.args.wind a.args.internal) taken.is
      ∙ forces-numbered a.args.job a.args.wind a.args.internal p q d f)

-- there is a wind of that number
wind : (e : Else-not-is_numbered) → let s = e.args in
    (leb 1 s.wind && leb s.wind s.job.winds.count) ≡ true
wind e = sym e.is_numbered.ensures ∙ e.if-not-is_numbered.false

-- and an internal coefficient
internal : (e : Else-not-is_numbered-2) → let s = e.args in
    (leb 1 s.internal && leb s.internal s.job.internals.count) ≡ true
internal e = sym e.is_numbered-2.ensures ∙ e.if-not-is_numbered-2.false

pub returns-then-v-ne0 : goal.returns-then-v-ne0
returns-then-v-ne0 c =
    c.no_cell.ensures
    ∙ ap (forces_in c.args.wind c.args.internal)
    (sym (refused-is c.args.job c.args.v c.requires c.if-v-ne0.true))

pub returns-then-not-is_numbered : goal.returns-then-not-is_numbered
returns-then-not-is_numbered c =
    let at_v_ne0 = (goal.at.returns-then-not-is_numbered c).Else-v-ne0 in
    c.no_cell-then-not-is_numbered.ensures
    ∙ by-numbers at_v_ne0 false _ (sym c.is_numbered.ensures ∙ c.if-not-is_numbered.true) refl

pub returns-then-not-is_numbered-2 : goal.returns-then-not-is_numbered-2
returns-then-not-is_numbered-2 c =
    let at_not_is_numbered = (goal.at.returns-then-not-is_numbered-2 c).Else-not-is_numbered in
    c.no_cell-then-not-is_numbered-2.ensures
    ∙ by-numbers (goal.at.returns-then-not-is_numbered-2 c).Else-v-ne0 true false (wind at_not_is_numbered)
    (sym c.is_numbered-2.ensures ∙ c.if-not-is_numbered-2.true)

pub cell_at-requires : goal.cell_at-requires
cell_at-requires c =
    let w = and-true _ _ (wind (goal.at.cell_at-requires c).Else-not-is_numbered) in
    let i = and-true _ _ (internal c) in (
      (taken (goal.at.cell_at-requires c).Else-v-ne0).order,
      leb-true _ _ w.0,
      leb-true _ _ w.1,
      leb-true _ _ i.0,
      leb-true _ _ i.1,
    )

pub returns : goal.returns
returns c =
    let at_v_ne0 = (goal.at.returns c).Else-v-ne0 in
    let at_not_is_numbered_2 = (goal.at.returns c).Else-not-is_numbered-2 in
    let at_not_is_numbered = (goal.at.returns c).Else-not-is_numbered in
    c.cell_at.ensures ∙ by-numbers at_v_ne0 true true (wind at_not_is_numbered) (internal at_not_is_numbered_2)
