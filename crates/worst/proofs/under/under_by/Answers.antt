-- `under::under_by` meets its contract: zeros for a refused job and for numbers past the counts.
use mathlib.Core.Path.{◌≡◌, refl, sym, ap, ◌∙◌}
use mathlib.Core.Bool.{Bool, true, false, cond, ◌&&◌}
use borrow.Author.Tests.{leb-true}
use lib.Dec.{leb}
use Rattle.whole.proofs.Tests.{and-true}
use Rattle.job.specs.Carried.{carried}
use Rattle.job.specs.Walk.{judged}
use Rattle.worst.specs.Forces.{wind_at, face_at}
use Rattle.worst.specs.Worst.{given}
use Rattle.worst.specs.UnderWind.{under_wind, not_under, under_in}
use Rattle.worst.proofs.Reckoned.{refused-is, Taken, taken_is}
use Rattle.worst.proofs.FaceUnder.{under-counted}
use Rattle.worst.proofs.under.under_by.Goals.{Else-not-is_numbered, Else-not-is_numbered-2, Else-v-ne0, Start}
use Rattle.worst.proofs.under.under_by.Goals as goal

-- a job that is taken
module _ (e : Else-v-ne0) where
  abbrev a : Start
  a = (goal.at.Else-v-ne0 e).Start

  taken : Taken a.args.job a.args.v a.requires
  taken = taken_is a.args.job a.args.v a.requires e.if-v-ne0.false

  -- by whether there are a wind and a face of these numbers
  by-numbers : (p q : Bool) → (leb 1 a.args.wind && leb a.args.wind a.args.job.winds.count) ≡ p
      → (leb 1 a.args.face && leb a.args.face a.args.job.faces.count) ≡ q
      → let g = given (carried a.args.job) in
      cond (p && q) (under_wind g (wind_at g a.args.wind) (face_at g a.args.face)) not_under
      ≡ under_in a.args.wind a.args.face (judged a.args.job)
  by-numbers p q d f =
      sym (ap (under_in a.args.wind a.args.face) taken.is
      ∙ under-counted a.args.job a.args.wind a.args.face p q d f)

-- there is a wind of that number
wind : (e : Else-not-is_numbered) → let s = e.args in
    (leb 1 s.wind && leb s.wind s.job.winds.count) ≡ true
wind e = sym e.is_numbered.ensures ∙ e.if-not-is_numbered.false

-- and a face
face : (e : Else-not-is_numbered-2) → let s = e.args in
    (leb 1 s.face && leb s.face s.job.faces.count) ≡ true
face e = sym e.is_numbered-2.ensures ∙ e.if-not-is_numbered-2.false

pub returns-then-v-ne0 : goal.returns-then-v-ne0
returns-then-v-ne0 c =
    c.none.ensures
    ∙ ap (under_in c.args.wind c.args.face)
    (sym (refused-is c.args.job c.args.v c.requires c.if-v-ne0.true))

pub returns-then-not-is_numbered : goal.returns-then-not-is_numbered
returns-then-not-is_numbered c =
    let at_v_ne0 = (goal.at.returns-then-not-is_numbered c).Else-v-ne0 in
    c.none-then-not-is_numbered.ensures
    ∙ by-numbers at_v_ne0 false _ (sym c.is_numbered.ensures ∙ c.if-not-is_numbered.true) refl

pub returns-then-not-is_numbered-2 : goal.returns-then-not-is_numbered-2
returns-then-not-is_numbered-2 c =
    let at_not_is_numbered = (goal.at.returns-then-not-is_numbered-2 c).Else-not-is_numbered in
    c.none-then-not-is_numbered-2.ensures
    ∙ by-numbers (goal.at.returns-then-not-is_numbered-2 c).Else-v-ne0 true false (wind at_not_is_numbered)
    (sym c.is_numbered-2.ensures ∙ c.if-not-is_numbered-2.true)

pub of_numbers-requires : goal.of_numbers-requires
of_numbers-requires c =
    let w = and-true _ _ (wind (goal.at.of_numbers-requires c).Else-not-is_numbered) in
    let k = and-true _ _ (face c) in (
      (taken (goal.at.of_numbers-requires c).Else-v-ne0).order,
      leb-true _ _ w.0,
      leb-true _ _ w.1,
      leb-true _ _ k.0,
      leb-true _ _ k.1,
    )

pub returns : goal.returns
returns c =
    let at_v_ne0 = (goal.at.returns c).Else-v-ne0 in
    let at_not_is_numbered_2 = (goal.at.returns c).Else-not-is_numbered-2 in
    let at_not_is_numbered = (goal.at.returns c).Else-not-is_numbered in
    c.of_numbers.ensures ∙ by-numbers at_v_ne0 true true (wind at_not_is_numbered) (face at_not_is_numbered_2)
