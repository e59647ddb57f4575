-- `asked`: the year and the building decide, and where they are in order the direction and the place.
-- what the year and the building came to, carried on
use mathlib.Core.Path.{◌≡◌, sym, ap, ◌∙◌}
use lib.IntN.{ℤ}
use Rattle.std.specs.Prelude.{Ok, Err}
use Rattle.whole.proofs.Size.{said₂}
use Rattle.building.specs.Question.{Question, placed_of, asked_of}
use Rattle.building.proofs.Judged.{passed_on, onward, asked-onward}
use Rattle.building.proofs.asked.Goals.{After-sized}
use Rattle.building.proofs.asked.Goals as goal

on : (c : After-sized) (q : Question) → c.sized.result ≡ q
    → let a = c.args in
    onward a.d.year a.d.building a.direction a.place q
    ≡ asked_of a.d.year a.d.building a.direction a.place
on c q e =
    let a = c.args in
    ap (onward a.d.year a.d.building a.direction a.place) (sym e ∙ c.sized.ensures)
    ∙ asked-onward a.d.year a.d.building a.direction a.place

pub returns-in_err-s : goal.returns-in_err-s
returns-in_err-s c =
    passed_on c.from_residual.result c.from_residual.ensures.1
    ∙ on (goal.at.returns-in_err-s c).After-sized (Err c.in_err-s.field-0.0) c.in_err-s.was

pub returns : goal.returns
returns c =
    let a = c.args in
    let sizes = c.in_ok-s.s in
    said₂ (λ (k z : ℤ). placed_of sizes k z a.place) a.d.building.kind a.direction c.placed.ensures
    c.struct_told-1.given.1.0.1.1.1.1.1.1.0.1 c.ranges.direction.sfits
    ∙ on (goal.at.returns c).After-sized (Ok sizes) c.in_ok-s.was
