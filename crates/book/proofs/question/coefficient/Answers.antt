-- `question::coefficient`: on a wall or on a roof.
-- what the test of the place answered
use mathlib.Core.Path.{◌≡◌, sym, ap, ◌∙◌, subst}
use mathlib.Core.Bool.{true, false}
use Prim.Native.Nat.{ℕ, ◌<◌}
use Rattle.building.specs.Places.{wall_place}
use Rattle.book.specs.Walls.{wall_way}
use Rattle.book.specs.Question.{one_at}
use Rattle.book.proofs.Columns.{wall_column-below}
use Rattle.book.proofs.Answers.{on-wall}
use Rattle.book.proofs.question.coefficient.Goals.{Else-wall_place, Then-wall_place}
use Rattle.book.proofs.question.coefficient.Goals as goal

wall : (c : Then-wall_place) → wall_place c.args.place ≡ true
wall c = sym c.wall_place.ensures ∙ c.if-wall_place.true

off-wall : (c : Else-wall_place) → wall_place c.args.place ≡ false
off-wall c = sym c.wall_place.ensures ∙ c.if-wall_place.false

pub wall_column-requires : goal.wall_column-requires
wall_column-requires c = wall c

pub on_wall-requires : goal.on_wall-requires
on_wall-requires c = record {
  sizes_in_order = c.requires.sizes_in_order;
  col_bound = subst (λ (n : ℕ). n < 9) (sym c.wall_column.ensures)
      (wall_column-below c.args.wind c.args.place (wall (goal.at.on_wall-requires c).Then-wall_place));
}

pub returns-then-wall_place : goal.returns-then-wall_place
returns-then-wall_place c =
    let a = c.args in
    c.on_wall.ensures
    ∙ ap (one_at (wall_way a.s)) c.wall_column.ensures
    ∙ sym (on-wall a.s a.wind a.place (wall (goal.at.returns-then-wall_place c).Then-wall_place))

pub on_roof-requires : goal.on_roof-requires
on_roof-requires c = record {
  sizes_in_order = c.requires.sizes_in_order;
  kind_nonzero = (
    c.requires.kind_nonzero
        (off-wall c),
    off-wall c,
  );
}

pub returns : goal.returns
returns c = c.on_roof.ensures
