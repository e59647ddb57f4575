-- `newtons::newtons_at` meets its contract: the entry at the place.
use mathlib.Core.Path.{ap, ◌∙◌}
use mathlib.Core.List.{List}
use borrow.Author.Rules.{rules}
use lib.IntN.{ℤ, pos}
use lib.ListN.{get_or, replicate}
use mir.Syntax.{w64}
use mir.Val.{SFits}
use mir.ValLaws.{to_z-of_z}
use Rattle.job.specs.Carried.{most_faces}
use Rattle.job.specs.Walk.{judged}
use Rattle.column.specs.Column.{column_after}
use Rattle.account.proofs.newtons.newtons_at.Goals as goal

pub returns : goal.returns
returns c =
    let a = c.args in
    let after = c.column_of.new.list in
    let fits : SFits w64 (get_or after a.k (pos 0)) = search rules in
    to_z-of_z w64 _ fits
    ∙ ap (λ (l : List ℤ). get_or l a.k (pos 0))
    (c.column_of.ensures.1
    ∙ ap (λ (z : ℤ). column_after (judged a.job) z (replicate most_faces (pos 0)))
    (to_z-of_z w64 a.line c.ranges.line))
