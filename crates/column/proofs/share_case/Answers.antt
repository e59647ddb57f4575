-- `share_case` meets its contract: the forces of the line's cell, of which each face has the one at its alternative.
use mathlib.Core.Path.{◌≡◌, ap, ◌∙◌}
use Prim.Native.Nat.{◌≤◌}
use native.Mathlib.Omega.{arith}
use lib.IntN.{pos}
use lib.ListN.{length, take, length-take}
use mir.Syntax.{w64}
use mir.ValLaws.{to_z-of_z}
use Rattle.whole.specs.Lists.{first_of}
use Rattle.whole.proofs.Lists.{first_of-length}
use Rattle.page.specs.Writing.{buffer_after}
use Rattle.job.specs.Carried.{most_faces}
use Rattle.job.specs.Walk.{judged}
use Rattle.worst.specs.Rows.{rows, force_in}
use Rattle.worst.proofs.Rows.{ready}
use Rattle.sharing.specs.Column.{column, sharing}
use Rattle.column.specs.Column.{at_choice, axis_of, forces_on}
use Rattle.column.proofs.Shown.{line-forces}
use Rattle.column.proofs.share_case.Goals.{After-at_choice-all, Start}
use Rattle.column.proofs.share_case.Goals as goal

few : (s : Start) → s.args.job.faces.count ≤ most_faces
few s = (ready s.args.job s.requires.0).profiled.few

-- the forces, as many as there is room for
module _ (c : After-at_choice-all) where
  abbrev s : Start
  s = (goal.at.After-at_choice-all c).Start

  long : length c.at_choice-all.result.face ≡ most_faces
  long = ap length c.at_choice-all.ensures ∙ first_of-length (pos 0) most_faces _

  part : s.args.job.faces.count ≡ length (take s.args.job.faces.count c.at_choice-all.result.face)
  part = simp length-take (omega (arith, long, few s))

  own : take s.args.job.faces.count c.at_choice-all.result.face ≡ forces_on s.args.line (judged
      s.args.job)
  own =
      let a = s.args in
      let cell = c.forces_of-cell in
      let n = a.job.faces.count in
      line-forces a.job s.requires.0 a.line a.shown s.requires.1 s.requires.2 c.at_choice-all.result.face
      cell.result cell.ensures
      (c.at_choice-all.ensures
      ∙ ap
      (λ z. first_of (pos 0) most_faces
      (at_choice (force_in (axis_of z)) (rows n cell.result) (first_of 0 n a.shown.alternative)))
      (to_z-of_z w64 a.line s.ranges.line))

pub at_choice-all-requires : goal.at_choice-all-requires
at_choice-all-requires c = few (goal.at.at_choice-all-requires c).Start

pub slice_bounds-own-end : goal.slice_bounds-own-end
slice_bounds-own-end c =
    let at_at_choice_all = (goal.at.slice_bounds-own-end c).After-at_choice-all in
    omega (arith, long at_at_choice_all, few (goal.at.slice_bounds-own-end c).Start)

pub slice_bounds-share-end : goal.slice_bounds-share-end
slice_bounds-share-end c = part (goal.at.slice_bounds-share-end c).After-at_choice-all

pub returns : goal.returns
returns c =
    let at_at_choice_all = (goal.at.returns c).After-at_choice-all in
    let e = c.share.ensures in
    let old = c.args.list.now in (
      e.0 ∙ ap (λ l. sharing l old) (own at_at_choice_all),
      e.1
          ∙ ap (λ l. buffer_after (column l) old) (own at_at_choice_all),
    )
