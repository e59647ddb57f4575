-- `parts::of_held`: that of the face at its place.
use mathlib.Core.Path.{◌≡◌, ap, ◌∙◌}
use Prim.Native.Nat.{◌-◌, ◌<◌}
use native.Mathlib.Omega.{arith}
use lib.IntN.{nat_abs}
use lib.ListN.{take, drop}
use Rattle.job.specs.Carried.{carried, most_faces}
use Rattle.worksheet.specs.Kept.{part_of_faces}
use Rattle.whole.proofs.Size.{said}
use Rattle.edits.proofs.Counts.{roomed}
use Rattle.worksheet.proofs.OneFace.{held-alone, held_one}
use Rattle.worksheet.proofs.parts.of_held.Goals.{After-magnitude-n, Start}
use Rattle.worksheet.proofs.parts.of_held.Goals as goal

module _ (c : After-magnitude-n) where
  abbrev start : Start
  start = (goal.at.After-magnitude-n c).Start

  size_is : c.magnitude-n.result ≡ nat_abs start.args.k
  size_is = said nat_abs start.args.k c.magnitude-n.ensures start.ranges.k.sfits

  below : c.magnitude-n.result - 1 < most_faces
  below = omega (arith, size_is, start.requires.1, start.requires.2, roomed start.args.job start.requires.0)

pub overflow_sub-f : goal.overflow_sub-f
overflow_sub-f c = omega (arith, size_is c, c.requires.1)

pub offset_bounds-faces-n : goal.offset_bounds-faces-n
offset_bounds-faces-n c = record { fits = omega (arith, below c) }

pub bounds-faces-n : goal.bounds-faces-n
bounds-faces-n c = below c

pub of_face-requires : goal.of_face-requires
of_face-requires c =
    let at_magnitude_n = (goal.at.of_face-requires c).After-magnitude-n in
    let j = c.args.job in
    held-alone j c.requires.0 c.magnitude-n.result (omega (arith, size_is at_magnitude_n, c.requires.1))
    (omega (arith, size_is at_magnitude_n, c.requires.2))

pub returns : goal.returns
returns c =
    let at_magnitude_n = (goal.at.returns c).After-magnitude-n in
    let j = c.args.job in
    c.of_face.ensures
    ∙ ap (part_of_faces (carried j))
    (held_one j c.requires.0 c.magnitude-n.result (omega (arith, size_is at_magnitude_n, c.requires.1))
    (omega (arith, size_is at_magnitude_n, c.requires.2)))
    ∙ ap (λ n. part_of_faces (carried j) (take 1 (drop (n - 1) (carried j).faces))) (size_is at_magnitude_n)
