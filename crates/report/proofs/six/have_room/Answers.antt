-- `have_room` meets its contract: the longest six lines find room, or the sum of their sizes does.
use mathlib.Core.Path.{◌≡◌, sym, subst, ap, ◌∙◌}
use Prim.Native.Nat.{ℕ, ◌+◌, ◌≤◌}
use native.Mathlib.Omega.{arith}
use lib.Dec.{leb}
use lib.ListN.{length}
use borrow.Author.Tests.{le-leb}
use mir.Syntax.{w64}
use mir.Val.{to_z, of_z}
use Rattle.whole.proofs.Size.{returned}
use Rattle.worst.specs.declared.Extremes.{Extremes}
use Rattle.report.specs.Lines.{x, y, z, axis_text, six_text}
use Rattle.report.specs.Short.{AllSix, Printable, faces_shown}
use Rattle.report.proofs.Lengths.{all_more, axis-length, six-length, six-most}
use Rattle.report.proofs.six.have_room.Goals.{After-axis_size, Start}
use Rattle.report.proofs.six.have_room.Goals as goal

read : (a : Start) → to_z w64 (of_z w64 a.args.year) ≡ a.args.year
read a = (returned w64 a.args.year a.ranges.year.sfits).same

most : (a : Start) → length (six_text a.args.year a.args.s.now) ≤ 3084
most a = let s = a.args.s.now in omega (arith, six-most a.args.year (faces_shown s) s a.requires.0, a.requires.1)

-- an axis is as long with its own letter
sized : (a : Start) (letter : ℕ) (e : Extremes) {r : ℕ}
    → r ≡ length (axis_text (to_z w64 (of_z w64 a.args.year)) x e) → r ≡ length (axis_text a.args.year letter e)
sized a letter e h =
    h ∙ ap (λ v. length (axis_text v x e)) (read a) ∙ axis-length a.args.year x e
    ∙ sym (axis-length a.args.year letter e)

-- each axis, as `axis_size` is handed it
all : (a : Start) → AllSix (Printable (to_z w64 (of_z w64 a.args.year)) 240) a.args.s.now
all a =
    let s = a.args.s.now in
    subst (λ v. AllSix (Printable v 240) s) (sym (read a))
    (all_more a.args.year (faces_shown s) 240 a.requires.1 s a.requires.0)

whole : (c : After-axis_size)
    → c.axis_size-x.result + c.axis_size-y.result + c.axis_size.result
    ≡ length (six_text c.args.year c.args.s.now)
whole c =
    let at_start = (goal.at.After-axis_size c).Start in
    let s = c.args.s.now in
    omega (
      arith,
      sized at_start x s.x c.axis_size-x.ensures,
      sized at_start y s.y c.axis_size-y.ensures,
      sized at_start z s.z c.axis_size.ensures,
      six-length c.args.year s,
    )

pub returns-then-s-room : goal.returns-then-s-room
returns-then-s-room c =
    let s = c.args.s.now in
    sym
    (le-leb (length (six_text c.args.year s)) c.args.room
    (omega (arith, six-most c.args.year (faces_shown s) s c.requires.0, c.if-s-room.true)))

pub axis_size-x-requires : goal.axis_size-x-requires
axis_size-x-requires c = (all (goal.at.axis_size-x-requires c).Start).0

pub axis_size-y-requires : goal.axis_size-y-requires
axis_size-y-requires c = (all (goal.at.axis_size-y-requires c).Start).1

pub overflow_add-result : goal.overflow_add-result
overflow_add-result c =
    let at_start = (goal.at.overflow_add-result c).Start in
    let s = c.args.s.now in
    omega (
      arith,
      sized at_start x s.x c.axis_size-x.ensures,
      sized at_start y s.y c.axis_size-y.ensures,
      six-length c.args.year s,
      most at_start,
    )

pub axis_size-requires : goal.axis_size-requires
axis_size-requires c = (all (goal.at.axis_size-requires c).Start).2

pub overflow_add-result-2 : goal.overflow_add-result-2
overflow_add-result-2 c = omega (arith, whole c, most (goal.at.overflow_add-result-2 c).Start)

pub returns : goal.returns
returns c = ap (λ (k : ℕ). leb k c.args.room) (whole c)
