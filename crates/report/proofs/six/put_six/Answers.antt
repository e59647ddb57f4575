-- `put_six` meets its contract: the lines, one after the other.
use Prim.Native.Nat.{ℕ, ◌≤◌}
use mathlib.Core.Path.{◌≡◌}
use mathlib.Core.List.{List, [], ◌++◌}
use native.Mathlib.Omega.{arith}
use lib.ListN.{length}
use mir.Syntax.{w64}
use mir.Val.{to_z, of_z}
use Rattle.whole.proofs.Size.{returned}
use Rattle.worst.specs.declared.Extreme.{Extreme}
use Rattle.page.specs.Writing.{Put}
use Rattle.page.proofs.Put.{put-length, put-nothing}
use Rattle.report.specs.Lines.{extreme_text, x, y, z, max, min}
use Rattle.report.proofs.Lines.{six-lines, line-asks, line-put, front}
use Rattle.report.proofs.six.put_six.Goals.{After-put_line, After-put_line-next, After-put_line-next-2}
use Rattle.report.proofs.six.put_six.Goals.{After-put_line-next-3, After-put_line-next-4, After-put_line-next-5, Start}
use Rattle.report.proofs.six.put_six.Goals as goal

read : (a : Start) → to_z w64 (of_z w64 a.args.year) ≡ a.args.year
read a = (returned w64 a.args.year a.ranges.year.sfits).same

-- the lines up to each, and that there is room for them
abbrev line : Start → ℕ → List ℕ → Extreme → List ℕ
line a letter word e = extreme_text a.args.year letter word e

abbrev upto-one : Start → List ℕ
upto-one a = line a x max a.args.s.now.x.greatest

abbrev upto-two : Start → List ℕ
upto-two a = upto-one a ++ line a x min a.args.s.now.x.least

abbrev upto-three : Start → List ℕ
upto-three a = upto-two a ++ line a y max a.args.s.now.y.greatest

abbrev upto-four : Start → List ℕ
upto-four a = upto-three a ++ line a y min a.args.s.now.y.least

abbrev upto-five : Start → List ℕ
upto-five a = upto-four a ++ line a z max a.args.s.now.z.greatest

abbrev upto-six : Start → List ℕ
upto-six a = upto-five a ++ line a z min a.args.s.now.z.least

room-six : (a : Start) → length (upto-six a) ≤ length a.args.buf.now
room-six a = rw (six-lines a.args.year) at a.requires.1

room-five : (a : Start) → length (upto-five a) ≤ length a.args.buf.now
room-five a = front (upto-five a) (line a z min a.args.s.now.z.least) (room-six a)

room-four : (a : Start) → length (upto-four a) ≤ length a.args.buf.now
room-four a = front (upto-four a) (line a z max a.args.s.now.z.greatest) (room-five a)

room-three : (a : Start) → length (upto-three a) ≤ length a.args.buf.now
room-three a = front (upto-three a) (line a y min a.args.s.now.y.least) (room-four a)

room-two : (a : Start) → length (upto-two a) ≤ length a.args.buf.now
room-two a = front (upto-two a) (line a y max a.args.s.now.y.greatest) (room-three a)

room-one : (a : Start) → length (upto-one a) ≤ length a.args.buf.now
room-one a = front (upto-one a) (line a x min a.args.s.now.x.least) (room-two a)

nothing : (a : Start) → Put a.args.buf.now 0 [] a.args.buf.now 0
nothing a = put-nothing a.args.buf.now 0 (omega arith)

one : (c : After-put_line-next)
    → Put c.args.buf.now 0 (upto-one (goal.at.After-put_line-next c).Start) c.put_line-next.new.buf
    c.put_line-next.result
one c =
    let at_start = (goal.at.After-put_line-next c).Start in
    line-put (read at_start) x max c.args.s.now.x.greatest (nothing at_start)
    c.put_bytes-named.ensures c.put_line-next.ensures

two : (c : After-put_line-next-2)
    → Put c.args.buf.now 0 (upto-two (goal.at.After-put_line-next-2 c).Start) c.put_line-next-2.new.buf
    c.put_line-next-2.result
two c =
    let at_put_line_next = (goal.at.After-put_line-next-2 c).After-put_line-next in
    line-put (read (goal.at.After-put_line-next-2 c).Start) x min c.args.s.now.x.least (one at_put_line_next)
    c.put_bytes-named-2.ensures c.put_line-next-2.ensures

three : (c : After-put_line-next-3)
    → Put c.args.buf.now 0 (upto-three (goal.at.After-put_line-next-3 c).Start) c.put_line-next-3.new.buf
    c.put_line-next-3.result
three c =
    let at_put_line_next_2 = (goal.at.After-put_line-next-3 c).After-put_line-next-2 in
    line-put (read (goal.at.After-put_line-next-3 c).Start) y max c.args.s.now.y.greatest (two at_put_line_next_2)
    c.put_bytes-named-3.ensures c.put_line-next-3.ensures

four : (c : After-put_line-next-4)
    → Put c.args.buf.now 0 (upto-four (goal.at.After-put_line-next-4 c).Start) c.put_line-next-4.new.buf
    c.put_line-next-4.result
four c =
    let at_put_line_next_3 = (goal.at.After-put_line-next-4 c).After-put_line-next-3 in
    line-put (read (goal.at.After-put_line-next-4 c).Start) y min c.args.s.now.y.least (three at_put_line_next_3)
    c.put_bytes-named-4.ensures c.put_line-next-4.ensures

five : (c : After-put_line-next-5)
    → Put c.args.buf.now 0 (upto-five (goal.at.After-put_line-next-5 c).Start) c.put_line-next-5.new.buf
    c.put_line-next-5.result
five c =
    let at_put_line_next_4 = (goal.at.After-put_line-next-5 c).After-put_line-next-4 in
    line-put (read (goal.at.After-put_line-next-5 c).Start) z max c.args.s.now.z.greatest (four at_put_line_next_4)
    c.put_bytes-named-5.ensures c.put_line-next-5.ensures

six : (c : After-put_line)
    → Put c.args.buf.now 0 (upto-six (goal.at.After-put_line c).Start) c.put_line.new.buf c.put_line.result
six c =
    let at_put_line_next_5 = (goal.at.After-put_line c).After-put_line-next-5 in
    line-put (read (goal.at.After-put_line c).Start) z min c.args.s.now.z.least (five at_put_line_next_5)
    c.put_bytes-named-6.ensures c.put_line.ensures

pub put_line-next-requires : goal.put_line-next-requires
put_line-next-requires c =
    let at_start = (goal.at.put_line-next-requires c).Start in
    line-asks (read at_start) x max c.args.s.now.x.greatest (nothing at_start)
    c.put_bytes-named.ensures c.requires.0.0.0 (room-one at_start)

pub put_line-next-requires-2 : goal.put_line-next-requires-2
put_line-next-requires-2 c =
    let at_start = (goal.at.put_line-next-requires-2 c).Start in
    let at_put_line_next = (goal.at.put_line-next-requires-2 c).After-put_line-next in
    line-asks (read at_start) x min c.args.s.now.x.least (one at_put_line_next)
    c.put_bytes-named-2.ensures c.requires.0.0.1 (room-two at_start)

pub put_line-next-requires-3 : goal.put_line-next-requires-3
put_line-next-requires-3 c =
    let at_start = (goal.at.put_line-next-requires-3 c).Start in
    let at_put_line_next_2 = (goal.at.put_line-next-requires-3 c).After-put_line-next-2 in
    line-asks (read at_start) y max c.args.s.now.y.greatest (two at_put_line_next_2)
    c.put_bytes-named-3.ensures c.requires.0.1.0 (room-three at_start)

pub put_line-next-requires-4 : goal.put_line-next-requires-4
put_line-next-requires-4 c =
    let at_start = (goal.at.put_line-next-requires-4 c).Start in
    let at_put_line_next_3 = (goal.at.put_line-next-requires-4 c).After-put_line-next-3 in
    line-asks (read at_start) y min c.args.s.now.y.least (three at_put_line_next_3)
    c.put_bytes-named-4.ensures c.requires.0.1.1 (room-four at_start)

pub put_line-next-requires-5 : goal.put_line-next-requires-5
put_line-next-requires-5 c =
    let at_start = (goal.at.put_line-next-requires-5 c).Start in
    let at_put_line_next_4 = (goal.at.put_line-next-requires-5 c).After-put_line-next-4 in
    line-asks (read at_start) z max c.args.s.now.z.greatest (four at_put_line_next_4)
    c.put_bytes-named-5.ensures c.requires.0.2.0 (room-five at_start)

pub put_line-requires : goal.put_line-requires
put_line-requires c =
    let at_start = (goal.at.put_line-requires c).Start in
    let at_put_line_next_5 = (goal.at.put_line-requires c).After-put_line-next-5 in
    line-asks (read at_start) z min c.args.s.now.z.least (five at_put_line_next_5)
    c.put_bytes-named-6.ensures c.requires.0.2.1 (room-six at_start)

pub shape_of-buf : goal.shape_of-buf
shape_of-buf c = put-length (six (goal.at.shape_of-buf c).After-put_line)

pub returns : goal.returns
returns c =
    rw (six-lines c.args.year) (six (goal.at.returns c).After-put_line)
