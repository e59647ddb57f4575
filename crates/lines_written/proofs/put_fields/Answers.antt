-- `put_fields` meets its contract: after i fields their text is put, with a space before each but the first.
use Prim.Native.Nat.{◌<◌}
use native.Mathlib.Omega.{arith}
use lib.ListN.{length, take}
use lib.Seq.{take_all}
use Rattle.lines.specs.Lines.{line_text}
use Rattle.lines.specs.Held.{held}
use Rattle.page.specs.Writing.{Put}
use Rattle.lines_written.proofs.Texts.{line_first, line-next}
use Rattle.page.proofs.Put.{then, put-length}
use Rattle.lines_written.proofs.put_fields.Goals.{After-loop-i, At-loop-i}
use Rattle.lines_written.proofs.put_fields.Goals as goal

-- the first field, and with it all of them
one : (l : At-loop-i)
    → Put l.args.buf.now l.args.at (line_text (take 1 (held l.args.x))) l.put_field-next.new.buf l.put_field-next.result
one l = rw (line_first (held l.args.x)) (rw l.field_at-f.ensures at l.put_field-next.ensures)

all : (c : After-loop-i)
    → Put c.args.buf.now c.args.at (line_text (held c.args.x)) c.loop-i.buf c.loop-i.next
all c =
    rw (take_all c.loop-i.i (held c.args.x) (omega (arith, c.loop-i.invariant.0, c.loop-i-test.false)))
    at (c.loop-i.invariant.1 c.args.buf.now c.args.at (one (goal.at.After-loop-i c).At-loop-i))

pub loop-i-init : goal.loop-i-init
loop-i-init c = (c.held_count-n.ensures, λ l a p. p)

pub loop-i-preserved : goal.loop-i-preserved
loop-i-preserved c =
    let x = c.args.x in
    let few : c.loop-i.i < length (held x) = omega (arith, c.loop-i.invariant.0, c.loop-i-test.true) in (
      c.loop-i.invariant.0,
      λ m a p. rw (line-next (held x) c.loop-i.i c.loop-i.auto.i few)
          (then (c.loop-i.invariant.1 m a p)
          (then c.put_byte-next.ensures (rw c.field_at-g.ensures at c.put_field-next-in-loop-i.ensures))),
    )

pub shape_of-buf : goal.shape_of-buf
shape_of-buf c = put-length (all c)

pub returns : goal.returns
returns c = all c
