-- `line_of`: the fields stand in the line, and no others.
use mathlib.Core.Path.{◌≡◌, ap, ◌∙◌}
use mathlib.Core.List.{List, map}
use native.Mathlib.Omega.{arith}
use lib.ListN.{length, take}
use lib.Seq.{sets, take_all}
use borrow.Author.Tests.{le-leb}
use Rattle.field.specs.declared.Field.{Field}
use Rattle.lines.specs.Held.{blank, slot, held_line}
use Rattle.entry_written.proofs.line_of.Goals as goal

pub returns : goal.returns
unfolding held_line
returns c =
    let g = c.args.given.now in
    let all : take c.loop-i.i g ≡ g = take_all c.loop-i.i g (omega arith) in
    let fields = c.loop-i.invariant ∙ ap (λ (fs : List Field). sets blank 0 (map slot fs)) all in
    rw (le-leb (length g) 6 c.requires) (λ j. record { count = length g; next = 0; fields = fields j })
