-- `opens_tall` meets its contract: another first byte opens no sheet with heights.
use Prim.Native.Nat.{ℕ}
use mathlib.Core.Path.{◌∙◌, ap}
use lib.Dec.{eqb}
use Rattle.lines.specs.Lines.{lines_in}
use Rattle.entry.specs.Says.{letter}
use Rattle.job.specs.Carried.{nothing}
use Rattle.job.specs.Walk.{walk, sheet}
use Rattle.sheet.proofs.Opens.{opens-low, empty-byte}
use Rattle.sheet.proofs.Steps.{walk-opened}
use Rattle.sheet.proofs.read.opens_tall.Goals.{then-s-eq0-via-then-s-eq0, then-s-eq0-via-else-s-eq0+then-s-ne86}
use Rattle.sheet.proofs.read.opens_tall.Goals as goal

pub returns-then-s-eq0 : goal.returns-then-s-eq0
returns-then-s-eq0 c =
    opens-low _
    (elim c.then-s-eq0.branch [
      | then-s-eq0-via-then-s-eq0 w ↦ empty-byte c.args.s.now w.if-s-eq0.true
      | then-s-eq0-via-else-s-eq0+then-s-ne86 w ↦ w.if-s-ne86.true
    ])

pub returns : goal.returns
returns c =
    let s = c.args.s.now in
    ap (λ (n : ℕ). walk (sheet (eqb n 86)) nothing 1 (lines_in s))
    (c.letter_of.ensures ∙ ap letter c.field_at.ensures)
    ∙ walk-opened s c.line_at.result c.line_at.ensures
