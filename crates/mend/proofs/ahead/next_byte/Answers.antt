-- `ahead::next_byte` meets its contract: up to j stand returns runs-on.
use mathlib.Core.Path.{refl, sym, ap, ◌∙◌}
use Rattle.mend.specs.Mended.{next}
use Rattle.mend.proofs.LooksAhead.{clean_end, clean-return, clean-other}
use borrow.Author.Rules.{rules}
use Rattle.mend.proofs.ahead.next_byte.Goals as goal

pub loop-j-init : goal.loop-j-init
loop-j-init c = refl

pub returns-then-b-ne13 : goal.returns-then-b-ne13
returns-then-b-ne13 c =
    let s = c.args.s.now in
    sym (ap next (c.loop-j.invariant ∙ clean-other s c.loop-j.j (search rules) c.if-b-ne13.true))

pub loop-j-preserved : goal.loop-j-preserved
loop-j-preserved c =
    let s = c.args.s.now in
    c.loop-j.invariant ∙ clean-return s c.loop-j.j (search rules) c.if-b-ne13.false

pub returns : goal.returns
returns c =
    sym (ap next (c.loop-j.invariant ∙ clean_end c.args.s.now c.loop-j.j (search rules)))
