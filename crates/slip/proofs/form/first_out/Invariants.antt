-- `form::first_out`: field by field, as long as they are in form.
use Rattle.rules.specs.Sections.{forms}
use Rattle.slip.proofs.Out.{Formed}
use Rattle.slip.proofs.form.first_out.Given as goal

abbrev pub invariant-loop-i : goal.invariant-loop-i
invariant-loop-i l = Formed (forms l.heights l.k) l.l l.i l.next
