-- `in_form` meets its contract: what is left is in form exactly if the whole line is.
use Prim.Native.Nat.{◌≤◌}
use mathlib.Core.Path.{◌≡◌}
use lib.ListN.{drop}
use Rattle.lines.specs.Held.{held}
use Rattle.rules.specs.Form.{in_form}
use Rattle.rules.specs.Sections.{forms}
use Rattle.rules.proofs.form_of.in_form.Given as goal

abbrev pub invariant-loop-i : goal.invariant-loop-i
invariant-loop-i l =
    in_form (drop l.i (forms l.heights l.k)) (drop l.i (held l.x)) ≡ in_form (forms l.heights l.k) (held l.x)
