-- `mark_at` meets its contract.
use mathlib.Core.Path.{refl}
use Rattle.std.proofs.lemmas.Option.{IfSome_then}
use Rattle.field.specs.declared.Field.TheVariants.{Dash}
use Rattle.rules.specs.Form.{has_form}
use Rattle.sheet.proofs.PlainLine.{mark-number}
use Rattle.sheet.proofs.plainly.mark_at.Goals as goal

pub returns-then-dash_at : goal.returns-then-dash_at
unfolding has_form
returns-then-dash_at c =
    let d = c.dash_at.ensures c.if-dash_at.true in
    record { field = Dash; formed = tt; marks = refl; says = refl; text = d.1; goes_on = d.0 }

pub returns : goal.returns
returns c = IfSome_then c.number_at.result c.number_at.ensures (λ w n. mark-number n)
