-- `forces::of_values` meets its contract: an arm for one alternative and one for two.
use mathlib.Core.Path.{sym, ap, ◌∙◌}
use mir.Syntax.{w32}
use Rattle.whole.proofs.Size.{returned}
use Rattle.book.specs.declared.Values.{Values}
use Rattle.book.specs.Answer.{values_in}
use Rattle.worst.specs.AtPressure.{coefficients_of}
use Rattle.worst.proofs.forces.of_values.Goals as goal

pub returns-in-One : goal.returns-in-One
returns-in-One c =
    let v = (returned w32 c.in-One.v c.in-One.known_told-1-own.given.0.1).same in
    c.of_pair.ensures
    ∙ (λ j. record { count = 1; first = v j; last = v j })
    ∙ ap (λ (l : Values). coefficients_of (values_in l)) (sym c.in-One.is)

pub returns-in-Two : goal.returns-in-Two
returns-in-Two c =
    let v = (returned w32 c.in-Two.v c.in-Two.known_told-in-Two-1-own.given.0.1).same in
    let u = (returned w32 c.in-Two.u c.in-Two.known_told-in-Two-1-own.given.1.0.1).same in
    c.of_pair-in-Two.ensures
    ∙ (λ j. record { count = 2; first = v j; last = u j })
    ∙ ap (λ (l : Values). coefficients_of (values_in l)) (sym c.in-Two.is)
