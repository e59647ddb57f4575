-- `spots::step_field`: the fields in their order.
use mathlib.Core.Path.{refl, ◌∙◌}
use Rattle.rules.proofs.Spotted.{at-or, step_field}
use Rattle.rules.proofs.spots.step_field.Goals as goal

pub returns : goal.returns
returns c highest s =
    let n = c.args.field in
    at-or n 1 refl (at-or n 2 refl c.ranged-none.ensures c.at.ensures) c.at-2.ensures ∙ step_field n
    highest s
