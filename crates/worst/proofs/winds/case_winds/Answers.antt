-- `winds::case_winds` meets its contract: one after the other, from a table of the same building.
use mathlib.Core.Path.{ap, ◌∙◌}
use Rattle.worst.specs.Engine.{case_wind}
use Rattle.worst.proofs.winds.case_winds.Goals as goal

pub returns : goal.returns
returns c =
    let up = c.case_wind-greatest.ensures in
    let down = c.case_wind-least.ensures in
    let least = down.0 ∙ ap (λ b. case_wind b c.args.down) up.1 in
    ((λ j. record { greatest = up.0 j; least = least j }), down.1 ∙ up.1)
