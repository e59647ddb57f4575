-- `chosen::six_cases` meets its contract: a call for each case.
use Rattle.worst.proofs.chosen.six_cases.Goals as goal

pub returns : goal.returns
returns c =
    λ j. record {
      x = record { greatest = c.extreme-x_most.ensures j; least = c.extreme-x_least.ensures j };
      y = record { greatest = c.extreme-y_most.ensures j; least = c.extreme-y_least.ensures j };
      z = record { greatest = c.extreme-z_most.ensures j; least = c.extreme-z_least.ensures j };
    }
