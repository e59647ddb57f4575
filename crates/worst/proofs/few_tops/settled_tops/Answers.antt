-- `few_tops::settled_tops` meets its contract: on each side.
use mathlib.Core.Path.{◌≡◌}
use Rattle.worst.specs.Engine.{top_of, few_top_of, end_of}
use Rattle.worst.proofs.Kept.{either}
use Rattle.worst.proofs.few_tops.settled_tops.Goals as goal

pub returns : goal.returns
returns c =
    let up = c.settled_top-greatest.ensures in
    let down = c.settled_top-least.ensures in (
      either
          (λ s.
          top_of (end_of s (record { greatest = c.settled_top-greatest.result; least = c.settled_top-least.result }))
          ≡ few_top_of (end_of s c.args.tops))
          up.0 down.0,
      record { greatest = up.1; least = down.1 },
    )
