-- `clear` meets its contract: a list of zeros.
use mathlib.Core.Path.{sym, ◌∙◌}
use lib.IntN.{pos}
use Rattle.whole.proofs.Lists.{first_of-none}
use Rattle.sheet.proofs.flat.clear.Goals as goal

pub returns : goal.returns
returns c = c.fill.ensures.after (λ y e. e) ∙ sym (first_of-none (pos 0) _)
