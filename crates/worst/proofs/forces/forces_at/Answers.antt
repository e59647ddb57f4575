-- `forces::forces_at` meets its contract: a call for each of the two.
use mathlib.Core.Path.{◌∙◌}
use mir.Syntax.{w64}
use Rattle.whole.proofs.Size.{Num, num≤, back}
use Rattle.worst.specs.AtPressure.{force_with}
use Rattle.worst.proofs.forces.forces_at.Goals as goal

pub returns : goal.returns
returns c =
    let s = c.args in
    let internal : Num = back w64 (num≤ s.internal c.requires.3) tt in
    let pressure : Num = back w64 (num≤ s.pressure c.requires.4) tt in
    let first : Num = back w64 (num≤ s.o.first c.requires.1) tt in
    let last : Num = back w64 (num≤ s.o.last c.requires.2) tt in
    λ j. record {
      count = s.o.count;
      first = (c.force_at-first.ensures
          ∙ (λ k. force_with s.f (first.same k) (internal.same k) (pressure.same k))) j;
      last = (c.force_at-last.ensures
          ∙ (λ k. force_with s.f (last.same k) (internal.same k) (pressure.same k))) j;
    }
