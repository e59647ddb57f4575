-- `faults::out_of_walls`: the definition's tests, put together as it puts them.
use mathlib.Core.Path.{◌≡◌, sym, ap, ◌∙◌}
use mathlib.Core.Bool.{not, ◌||◌}
use lib.IntN.{ℤ}
use Rattle.building.specs.Ratio.{up_to}
use Rattle.building.specs.Building.{begun, most_slender, most_oblong, out_of_walls}
use Rattle.whole.proofs.Size.{said}
use Rattle.whole.proofs.Tests.{or_assoc}
use Rattle.building.proofs.Machine.{or_here, or_there}
use Rattle.building.proofs.faults.out_of_walls.Goals.{then-not-up_to, else-not-up_to}
use Rattle.building.proofs.faults.out_of_walls.Goals as goal

pub returns-then-not-begun : goal.returns-then-not-begun
unfolding out_of_walls
returns-then-not-begun c =
    let a = c.args in
    let s = a.s in
    let slim = not (up_to s.h s.b most_slender) in
    let early = not (begun a.year s.a s.b) in
    let oblong = not (up_to s.a s.b most_oblong) in
    let first : c.if-not-up_to.value ≡ (slim || early) =
    elim c.if-not-up_to.branch [
      | then-not-up_to w ↦ w.value-is ∙ or_here early (ap not w.if-not-up_to.true) (ap not c.up_to.ensures)
      | else-not-up_to w ↦ w.value-is ∙ or_there (ap not w.if-not-up_to.false) (ap not c.up_to.ensures)
          (ap not (said (λ (y : ℤ). begun y s.a s.b) a.year w.begun.ensures c.ranges.year.sfits))
    ] in
    or_here oblong c.if-not-begun.true first ∙ sym (or_assoc slim early oblong)

pub returns-else-not-begun : goal.returns-else-not-begun
unfolding out_of_walls
returns-else-not-begun c =
    let a = c.args in
    let s = a.s in
    let slim = not (up_to s.h s.b most_slender) in
    let early = not (begun a.year s.a s.b) in
    let oblong = not (up_to s.a s.b most_oblong) in
    let first : c.if-not-up_to.value ≡ (slim || early) =
    elim c.if-not-up_to.branch [
      | then-not-up_to w ↦ w.value-is ∙ or_here early (ap not w.if-not-up_to.true) (ap not c.up_to.ensures)
      | else-not-up_to w ↦ w.value-is ∙ or_there (ap not w.if-not-up_to.false) (ap not c.up_to.ensures)
          (ap not (said (λ (y : ℤ). begun y s.a s.b) a.year w.begun.ensures c.ranges.year.sfits))
    ] in
    or_there c.if-not-begun.false first (ap not c.up_to-else-not-begun.ensures) ∙ sym (or_assoc slim early oblong)
