-- `zone_on`: the definition's tests, put together as it puts them.
use mathlib.Core.Path.{◌≡◌, sym, ◌∙◌}
use mathlib.Core.Bool.{◌&&◌, ◌||◌}
use lib.IntN.{ℤ}
use Rattle.building.specs.Test.{among}
use Rattle.building.specs.Places.{A, D, E, F, H, gable, single, flat, zone_on}
use Rattle.whole.proofs.Size.{said}
use Rattle.whole.proofs.Tests.{or_assoc}
use Rattle.building.proofs.Machine.{or_here, or_there, and_here, and_there}
use Rattle.building.proofs.zone_on.Goals.{then-among, else-among+then-sloped, else-among+else-sloped}
use Rattle.building.proofs.zone_on.Goals as goal

pub returns-then-among-2 : goal.returns-then-among-2
unfolding zone_on
returns-then-among-2 c =
    let k = c.args.kind in
    let f = c.ranges.kind.sfits in
    let slopes = λ (n : ℤ). gable n || single n in
    let z = c.args.zone in
    let wall = among A D z in
    let slope = slopes k && among E H z in
    let level = flat k && among E F z in
    let first : c.if-among.value ≡ (wall || slope) =
    elim c.if-among.branch [
      | then-among w ↦ w.value-is ∙ or_here slope w.if-among.true c.among.ensures
      | else-among+then-sloped w ↦ w.value-is ∙ or_there w.if-among.false c.among.ensures
          (and_there w.if-sloped.true (said slopes k w.sloped.ensures f) w.among-then-sloped.ensures)
      | else-among+else-sloped w ↦ w.value-is ∙ or_there w.if-among.false c.among.ensures
          (and_here (among E H z) w.if-sloped.false (said slopes k w.sloped.ensures f))
    ] in
    or_here level c.if-among-2.true first ∙ sym (or_assoc wall slope level)

pub returns-then-flat : goal.returns-then-flat
unfolding zone_on
returns-then-flat c =
    let k = c.args.kind in
    let f = c.ranges.kind.sfits in
    let slopes = λ (n : ℤ). gable n || single n in
    let z = c.args.zone in
    let wall = among A D z in
    let slope = slopes k && among E H z in
    let level = flat k && among E F z in
    let first : c.if-among.value ≡ (wall || slope) =
    elim c.if-among.branch [
      | then-among w ↦ w.value-is ∙ or_here slope w.if-among.true c.among.ensures
      | else-among+then-sloped w ↦ w.value-is ∙ or_there w.if-among.false c.among.ensures
          (and_there w.if-sloped.true (said slopes k w.sloped.ensures f) w.among-then-sloped.ensures)
      | else-among+else-sloped w ↦ w.value-is ∙ or_there w.if-among.false c.among.ensures
          (and_here (among E H z) w.if-sloped.false (said slopes k w.sloped.ensures f))
    ] in
    or_there c.if-among-2.false first
    (and_there c.if-flat.true (said flat k c.flat.ensures f) c.among-then-flat.ensures)
    ∙ sym (or_assoc wall slope level)

pub returns-else-flat : goal.returns-else-flat
unfolding zone_on
returns-else-flat c =
    let k = c.args.kind in
    let f = c.ranges.kind.sfits in
    let slopes = λ (n : ℤ). gable n || single n in
    let z = c.args.zone in
    let wall = among A D z in
    let slope = slopes k && among E H z in
    let level = flat k && among E F z in
    let first : c.if-among.value ≡ (wall || slope) =
    elim c.if-among.branch [
      | then-among w ↦ w.value-is ∙ or_here slope w.if-among.true c.among.ensures
      | else-among+then-sloped w ↦ w.value-is ∙ or_there w.if-among.false c.among.ensures
          (and_there w.if-sloped.true (said slopes k w.sloped.ensures f) w.among-then-sloped.ensures)
      | else-among+else-sloped w ↦ w.value-is ∙ or_there w.if-among.false c.among.ensures
          (and_here (among E H z) w.if-sloped.false (said slopes k w.sloped.ensures f))
    ] in
    or_there c.if-among-2.false first (and_here (among E F z) c.if-flat.false (said flat k c.flat.ensures f))
    ∙ sym (or_assoc wall slope level)
