-- `aral_outside`: each number is read back as it is.
use mathlib.Core.Path.{ap, ◌∙◌}
use lib.IntN.{ℤ}
use Rattle.whole.proofs.Size.{param}
use Rattle.building.specs.declared.Building.{Building}
use Rattle.book.specs.Question.{outside_of}
use Rattle.answers.specs.Answers.{host_coefficient}
use Rattle.aralimogga.proofs.aral_outside.Goals as goal

pub returns : goal.returns
returns c =
    let f = c.ranges in
    let a = c.args in
    let building : Building =
    record { h = a.h; a = a.a; b = a.b; density = a.density; kind = a.kind; x = a.x } in
    let e =
    rw (
      (param f.year).same,
      (param f.h).same,
      (param f.a).same,
      (param f.b).same,
      (param f.density).same,
      (param f.kind).same,
      (param f.x).same,
    )
    at c.outside.ensures in
    c.coefficient_of.ensures
    ∙ ap host_coefficient (e ∙ ap (λ (z : ℤ). outside_of a.year building z a.place) (param f.direction).same)
