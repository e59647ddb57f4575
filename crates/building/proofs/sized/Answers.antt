-- `sized`: the year's refusal, then the building's, or its sizes.
use mathlib.Core.Path.{◌≡◌, sym, ap, ◌∙◌}
use lib.IntN.{ℤ}
use Rattle.verdict.specs.declared.Verdict.{Verdict}
use Rattle.verdict.specs.Verdict.{refusal, ◌or_then◌}
use Rattle.building.specs.declared.Dated.{Dated}
use Rattle.std.specs.Prelude.{Ok, Err}
use Rattle.building.specs.Test.{unless}
use Rattle.building.specs.Year.{is_year}
use Rattle.whole.proofs.Size.{said}
use Rattle.building.proofs.Accepted.{in-range}
use Rattle.building.proofs.Judged.{InYear, first_refusal, first-passed, sized-refused, sized-good}
use Rattle.building.proofs.sized.Goals.{After-or_then-v, Else-v-ne0}
use Rattle.building.proofs.sized.Goals as goal

module _ (c : After-or_then-v) where
  abbrev d : Dated
  d = c.args.d

  first-is : c.or_then-v.result ≡ first_refusal d.year d.building
  first-is =
      let earlier =
      said (λ (z : ℤ). refusal (unless 3 (is_year z)) 0) d.year c.year_refusal-by_year.ensures
      c.struct_told-1.given.0.1 in
      c.or_then-v.ensures
      ∙ (λ i. earlier i or_then c.building_refusal-by_building.ensures i)

good : (c : Else-v-ne0) → let g = d (goal.at.Else-v-ne0 c).After-or_then-v in InYear g.year g.building
good c =
    let at_or_then_v = (goal.at.Else-v-ne0 c).After-or_then-v in
    first-passed (d at_or_then_v).year (d at_or_then_v).building (sym (ap (λ (v : Verdict). v.number)
    (first-is at_or_then_v)) ∙ c.if-v-ne0.false)

pub returns-then-v-ne0 : goal.returns-then-v-ne0
returns-then-v-ne0 c =
    let at_or_then_v = (goal.at.returns-then-v-ne0 c).After-or_then-v in
    let same = first-is at_or_then_v in
    ap Err same
    ∙ sym (sized-refused (d at_or_then_v).year (d at_or_then_v).building
    (λ e. c.if-v-ne0.true (ap (λ (v : Verdict). v.number) same ∙ e)))

pub sizes_of-requires : goal.sizes_of-requires
sizes_of-requires c =
    let at_or_then_v = (goal.at.sizes_of-requires c).After-or_then-v in
    let g = d at_or_then_v in in-range g.year g.building (good (goal.at.sizes_of-requires c).Else-v-ne0).none

pub returns : goal.returns
returns c =
    let g = d (goal.at.returns c).After-or_then-v in
    ap Ok c.sizes_of.ensures ∙ sym (sized-good g.year g.building (good (goal.at.returns c).Else-v-ne0))
