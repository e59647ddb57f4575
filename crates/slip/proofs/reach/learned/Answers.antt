-- `reach::learned`: a step of the profile. The lowest height is that of the first.
use Rattle.std.proofs.Common.{rules, arith, ◌≡◌, refl, sym, ap, ◌∙◌, true, false, ltb, List, [], ◌∷◌, ◌++◌, length}
use Rattle.std.proofs.Common.{ℤ, w64, to_z, of_z}
use Rattle.std.proofs.lemmas.Grind.{common_steps}
use Rattle.field.specs.declared.Field.{Field}
use Rattle.entry.specs.declared.Step.{Step}
use Rattle.entry.specs.Says.{step_of}
use Rattle.lines.specs.Held.{held}
use Rattle.rules.specs.declared.Before.{Before}
use Rattle.rules.specs.declared.Kind.TheVariants.{Entry}
use Rattle.rules.specs.declared.Section.TheVariants.{P}
use Rattle.job.specs.Carried.{Carried, lowest_of, before}
use Rattle.job.specs.Walk.{learn}
use Rattle.sheet.proofs.OneMore.{next-judges}
use Rattle.slip.proofs.reach.learned.Goals as goal

lowest-first : (p : List Step) (t : Step) → false ≡ ltb 0 (length p) → t.height ≡ lowest_of (p ++ (t ∷ []))
lowest-first [] t e = refl
lowest-first (s ∷ p) t e = grind (arith, common_steps)

lowest-kept : (p : List Step) (t : Step) → true ≡ ltb 0 (length p) → lowest_of p ≡ lowest_of (p ++ (t ∷ []))
lowest-kept [] t e = grind (arith, common_steps)
lowest-kept (s ∷ p) t e = refl

stepped : {b : Before} {t : Step} (d : Carried) (fs : List Field) (z : ℤ) → b ≡ before d → t ≡ step_of fs
    → z ≡ lowest_of (d.profile ++ (step_of fs ∷ []))
    → record { year = b.year; building = b.building; lowest = z; highest = t.height }
    ≡ before (learn (Entry P) fs d)
stepped d fs z e t low =
    (λ i. record { year = (e i).year; building = (e i).building; lowest = z; highest = (t i).height })
    ∙ next-judges P fs d z low

pub returns-then-risen : goal.returns-then-risen
returns-then-risen c d e r =
    let fs = held c.args.x in
    let year : to_z w64 (of_z w64 c.args.b.year) ≡ c.args.b.year = search rules in
    let low : to_z w64 (of_z w64 c.args.b.lowest) ≡ c.args.b.lowest = search rules in
    let high : to_z w64 (of_z w64 c.step_of-t.result.height) ≡ c.step_of-t.result.height = search rules in
    rw (c.in-P.is, year, low, high)
    (stepped d fs c.args.b.lowest e c.step_of-t.ensures
    (ap (λ (b : Before). b.lowest) e ∙ lowest-kept d.profile (step_of fs) (sym c.if-risen.true ∙ r)))

pub returns-else-risen : goal.returns-else-risen
returns-else-risen c d e r =
    let fs = held c.args.x in
    let year : to_z w64 (of_z w64 c.args.b.year) ≡ c.args.b.year = search rules in
    let high : to_z w64 (of_z w64 c.step_of-t.result.height) ≡ c.step_of-t.result.height = search rules in
    rw (c.in-P.is, year, high)
    (stepped d fs c.step_of-t.result.height e c.step_of-t.ensures
    (ap (λ (t : Step). t.height) c.step_of-t.ensures
    ∙ lowest-first d.profile (step_of fs) (sym c.if-risen.false ∙ r)))
