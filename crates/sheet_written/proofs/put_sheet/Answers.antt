-- `put_sheet` meets its contract: the first i sections are written.
use Prim.Native.Nat.{◌≤◌, ◌<◌, ◌-◌}
use mathlib.Core.Path.{◌≡◌, sym, ap, ◌∙◌, subst}
use mathlib.Core.Bool.{Bool}
use native.Mathlib.Omega.{arith}
use lib.ListN.{length}
use Rattle.whole.proofs.Lists.{every-at}
use Rattle.whole.proofs.Size.{said}
use Rattle.page.proofs.Put.{put-length}
use Rattle.building.specs.Year.{has_heights}
use Rattle.rules.specs.declared.Section.{Section}
use Rattle.rules.specs.declared.Section.TheVariants.{«V»}
use Rattle.rules.specs.Sections.{about, sections, section_at}
use Rattle.job.specs.declared.Job.{Job}
use Rattle.job.specs.Carried.{carried}
use Rattle.job.specs.Lines.{entries_of, lines_of}
use Rattle.sheet.specs.Sheet.{sheet_text}
use Rattle.sheet_written.proofs.Puts.{no-section, one-section, all-sections}
use Rattle.sheet_written.proofs.put_sheet.Goals.{After-has_heights-heights, After-section_at, At-loop-i, Start}
use Rattle.sheet_written.proofs.put_sheet.Goals as goal

-- as many sections as the year has
module _ (c : At-loop-i) where
  abbrev tested : After-has_heights-heights
  tested = (goal.at.At-loop-i c).After-has_heights-heights

  abbrev start : Start
  start = (goal.at.After-has_heights-heights tested).Start

  abbrev job : Job
  job = start.args.j

  heights-are : tested.has_heights-heights.result ≡ has_heights job.year
  heights-are =
      said has_heights job.year tested.has_heights-heights.ensures tested.struct_told-1.given.0.1

  many : c.section_count-i-end.result ≡ length (sections (has_heights job.year))
  many = c.section_count-i-end.ensures ∙ ap (λ (h : Bool). length (sections h)) heights-are

-- section i
module _ (c : After-section_at) where
  abbrev turn : At-loop-i
  turn = (goal.at.After-section_at c).At-loop-i

  few : turn.loop-i.i < length (sections (has_heights (job turn).year))
  few = omega (arith, many turn, c.loop-i-test.true)

  section-is : c.section_at.result ≡ section_at (has_heights (job turn).year) turn.loop-i.i
  section-is = c.section_at.ensures ∙ ap (λ (h : Bool). section_at h turn.loop-i.i) (heights-are turn)

pub loop-i-init : goal.loop-i-init
loop-i-init c =
    let j = c.args.j in
    (omega arith, no-section (entries_of (carried j)) (has_heights j.year) _)

pub put_section-next-requires : goal.put_section-next-requires
unfolding carried
put_section-next-requires c =
    let at_loop_i = (goal.at.put_section-next-requires c).At-loop-i in
    subst (λ (s : Section). length (entries_of (carried (job at_loop_i)) s) ≤ (about s).most (job at_loop_i).year)
    (sym (section-is c))
    (every-at _ (sections (has_heights (job at_loop_i).year)) «V» c.loop-i.i (few c) c.requires)

pub loop-i-preserved : goal.loop-i-preserved
loop-i-preserved c =
    let at_section_at = (goal.at.loop-i-preserved c).After-section_at in
    let j = job (goal.at.loop-i-preserved c).At-loop-i in (
      omega arith,
      one-section (entries_of (carried j)) (has_heights j.year) c.loop-i.i c.section_at.result (few at_section_at)
          (section-is at_section_at) c.loop-i.invariant.1 c.put_section-next.ensures,
    )

pub shape_of-buf : goal.shape_of-buf
shape_of-buf c = put-length c.loop-i.invariant.1

pub returns : goal.returns
unfolding sheet_text lines_of carried
returns c =
    let at_loop_i = (goal.at.returns c).At-loop-i in
    let j = job at_loop_i in
    let i : c.loop-i.i ≡ length (sections (has_heights j.year)) =
    omega (arith, many at_loop_i, c.loop-i.invariant.0, c.loop-i-test.false) in
    all-sections (entries_of (carried j)) (has_heights j.year) i c.loop-i.invariant.1
