-- `judge` meets its contract: what comes of the sections from i on is what comes of the whole sheet.
use Prim.Native.Nat.{ℕ, ◌+◌, ◌*◌, ◌≤◌, ◌<◌}
use mathlib.Core.Path.{◌≡◌, sym, ap, ◌∙◌, subst}
use mathlib.Core.Bool.{Bool}
use native.Mathlib.Omega.{arith}
use lib.ListN.{length}
use Rattle.whole.proofs.Size.{said}
use Rattle.building.specs.Year.{has_heights}
use Rattle.rules.specs.declared.Before.{Before}
use Rattle.rules.specs.declared.Section.{Section}
use Rattle.rules.specs.Sections.{sections, section_at}
use Rattle.job.specs.declared.Job.{Job}
use Rattle.job.specs.Carried.{carried, most_faces}
use Rattle.job.specs.Judging.{JudgesAs}
use Rattle.job.proofs.Alone.{alone, few-sections}
use Rattle.job.proofs.Judged.{es, heights, ss, sofar, year-is, reached-first, judges-as, stops}
use Rattle.job.proofs.Judged.{few-entries, goes_on, ends}
use Rattle.job.proofs.judge.judge.Goals.{After-before_faces-b, After-entry_count, After-judge_section-v}
use Rattle.job.proofs.judge.judge.Goals.{After-section_at-s, After-struct_told-1, At-loop-i, Else-v-ne0}
use Rattle.job.proofs.judge.judge.Goals as goal

-- section i
module _ (c : After-section_at-s) where
  abbrev turn : At-loop-i
  turn = (goal.at.After-section_at-s c).At-loop-i

  abbrev begun : After-before_faces-b
  begun = (goal.at.At-loop-i turn).After-before_faces-b

  abbrev year-told : After-struct_told-1
  year-told = (goal.at.After-before_faces-b begun).After-struct_told-1

  abbrev job : Job
  job = year-told.args.j

  abbrev i : ℕ
  i = turn.loop-i.i

  heights-are : begun.has_heights-heights.result ≡ heights job
  heights-are = said has_heights job.year begun.has_heights-heights.ensures year-told.struct_told-1.given.0.1

  section-is : c.section_at-s.result ≡ section_at (heights job) i
  section-is = c.section_at-s.ensures ∙ ap (λ (h : Bool). section_at h i) heights-are

  few : i < length (ss job)
  few =
      let all = turn.section_count-i-end.ensures ∙ ap (λ (h : Bool). length (sections h)) heights-are in
      omega (arith, all, c.loop-i-test.true)

  judges : JudgesAs c.section_at-s.result begun.before_faces-b.result (sofar job i)
  judges =
      subst (λ (s : Section). JudgesAs s begun.before_faces-b.result (sofar job i)) (sym section-is)
      (subst (λ (d : Before). JudgesAs (section_at (heights job) i) d (sofar job i)) (sym begun.before_faces-b.ensures)
      (judges-as job (heights job) (year-is job) i few))

  low : turn.loop-i.line ≤ 6 * (most_faces + 1) + 1
  low = omega (arith, few, few-sections (heights job), turn.loop-i.invariant.1.lines)

-- its verdict by itself
module _ (c : After-judge_section-v) where
  abbrev here : After-section_at-s
  here = (goal.at.After-judge_section-v c).After-section_at-s

  abbrev s : Section
  s = section_at (heights (job here)) (i here)

  verdict-is : c.judge_section-v.result ≡ alone s (sofar (job here) (i here)) here.loop-i.line (es (job here) s)
  verdict-is =
      subst (λ (s : Section).
      c.judge_section-v.result ≡ alone s (sofar (job here) (i here)) here.loop-i.line (es (job here) s))
      (section-is here) (c.judge_section-v.ensures (sofar (job here) (i here)) (judges here))

-- behind a section that is in order
module _ (c : After-entry_count) where
  abbrev passed : Else-v-ne0
  passed = (goal.at.After-entry_count c).Else-v-ne0

  abbrev verdict-of : After-judge_section-v
  verdict-of = (goal.at.Else-v-ne0 passed).After-judge_section-v

  abbrev at : After-section_at-s
  at = (goal.at.After-judge_section-v verdict-of).After-section_at-s

  many : c.entry_count.result ≡ length (es (job at) (section_at (heights (job at)) (i at)))
  many = c.entry_count.ensures ∙ ap (λ (s : Section). length (es (job at) s)) (section-is at)

  short : c.entry_count.result ≤ most_faces
  short =
      few-entries (job at) at.loop-i.invariant.1 (few at) (verdict-is verdict-of) passed.if-v-ne0.false many

pub loop-i-init : goal.loop-i-init
loop-i-init c = (omega arith, reached-first c.args.j)

pub judge_section-v-requires : goal.judge_section-v-requires
unfolding carried
judge_section-v-requires c =
    let e = c.before_faces-b.ensures in
    (ap (λ (b : Before). b.year) e, ap (λ (b : Before). b.building) e, low c)

pub returns-then-v-ne0 : goal.returns-then-v-ne0
returns-then-v-ne0 c =
    let at_section_at_s = (goal.at.returns-then-v-ne0 c).After-section_at-s in
    let at_judge_section_v = (goal.at.returns-then-v-ne0 c).After-judge_section-v in
    stops (job at_section_at_s) c.loop-i.invariant.1 (few at_section_at_s)
    (verdict-is at_judge_section_v) c.if-v-ne0.true

pub overflow_add-line : goal.overflow_add-line
overflow_add-line c = omega (arith, short c)

pub overflow_add-line-in-loop-i : goal.overflow_add-line-in-loop-i
overflow_add-line-in-loop-i c = omega (arith, short c, low (goal.at.overflow_add-line-in-loop-i c).After-section_at-s)

pub loop-i-preserved : goal.loop-i-preserved
loop-i-preserved c =
    let at_section_at_s = (goal.at.loop-i-preserved c).After-section_at-s in
    let at_judge_section_v = (goal.at.loop-i-preserved c).After-judge_section-v in (
      omega arith,
      goes_on (job at_section_at_s) c.loop-i.invariant.1 (few at_section_at_s)
          (verdict-is at_judge_section_v) c.if-v-ne0.false (many c),
    )

pub returns : goal.returns
returns c =
    let j = c.args.j in
    let e = said has_heights j.year c.has_heights-heights.ensures c.struct_told-1.given.0.1 in
    let all = c.section_count-i-end.ensures ∙ ap (λ (h : Bool). length (sections h)) e in
    let i : c.loop-i.i ≡ length (ss j) = omega (arith, all, c.loop-i.invariant.0, c.loop-i-test.false) in
    ends j c.loop-i.invariant.1 i
