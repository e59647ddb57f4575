-- `column_of` meets its contract: the refusal of the job or of the line, and else the case that the line shows.
use mathlib.Core.Path.{◌≡◌, sym, ap, ◌∙◌}
use lib.IntN.{ℤ}
use mir.Syntax.{w64}
use mir.ValLaws.{to_z-of_z}
use Rattle.verdict.specs.declared.Verdict.{Verdict}
use Rattle.job.specs.declared.Job.{Job}
use Rattle.job.specs.Carried.{carried}
use Rattle.job.specs.Walk.{judged}
use Rattle.worst.specs.Worst.{six_extremes}
use Rattle.answers.specs.declared.Extreme.{Extreme}
use Rattle.answers.specs.Answers.{host_line, host_total}
use Rattle.page.specs.Writing.{buffer_after}
use Rattle.sharing.specs.Column.{column, sharing}
use Rattle.column.specs.Column.{forces_on}
use Rattle.column.proofs.Answered.{refused, shared, taken-by, line-by}
use Rattle.column.proofs.column_of.Goals.{After-shown_of-shown, Start}
use Rattle.column.proofs.column_of.Goals as goal

module _ (c : After-shown_of-shown) where
  abbrev s : Start
  s = (goal.at.After-shown_of-shown c).Start

  abbrev j : Job
  j = s.args.job

  abbrev line : ℤ
  line = s.args.line

  abbrev e : Extreme
  e = c.shown_of-shown.result

  shown : e ≡ host_total (judged j) line
  shown = c.shown_of-shown.ensures ∙ ap (host_total (judged j)) (to_z-of_z w64 line s.ranges.line)

  verdict-is : e.verdict ≡ (host_total (judged j) line).verdict
  verdict-is = ap (λ (x : Extreme). x.verdict) shown

pub returns-then-shown-ne0 : goal.returns-then-shown-ne0
returns-then-shown-ne0 c =
    let at_shown_of_shown = (goal.at.returns-then-shown-ne0 c).After-shown_of-shown in
    refused (judged (j at_shown_of_shown)) (line at_shown_of_shown) c.args.list.now (e at_shown_of_shown).verdict
    (verdict-is at_shown_of_shown) c.if-shown-ne0.true

pub share_case-requires : goal.share_case-requires
share_case-requires c =
    let at_shown_of_shown = (goal.at.share_case-requires c).After-shown_of-shown in
    let some = c.if-shown-ne0.false in (
      taken-by (j at_shown_of_shown) (line at_shown_of_shown) (e at_shown_of_shown) (shown at_shown_of_shown) some,
      line-by (j at_shown_of_shown) (line at_shown_of_shown) (e at_shown_of_shown) (shown at_shown_of_shown) some
          ∙ ap (host_line (carried (j at_shown_of_shown)).year (six_extremes (carried (j at_shown_of_shown))))
          (sym (to_z-of_z w64 (line at_shown_of_shown) c.ranges.line)),
      some,
    )

pub returns : goal.returns
returns c =
    let at_shown_of_shown = (goal.at.returns c).After-shown_of-shown in
    let r = judged (j at_shown_of_shown) in
    let x = c.share_case.ensures in
    let same = to_z-of_z w64 (line at_shown_of_shown) c.ranges.line in
    let old = c.args.list.now in
    shared r (line at_shown_of_shown) old c.share_case.result c.share_case.new.list
    (ap (λ (u : Verdict). u.number) (sym (verdict-is at_shown_of_shown)) ∙ c.if-shown-ne0.false)
    (x.0 ∙ ap (λ z. sharing (forces_on z r) old) same)
    (x.1 ∙ ap (λ z. buffer_after (column (forces_on z r)) old) same)
