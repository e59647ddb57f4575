-- `report_line::shown_of` meets its contract: the job's own refusal, or the line of its six extremes.
use mathlib.Core.Path.{◌≡◌, sym, ◌∙◌}
use borrow.Author.Rules.{rules}
use mir.Syntax.{w64}
use mir.ValLaws.{to_z-of_z}
use Rattle.std.proofs.lemmas.Result.{IfOk-at_ok, IfErr-at_err}
use Rattle.verdict.specs.declared.Verdict.{Verdict}
use Rattle.job.specs.Walk.{judged}
use Rattle.worst.specs.declared.Reckoning.{Reckoning}
use Rattle.worst.specs.Worst.{worst_of}
use Rattle.answers.specs.Answers.{no_host_extreme, host_line, host_total}
use Rattle.answers.proofs.Reckoned.{line-shown, line-refused}
use Rattle.column.proofs.report_line.shown_of.Goals as goal

pub returns-in-Ok : goal.returns-in-Ok
unfolding worst_of
returns-in-Ok c =
    let j = c.args.job in
    let line = c.args.line in
    let w = c.in-Ok.w in
    c.line_of.ensures
    ∙ (λ i. host_line (to_z-of_z w64 w.year (search rules) i) w.six (to_z-of_z w64 line c.ranges.line i))
    ∙ IfOk-at_ok (λ (x : Reckoning). host_line x.year x.six line ≡ host_total (judged j) line)
    (sym c.worst_cases.ensures ∙ c.in-Ok.is) (line-shown line (judged j))

pub returns-in-Err : goal.returns-in-Err
unfolding worst_of
returns-in-Err c =
    let j = c.args.job in
    let line = c.args.line in
    c.no_extreme.ensures
    ∙ IfErr-at_err (λ (v : Verdict). no_host_extreme v ≡ host_total (judged j) line)
    (sym c.worst_cases.ensures ∙ c.in-Err.is) (line-refused line (judged j))
