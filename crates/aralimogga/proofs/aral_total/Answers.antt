-- `aral_total`: the refusal of what was read, or a line of its report.
use mathlib.Core.Path.{◌≡◌, sym, ◌∙◌}
use borrow.Author.Rules.{rules}
use mir.Syntax.{w64}
use mir.ValLaws.{to_z-of_z}
use Rattle.std.proofs.lemmas.Result.{IfOk-at_ok, IfErr-at_err}
use Rattle.verdict.specs.declared.Verdict.{Verdict}
use Rattle.sheet.specs.Sheet.{reading}
use Rattle.worst.specs.declared.Reckoning.{Reckoning}
use Rattle.answers.specs.Answers.{no_host_extreme, host_line, host_total}
use Rattle.answers.proofs.Reckoned.{line-shown, line-refused}
use Rattle.aralimogga.proofs.aral_total.Goals as goal

pub returns-in-Ok : goal.returns-in-Ok
returns-in-Ok c =
    let x = reading c.args.sheet.now in
    let line = c.args.line in
    let w = c.in-Ok.w in
    c.line_of.ensures
    ∙ (λ i. host_line (to_z-of_z w64 w.year (search rules) i) w.six (to_z-of_z w64 line c.ranges.line i))
    ∙ IfOk-at_ok (λ (r : Reckoning). host_line r.year r.six line ≡ host_total x line)
    (sym c.worst_in.ensures ∙ c.in-Ok.is) (line-shown line x)

pub returns-in-Err : goal.returns-in-Err
returns-in-Err c =
    let x = reading c.args.sheet.now in
    let line = c.args.line in
    c.no_extreme.ensures
    ∙ IfErr-at_err (λ (v : Verdict). no_host_extreme v ≡ host_total x line)
    (sym c.worst_in.ensures ∙ c.in-Err.is) (line-refused line x)
