-- The two ways of a column: refused with the list as it was, or as the sharing of the line's forces has it.
use mathlib.Core.Path.{◌≡◌, refl, ap, ◌∙◌}
use mathlib.Core.List.{List}
use native.Mathlib.Omega.{arith}
use borrow.Author.Tests.{eq-eqb, ne_eqb}
use lib.IntN.{ℤ}
use Rattle.page.specs.Writing.{buffer_after}
use Rattle.verdict.specs.declared.Verdict.{Verdict}
use Rattle.verdict.specs.Verdict.{Refuses}
use Rattle.job.specs.declared.Job.{Job}
use Rattle.job.specs.Carried.{carried}
use Rattle.job.specs.Walk.{Reading, judged}
use Rattle.worst.specs.Worst.{six_extremes}
use Rattle.worst.specs.Rows.{Taken}
use Rattle.worst.proofs.Reckoned as judge
use Rattle.answers.specs.declared.Extreme.{Extreme}
use Rattle.answers.specs.Answers.{host_line, host_total}
use Rattle.sharing.specs.Column.{column, sharing}
use Rattle.column.specs.Column.{forces_on, column_verdict, column_after}

module _ (r : Reading) (line : ℤ) (old : List ℤ) where
  pub refused : (v : Verdict) → v ≡ (host_total r line).verdict → Refuses v
      → (v ≡ column_verdict r line old) × (old ≡ column_after r line old)
  unfolding column_verdict column_after
  refused v e h =
      let t = ne_eqb _ 0 (λ z. h (ap (λ (w : Verdict). w.number) e ∙ z)) in
      (rw t e, rw t)

  pub shared : (v : Verdict) (new : List ℤ) → (host_total r line).verdict.number ≡ 0
      → v ≡ sharing (forces_on line r) old
      → new ≡ buffer_after (column (forces_on line r)) old
      → (v ≡ column_verdict r line old) × (new ≡ column_after r line old)
  unfolding column_verdict column_after
  shared v new z e h = let t = eq-eqb _ 0 z in (rw t e, rw t h)

-- where a line is shown the job is taken
module _ (j : Job) (line : ℤ) (e : Extreme) (shown : e ≡ host_total (judged j) line)
    (some : e.verdict.number ≡ 0) where
  pub taken-by : Taken j
  taken-by = go (judged j) refl shown (judge.job-judged j)
    where
      go : (r : Reading) → judged j ≡ r → e ≡ host_total r line → judge.Judged j r → Taken j
      go r q s (judge.refused v h) = absurd (omega (arith, h, some, ap (λ (x : Extreme). x.verdict.number) s))
      go r q s (judge.accepted o) = record { order = o; accepted = q }

  pub line-by : e ≡ host_line (carried j).year (six_extremes (carried j)) line
  line-by = shown ∙ ap (λ (r : Reading). host_total r line) taken-by.accepted
