-- What a verdict tells of the reading that it is on: number 0 is no refusal's.
use Prim.Native.Nat.{ℕ}
use mathlib.Core.Path.{◌≡◌, refl, ap, ◌∙◌}
use mathlib.Core.List.{List}
use native.Mathlib.Omega.{arith}
use Rattle.verdict.specs.declared.Verdict.{Verdict}
use Rattle.verdict.specs.Verdict.{Refuses}
use Rattle.field.specs.declared.Field.{Field}
use Rattle.rules.specs.declared.Kind.{Kind}
use Rattle.job.specs.declared.Job.{Job}
use Rattle.job.specs.Carried.{Carried, carried}
use Rattle.job.specs.Lines.{lines_of}
use Rattle.job.specs.FirstFault.{Answers, in_order, faulty}
use Rattle.job.specs.Walk.{Reading, Accepted, Refused, verdict, read_lines, judged}
use Rattle.job.proofs.FirstFault.{lines-answer}
use Rattle.job.proofs.RoundTrip.{judged-carried}

pub refused-by : (r : Reading) → Refuses (verdict r) → r ≡ Refused (verdict r)
refused-by (Accepted c) h = absurd (h refl)
refused-by (Refused v) h = refl

pub accepted-by : {ks : List Kind} {c : Carried} {xs : List (List Field)} {line : ℕ} {r : Reading}
    → Answers ks c xs line r → (verdict r).number ≡ 0
    → (d : Carried) × (r ≡ Accepted d)
accepted-by (in_order d none) z = (d, refl)
accepted-by (faulty n i f) z = absurd (omega (arith, f.some))

-- ---- of lines that are read

module _ (xs : List (List Field)) (v : Verdict) (e : v ≡ verdict (read_lines xs)) where
  pub lines-refused : Refuses v → read_lines xs ≡ Refused v
  lines-refused h = rw e (refused-by (read_lines xs) (rw e at h))

  pub lines-accepted : v.number ≡ 0 → (c : Carried) × (read_lines xs ≡ Accepted c)
  lines-accepted z = accepted-by (lines-answer xs) (rw e at z)

-- ---- of a record that is judged

module _ (j : Job) (v : Verdict) (e : v ≡ verdict (judged j)) where
  pub judged-refused : Refuses v → judged j ≡ Refused v
  unfolding judged
  judged-refused h = lines-refused (lines_of (carried j)) v e h

  pub judged-accepted : v.number ≡ 0 → judged j ≡ Accepted (carried j)
  unfolding judged
  judged-accepted z =
      let a = lines-accepted (lines_of (carried j)) v e z in
      a.1 ∙ ap Accepted (judged-carried j a.0 a.1)
