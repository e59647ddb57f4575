-- Lines with a first fault are read as refused with it, lines without one are accepted, and no lines have two first
-- faults.
use mathlib.Core.Path.{◌≡◌, refl, ap, ◌∙◌}
use mathlib.Core.Logic.{◌⊎◌, inl, inr}
use mathlib.Core.List.{List}
use Prim.Native.Nat.{ℕ}
use native.Mathlib.Omega.{arith}
use Rattle.verdict.specs.declared.Verdict.{Verdict}
use Rattle.field.specs.declared.Field.{Field}
use Rattle.lines.specs.Lines.{lines_in}
use Rattle.job.specs.declared.Job.{Job}
use Rattle.job.specs.Carried.{Carried, nothing, carried}
use Rattle.job.specs.Lines.{lines_of}
use Rattle.job.specs.FirstFault.{Answers, in_order, faulty}
use Rattle.job.specs.Walk.{Reading, Accepted, Refused, opening, sheet, read_lines, judged}
use Rattle.job.proofs.FirstFault.{lines-answer, first-unique}
use Rattle.job.proofs.RoundTrip.{accepted-lines, judged-carried}
use Rattle.sheet.specs.Sheet.{reading}
use Rattle.claims.specs.Fault.{Faulty, at, Faultless}

pub faulty-unique : (xs : List (List Field)) {v w : Verdict} → Faulty xs v → Faulty xs w → v ≡ w
faulty-unique xs (at f) (at g) = let u = first-unique (sheet (opening xs)) nothing xs f g in rw (u.0, u.1)

module _ (xs : List (List Field)) where
  faulty-answer : (r : Reading) → Answers (sheet (opening xs)) nothing xs 1 r → {v : Verdict} → Faulty xs v
      → r ≡ Refused v
  faulty-answer r (in_order d none) (at {n} {i} f) = absurd (none i n f.some f.has)
  faulty-answer r (faulty m h g) (at f) = let u = first-unique (sheet (opening xs)) nothing xs g f in rw (u.0, u.1)

  faultless-answer : (r : Reading) → Answers (sheet (opening xs)) nothing xs 1 r → Faultless xs
      → (c : Carried) × (r ≡ Accepted c)
  faultless-answer r (in_order d none) f = (d, refl)
  faultless-answer r (faulty n i g) f = absurd (f i n g.some g.has)

  accepted-answer : (r : Reading) → Answers (sheet (opening xs)) nothing xs 1 r → (c : Carried)
      → r ≡ Accepted c → Faultless xs
  accepted-answer r (in_order d none) c e = none
  accepted-answer r (faulty n i g) c e = let z : ◌≡◌ {A = ℕ} 0 1 = cc in absurd (omega arith)

  either : (r : Reading) → Answers (sheet (opening xs)) nothing xs 1 r → Faultless xs ⊎ ((v : Verdict) × Faulty xs v)
  either r (in_order d none) = inl none
  either r (faulty n i f) = inr (_, at f)

  pub lines-faulty : {v : Verdict} → Faulty xs v → read_lines xs ≡ Refused v
  lines-faulty f = faulty-answer (read_lines xs) (lines-answer xs) f

  pub lines-faultless : Faultless xs → (c : Carried) × (read_lines xs ≡ Accepted c)
  lines-faultless f = faultless-answer (read_lines xs) (lines-answer xs) f

  pub faultless-or-faulty : Faultless xs ⊎ ((v : Verdict) × Faulty xs v)
  faultless-or-faulty = either (read_lines xs) (lines-answer xs)

-- ---- a sheet and a job

pub sheet-faulty : (s : List ℕ) {v : Verdict} → Faulty (lines_in s) v → reading s ≡ Refused v
unfolding reading
sheet-faulty s f = lines-faulty (lines_in s) f

pub sheet-faultless : (s : List ℕ) → Faultless (lines_in s) → (c : Carried) × (reading s ≡ Accepted c)
unfolding reading
sheet-faultless s f = lines-faultless (lines_in s) f

pub sheet-accepted : (s : List ℕ) (c : Carried) → reading s ≡ Accepted c
    → Faultless (lines_in s) × (lines_of c ≡ lines_in s)
unfolding reading
sheet-accepted s c e = (
  accepted-answer (lines_in s) (read_lines (lines_in s)) (lines-answer (lines_in s)) c e,
  accepted-lines
      (lines_in s) c e,
)

module _ (j : Job) where
  pub job-faulty : {v : Verdict} → Faulty (lines_of (carried j)) v → judged j ≡ Refused v
  unfolding judged
  job-faulty f = lines-faulty (lines_of (carried j)) f

  pub job-faultless : Faultless (lines_of (carried j)) → judged j ≡ Accepted (carried j)
  unfolding judged
  job-faultless f =
      let r = lines-faultless (lines_of (carried j)) f in
      r.1 ∙ ap Accepted (judged-carried j r.0 r.1)

  pub job-accepted : (c : Carried) → judged j ≡ Accepted c → Faultless (lines_of (carried j)) × (c ≡ carried j)
  unfolding judged
  job-accepted c e = (
    accepted-answer (lines_of (carried j)) (judged j) (lines-answer (lines_of (carried j))) c e,
    judged-carried j c e,
  )
