-- What the answer to a text tells of its reading: number 0 is no refusal's, and the job is then what was read.
use Prim.Native.Nat.{ℕ}
use mathlib.Core.Path.{◌≡◌, refl, ap, ◌∙◌}
use mathlib.Core.List.{List}
use Rattle.std.specs.Prelude.{Ok, Err, IfOk, IfErr}
use Rattle.std.proofs.lemmas.Result.{IfOk-at_ok, IfErr-at_err}
use Rattle.verdict.specs.declared.Verdict.{Verdict}
use Rattle.verdict.specs.Verdict.{Refuses}
use Rattle.lines.specs.Lines.{lines_in}
use Rattle.job.specs.Carried.{Carried, recorded}
use Rattle.job.specs.Walk.{Reading, Accepted, Refused, verdict, judged}
use Rattle.job.proofs.Records.{recorded-accepted}
use Rattle.job.proofs.Verdicts.{lines-refused, lines-accepted}
use Rattle.sheet.specs.declared.read.Read.{Read}
use Rattle.sheet.specs.declared.read.Head.{Head}
use Rattle.sheet.specs.Head.{head_of, head_in}
use Rattle.sheet.specs.Sheet.{reading, answer}

pub answer-verdict : (r : Reading) → (answer r).verdict ≡ verdict r
answer-verdict (Accepted c) = refl
answer-verdict (Refused v) = refl

-- what was read without a record: a job with its setting and its number of faces, or a refusal
pub head-accepted : (r : Reading) {h : Head} → head_of r ≡ Ok h → (c : Carried) × (r ≡ Accepted c) × (h ≡ head_in c)
head-accepted r {h} e = IfOk-at_ok (λ x. (c : Carried) × (r ≡ Accepted c) × (x ≡ head_in c)) e (go r)
  where
    go : (r : Reading) → IfOk (head_of r) (λ x. (c : Carried) × (r ≡ Accepted c) × (x ≡ head_in c))
    go (Accepted c) = (c, refl, refl)
    go (Refused v) = tt

pub head-refused : (r : Reading) {v : Verdict} → head_of r ≡ Err v → r ≡ Refused v
head-refused r e = IfErr-at_err (λ v. r ≡ Refused v) e (go r)
  where
    go : (r : Reading) → IfErr (head_of r) (λ v. r ≡ Refused v)
    go (Accepted c) = tt
    go (Refused v) = refl

-- a verdict by itself
module _ (s : List ℕ) (v : Verdict) (e : v ≡ verdict (reading s)) where
  pub told-refused : Refuses v → reading s ≡ Refused v
  unfolding reading
  told-refused h = lines-refused (lines_in s) v e h

  pub told-accepted : v.number ≡ 0 → (c : Carried) × (reading s ≡ Accepted c)
  unfolding reading
  told-accepted z = lines-accepted (lines_in s) v e z

module _ (s : List ℕ) (r : Read) (e : r ≡ answer (reading s)) where
  pub read-verdict : r.verdict ≡ verdict (reading s)
  read-verdict = ap (λ (a : Read). a.verdict) e ∙ answer-verdict (reading s)

  pub read-refused : Refuses r.verdict → reading s ≡ Refused r.verdict
  read-refused h = told-refused s r.verdict read-verdict h

  pub read-accepted : r.verdict.number ≡ 0
      → (c : Carried) × (reading s ≡ Accepted c) × (judged r.job ≡ Accepted c)
  unfolding reading
  read-accepted z =
      let a = told-accepted s r.verdict read-verdict z in
      let k : r.job ≡ recorded a.0 = ap (λ (v : Read). v.job) (e ∙ ap answer a.1) in
      (a.0, a.1, ap judged k ∙ recorded-accepted (lines_in s) a.0 a.1)
