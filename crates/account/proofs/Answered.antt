-- The ways of an account: refused as the line is, refused for a face that the job has not, or the face's.
use mathlib.Core.Path.{◌≡◌, sym, ap, ◌∙◌}
use mathlib.Core.Bool.{Bool, true, false, cond}
use borrow.Author.Tests.{eq-eqb, ne_eqb}
use lib.Dec.{eqb}
use lib.IntN.{ℤ, pos, nat_abs}
use Rattle.verdict.specs.Verdict.{refusal, Refuses}
use Rattle.building.specs.Test.{beyond}
use Rattle.job.specs.declared.Job.{Job}
use Rattle.job.specs.Carried.{Carried, carried}
use Rattle.job.specs.Walk.{Reading, Accepted, Refused, judged}
use Rattle.worst.specs.Rows.{Taken}
use Rattle.worst.proofs.Rows.{faces-counted}
use Rattle.answers.specs.declared.Extreme.{Extreme}
use Rattle.answers.specs.Answers.{host_total}
use Rattle.account.specs.declared.Account.{Account}
use Rattle.account.specs.Account.{face_account, no_account, account_on, account_of}

module _ (j : Job) (line face : ℤ) (e : Extreme) (shown : e ≡ host_total (judged j) line) where
  -- what is accounted for of an accepted job, by what the line shows
  abbrev by_line : Carried → Extreme → Account
  by_line c x = cond (eqb x.verdict.number 0) (account_on c line x face) (no_account x.verdict)

  -- the job's own refusal, and that of the line
  pub refused : Refuses e.verdict → no_account e.verdict ≡ account_of (judged j) line face
  unfolding account_of
  refused h = go (judged j) shown
    where
      go : (r : Reading) → e ≡ host_total r line → no_account e.verdict ≡ account_of r line face
      go (Accepted c) s =
          ap (λ (b : Bool). cond b (account_on c line e face) (no_account e.verdict))
          (sym (ne_eqb e.verdict.number 0 h))
          ∙ ap (by_line c) s
      go (Refused v) s = ap (λ (x : Extreme). no_account x.verdict) s

  module _ (t : Taken j) where
    taken : by_line (carried j) e ≡ account_of (judged j) line face
    unfolding account_of
    taken =
        ap (by_line (carried j)) (shown ∙ ap (λ (r : Reading). host_total r line) t.accepted)
        ∙ sym (ap (λ (r : Reading). account_of r line face) t.accepted)

    -- by whether the face is one of the job's
    by-face : e.verdict.number ≡ 0 → (b : Bool) → beyond (pos 1) (pos j.faces.count) face ≡ b
        → cond b (no_account (refusal 9 0)) (face_account (carried j) line e (nat_abs face))
        ≡ account_of (judged j) line face
    by-face z b h =
        ap (λ (b : Bool). cond b (no_account (refusal 9 0)) (face_account (carried j) line e (nat_abs face)))
        (sym h ∙ ap (λ n. beyond (pos 1) (pos n) face) (sym (faces-counted j t)))
        ∙ ap (λ (b : Bool). cond b (account_on (carried j) line e face) (no_account e.verdict))
        (sym (eq-eqb e.verdict.number 0 z))
        ∙ taken

    pub no-such-face : e.verdict.number ≡ 0 → beyond (pos 1) (pos j.faces.count) face ≡ true
        → no_account (refusal 9 0) ≡ account_of (judged j) line face
    no-such-face z h = by-face z true h

    pub accounted : e.verdict.number ≡ 0 → beyond (pos 1) (pos j.faces.count) face ≡ false
        → face_account (carried j) line e (nat_abs face) ≡ account_of (judged j) line face
    accounted z h = by-face z false h
