-- Item 11 of paper 02: which winds can be dropped.
use mathlib.Core.Path.{◌≡◌, refl, sym, ap, subst, ◌∙◌}
use Prim.Native.Nat.{ℕ}
use Rattle.std.specs.Prelude.{Result, IsOk, IsOkAnd}
use Rattle.verdict.specs.declared.Verdict.{Verdict}
use Rattle.job.specs.declared.Job.{Job}
use Rattle.job.specs.Carried.{Carried, carried, with_winds}
use Rattle.job.specs.InOrder.{InOrder}
use Rattle.job.specs.Lines.{lines_of}
use Rattle.job.specs.Walk.{Accepted, read_lines, judged}
use Rattle.job.proofs.InOrder.{in-order-accepted}
use Rattle.whole.specs.Lists.{take_out}
use Rattle.worst.specs.declared.Reckoning.{Reckoning}
use Rattle.worst.specs.Worst.{six_extremes, worst_of}
use Rattle.worst.proofs.Dropped.{dropped-extreme, dropped-in-order}
use Rattle.claims.specs.Contract.{Always}
use Rattle.claims.specs.Dropped.{WindTakenOut, Unnamed, renumbered_extreme, SameButNumbers}
use Rattle.claims.proofs.Contracts as of
use Rattle.claims.proofs.Accepted.{job-in-order, six-is}
use Rattle.column.proofs.ReportLines.{one-is}
use Rattle.claims.proofs.Item8.{same-six-lines}

-- ---- the statements

-- "for an accepted job with two or more winds, taking out a wind that none of the six lines names leaves all six totals
-- and the rest of each named case as they were, apart from the later winds' numbers going down by one": and the job
-- without it is accepted
abbrev pub UnnamedWindsDrop : Type 0
UnnamedWindsDrop = Always of.worst-cases.Post (λ κ a r s. Always of.worst-cases.Post (λ κ' b q t.
    (c : Carried) (k : ℕ) → judged a.0 ≡ Accepted c → WindTakenOut k c (carried b.0)
    → IsOkAnd r (λ x. Unnamed k x.six → IsOkAnd q (λ y. SameButNumbers k x.six y.six))))

-- and so where the plain engine takes both jobs
abbrev pub UnnamedWindsDropPlainly : Type 0
UnnamedWindsDropPlainly = Always of.plain-cases.Post (λ κ a r s. Always of.plain-cases.Post (λ κ' b q t.
    (c : Carried) (k : ℕ) → judged a.0 ≡ Accepted c → WindTakenOut k c (carried b.0)
    → IsOk r → IsOk q → IsOkAnd r (λ x. Unnamed k x.six → IsOkAnd q (λ y. SameButNumbers k x.six y.six))))

-- ---- the proofs

module _ (j i : Job) (c : Carried) (k : ℕ) (a : judged j ≡ Accepted c) (t : WindTakenOut k c (carried i)) where
  abbrev fewer : Carried
  fewer = with_winds (take_out k c.winds) c

  o : InOrder c
  o = job-in-order j c a

  fewer-accepted : judged i ≡ Accepted fewer
  unfolding judged
  fewer-accepted =
      ap (λ d. read_lines (lines_of d)) t.same
      ∙ in-order-accepted fewer (dropped-in-order c k t.first t.last t.two o)

  six-kept : Unnamed k (six_extremes c) → SameButNumbers k (six_extremes c) (six_extremes fewer)
  six-kept n axis side =
      let old = one-is c axis side in
      one-is fewer axis side
      ∙ dropped-extreme c k t.first t.last axis side o (λ e. n axis side (ap (λ x. x.wind) old ∙ e))
      ∙ ap (renumbered_extreme k) (sym old)

pub unnamed-winds-drop : UnnamedWindsDrop
unnamed-winds-drop κ a r s p κ' b q t h c k judged-a out =
    let fewer-are = h ∙ six-is b.0 _ (fewer-accepted a.0 b.0 c k judged-a out) in
    subst (λ (z : Result Reckoning Verdict). IsOkAnd z (λ x.
    Unnamed k x.six → IsOkAnd q (λ y. SameButNumbers k x.six y.six))) (sym (p ∙ six-is a.0 c judged-a))
    (λ n.
    subst (λ (z : Result Reckoning Verdict). IsOkAnd z (λ y. SameButNumbers k (six_extremes c) y.six))
    (sym fewer-are) (six-kept a.0 b.0 c k judged-a out n))

pub unnamed-winds-drop-plainly : UnnamedWindsDropPlainly
unnamed-winds-drop-plainly κ a r s p κ' b q t h c k judged-a out v w =
    let first = same-six-lines κ a (worst_of a.0) s refl κ a r s p refl v in
    let second = same-six-lines κ' b (worst_of b.0) t refl κ' b q t h refl w in
    unnamed-winds-drop κ a r s first κ' b q t second c k judged-a out
