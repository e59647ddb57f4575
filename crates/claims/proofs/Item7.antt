-- Item 7 of paper 02: keep the sums.
use mathlib.Core.Path.{◌≡◌, refl, sym, ap, ◌∙◌, subst}
use mathlib.Core.Bool.{false}
use mathlib.Core.List.{Memᴰ}
use Prim.Native.Nat.{ℕ, ◌-◌, ◌≤◌, ◌<◌}
use native.Mathlib.Omega.{arith}
use lib.ListN.{length, get_or}
use Rattle.whole.proofs.ByPlace.{get_d-member}
use Rattle.page.specs.Writing.{Writing}
use Rattle.entry.specs.declared.Face.{Face}
use Rattle.job.specs.declared.Job.{Job}
use Rattle.job.specs.Carried.{Carried, carried, no_wind}
use Rattle.job.specs.InOrder.{InOrder}
use Rattle.job.specs.Walk.{Accepted, judged}
use Rattle.job.proofs.RoundTrip.{judged-carried}
use Rattle.sheet.specs.Sheet.{reading, job_writing}
use Rattle.worst.specs.declared.Side.{Side}
use Rattle.worst.specs.declared.Axis.{Axis}
use Rattle.worst.specs.Best.{NoFurther}
use Rattle.worst.specs.Cases.{Loads, case_total}
use Rattle.worst.specs.Forces.{wind_at, loads}
use Rattle.worst.specs.Worst.{given}
use Rattle.worst.specs.Stored.{best_choice, value_of, stored_cells, no_cell, counts, stored_of, stored_at, case_of}
use Rattle.whole.proofs.Numbers.{Between, numbers-member, member-numbers}
use Rattle.worst.proofs.Members.{cell-bound, cell-reached, cell-permitted}
use Rattle.worst.proofs.Promises.{some-alternative}
use Rattle.worst.proofs.JobSums.{own-sum, past-counts}
use Rattle.report.specs.Report.{report_text}
use Rattle.answers.specs.Answers.{host_text}
use Rattle.worksheet.specs.declared.Worksheet.{Worksheet}
use Rattle.worksheet.specs.declared.Edited.{Edited}
use Rattle.worksheet.proofs.OpenedSums.{opened-sums}
use Rattle.claims.specs.Contract.{Always}
use Rattle.claims.specs.Shown.{Reported}
use Rattle.claims.specs.Sums.{FurthestSum, TrueSums}
use Rattle.claims.proofs.Contracts as of
use Rattle.claims.proofs.Accepted.{job-in-order}
use Rattle.claims.proofs.Session.{Session, stays-true, shows-report}
use Rattle.claims.proofs.Shown as shown

-- ---- the statements

-- "Store, for each wind, internal coefficient and axis, the greatest and least sum over the faces": it is the furthest
-- total over all cases of that wind and that internal coefficient; past the counts nothing is stored
pub record StoresFurthest (w : Worksheet) (t : TrueSums w) : Type 0 where
  pub furthest : (axis : Axis) (side : Side) (wind internal : ℕ) → 1 ≤ wind → wind ≤ length t.carries.winds
      → 1 ≤ internal → internal ≤ length t.carries.internals
      → FurthestSum t.carries axis side wind internal (stored_at axis side w.sums wind internal)
  pub past : (k : ℕ) → k < stored_cells → counts (given t.carries) k ≡ false → get_or w.sums.cell k no_cell ≡ no_cell

abbrev pub TrueSumsAreFurthest : Type 0
TrueSumsAreFurthest = (w : Worksheet) (t : TrueSums w) → StoresFurthest w t

-- "From an accepted job on, the stored sums equal those reckoned from the faces": a sheet that is opened
abbrev pub OpenedIsTrue : Type 0
OpenedIsTrue = Always of.aral-open.Post (λ κ a r s. (c : Carried) → reading a.0.now ≡ Accepted c
    → TrueSums r.worksheet)

-- ".. after every edit, refused or not"
abbrev pub SumsStayTrue : Type 0
SumsStayTrue = (w v : Worksheet) → TrueSums w → Session w v → TrueSums v

-- "Reports do not change": the six lines that true sums show are those of demand 3
abbrev pub ShowsWorstCases : Type 0
ShowsWorstCases = (v : Worksheet) (t : TrueSums v) → Always of.aral-show.Post (λ κ a r s. a.0 ≡ v
    → (w : Writing) × Reported t.carries a.1.0.now s.1.0.now w × (r ≡ host_text w))

-- ---- the proofs

module _ (j : Job) (o : InOrder (carried j)) (axis : Axis) (side : Side) where
  abbrev l : Loads ℕ ℕ Face ℕ
  l = loads axis (given (carried j))

  has-alternatives : (w : ℕ) → Memᴰ w l.winds → (f : Face) → Memᴰ f l.faces
      → (k : ℕ) × Memᴰ k (l.alternatives w f)
  has-alternatives w m =
      let b = numbers-member (length (carried j).winds) 1 m in
      some-alternative axis side (carried j) o (wind_at (given (carried j)) w)
      (get_d-member (carried j).winds (w - 1) no_wind (omega (arith, b.low, b.high)))

  furthest-of : (w i : ℕ) → Between 1 (length (carried j).winds) w → Between 1 (length (carried j).internals) i
      → FurthestSum (carried j) axis side w i (stored_at axis side (stored_of (carried j)) w i)
  furthest-of w i hw hi =
      let mw = member-numbers w (length (carried j).winds) 1 hw in
      let mi = member-numbers i (length (carried j).internals) 1 hi in
      subst (FurthestSum (carried j) axis side w i) (sym (own-sum j o axis side w i mw mi))
      (record {
        bound = λ k c. subst (NoFurther side (case_total l k))
            (λ n. value_of (best_choice side l (c.its-wind n) (c.its-internal n)))
            (cell-bound side l has-alternatives k c.permitted);
        case = case_of side l w i;
        in_cell = record {
          permitted = cell-permitted side l has-alternatives w i mw mi;
          its-wind = refl;
          its-internal = refl;
        };
        reached = cell-reached side l has-alternatives w i mw;
      })

-- what an accepted job carries is what its record does
mine : (w : Worksheet) (t : TrueSums w) → t.carries ≡ carried w.job
mine w t = judged-carried w.job t.carries t.accepted

pub true-sums-are-furthest : TrueSumsAreFurthest
true-sums-are-furthest w t =
    let j = w.job in
    let o = subst InOrder (mine w t) (job-in-order j t.carries t.accepted) in
    let own : w.sums ≡ stored_of (carried j) = t.sums ∙ ap stored_of (mine w t) in
    let back = sym (mine w t) in
    record {
      furthest = λ axis side n i n≥ n≤ i≥ i≤.
          let winds = ap (λ d. length d.winds) (mine w t) in
          let internals = ap (λ d. length d.internals) (mine w t) in
          let is =
          furthest-of j o axis side n i (record { low = n≥; high = omega (arith, winds) })
          (record { low = i≥; high = omega (arith, internals) }) in
          subst (λ d. FurthestSum d axis side n i (stored_at axis side w.sums n i)) back
          (subst (λ s. FurthestSum (carried j) axis side n i (stored_at axis side s n i)) (sym own) is);
      past = λ k h e.
          ap (λ s. get_or s.cell k no_cell) own
          ∙ past-counts j o k h (subst (λ d. counts (given d) k ≡ false) (mine w t) e);
    }

pub opened-is-true : OpenedIsTrue
opened-is-true κ a r s p c e =
    let k = opened-sums a.0.now c e in
    subst TrueSums (sym (ap (λ (x : Edited). x.worksheet) p))
    (record { carries = c; accepted = k.0; sums = k.1 })

pub sums-stay-true : SumsStayTrue
sums-stay-true = stays-true

pub shows-worst-cases : ShowsWorstCases
shows-worst-cases v t κ a r s p same =
    let true = subst TrueSums (sym same) t in
    let is = shows-report a.0 true a.1.0.now in
    let j = a.0.job in
    let accepted = ap (λ (x : Worksheet). judged x.job) same ∙ t.accepted in (
      job_writing report_text (judged j) a.1.0.now,
      shown.reported (job-in-order j t.carries accepted) accepted a.1.0.now (refl, p.1 ∙ is.1),
      p.0 ∙ ap host_text is.0,
    )
