-- Demand 3: what is shown is the greatest and the least over every permitted case; more winds and internals show no
-- less; faster winds show no less on their side of zero.
use mathlib.Core.Path.{◌≡◌, refl, sym, ap, subst, ◌∙◌}
use mathlib.Core.List.{Memᴰ}
use lib.IntN.{pos}
use Rattle.std.specs.Prelude.{Result, Ok, IsOkAnd}
use Rattle.verdict.specs.declared.Verdict.{Verdict}
use Rattle.page.specs.Writing.{Writing}
use Rattle.job.specs.declared.Job.{Job}
use Rattle.job.specs.Carried.{Carried}
use Rattle.job.specs.Walk.{Accepted, judged}
use Rattle.sheet.specs.Sheet.{reading, job_writing}
use Rattle.worst.specs.declared.Side.{Side}
use Rattle.worst.specs.declared.Axis.{Axis}
use Rattle.worst.specs.declared.Extreme.{Extreme}
use Rattle.worst.specs.declared.Six.{Six}
use Rattle.worst.specs.declared.Reckoning.{Reckoning}
use Rattle.worst.specs.Best.{NoFurther}
use Rattle.worst.specs.Cases.{Permitted, Loads, Case, cases}
use Rattle.worst.specs.Shown.{total_in}
use Rattle.worst.specs.Worst.{extreme, six_extremes, shown_in, line_number, worst_of}
use Rattle.worst.proofs.Members.{case-permitted, permitted-case}
use Rattle.report.specs.Report.{report_text}
use Rattle.answers.specs.Answers.{host_text, host_extreme, host_line, host_total}
use Rattle.claims.specs.Contract.{Always}
use Rattle.claims.specs.Shown.{Shows, ShowsSix, Reported, More, Faster, OneSpeed}
use Rattle.claims.proofs.Contracts as of
use Rattle.claims.proofs.Accepted.{job-in-order, sheet-in-order, six-is}
use Rattle.column.proofs.ReportLines.{line-is, one-is}
use Rattle.claims.proofs.Shown as shown

-- ---- the statements

-- "For an accepted job and each axis, the greatest and least shown are those over every permitted case .., each with
-- the first case that reaches it."
abbrev pub ShowsWorst : Type 0
ShowsWorst = Always of.worst-cases.Post (λ κ a r s. (c : Carried) → judged a.0 ≡ Accepted c
    → (six : Six) × (r ≡ Ok (record { year = c.year; six = six })) × ShowsSix c six)

-- and so in the six lines, of a record or of a sheet, for the program `totals` and for a host in C
pub record ReportsWorst : Type 0 where
  pub write-report : Always of.write-report.Post (λ κ a r s. (c : Carried) → judged a.0 ≡ Accepted c
      → Reported c a.1.0.now s.1.0.now r)
  pub write-totals : Always of.write-totals.Post (λ κ a r s. (c : Carried) → reading a.0.now ≡ Accepted c
      → Reported c a.1.0.now s.1.0.now r)
  pub aral-report : Always of.aral-report.Post (λ κ a r s. (c : Carried) → reading a.0.now ≡ Accepted c
      → (w : Writing) × Reported c a.1.0.now s.1.0.now w × (r ≡ host_text w))
  pub aral-total : Always of.aral-total.Post (λ κ a r s. (c : Carried) → reading a.0.now ≡ Accepted c
      → (axis : Axis) (side : Side) → a.1.0 ≡ pos (line_number axis side)
      → (e : Extreme) × Shows c axis side e × (r ≡ host_extreme c.year e))

-- What may be shown leaves no choice: a program that pretends, or invents the numbers of a case, shows something
-- else.
abbrev pub ShowsOne : Type 0
ShowsOne = (c : Carried) (axis : Axis) (side : Side) (e e' : Extreme) → Shows c axis side e → Shows c axis side e'
    → e ≡ e'

-- ".. each wind, each internal coefficient and, separately at each face, each alternative": the cases are these and
-- no others
abbrev pub CasesArePermitted : Type 1
CasesArePermitted = (W I F A : Type 0) (l : Loads W I F A) (c : Case W I A)
    → (Memᴰ c (cases l) → Permitted l c) × (Permitted l c → Memᴰ c (cases l))

-- "A job whose winds and internals include another's (same building and faces) shows no smaller greatest and no
-- larger least." "[It] also needs the same profile."
abbrev pub MoreShowsNoLess : Type 0
MoreShowsNoLess = Always of.worst-cases.Post (λ κ a r s. Always of.worst-cases.Post (λ κ' b q t.
    (c d : Carried) → judged a.0 ≡ Accepted c → judged b.0 ≡ Accepted d → More c d
    → (axis : Axis) (side : Side) → IsOkAnd r (λ x. IsOkAnd q (λ y.
    NoFurther side (total_in (shown_in x.six axis side)) (total_in (shown_in y.six axis side))))))

-- "If only speeds change and none is lowered, a greatest that was zero or more does not fall, and a least that was
-- zero or less does not rise." "From year 2 on .. only for jobs whose faces all stand at one height and whose face
-- speeds were all above 0." That it needs both is shown in SpeedsWorked.
abbrev pub FasterShowsNoLess : Type 0
FasterShowsNoLess = Always of.worst-cases.Post (λ κ a r s. Always of.worst-cases.Post (λ κ' b q t.
    (c d : Carried) → judged a.0 ≡ Accepted c → judged b.0 ≡ Accepted d → Faster c d → OneSpeed c
    → (axis : Axis) (side : Side)
    → IsOkAnd r (λ x. NoFurther side (pos 0) (total_in (shown_in x.six axis side)) → IsOkAnd q (λ y.
    NoFurther side (total_in (shown_in x.six axis side)) (total_in (shown_in y.six axis side))))))

-- ---- the proofs

-- what a result shows is the extreme of what its job carries
module _ (j : Job) {r : Result Reckoning Verdict} (p : r ≡ worst_of j) (c : Carried) (a : judged j ≡ Accepted c) where
  own : r ≡ Ok (record { year = c.year; six = six_extremes c })
  own = p ∙ six-is j c a

  -- what holds of them holds of it
  of-own : (P : Reckoning → Type 0) → P (record { year = c.year; six = six_extremes c }) → IsOkAnd r P
  of-own P h = subst (λ (q : Result Reckoning Verdict). IsOkAnd q P) (sym own) h

total_of : (c : Carried) (axis : Axis) (side : Side)
    → total_in (shown_in (six_extremes c) axis side) ≡ total_in (extreme axis side c)
total_of c axis side = ap total_in (one-is c axis side)

pub shows-worst : ShowsWorst
shows-worst κ a r s p c e = (six_extremes c, own a.0 p c e, shown.six-shown c (job-in-order a.0 c e))

pub reports-worst : ReportsWorst
reports-worst =
    record {
      write-report = λ κ a r s p c e. shown.reported (job-in-order a.0 c e) e a.1.0.now p;
      write-totals = λ κ a r s p c e.
          shown.reported-totals (sheet-in-order a.0.now c e) e a.1.0.now p;
      aral-report = λ κ a r s p c e.
          let out = a.1.0.now in
          let shows = shown.reported (sheet-in-order a.0.now c e) e out (refl, p.1) in
          (job_writing report_text (reading a.0.now) out, shows, p.0);
      aral-total = λ κ a r s p c e axis side n.
          let six = six_extremes c in
          let shows = shown.six-shown c (sheet-in-order a.0.now c e) axis side in (
            shown_in six axis side,
            shows,
            p ∙ ap (λ x. host_total x a.1.0) e ∙ ap (host_line c.year six) n ∙ line-is c.year six axis side,
          );
    }

pub shows-one : ShowsOne
shows-one c axis side e e' h k = shown.shows-unique c axis side h k

pub cases-permitted : CasesArePermitted
cases-permitted W I F A l c = (case-permitted l c, permitted-case l c)

pub more-shows-no-less : MoreShowsNoLess
more-shows-no-less κ a r s p κ' b q t p' c d e f m axis side =
    of-own a.0 p c e _
    (of-own b.0 p' d f _
    (rw (total_of c axis side, total_of d axis side)
    (shown.more-no-less (job-in-order a.0 c e) (job-in-order b.0 d f) axis side m)))

pub faster-shows-no-less : FasterShowsNoLess
faster-shows-no-less κ a r s p κ' b q t p' c d e f m one axis side =
    of-own a.0 p c e _
    (λ h.
    of-own b.0 p' d f _
    (rw (total_of c axis side, total_of d axis side)
    (shown.faster-no-less (job-in-order a.0 c e) (job-in-order b.0 d f) axis side m one
    (rw (total_of c axis side) at h))))
