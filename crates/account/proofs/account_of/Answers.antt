-- `account_of` meets its contract: the refusal of the job or of the line, then the face's, and else its account.
use mathlib.Core.Path.{◌≡◌, sym, ap, ap₂, ◌∙◌, subst}
use mathlib.Core.Bool.{false}
use Prim.Native.Nat.{◌≤◌}
use native.Mathlib.Omega.{arith}
use borrow.Author.Tests.{le-leb}
use lib.Dec.{T}
use lib.IntN.{ℤ, pos, nat_abs}
use lib.Signed.{◌≤ℤ◌, le_z_yes}
use mir.Syntax.{w32, w64}
use mir.ValLaws.{to_z-of_z}
use Rattle.whole.proofs.Size.{Num, num≤, back, unsigned, nat}
use Rattle.building.specs.Test.{beyond}
use Rattle.building.proofs.Accepted.{Within, within}
use Rattle.job.specs.declared.Job.{Job}
use Rattle.job.specs.Carried.{carried}
use Rattle.job.specs.Walk.{judged}
use Rattle.worst.specs.Worst.{six_extremes}
use Rattle.worst.specs.Rows.{Taken}
use Rattle.worst.proofs.Rows.{ready}
use Rattle.answers.specs.declared.Extreme.{Extreme}
use Rattle.answers.specs.Answers.{host_line, host_total}
use Rattle.column.proofs.Answered.{taken-by, line-by}
use Rattle.account.specs.Account.{face_account}
use Rattle.account.proofs.Answered.{refused, no-such-face, accounted}
use Rattle.account.proofs.account_of.Goals.{After-beyond, After-shown_of-shown, Else-beyond, Start}
use Rattle.account.proofs.account_of.Goals as goal

module _ (c : After-shown_of-shown) where
  abbrev s : Start
  s = (goal.at.After-shown_of-shown c).Start

  abbrev j : Job
  j = s.args.job

  abbrev line : ℤ
  line = s.args.line

  abbrev e : Extreme
  e = c.shown_of-shown.result

  shown : e ≡ host_total (judged j) line
  shown = c.shown_of-shown.ensures ∙ ap (host_total (judged j)) (to_z-of_z w64 line s.ranges.line)

-- ---- the face, of a job that is taken

module _ (b : After-beyond) where
  abbrev d : After-shown_of-shown
  d = (goal.at.After-beyond b).After-shown_of-shown

  abbrev face : ℤ
  face = d.args.face

  named : (e d).verdict.number ≡ 0
  named = b.if-shown-ne0.false

  abbrev t : Taken (j d)
  t = taken-by (j d) (line d) (e d) (shown d) named

  tested : b.beyond.result ≡ beyond (pos 1) (pos (j d).faces.count) face
  tested =
      let few : (j d).faces.count ≤ 240 = (ready (j d) t).profiled.few in
      b.beyond.ensures
      ∙ ap₂ (λ (m z : ℤ). beyond (pos 1) m z) (nat w64 {n = (j d).faces.count} 240 few tt).same
      (to_z-of_z w64 face d.ranges.face)

-- one that the job has
module _ (x : Else-beyond) where
  abbrev b : After-beyond
  b = (goal.at.Else-beyond x).After-beyond

  inside : beyond (pos 1) (pos (j (goal.at.After-beyond b).After-shown_of-shown).faces.count) (face b) ≡ false
  inside = sym (tested b) ∙ x.if-beyond.false

  has : Within 1 (j (goal.at.After-beyond b).After-shown_of-shown).faces.count (face b)
  has = within 1 (j (goal.at.After-beyond b).After-shown_of-shown).faces.count (face b) inside

  few : nat_abs (face b) ≤ 240
  few = omega (arith, has.to, (ready (j (goal.at.After-beyond b).After-shown_of-shown) (t b)).profiled.few)

  -- as it is read back
  abbrev number : Num
  number = back w64 (num≤ (face b) few) tt

pub returns-then-shown-ne0 : goal.returns-then-shown-ne0
returns-then-shown-ne0 c =
    let at_shown_of_shown = (goal.at.returns-then-shown-ne0 c).After-shown_of-shown in
    c.no_account.ensures
    ∙ refused (j at_shown_of_shown) (line at_shown_of_shown) c.args.face (e at_shown_of_shown)
    (shown at_shown_of_shown) c.if-shown-ne0.true

pub returns-then-beyond : goal.returns-then-beyond
returns-then-beyond c =
    let at_shown_of_shown = (goal.at.returns-then-beyond c).After-shown_of-shown in
    let at_beyond = (goal.at.returns-then-beyond c).After-beyond in
    c.no_account-then-beyond.ensures
    ∙ no-such-face (j at_shown_of_shown) (line at_shown_of_shown) (face at_beyond) (e at_shown_of_shown)
    (shown at_shown_of_shown) (t at_beyond) (named at_beyond)
    (sym (tested at_beyond) ∙ c.if-beyond.true)

pub overflow_cast-face : goal.overflow_cast-face
overflow_cast-face c =
    let at_beyond = (goal.at.overflow_cast-face c).After-beyond in
    let none = le_z_yes (subst T (sym (le-leb 0 (nat_abs (face at_beyond)) (omega arith))) tt) in
    unsigned {w = w32} (number c) (subst (λ (z : ℤ). pos 0 ≤ℤ z) (has c).plain none) tt

pub face_account-requires : goal.face_account-requires
face_account-requires c =
    let at_shown_of_shown = (goal.at.face_account-requires c).After-shown_of-shown in
    let at_beyond = (goal.at.face_account-requires c).After-beyond in
    let size = ap nat_abs (number c).same in (
      t at_beyond,
      line-by (j at_shown_of_shown) (line at_shown_of_shown) (e at_shown_of_shown) (shown at_shown_of_shown)
          (named at_beyond)
          ∙ ap (host_line (carried (j at_shown_of_shown)).year (six_extremes (carried (j at_shown_of_shown))))
          (sym (to_z-of_z w64 (line at_shown_of_shown) c.ranges.line)),
      named at_beyond,
      omega (arith, (has c).from, size),
      omega (arith, (has c).to, size),
    )

pub returns : goal.returns
returns c =
    let x = (goal.at.returns c).Else-beyond in
    let o = (goal.at.returns c).After-shown_of-shown in
    let d = (goal.at.returns c).After-beyond in
    let n = number x in
    c.face_account.ensures
    ∙ (λ i. face_account (carried (j o)) (to_z-of_z w64 (line o) c.ranges.line i) (e o) (nat_abs (n.same i)))
    ∙ accounted (j o) (line o) (face d) (e o) (shown o) (t d) (named d) (inside x)
