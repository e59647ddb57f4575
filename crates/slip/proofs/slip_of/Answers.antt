-- `slip_of`: nothing of an accepted text, and else the line of its refusal.
use Prim.Native.Nat.{ℕ, suc, ◌+◌, ◌-◌, ◌≤◌, ◌<◌}
use mathlib.Core.Path.{◌≡◌, sym, ap, ◌∙◌}
use mathlib.Core.List.{List}
use native.Mathlib.Omega.{arith}
use lib.ListN.{length, drop}
use borrow.Author.Tests.{eq-eqb, ne_eqb}
use Rattle.verdict.specs.declared.Verdict.{Verdict}
use Rattle.lines.specs.Lines.{lines_in}
use Rattle.lines.specs.Held.{until}
use Rattle.job.specs.Carried.{nothing}
use Rattle.job.specs.Walk.{verdict, opening, sheet, read_lines}
use Rattle.sheet.specs.Sheet.{reading}
use Rattle.slip.specs.Slip.{slip_on, slip_with, slip_of}
use Rattle.slip.proofs.Walked.{refused-some}
use Rattle.slip.proofs.slip_of.Goals.{After-part_of, After-verdict_of-v, Else-v-eq0}
use Rattle.slip.proofs.slip_of.Goals as goal

some-line : (s : List ℕ) → ((verdict (reading s)).number ≡ 0 → ⊥) → 0 < (verdict (reading s)).line
unfolding reading read_lines
some-line s h = refused-some (sheet (opening (lines_in s))) nothing 1 (lines_in s) (omega arith) h

-- refused
module _ (c : Else-v-eq0) where
  abbrev judged : After-verdict_of-v
  judged = (goal.at.Else-v-eq0 c).After-verdict_of-v

  abbrev text : List ℕ
  text = judged.args.s.now

  is : judged.verdict_of-v.result ≡ verdict (reading text)
  is = judged.verdict_of-v.ensures

  not_none : (verdict (reading text)).number ≡ 0 → ⊥
  not_none z = c.if-v-eq0.false (ap (λ (w : Verdict). w.number) is ∙ z)

  some : 0 < judged.verdict_of-v.result.line
  some = omega (arith, ap (λ (w : Verdict). w.line) is, some-line text not_none)

  line-is : (verdict (reading text)).line ≡ suc (judged.verdict_of-v.result.line - 1)
  line-is = omega (arith, ap (λ (w : Verdict). w.line) is, some)

stands : (c : After-part_of)
    → let p = c.part_of.result in
    let s = text (goal.at.After-part_of c).Else-v-eq0 in
    (p.to ≡ p.from + until 10 (drop p.from s)) × (p.to ≤ length s) × (c.reach.result.read < 4294967295)
stands c =
    let e = c.part_of.ensures in
    (e.1, e.2, omega (arith, c.reach.ensures.1, some (goal.at.After-part_of c).Else-v-eq0))

pub returns-then-v-eq0 : goal.returns-then-v-eq0
unfolding slip_of slip_with
returns-then-v-eq0 c =
    let n = ap (λ (w : Verdict). w.number) (sym c.verdict_of-v.ensures) ∙ c.if-v-eq0.true in
    rw (eq-eqb _ _ n) c.no_slip.ensures

pub overflow_sub-n : goal.overflow_sub-n
overflow_sub-n c = omega (arith, some (goal.at.overflow_sub-n c).Else-v-eq0)

pub reach-requires : goal.reach-requires
reach-requires c = line-is (goal.at.reach-requires c).Else-v-eq0

pub slip_on-requires : goal.slip_on-requires
slip_on-requires c = stands c

pub returns : goal.returns
unfolding slip_of slip_with
returns c =
    let at_v_eq0 = (goal.at.returns c).Else-v-eq0 in
    let v = c.verdict_of-v.result in
    c.slip_on.ensures
    ∙ (λ i. slip_on v (c.reach.ensures.0 i) (c.part_of.ensures.0 i) (text at_v_eq0))
    ∙ sym (ap (λ (w : Verdict). slip_with w (text at_v_eq0)) (sym (is at_v_eq0))
    ∙ rw (ne_eqb v.number 0 c.if-v-eq0.false))
