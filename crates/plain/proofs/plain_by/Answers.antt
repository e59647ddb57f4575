-- `plain_by` meets its contract: a job's own refusal, the refusal of too many faces with two alternatives, or its six.
use mathlib.Core.Path.{◌≡◌, sym, ap, ap₂, ◌∙◌}
use mathlib.Core.Bool.{Bool, cond}
use native.Mathlib.Omega.{arith}
use borrow.Author.Tests.{le-leb, lt-leb}
use lib.Dec.{leb}
use lib.IntN.{ℤ, pos}
use mir.Syntax.{w64}
use mir.ValLaws.{to_z-of_z}
use borrow.Author.Rules.{rules}
use Rattle.std.specs.Prelude.{Result, Ok}
use Rattle.verdict.specs.declared.Verdict.{Verdict}
use Rattle.verdict.specs.Verdict.{refusal}
use Rattle.job.specs.Carried.{carried}
use Rattle.job.specs.Walk.{Accepted, Refused}
use Rattle.worst.specs.declared.Six.{Six}
use Rattle.worst.specs.declared.Reckoning.{Reckoning}
use Rattle.worst.specs.Worst.{given, reckoned}
use Rattle.worst.proofs.Reckoned.{refused-is, taken_is}
use Rattle.plain.specs.Plain.{faces_with_two, most_with_two, plainly, plain_of}
use Rattle.worst.specs.Rows.{Taken}
use Rattle.plain.proofs.plain_by.Goals.{Else-v-ne0, Start}
use Rattle.plain.proofs.plain_by.Goals as goal

abbrev answer : ℤ → Six → Result Reckoning Verdict
answer year six = Ok (record { year = year; six = six })

-- a job that is accepted
module _ (e : Else-v-ne0) where
  abbrev a : Start
  a = (goal.at.Else-v-ne0 e).Start

  taken : Taken a.args.job
  taken =
      let t = taken_is a.args.job a.args.v a.requires e.if-v-ne0.false in
      record { order = t.order; accepted = t.is }

  -- by whether few of its faces have two alternatives
  by_count : (t : Bool) → leb (faces_with_two (given (carried a.args.job))) most_with_two ≡ t
      → reckoned (cond t (Accepted (carried a.args.job)) (Refused (refusal 10 0))) ≡ plain_of a.args.job
  unfolding plain_of
  by_count t h =
      ap (λ k. reckoned (cond k (Accepted (carried a.args.job)) (Refused (refusal 10 0)))) (sym h)
      ∙ ap (λ r. reckoned (plainly r)) (sym taken.accepted)

pub returns-then-v-ne0 : goal.returns-then-v-ne0
unfolding plain_of
returns-then-v-ne0 c =
    ap (λ r. reckoned (plainly r)) (sym (refused-is c.args.job c.args.v c.requires c.if-v-ne0.true))

pub faces_with_two-requires : goal.faces_with_two-requires
faces_with_two-requires c = taken c

pub returns-then-faces_with_two-gt-MOST_WITH_TWO : goal.returns-then-faces_with_two-gt-MOST_WITH_TWO
returns-then-faces_with_two-gt-MOST_WITH_TWO c =
    by_count (goal.at.returns-then-faces_with_two-gt-MOST_WITH_TWO c).Else-v-ne0 _
    (ap (λ k. leb k most_with_two) (sym c.faces_with_two.ensures)
    ∙ lt-leb _ most_with_two c.if-faces_with_two-gt-MOST_WITH_TWO.true)

pub every_wind-requires : goal.every_wind-requires
every_wind-requires c =
    let at_v_ne0 = (goal.at.every_wind-requires c).Else-v-ne0 in
    (taken at_v_ne0, omega (arith, c.faces_with_two.ensures, c.if-faces_with_two-gt-MOST_WITH_TWO.false))

pub returns : goal.returns
unfolding carried
returns c =
    let at_v_ne0 = (goal.at.returns c).Else-v-ne0 in
    ap₂ answer (to_z-of_z w64 c.args.job.year (search rules)) c.every_wind.ensures
    ∙ by_count at_v_ne0 _
    (ap (λ k. leb k most_with_two) (sym c.faces_with_two.ensures)
    ∙ le-leb _ most_with_two c.if-faces_with_two-gt-MOST_WITH_TWO.false)
