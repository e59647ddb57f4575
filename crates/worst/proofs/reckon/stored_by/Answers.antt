-- `reckon::stored_by` meets its contract: a verdict of 0 accepts what the record carries, and sums that its year has
-- tell.
use mathlib.Core.Path.{◌≡◌, sym, ap, ap₂, ◌∙◌}
use mathlib.Core.Bool.{cond}
use lib.IntN.{ℤ}
use mir.Syntax.{w64}
use mir.ValLaws.{to_z-of_z}
use borrow.Author.Rules.{rules}
use Rattle.whole.proofs.Size.{said}
use Rattle.std.specs.Prelude.{Result, Ok}
use Rattle.verdict.specs.declared.Verdict.{Verdict}
use Rattle.job.specs.Carried.{carried}
use Rattle.worst.specs.declared.Six.{Six}
use Rattle.worst.specs.declared.Reckoning.{Reckoning}
use Rattle.worst.specs.Within.{most_newtons, all_within}
use Rattle.worst.specs.Stored.{stored_of, six_by, reckoned_by}
use Rattle.worst.proofs.JobSums.{own-six}
use Rattle.worst.proofs.ProperSums.{within-proper}
use Rattle.worst.proofs.Reckoned.{refused-is, Taken, taken_is}
use Rattle.worst.proofs.reckon.stored_by.Goals.{After-all_within, Else-v-ne0, Start}
use Rattle.worst.proofs.reckon.stored_by.Goals as goal

abbrev told : ℤ → Six → Result Reckoning Verdict
told year six = Ok (record { year = year; six = six })

-- the test of the stored sums
module _ (c : After-all_within) where
  abbrev e : Else-v-ne0
  e = (goal.at.After-all_within c).Else-v-ne0

  abbrev a : Start
  a = (goal.at.Else-v-ne0 e).Start

  taken : Taken a.args.job a.args.v a.requires
  taken = taken_is a.args.job a.args.v a.requires e.if-v-ne0.false

  tested : c.all_within.result ≡ all_within (most_newtons a.args.job.year) a.args.stored.cell
  tested =
      said (λ y. all_within (most_newtons y) a.args.stored.cell) a.args.job.year c.all_within.ensures
      c.struct_told-1.given.0.1

pub returns-then-v-ne0 : goal.returns-then-v-ne0
returns-then-v-ne0 c =
    ap (reckoned_by c.args.stored)
    (sym (refused-is c.args.job c.args.v c.requires c.if-v-ne0.true))

pub six_stored-requires : goal.six_stored-requires
six_stored-requires c =
    let at_all_within = (goal.at.six_stored-requires c).After-all_within in
    let proper = within-proper (most_newtons c.args.job.year) c.args.stored.cell
    (sym (tested at_all_within) ∙ c.if-all_within.true) in
    ((taken at_all_within).order, λ k t. proper k)

pub returns-then-all_within : goal.returns-then-all_within
unfolding carried
returns-then-all_within c =
    let at_all_within = (goal.at.returns-then-all_within c).After-all_within in
    let j = c.args.job in
    let own = taken at_all_within in
    ap₂ told (to_z-of_z w64 j.year (search rules)) c.six_stored.ensures
    ∙ ap (λ z. told j.year (six_by (cond z c.args.stored (stored_of (carried j))) (carried j)))
    (sym (sym (tested at_all_within) ∙ c.if-all_within.true))
    ∙ ap (reckoned_by c.args.stored) (sym own.is)

pub own_six-requires : goal.own_six-requires
own_six-requires c = (taken (goal.at.own_six-requires c).After-all_within).order

pub returns : goal.returns
unfolding carried
returns c =
    let at_all_within = (goal.at.returns c).After-all_within in
    let j = c.args.job in
    let own = taken at_all_within in
    ap₂ told (to_z-of_z w64 j.year (search rules))
    (c.own_six.ensures ∙ sym (own-six j own.order))
    ∙ ap (λ z. told j.year (six_by (cond z c.args.stored (stored_of (carried j))) (carried j)))
    (sym (sym (tested at_all_within) ∙ c.if-all_within.false))
    ∙ ap (reckoned_by c.args.stored) (sym own.is)
