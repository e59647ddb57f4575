-- `reckon::reckon_by` meets its contract: a verdict of 0 accepts what the record carries.
use mathlib.Core.Path.{sym, ap, ap₂, ◌∙◌}
use borrow.Author.Rules.{rules}
use lib.IntN.{ℤ}
use mir.Syntax.{w64}
use mir.ValLaws.{to_z-of_z}
use Rattle.std.specs.Prelude.{Result, Ok}
use Rattle.verdict.specs.declared.Verdict.{Verdict}
use Rattle.job.specs.Carried.{carried}
use Rattle.worst.specs.declared.Six.{Six}
use Rattle.worst.specs.declared.Reckoning.{Reckoning}
use Rattle.worst.specs.Worst.{reckoned, worst_of}
use Rattle.worst.proofs.Reckoned.{refused-is, taken_is}
use Rattle.worst.proofs.reckon.reckon_by.Goals as goal

abbrev taken : ℤ → Six → Result Reckoning Verdict
taken year six = Ok (record { year = year; six = six })

pub returns-then-v-ne0 : goal.returns-then-v-ne0
unfolding worst_of
returns-then-v-ne0 c = ap reckoned (sym (refused-is c.args.job c.args.v c.requires c.if-v-ne0.true))

pub own_six-requires : goal.own_six-requires
own_six-requires c =
    (taken_is c.args.job c.args.v c.requires c.if-v-ne0.false).order

pub returns : goal.returns
unfolding worst_of carried
returns c =
    ap₂ taken (to_z-of_z w64 c.args.job.year (search rules)) c.own_six.ensures
    ∙ ap reckoned (sym (taken_is c.args.job c.args.v c.requires c.if-v-ne0.false).is)
