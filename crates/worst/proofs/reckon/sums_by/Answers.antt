-- `reckon::sums_by` meets its contract: a verdict of 0 accepts what the record carries.
use mathlib.Core.Path.{sym, ap, ◌∙◌}
use Rattle.worst.specs.Stored.{stored_in}
use Rattle.worst.proofs.Reckoned.{refused-is, taken_is}
use Rattle.worst.proofs.reckon.sums_by.Goals as goal

pub returns-then-v-ne0 : goal.returns-then-v-ne0
returns-then-v-ne0 c =
    c.none_stored.ensures
    ∙ ap stored_in (sym (refused-is c.args.job c.args.v c.requires c.if-v-ne0.true))

pub own_sums-requires : goal.own_sums-requires
own_sums-requires c =
    (taken_is c.args.job c.args.v c.requires c.if-v-ne0.false).order

pub returns : goal.returns
returns c =
    c.own_sums.ensures
    ∙ ap stored_in (sym (taken_is c.args.job c.args.v c.requires c.if-v-ne0.false).is)
