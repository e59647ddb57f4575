-- `coefficients::outside_in` meets its contract: an arm for each answer.
use mathlib.Core.Path.{sym, ap, ◌∙◌}
use borrow.Author.Rules.{rules}
use mir.Syntax.{w32}
use mir.Val.{SFits}
use mir.ValLaws.{to_z-of_z}
use Rattle.book.specs.Answer.{Answer}
use Rattle.account.specs.Coefficients.{outside_in}
use Rattle.account.proofs.coefficients.outside_in.Goals as goal

pub returns-in-Ok : goal.returns-in-Ok
returns-in-Ok c =
    let fits : SFits w32 c.value_of.result = search rules in
    to_z-of_z w32 _ fits ∙ c.value_of.ensures
    ∙ ap (λ (x : Answer). outside_in x c.args.alternative) (sym c.in-Ok.is)

pub returns-in-Err : goal.returns-in-Err
returns-in-Err c =
    ap (λ (x : Answer). outside_in x c.args.alternative) (sym c.in-Err.is)
