-- `coefficients::value_of` meets its contract: an arm for one alternative and one for two.
use mathlib.Core.Path.{sym, ap, ◌∙◌}
use mathlib.Core.List.{[], ◌∷◌}
use Prim.Native.Nat.{◌-◌}
use borrow.Author.Rules.{rules}
use lib.IntN.{ℤ, pos}
use lib.ListN.{get_or}
use mir.Syntax.{w32}
use mir.Val.{SFits}
use mir.ValLaws.{to_z-of_z}
use Rattle.whole.proofs.Size.{returned}
use Rattle.book.specs.declared.Values.{Values}
use Rattle.book.specs.Answer.{values_in}
use Rattle.account.proofs.Alternatives.{one-alone}
use Rattle.account.proofs.coefficients.value_of.Goals as goal

pub returns-in-One : goal.returns-in-One
returns-in-One c =
    let n = c.args.alternative - 1 in
    let v = c.in-One.v in
    let same = (returned w32 v c.in-One.known_told-1-own.given.0.1).same in
    let fits : SFits w32 c.one_of.result = search rules in
    to_z-of_z w32 _ fits ∙ c.one_of.ensures
    ∙ ap (λ (z : ℤ). get_or (z ∷ pos 0 ∷ []) n (pos 0)) same
    ∙ one-alone v n
    ∙ ap (λ (l : Values). get_or (values_in l) n (pos 0)) (sym c.in-One.is)

pub returns-in-Two : goal.returns-in-Two
returns-in-Two c =
    let n = c.args.alternative - 1 in
    let v = (returned w32 c.in-Two.v c.in-Two.known_told-in-Two-1-own.given.0.1).same in
    let u = (returned w32 c.in-Two.u c.in-Two.known_told-in-Two-1-own.given.1.0.1).same in
    let fits : SFits w32 c.one_of-in-Two.result = search rules in
    to_z-of_z w32 _ fits ∙ c.one_of-in-Two.ensures
    ∙ (λ i. get_or (v i ∷ u i ∷ []) n (pos 0))
    ∙ ap (λ (l : Values). get_or (values_in l) n (pos 0)) (sym c.in-Two.is)
