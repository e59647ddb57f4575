-- `question::minus`: each alternative is small enough for every step.
-- an argument of `less`, and what it returns, said of the numbers
use mathlib.Core.Path.{◌≡◌, sym, ap, ap₂, ◌∙◌, subst}
use Prim.Native.Nat.{◌≤◌, ◌<◌, ◌^◌}
use lib.IntN.{ℤ, nat_abs}
use lib.Signed.{mag}
use mir.Syntax.{w32, w64}
use mir.Val.{to_z, of_z}
use Rattle.whole.specs.Lists.{Every}
use Rattle.whole.proofs.Size.{returned}
use Rattle.book.specs.declared.Values.{Values}
use Rattle.book.specs.declared.Values.TheVariants.{One, Two}
use Rattle.book.specs.Answer.{values_in}
use Rattle.book.specs.Question.{net, minus}
use Rattle.book.proofs.question.minus.Goals as goal

fine : (v z : ℤ) → mag v < 2 ^ 31 → mag z < 2 ^ 63 → nat_abs v ≤ 2500 → nat_abs z ≤ 100
    → (nat_abs (to_z w32 (of_z w32 v)) ≤ 2500) × (nat_abs (to_z w64 (of_z w64 z)) ≤ 100)
fine v z f h k e = (
  subst (λ (y : ℤ). nat_abs y ≤ 2500) (sym (returned w32 v f).same) k,
  subst (λ (y : ℤ). nat_abs y ≤ 100) (sym (returned w64 z h).same) e,
)

taken-off : (v z r : ℤ) → mag v < 2 ^ 31 → mag z < 2 ^ 63 → mag r < 2 ^ 31
    → r ≡ net (to_z w32 (of_z w32 v)) (to_z w64 (of_z w64 z)) → to_z w32 (of_z w32 r) ≡ net v z
taken-off v z r f h g e = (returned w32 r g).same ∙ e ∙ ap₂ net (returned w32 v f).same (returned w64 z h).same

-- each of these is small
abbrev Small : Values → Type 0
Small values = Every (λ z. nat_abs z ≤ 2500) (values_in values)

pub less-requires : goal.less-requires
less-requires c =
    fine c.in-One.v c.args.internal c.in-One.known_told-1-own.given.0.1 c.ranges.internal.sfits
    (subst Small c.in-One.is c.requires.0).0 c.requires.1

pub less-requires-in-Two : goal.less-requires-in-Two
less-requires-in-Two c =
    fine c.in-Two.v c.args.internal c.in-Two.known_told-in-Two-1-own.given.0.1 c.ranges.internal.sfits
    (subst Small c.in-Two.is c.requires.0).0 c.requires.1

pub less-requires-in-Two-2 : goal.less-requires-in-Two-2
less-requires-in-Two-2 c =
    fine c.in-Two.w c.args.internal c.in-Two.known_told-in-Two-1-own.given.1.0.1 c.ranges.internal.sfits
    (subst Small c.in-Two.is c.requires.0).1.0 c.requires.1

pub returns-in-One : goal.returns-in-One
returns-in-One c =
    let z = c.args.internal in
    let fits = c.ranges.internal.sfits in
    let v = c.in-One.v in
    ap One (taken-off v z c.less.result c.in-One.known_told-1-own.given.0.1 fits c.less.type_inv c.less.ensures)
    ∙ ap (λ (v : Values). minus v z) (sym c.in-One.is)

pub returns-in-Two : goal.returns-in-Two
returns-in-Two c =
    let z = c.args.internal in
    let fits = c.ranges.internal.sfits in
    let v = c.in-Two.v in
    let w = c.in-Two.w in
    ap₂ Two (taken-off v z c.less-in-Two.result c.in-Two.known_told-in-Two-1-own.given.0.1 fits
    c.less-in-Two.type_inv c.less-in-Two.ensures)
    (taken-off w z c.less-in-Two-2.result c.in-Two.known_told-in-Two-1-own.given.1.0.1 fits c.less-in-Two-2.type_inv
    c.less-in-Two-2.ensures)
    ∙ ap (λ (v : Values). minus v z) (sym c.in-Two.is)
