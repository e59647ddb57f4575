-- `natural_at` meets its contract: a lone 0, or a digit that is not 0 with those behind it.
use Prim.Native.Nat.{◌-◌}
use mathlib.Core.Path.{◌≡◌, ◌∙◌}
use native.Mathlib.Omega.{arith}
use lib.ListN.{get_or}
use Rattle.sheet.proofs.Plain.{digit-first, on}
use borrow.Author.Rules.{rules}
use Rattle.sheet.proofs.plainly.natural_at.Goals as goal

pub returns-then-b-eq48 : goal.returns-then-b-eq48
returns-then-b-eq48 c =
    let a = c.args in
    let e : get_or a.s.now a.at 0 - 48 ≡ 0 = omega (arith, c.if-b-eq48.true) in (
      search rules,
      on a.s.now c.requires.0 c.requires.1 (λ e. omega (arith, e, c.if-b-lt48.false)),
      rw e at (digit-first a.s.now a.at (search rules) (search rules) (search rules)),
    )

pub returns : goal.returns
returns c =
    let a = c.args in
    let d = c.digits_from.ensures in
    (d.1, d.0, digit-first a.s.now a.at (search rules) (search rules) (search rules) ∙ d.2)
