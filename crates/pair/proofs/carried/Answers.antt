-- `carried` meets its contract: a rest below 1 N is the remainder, and one newton of any other is carried.
use mathlib.Core.Path.{ap, ◌∙◌}
use Prim.Native.Nat.{◌-◌}
use native.Mathlib.Omega.{arith}
use lib.IntN.{ℤ, pos, ◌+ℤ◌}
use mir.Syntax.{w64}
use Rattle.whole.specs.Newton.{newton}
use Rattle.whole.proofs.Size.{Num, num, param≤, back, ◌⊕◌}
use Rattle.pair.specs.Total.{pair_of}
use Rattle.pair.proofs.Units.{pair, pair_is}
use Rattle.pair.proofs.Sums.{one-carried}
use Rattle.pair.proofs.carried.Goals.{Start}
use Rattle.pair.proofs.carried.Goals as goal

abbrev given : Start → Num
given a = param≤ a.ranges.newtons a.requires.0

abbrev more : Start → Num
more a = given a ⊕ num (pos 1)

pub returns-then-rest-lt-NEWTON : goal.returns-then-rest-lt-NEWTON
returns-then-rest-lt-NEWTON c =
    let at_start = (goal.at.returns-then-rest-lt-NEWTON c).Start in
    ap (λ (n : ℤ). pair n c.args.rest) (given at_start).same ∙ pair_is c.args.newtons c.args.rest (omega arith)

pub returns : goal.returns
returns c =
    ap (λ (n : ℤ). pair n (c.args.rest - newton)) (back w64 (more (goal.at.returns c).Start) tt).same
    ∙ pair_is (c.args.newtons +ℤ pos 1) (c.args.rest - newton) (omega (arith, c.requires.1))
    ∙ ap pair_of (one-carried c.args.newtons c.args.rest (omega arith))
