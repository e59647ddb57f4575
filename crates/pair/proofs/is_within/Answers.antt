-- `is_within` meets its contract: below zero and where nothing is left the size of the newtons decides, and else the
-- remainder is more than they are.
use mathlib.Core.Path.{◌≡◌, ap, ◌∙◌}
use Prim.Native.Nat.{ℕ}
use lib.Dec.{ltb, leb}
use lib.IntN.{pos, nat_abs}
use mir.Syntax.{w64}
use mir.Val.{SFits}
use native.Mathlib.Omega.{arith}
use borrow.Author.Rules.{rules}
use Rattle.whole.proofs.Size.{num, param, size, lt_yes, lt_no}
use Rattle.pair.proofs.Sizes.{not-proper, below-zero, nothing_left, something-left}
use Rattle.pair.proofs.is_within.Goals.{
  After-magnitude-size,
  Start,
  then-p-lt0-via-then-p-lt0,
  then-p-lt0-via-else-p-lt0+then-p-eq0,
}
use Rattle.pair.proofs.is_within.Goals as goal

fits : (a : Start) → SFits w64 a.args.p.newtons
fits a = search rules

sized : (c : After-magnitude-size) → c.magnitude-size.result ≡ nat_abs c.args.p.newtons
sized c = c.magnitude-size.ensures ∙ size (param (fits (goal.at.After-magnitude-size c).Start))

pub returns-then-p-ge-NEWTON : goal.returns-then-p-ge-NEWTON
returns-then-p-ge-NEWTON c = not-proper c.args.n c.args.p c.if-p-ge-NEWTON.true

pub returns-then-p-lt0 : goal.returns-then-p-lt0
returns-then-p-lt0 c =
    let a = c.args in
    let n = param (fits (goal.at.returns-then-p-lt0 c).Start) in
    ap (λ (s : ℕ). leb s a.n) (sized (goal.at.returns-then-p-lt0 c).After-magnitude-size)
    ∙ elim c.then-p-lt0.branch [
      | then-p-lt0-via-then-p-lt0 w ↦
          below-zero a.n a.p c.if-p-ge-NEWTON.false (lt_yes n (num (pos 0)) w.if-p-lt0.true)
      | then-p-lt0-via-else-p-lt0+then-p-eq0 w ↦
          nothing_left a.n a.p (lt_no n (num (pos 0)) w.if-p-lt0.false) w.if-p-eq0.true
    ]

pub returns : goal.returns
returns c =
    let a = c.args in
    let n = param (fits (goal.at.returns c).Start) in
    ap (λ (s : ℕ). ltb s a.n) (sized (goal.at.returns c).After-magnitude-size)
    ∙ something-left a.n a.p (lt_no n (num (pos 0)) c.if-p-lt0.false) c.if-p-ge-NEWTON.false (omega arith)
