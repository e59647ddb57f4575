-- `panel_of`: the sign's two branches are the two clauses of `panel_of`.
use mathlib.Core.Path.{◌≡◌, refl, ap, ◌∙◌}
use lib.IntN.{ℤ, pos, negsuc, nat_abs}
use lib.Signed.{◌≤ℤ◌, ◌<ℤ◌}
use native.Mathlib.Omega.{arith}
use Rattle.whole.proofs.Parts.{order}
use Rattle.whole.proofs.Size.{Num, param, num, lt_yes, lt_no, size}
use Rattle.panel.specs.Bracket.{of_size, mirrored, panel_of}
use Rattle.panel.proofs.panel_of.Goals.{After-of_size-p}
use Rattle.panel.proofs.panel_of.Goals as goal

below : (z : ℤ) → z <ℤ pos 0 → mirrored (of_size (nat_abs z)) ≡ panel_of z
unfolding panel_of
below (pos n) h = absurd (omega (arith, order))
below (negsuc n) h = refl

above : (z : ℤ) → pos 0 ≤ℤ z → of_size (nat_abs z) ≡ panel_of z
unfolding panel_of
above (pos n) h = refl
above (negsuc n) h = absurd (omega (arith, order))

abbrev total : After-of_size-p → Num
total c = param c.ranges.total

sized : (c : After-of_size-p) → c.of_size-p.result ≡ of_size (nat_abs c.args.total)
sized c = c.of_size-p.ensures ∙ ap of_size (c.magnitude.ensures ∙ size (total c))

pub returns-then-total-lt0 : goal.returns-then-total-lt0
returns-then-total-lt0 c =
    let at_of_size_p = (goal.at.returns-then-total-lt0 c).After-of_size-p in
    c.mirror.ensures ∙ ap mirrored (sized at_of_size_p) ∙ below _ (lt_yes (total at_of_size_p) (num
    (pos 0)) c.if-total-lt0.true)

pub returns-else-total-lt0 : goal.returns-else-total-lt0
returns-else-total-lt0 c =
    let at_of_size_p = (goal.at.returns-else-total-lt0 c).After-of_size-p in
    sized at_of_size_p ∙ above _ (lt_no (total at_of_size_p) (num (pos 0)) c.if-total-lt0.false)
