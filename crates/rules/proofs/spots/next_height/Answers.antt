-- `spots::next_height`: by the definition's own tests; one above a height below the greatest fits.
-- the height, as a branch has it
use mathlib.Core.Path.{◌≡◌, sym, ap, ◌∙◌}
use mathlib.Core.Bool.{true, false}
use native.Mathlib.Omega.{arith}
use lib.IntN.{ℤ, pos}
use lib.Signed.{lt_z}
use mir.Syntax.{w64}
use mir.Val.{to_z, of_z}
use Rattle.whole.proofs.Order.{lt-true, lt-false}
use Rattle.whole.proofs.Size.{Num, param≤, num, fit, back, ◌⊕◌, returned, size-grows}
use Rattle.rules.proofs.spots.next_height.Goals.{Else-highest-lt0, Start, Then-highest-lt-MOST_HEIGHT}
use Rattle.rules.proofs.spots.next_height.Goals as goal

module _ (c : Start) where
  abbrev high : ℤ
  high = c.args.highest

  same : to_z w64 (of_z w64 high) ≡ high
  same = (returned w64 high c.ranges.highest.sfits).same

not_low : (c : Else-highest-lt0) → lt_z (high (goal.at.Else-highest-lt0 c).Start) (pos 0) ≡ false
not_low c = ap (λ (z : ℤ). lt_z z (pos 0)) (sym (same (goal.at.Else-highest-lt0 c).Start)) ∙ c.if-highest-lt0.false

below : (c : Then-highest-lt-MOST_HEIGHT) → lt_z (high (goal.at.Then-highest-lt-MOST_HEIGHT c).Start) (pos 30000) ≡ true
below c =
    let at_start = (goal.at.Then-highest-lt-MOST_HEIGHT c).Start in
    ap (λ (z : ℤ). lt_z z (pos 30000)) (sym (same at_start)) ∙ c.if-highest-lt-MOST_HEIGHT.true

-- one above it
abbrev above : Then-highest-lt-MOST_HEIGHT → Num
above c =
    let at_start = (goal.at.Then-highest-lt-MOST_HEIGHT c).Start in
    let at_highest_lt0 = (goal.at.Then-highest-lt-MOST_HEIGHT c).Else-highest-lt0 in
    let n = lt-false (high at_start) (pos 0) (not_low at_highest_lt0) in
    let k = lt-true (high at_start) (pos 30000) (below c) in
    param≤ {k = 30000} c.ranges.highest (omega (arith, size-grows (high at_start) (pos 30000) n k)) ⊕ num (pos 1)

pub returns-then-highest-lt0 : goal.returns-then-highest-lt0
returns-then-highest-lt0 c =
    let at_start = (goal.at.returns-then-highest-lt0 c).Start in
    let e : lt_z (high at_start) (pos 0) ≡ true =
    ap (λ (z : ℤ). lt_z z (pos 0)) (sym (same at_start)) ∙ c.if-highest-lt0.true in
    rw e

pub overflow_add-result : goal.overflow_add-result
overflow_add-result c = fit (above c) tt

pub returns-then-highest-lt-MOST_HEIGHT : goal.returns-then-highest-lt-MOST_HEIGHT
returns-then-highest-lt-MOST_HEIGHT c =
    let at_highest_lt0 = (goal.at.returns-then-highest-lt-MOST_HEIGHT c).Else-highest-lt0 in
    rw (not_low at_highest_lt0, below c) (back w64 (above c) tt).same

pub returns : goal.returns
returns c =
    let at_start = (goal.at.returns c).Start in
    let e : lt_z (high at_start) (pos 30000) ≡ false =
    ap (λ (z : ℤ). lt_z z (pos 30000)) (sym (same at_start)) ∙ c.if-highest-lt-MOST_HEIGHT.false in
    rw (not_low (goal.at.returns c).Else-highest-lt0, e)
