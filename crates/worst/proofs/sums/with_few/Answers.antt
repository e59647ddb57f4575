-- `sums::with_few` meets its contract: each sum moves over, and the weights are added.
use mathlib.Core.Path.{◌≡◌, ap, ◌∙◌}
use Prim.Native.Nat.{◌+◌, ◌*◌, ◌≤◌}
use native.Mathlib.Omega.{arith}
use lib.IntN.{ℤ, nat_abs, ◌+ℤ◌}
use mir.Syntax.{w64}
use mir.Val.{to_z, of_z}
use Rattle.whole.proofs.Size.{Num, num≤, back, fit, nat_abs-add, ◌⊕◌}
use Rattle.worst.proofs.SumsGrow.{amount-more}
use Rattle.worst.specs.Few.{FewAxisSmall}
use Rattle.worst.specs.Amounts.{amount_in, AxisSumsSmall}
use Rattle.worst.proofs.sums.with_few.Goals.{Start}
use Rattle.worst.proofs.sums.with_few.Goals as goal

abbrev weights : Start → Num
weights a =
    back w64 (num≤ a.args.sums.weight a.requires.0.weight) tt
    ⊕ back w64 (num≤ a.args.few.weight a.requires.1.weight) tt

-- a sum as `plus` reads it
read : (z : ℤ) → nat_abs z ≤ 24 * 180000000000000000 → to_z w64 (of_z w64 z) ≡ z
read z h = (back w64 (num≤ z h) tt).same

pub overflow_add-result : goal.overflow_add-result
overflow_add-result c = fit {w = w64} (weights (goal.at.overflow_add-result c).Start) tt

pub returns : goal.returns
returns c =
    let s = c.args.sums in
    let f = c.args.few in
    let heavy = (back w64 (weights (goal.at.returns c).Start) tt).same in (
      (λ j. record {
        greatest =
            (c.plus-greatest.ensures.0
            ∙ ap (λ z. amount_in s.greatest +ℤ z) (read f.greatest c.requires.1.greatest)) j;
        least = (c.plus-least.ensures.0 ∙ ap (λ z. amount_in s.least +ℤ z) (read f.least c.requires.1.least)) j;
        weight = heavy j;
      }),
      λ n m (h : AxisSumsSmall n s) (k : FewAxisSmall (m + 1) f). record {
        greatest = amount-more (n + 1) (n + (m + 1)) _ (omega arith) (c.plus-greatest.ensures.1 n h.greatest);
        least = amount-more (n + 1) (n + (m + 1)) _ (omega arith) (c.plus-least.ensures.1 n h.least);
        weight = rw heavy (omega (arith, nat_abs-add s.weight f.weight, h.weight, k.weight));
      },
    )
