-- The best of those with the numbers up to n, after an earlier one.
use mathlib.Core.Path.{◌≡◌, sym, ap, ◌∙◌}
use Prim.Native.Nat.{ℕ, ◌+◌, ◌-◌, ◌≤◌}
use native.Mathlib.Omega.{arith}
use Rattle.whole.specs.Lists.{numbers}
use Rattle.worst.specs.declared.Side.{Side}
use Rattle.worst.specs.Best.{Best, better}
use Rattle.worst.specs.Quick.{over}
use Rattle.worst.proofs.Better.{over-after}

-- those before n, and it
pub over-upto : {A : Type 0} (s : Side) (g : ℕ → Best A) (b : Best A) (n : ℕ) → 1 ≤ n
    → better s (better s b (over s g (numbers (n - 1) 1))) (g n) ≡ better s b (over s g (numbers n 1))
over-upto s g b n h =
    let e : n - 1 + 1 ≡ n = omega arith in
    ap (λ m. better s (better s b (over s g (numbers (n - 1) 1))) (g m)) (sym e)
    ∙ over-after s g b (n - 1)
    ∙ ap (λ m. better s b (over s g (numbers m 1))) e
