-- `forces::force_at` meets its contract: each force is built as the code builds it, and at most 3.3 × 10^17 in size.
use Prim.Native.Nat.{◌≤◌}
use lib.IntN.{ℤ, pos, nat_abs}
use mir.Syntax.{w64}
use Rattle.whole.proofs.Size.{Num, num, num≤, back, fit, ◌⊖◌, ◌⊗◌}
use Rattle.worst.proofs.forces.force_at.Goals.{Start}
use Rattle.worst.proofs.forces.force_at.Goals as goal

module _ (a : Start) where
  abbrev tenfold : Num
  tenfold = back w64 (num≤ a.args.internal a.requires.2) tt ⊗ num (pos 10)

  abbrev net : Num
  net = back w64 (num≤ a.args.outside a.requires.1) tt ⊖ back w64 tenfold tt

  abbrev pressed : Num
  pressed = back w64 net tt ⊗ back w64 (num≤ a.args.pressure a.requires.3) tt

  abbrev on : (area : ℤ) → nat_abs area ≤ 100000 → Num
  on area h = back w64 pressed tt ⊗ back w64 (num≤ area h) tt

  abbrev x : Num
  x = on a.args.f.x a.requires.0.x

  abbrev y : Num
  y = on a.args.f.y a.requires.0.y

  abbrev z : Num
  z = on a.args.f.z a.requires.0.z

pub overflow_mul-net : goal.overflow_mul-net
overflow_mul-net c = fit {w = w64} (tenfold c) tt

pub overflow_sub-net : goal.overflow_sub-net
overflow_sub-net c = fit {w = w64} (net c) tt

pub overflow_mul-pressed : goal.overflow_mul-pressed
overflow_mul-pressed c = fit {w = w64} (pressed c) tt

pub overflow_mul-result : goal.overflow_mul-result
overflow_mul-result c = fit {w = w64} (x (goal.at.overflow_mul-result c).Start) tt

pub overflow_mul-result-2 : goal.overflow_mul-result-2
overflow_mul-result-2 c = fit {w = w64} (y (goal.at.overflow_mul-result-2 c).Start) tt

pub overflow_mul-result-3 : goal.overflow_mul-result-3
overflow_mul-result-3 c = fit {w = w64} (z (goal.at.overflow_mul-result-3 c).Start) tt

pub returns : goal.returns
returns c =
    let at_start = (goal.at.returns c).Start in
    λ j. record {
      x = (back w64 (x at_start) tt).same j;
      y = (back w64 (y at_start) tt).same j;
      z = (back w64 (z at_start) tt).same j;
    }
