-- What the machine reads back of a signed result that a callee's contract tells, and that is known to be small.
use mathlib.Core.Path.{◌≡◌, ap, ◌∙◌}
use Prim.Native.Nat.{ℕ, ◌^◌, ◌≤◌}
use lib.Dec.{T, ltb}
use lib.IntN.{ℤ, nat_abs}
use mir.Syntax.{w64}
use mir.Val.{to_z, of_z}
use Rattle.whole.proofs.Size.{Num, num≤, back, ◌⊗◌}

abbrev pub read_back : (r z : ℤ) {k : ℕ} → r ≡ z → nat_abs z ≤ k → T (ltb k (2 ^ 63)) → Num
read_back r z {k} e h t =
    record {
      has = to_z w64 (of_z w64 r);
      is = z;
      most = k;
      same = ap (λ (x : ℤ). to_z w64 (of_z w64 x)) e ∙ (back w64 (num≤ z h) t).same;
      small = h;
    }

-- outside coefficient × weight, as the code makes it
abbrev pub product : (z weight : ℤ) → nat_abs z ≤ 1200 → nat_abs weight ≤ 150000000000000 → Num
product z weight h k = back w64 (num≤ z h) tt ⊗ back w64 (num≤ weight k) tt
