-- Lists put one after the other: where each begins, and what stands there.
use mathlib.Core.Path.{◌≡◌, ap, ◌∙◌}
use mathlib.Core.List.{List, [], ◌∷◌, ◌++◌}
use Prim.Native.Nat.{ℕ, zero, suc, ◌+◌, ◌<◌}
use native.Mathlib.Omega.{arith}
use lib.ListN.{length, get_or, get_or-append}
use lib.Seq.{get_or-append-add}
use Rattle.whole.specs.Lists.{joined}

module _ {A : Type 0} where
  -- where list k begins
  abbrev pub begins : List (List A) → ℕ → ℕ
  begins [] k = 0
  begins (l ∷ ls) zero = 0
  begins (l ∷ ls) (suc k) = length l + begins ls k

  pub joined_at : (ls : List (List A)) (k i : ℕ) (d : A) → i < length (get_or ls k [])
      → get_or (joined ls) (begins ls k + i) d ≡ get_or (get_or ls k []) i d
  joined_at [] k i d h = absurd (omega arith)
  joined_at (l ∷ ls) zero i d h =
      let e : 0 + i ≡ i = omega arith in
      ap (λ (n : ℕ). get_or (l ++ joined ls) n d) e ∙ get_or-append l (joined ls) d i h
  joined_at (l ∷ ls) (suc k) i d h =
      let e : length l + begins ls k + i ≡ length l + (begins ls k + i) = omega arith in
      ap (λ (n : ℕ). get_or (l ++ joined ls) n d) e
      ∙ get_or-append-add l (joined ls) (begins ls k + i) d
      ∙ joined_at ls k i d h
