-- The entries of a column, by their place: as many as there are forces, and each its face's share.
use mathlib.Core.Path.{◌≡◌, ap, ◌∙◌}
use mathlib.Core.List.{List}
use Prim.Native.Nat.{ℕ, ◌+◌, ◌<◌}
use native.Mathlib.Omega.{arith}
use lib.IntN.{ℤ, pos}
use lib.ListN.{length, get_or, length-map}
use Rattle.whole.specs.Lists.{numbers}
use Rattle.whole.proofs.Lists.{get_d_map}
use Rattle.whole.proofs.Numbers.{length-numbers, numbers-at}
use Rattle.sharing.specs.Column.{share_of, column}

module _ (fs : List ℤ) where
  pub column-length : length (column fs) ≡ length fs
  unfolding column
  column-length = length-map (numbers (length fs) 0) (share_of fs) ∙ length-numbers (length fs) 0

  pub column-at : (i : ℕ) → i < length fs → get_or (column fs) i (pos 0) ≡ share_of fs i
  unfolding column
  column-at i h =
      let e : 0 + i ≡ i = omega arith in
      get_d_map (share_of fs) (numbers (length fs) 0) i 0 (pos 0) (omega (arith, length-numbers (length fs) 0))
      ∙ ap (share_of fs) (numbers-at (length fs) 0 i 0 h ∙ e)
