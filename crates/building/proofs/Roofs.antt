-- How large the limits of a roof's x are, and what x is compared over.
use mathlib.Core.Bool.{Bool, true, false, cond}
use Prim.Native.Nat.{ℕ, ◌≤◌, ◌<◌}
use native.Mathlib.Omega.{arith}
use lib.Dec.{T, leb, leb→le, lit<, lit≤}
use Rattle.whole.proofs.Table.{all-at, both, both_left, both_right}
use Rattle.building.specs.Roof.{Roof, roof, roofs, roof_of, across_of}

abbrev low : Roof → Bool
low r = both (leb r.least 900) (leb r.greatest 900)

low-at : (kind : ℕ) → T (low (roof_of kind))
unfolding roof_of
low-at kind = all-at low roofs (roof 0 0 false) tt tt kind

pub least-most : (kind : ℕ) → (roof_of kind).least ≤ 900
least-most kind =
    leb→le _ 900 (both_left (leb (roof_of kind).least 900) (leb (roof_of kind).greatest 900) (low-at kind))

pub greatest-most : (kind : ℕ) → (roof_of kind).greatest ≤ 900
greatest-most kind =
    leb→le _ 900 (both_right (leb (roof_of kind).least 900) (leb (roof_of kind).greatest 900) (low-at kind))

pub across-range : (kind h : ℕ) → 100 ≤ h → h ≤ 30000 → (0 < across_of kind h) × (across_of kind h ≤ 30000)
across-range kind h from to = go (roof_of kind).by_height
  where
    go : (t : Bool) → (0 < cond t h 1) × (cond t h 1 ≤ 30000)
    go true = (omega arith, to)
    go false = (lit< tt, lit≤ tt)
