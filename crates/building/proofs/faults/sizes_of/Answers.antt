-- `faults::sizes_of`: each field is read back as it is, and its size taken; a number in its range is small enough for
-- the rest.
-- the sizes are taken in the order h, b, kind, a, x: the place of each, and the start
use mathlib.Core.Path.{◌≡◌, ap₂, ◌∙◌}
use Prim.Native.Nat.{ℕ, ◌^◌, ◌≤◌, ◌<◌}
use native.Mathlib.Omega.{arith}
use lib.IntN.{ℤ, nat_abs}
use lib.Signed.{mag}
use mir.Syntax.{w32, w64}
use mir.Val.{Fits, to_z, of_z}
use Rattle.building.specs.declared.Building.{Building}
use Rattle.building.specs.declared.Sizes.{Sizes}
use Rattle.building.specs.Roof.{along_of, across_of}
use Rattle.whole.proofs.Size.{said}
use Rattle.building.proofs.Accepted.{fields}
use Rattle.building.proofs.faults.sizes_of.Goals.{After-magnitude-2}
use Rattle.building.proofs.faults.sizes_of.Goals as goal

abbrev building : After-magnitude-2 → Building
building c = c.args.g

-- the sizes, said of the building
h : (c : After-magnitude-2) → c.magnitude-h.result ≡ nat_abs (building c).h
h c =
    said nat_abs (building c).h c.magnitude-h.ensures
    c.struct_told-5-1.given.0.1

kind : (c : After-magnitude-2) → c.magnitude-kind.result ≡ nat_abs (building c).kind
kind c =
    said nat_abs (building c).kind c.magnitude-kind.ensures
    c.struct_told-5-1.given.1.1.1.1.0.1

x : (c : After-magnitude-2) → c.magnitude-2.result ≡ nat_abs (building c).x
x c = said nat_abs (building c).x c.magnitude-2.ensures c.struct_told-5-1.given.1.1.1.1.1.0.1

-- a length in its range fits 32 bits
narrow : (z : ℤ) {n : ℕ} → n ≡ nat_abs (to_z w64 (of_z w64 z)) → mag z < 2 ^ 63 → nat_abs z ≤ 30000 → Fits w32 n
narrow z e h k = omega (arith, said nat_abs z e h)

abbrev six : ℕ → ℕ → ℕ → ℕ → ℕ → ℕ → Sizes
six h a b kind along across = record { h = h; a = a; b = b; kind = kind; along = along; across = across }

same : {h h' a a' b b' kind kind' along along' across across' : ℕ} → h ≡ h' → a ≡ a' → b ≡ b' → kind ≡ kind'
    → along ≡ along' → across ≡ across' → six h a b kind along across ≡ six h' a' b' kind' along' across'
same p q r s t u = cc

pub overflow_cast-result : goal.overflow_cast-result
overflow_cast-result c =
    narrow c.args.g.h c.magnitude-h.ensures c.struct_told-3-1.given.0.1
    (fields c.args.g c.requires).h.to

pub overflow_cast-result-2 : goal.overflow_cast-result-2
overflow_cast-result-2 c =
    narrow c.args.g.a c.magnitude.ensures c.struct_told-4-1.given.1.0.1
    (fields c.args.g c.requires).a.to

pub overflow_cast-result-3 : goal.overflow_cast-result-3
overflow_cast-result-3 c =
    narrow c.args.g.b c.magnitude-b.ensures c.struct_told-4-1.given.1.1.0.1
    (fields c.args.g c.requires).b.to

pub along-requires : goal.along-requires
along-requires c =
    let f = fields c.args.g c.requires in
    (omega (arith, kind c, f.kind.to), omega (arith, x c, f.x.to))

pub across-requires : goal.across-requires
across-requires c =
    omega (arith, kind (goal.at.across-requires c).After-magnitude-2, (fields c.args.g c.requires).kind.to)

pub returns : goal.returns
returns c =
    let at_magnitude_2 = (goal.at.returns c).After-magnitude-2 in
    let g = building at_magnitude_2 in
    let bounds = c.struct_told-5-1.given in
    same (h at_magnitude_2)
    (said nat_abs g.a c.magnitude.ensures bounds.1.0.1)
    (said nat_abs g.b c.magnitude-b.ensures bounds.1.1.0.1)
    (kind at_magnitude_2)
    (c.along.ensures ∙ ap₂ along_of (kind at_magnitude_2) (x at_magnitude_2))
    (c.across.ensures ∙ ap₂ across_of (kind at_magnitude_2) (h at_magnitude_2))
