-- The faults of a building's line by their three tests: its ranges together, the walls, the roof.
use mathlib.Core.Path.{◌≡◌, refl, ap, sym, ◌∙◌}
use mathlib.Core.Bool.{Bool, true, false, cond, ◌||◌, true≢false}
use mathlib.Core.List.{List, [], ◌∷◌, ◌++◌}
use mathlib.Core.Logic.{◌⊎◌, inl, inr, ⊎_elim}
use Prim.Native.Nat.{ℕ, zero, suc, ◌+◌, ◌≤◌, ◌<◌}
use native.Mathlib.Omega.{arith}
use lib.Dec.{eqb}
use lib.IntN.{ℤ, pos}
use borrow.Author.Tests.{ne_eqb}
use Rattle.whole.proofs.Tests.{by-test, or-false}
use Rattle.building.specs.declared.Building.{Building}
use Rattle.building.specs.Test.{beyond}
use Rattle.building.specs.Fault.{ranged, spot, Fault, first, first_spot, spot_of}
use Rattle.building.specs.Building.{Range, ranges, some, range_faults, out_of_range, out_of_walls, out_of_roof, sizes}
use Rattle.building.specs.Building.{least_length, most_length, most_slender, walls_spot, roof_spot, faults}
use Rattle.building.specs.Building.{sizes_faults, building_fault}
use Rattle.building.specs.Ratio.{up_to}
use Rattle.building.specs.Roof.{last_kind}

abbrev out : Range → Bool
out r = beyond (pos r.least) (pos r.greatest) r.number

cond-or : {A : Type 0} (t u : Bool) (x y : A) → cond t x (cond u x y) ≡ cond (t || u) x y
cond-or true u x y = refl
cond-or false u x y = refl

-- those of the ranges have one number
first-ranged : (field : ℕ) (rs : List Range) (fs : List Fault)
    → first (range_faults field rs ++ fs) ≡ cond (some out rs) 3 (first fs)
first-ranged field [] fs = refl
first-ranged field (r ∷ rs) fs =
    ap (cond (out r) 3) (first-ranged (field + 1) rs fs) ∙ cond-or (out r) (some out rs) 3 (first fs)

pub fault-tests : (year : ℤ) (g : Building)
    → building_fault year g ≡ cond (out_of_range g) 3 (cond (out_of_walls year (sizes g)) 4 (cond (out_of_roof
    (sizes g)) 5 0))
unfolding building_fault out_of_range
fault-tests year g = first-ranged 1 (ranges g) (sizes_faults year (sizes g))

-- ---- the spot of the first

spots-none : (field : ℕ) (rs : List Range) (fs : List Fault) → some out rs ≡ false
    → first_spot (range_faults field rs ++ fs) ≡ first_spot fs
unfolding first_spot
spots-none field [] fs e = refl
spots-none field (r ∷ rs) fs e =
    let t = or-false (out r) (some out rs) e in
    rw t.0 (spots-none (field + 1) rs fs t.1)

spots-some : (field : ℕ) (rs : List Range) (fs : List Fault) → some out rs ≡ true
    → first_spot (range_faults field rs) ≡ first_spot (range_faults field rs ++ fs)
unfolding first_spot
spots-some field [] fs e = absurd (true≢false (sym e))
spots-some field (r ∷ rs) fs e =
    by-test (out r) (λ t. rw t) (λ t. rw t (spots-some (field + 1) rs fs (rw t at e)))

module _ (year : ℤ) (g : Building) where
  pub spot-of-range : out_of_range g ≡ true → first_spot (range_faults 1 (ranges g)) ≡ first_spot (faults year g)
  unfolding out_of_range
  spot-of-range e = spots-some 1 (ranges g) (sizes_faults year (sizes g)) e

  module _ (e : out_of_range g ≡ false) where
    spot-by-sizes : first_spot (faults year g) ≡ first_spot (sizes_faults year (sizes g))
    unfolding out_of_range
    spot-by-sizes = spots-none 1 (ranges g) (sizes_faults year (sizes g)) e

    pub spot-of-walls : out_of_walls year (sizes g) ≡ true → walls_spot year (sizes g) ≡ first_spot (faults year g)
    unfolding first_spot
    spot-of-walls w = sym (spot-by-sizes ∙ rw w)

    pub spot-of-roof : out_of_walls year (sizes g) ≡ false → out_of_roof (sizes g) ≡ true
        → roof_spot (sizes g) ≡ first_spot (faults year g)
    unfolding first_spot
    spot-of-roof w r = sym (spot-by-sizes ∙ rw (w, r))

    pub spot-of-none : out_of_walls year (sizes g) ≡ false → out_of_roof (sizes g) ≡ false
        → spot 0 ≡ first_spot (faults year g)
    unfolding first_spot
    spot-of-none w r = sym (spot-by-sizes ∙ rw (w, r))

-- ---- the spots by field

-- the field of the first number that is out of its range
abbrev pub range_field : Building → ℕ
range_field g =
    cond (beyond (pos least_length) (pos most_length) g.h) 1
    (cond (beyond (pos least_length) (pos most_length) g.a) 2
    (cond (beyond (pos least_length) (pos most_length) g.b) 3
    (cond (beyond (pos 1000) (pos 1500) g.density) 4
    (cond (beyond (pos 0) (pos last_kind) g.kind) 5
    (cond (beyond (pos 0) (pos 30000) g.x) 6 0)))))

-- where neither the walls nor the roof lies
module _ (year : ℤ) (g : Building) where
  walls-field : ((walls_spot year (sizes g)).field ≡ 1) ⊎ ((walls_spot year (sizes g)).field ≡ 2)
  unfolding walls_spot
  walls-field =
      by-test (up_to (sizes g).h (sizes g).b most_slender) (λ e. inr (rw e refl)) (λ e. inl (rw e refl))

  pub other-field : (field : ℕ) → (field ≡ 0) ⊎ (6 < field) → spot field ≡ spot_of field (faults year g)
  unfolding spot_of roof_spot
  other-field field h =
      let no : (n : ℕ) → (field ≡ n → ⊥) → eqb field n ≡ false = λ n q. ne_eqb field n q in
      rw (
        no 1 (λ q. ⊎_elim (λ z. omega arith) (λ z. omega arith) h),
        no 2 (λ q. ⊎_elim (λ z. omega arith) (λ z. omega arith) h),
        no 3 (λ q. ⊎_elim (λ z. omega arith) (λ z. omega arith) h),
        no 4 (λ q. ⊎_elim (λ z. omega arith) (λ z. omega arith) h),
        no 5 (λ q. ⊎_elim (λ z. omega arith) (λ z. omega arith) h),
        no 6 (λ q. ⊎_elim (λ z. omega arith) (λ z. omega arith) h),
        no (walls_spot year (sizes g)).field
            (λ q. ⊎_elim (λ z. ⊎_elim (λ w. omega arith) (λ w. omega arith) walls-field)
            (λ z. ⊎_elim (λ w. omega arith) (λ w. omega arith) walls-field) h),
      )

  pub length-field : (field : ℕ) → (field ≡ 0 → ⊥) → field ≤ 3
      → ranged field (pos least_length) (pos most_length) ≡ spot_of field (faults year g)
  unfolding spot_of
  length-field zero h k = absurd (h refl)
  length-field (suc zero) h k = refl
  length-field (suc (suc zero)) h k = refl
  length-field (suc (suc (suc zero))) h k = refl
  length-field (suc (suc (suc (suc n)))) h k = absurd (omega arith)

  pub range-spot : first_spot (range_faults 1 (ranges g)) ≡ spot_of (range_field g) (faults year g)
  unfolding first_spot spot_of
  range-spot =
      by-test (beyond (pos least_length) (pos most_length) g.h) (λ e. rw e)
      (λ e. by-test (beyond (pos least_length) (pos most_length) g.a) (λ f. rw (e, f))
      (λ f. by-test (beyond (pos least_length) (pos most_length) g.b) (λ h. rw (e, f, h))
      (λ h. by-test (beyond (pos 1000) (pos 1500) g.density) (λ k. rw (e, f, h, k))
      (λ k. by-test (beyond (pos 0) (pos last_kind) g.kind) (λ l. rw (e, f, h, k, l))
      (λ l. by-test (beyond (pos 0) (pos 30000) g.x) (λ m. rw (e, f, h, k, l, m))
      (λ m. rw (e, f, h, k, l, m) (other-field 0 (inl refl))))))))
