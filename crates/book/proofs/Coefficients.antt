-- What is answered is the coefficient with its rows, and there is one only.
use mathlib.Core.Path.{◌≡◌, sym, ap, subst, ◌∙◌}
use mathlib.Core.Bool.{true, false}
use Prim.Native.Nat.{ℕ, ◌<◌}
use lib.Dec.{lit<}
use lib.IntN.{ℤ, neg_ℤ, nat_abs}
use Rattle.std.specs.Prelude.{Ok}
use Rattle.whole.proofs.Tests.{by-test}
use Rattle.building.specs.declared.Building.{Building}
use Rattle.building.specs.declared.Sizes.{Sizes}
use Rattle.building.specs.Order.{SizesInOrder}
use Rattle.building.specs.Building.{sizes}
use Rattle.building.specs.Places.{wall_place, knows, place_on}
use Rattle.building.proofs.Accepted.{in_order}
use Rattle.building.proofs.Judged.{InYear}
use Rattle.building.proofs.Places.{needs-roof, place-there}
use Rattle.book.specs.declared.Cited.{Cited}
use Rattle.book.specs.declared.Values.{Values}
use Rattle.book.specs.declared.Values.TheVariants.{One, Two}
use Rattle.book.specs.Line.{Way, value_at}
use Rattle.book.specs.Walls.{wall_way}
use Rattle.book.specs.Roofs.{roof_way}
use Rattle.book.specs.Answer.{cites}
use Rattle.book.specs.Question.{wall_column, roof_column, two_signs, coefficient_of, outside_of}
use Rattle.book.specs.Coefficient.{OnRoof, IsCoefficient, on_wall, on_roof, on_f}
use Rattle.book.proofs.Interpolated.{value-near, near-value}
use Rattle.book.proofs.Roofed.{way-is, roof-lies, roof-only}
use Rattle.book.proofs.Answers.{on-wall, on-f, on_one, answered}

module _ (s : Sizes) (o : SizesInOrder s) (wind place : ℕ) where
  -- what is answered for a place that is on the building
  on-roof : 0 < s.kind → (col : ℕ) → OnRoof s col (roof_way s) (value_at (roof_way s) col)
  on-roof roofed col =
      record { lies = roof-lies s o roofed; near = value-near (roof_way s) col (way-is s).some }

  pub coefficient-is : (wall_place place ≡ false → 0 < s.kind)
      → IsCoefficient s wind place (coefficient_of s wind place)
  coefficient-is roofed =
      by-test (wall_place place)
      (λ w. rw (on-wall s wind place w) (on_wall w (value-near (wall_way s) (wall_column wind place) (lit< tt))))
      (λ w. let value = on-roof (roofed w) (roof_column s.kind wind place) in
      by-test (two_signs s.kind place)
      (λ e. rw (on-f s wind place w e) (on_f w (roofed w) e value))
      (λ e. rw (on_one s wind place w e) (on_roof w (roofed w) e value)))

  -- and nothing else is
  one_only : 0 < s.kind → (col : ℕ) (values : ℤ → Values) {w : Way} {v : ℤ} → OnRoof s col w v
      → cites (values v) w ≡ cites (values (value_at (roof_way s) col)) (roof_way s)
  one_only roofed col values {w} r =
      let e = roof-only s o roofed r.lies in
      let some = subst (λ (u : Way). 0 < u.whole) (sym e) (way-is s).some in
      ap (λ (z : ℤ). cites (values z) w) (near-value w col some r.near)
      ∙ ap (λ (u : Way). cites (values (value_at u col)) u) e

  pub coefficient-only : {c : Cited} → IsCoefficient s wind place c → c ≡ coefficient_of s wind place
  coefficient-only (on_wall w n) =
      let value = near-value (wall_way s) (wall_column wind place) (lit< tt) n in
      rw (on-wall s wind place w, value)
  coefficient-only (on_roof w k e r) =
      one_only k (roof_column s.kind wind place) One r ∙ sym (on_one s wind place w e)
  coefficient-only (on_f w k e r) =
      one_only k (roof_column s.kind wind place) (λ v. Two v (neg_ℤ v)) r ∙ sym (on-f s wind place w e)

  pub coefficient-unique : {c d : Cited} → IsCoefficient s wind place c → IsCoefficient s wind place d → c ≡ d
  coefficient-unique i j = coefficient-only i ∙ sym (coefficient-only j)

-- ---- the answer about a zone or local that is on the building, under a direction that it knows

module _ (year : ℤ) (g : Building) (direction : ℤ) (place : ℕ) where
  pub outside-is : InYear year g → knows g.kind direction ≡ true
      → place_on g.kind direction place ≡ true
      → (c : Cited) × (outside_of year g direction place ≡ Ok c)
      × IsCoefficient (sizes g) (nat_abs direction) place c
  outside-is good known on = (
    coefficient_of (sizes g) (nat_abs direction) place,
    answered year g direction place good known on,
    coefficient-is (sizes g) (in_order year g good.none) (nat_abs direction) place (λ w. needs-roof g.kind place w
        (place-there g.kind direction place on)),
  )
