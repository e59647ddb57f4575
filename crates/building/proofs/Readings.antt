-- The readings of the walls' table, year by year: a building that is in order by one is in order by the last, and no
-- two of them differ but at a equal to b.
use mathlib.Core.Path.{◌≡◌, refl, sym, ap, ◌∙◌}
use mathlib.Core.Bool.{Bool, true, false, cond, not}
use Prim.Native.Nat.{ℕ}
use native.Mathlib.Omega.{arith}
use lib.Arith.{lt_of_le-ne}
use lib.Dec.{ltb, leb}
use lib.IntN.{ℤ, pos, nat_abs}
use borrow.Author.Tests.{not-false, le-leb, lt-leb, ltb-true, ltb-false}
use Rattle.whole.proofs.Tests.{by-test, or-false}
use Rattle.building.specs.declared.Building.{Building}
use Rattle.building.specs.declared.Sizes.{Sizes}
use Rattle.building.specs.Ratio.{◌÷◌, up_to}
use Rattle.building.specs.Year.{last_year, has_squares}
use Rattle.building.specs.Building.{begun, out_of_form, out_of_range, out_of_walls, building_fault, given_fault}
use Rattle.building.proofs.Tested.{fault-tests}
use Rattle.building.proofs.Accepted.{fields, begun-from, passes}

-- ---- in order by the last

begun-last : (year : ℤ) (a b : ℕ) → begun year a b ≡ true → begun (pos last_year) a b ≡ true
begun-last year a b e = le-leb b a (begun-from year a b e)

walls-last : (year : ℤ) (s : Sizes) → out_of_walls year s ≡ false → out_of_walls (pos last_year) s ≡ false
unfolding out_of_walls
walls-last year s e =
    let r₁ = or-false (not (up_to s.h s.b (6 ÷ 1))) _ e in
    let r₂ = or-false (not (begun year s.a s.b)) (not (up_to s.a s.b (4 ÷ 1))) r₁.1 in
    rw (r₁.0, begun-last year s.a s.b (not-false _ r₂.0), r₂.1)

pub in-order-last : (year : ℤ) (g : Building) → building_fault year g ≡ 0 → building_fault (pos last_year) g ≡ 0
in-order-last year g e =
    let p = passes year g e in
    rw (fault-tests (pos last_year) g, p.0, walls-last year _ p.1, p.2)

-- ---- apart only at a equal to b

either-reading : (t : Bool) (a b : ℕ) → (a ≡ b → ⊥) → cond t (leb b a) (ltb b a) ≡ ltb b a
either-reading false a b h = refl
either-reading true a b h =
    by-test (ltb b a) (λ e. let l = ltb-true b a e in le-leb b a (omega arith) ∙ sym e)
    (λ e. lt-leb b a (lt_of_le-ne (ltb-false b a e) h) ∙ sym e)

begun-apart : (y z : ℤ) (a b : ℕ) → (a ≡ b → ⊥) → begun y a b ≡ begun z a b
begun-apart y z a b h = either-reading (has_squares y) a b h ∙ sym (either-reading (has_squares z) a b h)

-- numbers in their range are apart in size where they are apart
sizes-apart : (g : Building) → out_of_range g ≡ false → (g.a ≡ g.b → ⊥) → nat_abs g.a ≡ nat_abs g.b → ⊥
sizes-apart g e h q = let f = fields g e in h (sym f.a.plain ∙ ap pos q ∙ f.b.plain)

pub fault-apart : (y z : ℤ) (g : Building) → (g.a ≡ g.b → ⊥) → building_fault y g ≡ building_fault z g
unfolding out_of_walls
fault-apart y z g h =
    rw (fault-tests y g, fault-tests z g)
    (by-test (out_of_range g) (λ e. rw e) (λ e. rw (e, begun-apart y z _ _ (sizes-apart g e h))))

pub given-apart : (y z : ℤ) (g : Building) → (g.a ≡ g.b → ⊥) → given_fault y g ≡ given_fault z g
unfolding given_fault
given-apart y z g h = ap (λ (n : ℕ). cond (out_of_form g) 1 n) (fault-apart y z g h)
