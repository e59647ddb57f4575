-- A building in order: each number within its range, and within the tables' limits. And what each fault says.
use mathlib.Core.Path.{◌≡◌, refl, sym, ◌∙◌}
use mathlib.Core.Bool.{Bool, true, false, cond, not, true≢false}
use Prim.Native.Nat.{ℕ, suc, ◌*◌, ◌≤◌}
use native.Mathlib.Omega.{arith}
use lib.IntN.{ℤ, pos, negsuc, nat_abs}
use lib.Dec.{ltb}
use borrow.Author.Tests.{not-false, le-ltb, ltb-true, ltb-false, leb-true}
use Rattle.whole.proofs.Tests.{by-test, or-false}
use Rattle.building.specs.declared.Building.{Building}
use Rattle.building.specs.declared.Sizes.{Sizes}
use Rattle.building.specs.Test.{beyond, too_long}
use Rattle.building.specs.Ratio.{◌÷◌, up_to}
use Rattle.building.specs.Roof.{last_kind, roof_of}
use Rattle.building.specs.Year.{has_squares}
use Rattle.building.specs.Order.{Ranged, SizesInOrder}
use Rattle.building.specs.Building.{begun, out_of_form, out_of_range, out_of_walls, out_of_roof, sizes, building_fault}
use Rattle.building.specs.Building.{given_fault}
use Rattle.building.proofs.Roofs.{across-range}
use Rattle.building.proofs.Tested.{fault-tests}

-- ---- each number in its range

pub record Within (least greatest : ℕ) (z : ℤ) : Type 0 where
  pub from : least ≤ nat_abs z
  pub to : nat_abs z ≤ greatest
  pub plain : pos (nat_abs z) ≡ z

pub within : (least greatest : ℕ) (z : ℤ) → beyond (pos least) (pos greatest) z ≡ false → Within least greatest z
unfolding beyond
within least greatest (pos n) e =
    let b = or-false (ltb n least) (ltb greatest n) e in
    record { from = ltb-false n least b.0; to = ltb-false greatest n b.1; plain = refl }
within least greatest (negsuc n) e = absurd (true≢false e)

-- the building's line, number by number
pub record Fields (g : Building) : Type 0 where
  pub h : Within 100 30000 g.h
  pub a : Within 100 30000 g.a
  pub b : Within 100 30000 g.b
  pub density : Within 1000 1500 g.density
  pub kind : Within 0 last_kind g.kind
  pub x : Within 0 30000 g.x

pub fields : (g : Building) → out_of_range g ≡ false → Fields g
unfolding out_of_range
fields g e =
    let r₁ = or-false (beyond (pos 100) (pos 30000) g.h) _ e in
    let r₂ = or-false (beyond (pos 100) (pos 30000) g.a) _ r₁.1 in
    let r₃ = or-false (beyond (pos 100) (pos 30000) g.b) _ r₂.1 in
    let r₄ = or-false (beyond (pos 1000) (pos 1500) g.density) _ r₃.1 in
    let r₅ = or-false (beyond (pos 0) (pos last_kind) g.kind) _ r₄.1 in
    let r₆ = or-false (beyond (pos 0) (pos 30000) g.x) false r₅.1 in
    record {
      h = within 100 30000 g.h r₁.0;
      a = within 100 30000 g.a r₂.0;
      b = within 100 30000 g.b r₃.0;
      density = within 1000 1500 g.density r₄.0;
      kind = within 0 last_kind g.kind r₅.0;
      x = within 0 30000 g.x r₆.0;
    }

pub ranged : {g : Building} → Fields g → Ranged (sizes g)
ranged {g} f =
    let across = across-range (nat_abs g.kind) (nat_abs g.h) f.h.from f.h.to in
    record {
      h-least = f.h.from;
      h-most = f.h.to;
      a-least = f.a.from;
      a-most = f.a.to;
      b-least = f.b.from;
      b-most = f.b.to;
      kind-most = f.kind.to;
      across-least = across.0;
      across-most = across.1;
    }

-- ---- the walls' limits and the roof's

-- a table that has begun, in whatever year, has b at most a
pub begun-from : (year : ℤ) (a b : ℕ) → begun year a b ≡ true → b ≤ a
begun-from year a b e =
    by-test (has_squares year) (λ s. leb-true b a (rw s at e)) (λ s. let h = ltb-true b a (rw s at e) in omega arith)

pub in-walls : (year : ℤ) (s : Sizes) → out_of_walls year s ≡ false
    → (s.h ≤ 6 * s.b) × (s.b ≤ s.a) × (s.a ≤ 4 * s.b)
unfolding out_of_walls
in-walls year s e =
    let r₁ = or-false (not (up_to s.h s.b (6 ÷ 1))) _ e in
    let r₂ = or-false (not (begun year s.a s.b)) (not (up_to s.a s.b (4 ÷ 1))) r₁.1 in
    let k₁ = leb-true (1 * s.h) (6 * s.b) (not-false _ r₁.0) in
    let k₂ = begun-from year s.a s.b (not-false _ r₂.0) in
    let k₃ = leb-true (1 * s.a) (4 * s.b) (not-false _ r₂.1) in
    (omega arith, omega arith, omega arith)

pub in-roof : (s : Sizes) → out_of_roof s ≡ false
    → ((roof_of s.kind).least * s.across ≤ s.along) × (s.along ≤ (roof_of s.kind).greatest * s.across)
unfolding out_of_roof
in-roof s e =
    let least = (roof_of s.kind).least * s.across in
    let greatest = (roof_of s.kind).greatest * s.across in
    let r = or-false (ltb s.along least) (ltb greatest s.along) e in
    (ltb-false s.along least r.0, ltb-false greatest s.along r.1)

pub orderly : (year : ℤ) (g : Building) → Fields g → out_of_walls year (sizes g) ≡ false → out_of_roof (sizes g) ≡ false
    → SizesInOrder (sizes g)
orderly year g f e d =
    let w = in-walls year (sizes g) e in
    let r = in-roof (sizes g) d in
    record {
      ranged = ranged f;
      h-over-b = w.0;
      a-from-b = w.1;
      a-over-b = w.2;
      x-over = refl;
      x-from = r.0;
      x-to = r.1;
    }

-- ---- a line without a fault has passed every test

passed : (t : Bool) (n m : ℕ) → cond t (suc n) m ≡ 0 → (t ≡ false) × (m ≡ 0)
passed true n m e = absurd (omega arith)
passed false n m e = (refl, e)

module _ (year : ℤ) (g : Building) (good : building_fault year g ≡ 0) where
  pub passes : (out_of_range g ≡ false) × (out_of_walls year (sizes g) ≡ false) × (out_of_roof (sizes g) ≡ false)
  passes =
      let r₁ = passed (out_of_range g) 2 _ (sym (fault-tests year g) ∙ good) in
      let r₂ = passed (out_of_walls year (sizes g)) 3 _ r₁.1 in
      let r₃ = passed (out_of_roof (sizes g)) 4 0 r₂.1 in
      (r₁.0, r₂.0, r₃.0)

  pub in-range : out_of_range g ≡ false
  in-range = passes.0

  pub good-fields : Fields g
  good-fields = fields g in-range

  pub in_order : SizesInOrder (sizes g)
  in_order = orderly year g good-fields passes.1 passes.2

-- ---- given as a record: a number in its range is not too long

short : {least greatest : ℕ} {z : ℤ} → Within least greatest z → greatest ≤ 9999999 → too_long z ≡ false
unfolding too_long
short {z = z} w h = le-ltb 9999999 (nat_abs z) (omega (arith, w.to))

pub given-none : (year : ℤ) (g : Building) → building_fault year g ≡ 0 → given_fault year g ≡ 0
unfolding given_fault out_of_form
given-none year g e =
    let f = good-fields year g e in
    rw (
      short f.h (omega arith),
      short f.a (omega arith),
      short f.b (omega arith),
      short f.density (omega arith),
      short f.kind (omega arith),
      short f.x (omega arith),
    )
    e

pub none-given : (year : ℤ) (g : Building) → given_fault year g ≡ 0 → building_fault year g ≡ 0
unfolding given_fault
none-given year g e = (passed (out_of_form g) 0 _ e).1

-- ---- and a fault has failed its test, having passed those before

-- what each number says of the building
pub data Why (year : ℤ) (g : Building) : ℕ → Type 0 where
  in-order-throughout : Fields g → SizesInOrder (sizes g) → Why year g 0
  a-number-out-of-range : out_of_range g ≡ true → Why year g 3
  outside-the-wall-table : Fields g → out_of_walls year (sizes g) ≡ true → Why year g 4
  outside-the-roof's-range : Fields g → out_of_walls year (sizes g) ≡ false → out_of_roof (sizes g) ≡ true
      → Why year g 5

pub why : (year : ℤ) (g : Building) → Why year g (building_fault year g)
why year g =
    rw (fault-tests year g) (go (out_of_range g) (out_of_walls year (sizes g)) (out_of_roof (sizes g)) refl refl refl)
  where
    go : (t u v : Bool) → out_of_range g ≡ t → out_of_walls year (sizes g) ≡ u → out_of_roof (sizes g) ≡ v
        → Why year g (cond t 3 (cond u 4 (cond v 5 0)))
    go true u v p q r = a-number-out-of-range p
    go false true v p q r = outside-the-wall-table (fields g p) q
    go false false true p q r = outside-the-roof's-range (fields g p) q r
    go false false false p q r = in-order-throughout (fields g p) (orderly year g (fields g p) q r)
