-- A line that says a cell stands there: in the sector that reaches its direction, and in the printed row of its speed.
-- Both leave no choice.
use Prim.Native.Nat.{ℕ, zero, suc, ◌+◌, ◌*◌, ◌/◌, ◌%◌, ◌≤◌, ◌<◌}
use mathlib.Core.Path.{◌≡◌, refl, ap, ◌∙◌, sym}
use mathlib.Core.Logic.{inl, inr}
use mathlib.Core.Bool.{Bool, true, not, ◌&&◌, ◌||◌}
use mathlib.Core.List.{List, [], ◌∷◌}
use native.Mathlib.Nat.{mod-eq_of_lt}
use native.Mathlib.Omega.{arith}
use lib.Dec.{ltb, leb, eqb}
use lib.ListN.{get_or}
use borrow.Author.Tests.{le-leb, ltb-true, ltb-false, leb-true, eqb-true, eqb-false}
use Rattle.whole.proofs.Tests.{by-test, and-true}
use Rattle.field.specs.declared.Field.{Field}
use Rattle.field.specs.declared.Field.TheVariants.{Bad, Plus, Minus, Letter, Dash}
use Rattle.rose.specs.Observation.{Said}
use Rattle.std.specs.Prelude.{Ok, Err}
use Rattle.rose.specs.declared.Misread.TheVariants.{OutOfForm, OutOfRange}
use Rattle.rose.specs.Observation.{sector, top_speeds, exceeded, beaufort, cell_number}
use Rattle.rose.specs.Observation.{field_says, together, line_says, cell_in}
use Rattle.rose.specs.Rose.{fault_after}
use Rattle.rose.specs.StandsIn.{InSector, beaufort_table, InRow, StandsIn}
use Rattle.rose.proofs.Observation.{beaufort-small}

-- ---- sectors

pub sector-in : (d : ℕ) → d ≤ 359 → InSector d (sector d)
sector-in d h =
    by-test (ltb (4 * d + 45) 1440)
    (λ t.
    let k : 4 * d + 45 < 1440 = ltb-true _ _ t in
    let q : (4 * d + 45) / 90 < 16 = omega arith in
    let m : (4 * d + 45) / 90 % 16 ≡ (4 * d + 45) / 90 = mod-eq_of_lt q in
    (omega arith, inl (omega (arith, m), omega (arith, m))))
    (λ t.
    let k : 1440 ≤ 4 * d + 45 = ltb-false _ _ t in
    let q : (4 * d + 45) / 90 ≡ 16 = omega arith in
    let z : sector d ≡ 0 = rw q in
    (omega arith, inr (omega (arith, z), omega (arith, z))))

-- no whole degree lies on a border, so no two sectors reach one
pub sector-only : (d j k : ℕ) → d ≤ 359 → InSector d j → InSector d k → j ≡ k
sector-only d j k h (a, inl p) (b, inl q) = omega (arith, p.0, p.1, q.0, q.1)
sector-only d j k h (a, inl p) (b, inr q) = absurd (omega (arith, a, b, p.0, p.1, q.0, q.1))
sector-only d j k h (a, inr p) (b, inl q) = absurd (omega (arith, a, b, p.0, p.1, q.0, q.1))
sector-only d j k h (a, inr p) (b, inr q) = omega (arith, p.0, p.1, q.0, q.1)

-- ---- rows, by a test of each speed in each row that antt computes

below : (ℕ → Bool) → ℕ → Bool
below f zero = true
below f (suc n) = f n && below f n

below_at : (f : ℕ → Bool) (n : ℕ) → below f n ≡ true → (k : ℕ) → k < n → f k ≡ true
unfolding below
below_at f zero e k h = absurd (omega arith)
below_at f (suc n) e k h =
    let p = and-true (f n) (below f n) e in
    by-test (eqb k n) (λ t. ap f (eqb-true k n t) ∙ p.0)
    (λ t. below_at f n p.1 k (omega (arith, eqb-false k n t)))

in_row : ℕ → ℕ → Bool
in_row v r = leb (get_or beaufort_table r (0, 0)).0 v && leb v (get_or beaufort_table r (0, 0)).1

-- a speed is in its row, and in no other
its : ℕ → ℕ → Bool
its v r = not (in_row v r) || eqb r (beaufort v)

row_test : ℕ → Bool
row_test v = in_row v (beaufort v) && below (its v) 13

rows-tested : below row_test 1001 ≡ true
unfolding below row_test its in_row beaufort exceeded top_speeds beaufort_table
rows-tested = refl

row-tested : (v : ℕ) → v ≤ 1000 → row_test v ≡ true
row-tested v h = below_at row_test 1001 rows-tested v (omega arith)

pub row_in : (v : ℕ) → v ≤ 1000 → InRow v (beaufort v)
unfolding row_test in_row
row_in v h =
    let row = get_or beaufort_table (beaufort v) (0, 0) in
    let p = and-true (in_row v (beaufort v)) (below (its v) 13) (row-tested v h) in
    let q = and-true (leb row.0 v) (leb v row.1) p.0 in
    (omega (arith, beaufort-small v), leb-true _ _ q.0, leb-true _ _ q.1)

pub row-only : (v r : ℕ) → v ≤ 1000 → InRow v r → r ≡ beaufort v
unfolding row_test its in_row
row-only v r h (b, lo, hi) =
    let p = and-true (in_row v (beaufort v)) (below (its v) 13) (row-tested v h) in
    let i : in_row v r ≡ true = rw (le-leb _ _ lo, le-leb _ _ hi) in
    let o : its v r ≡ true = below_at (its v) 13 p.1 r b in
    eqb-true r (beaufort v) (rw i at o)

-- ---- a line

-- a fault is no number
no-form : {k : ℕ} → (Err OutOfForm) ≡ Ok k → ⊥
no-form e = omega (arith, ap (fault_after 0) e)

no-range : {k : ℕ} → (Err OutOfRange) ≡ Ok k → ⊥
no-range e = omega (arith, ap (fault_after 0) e)

field_is : (top : ℕ) (f : Field) {n : ℕ} → field_says top f ≡ Ok n → (f ≡ Plus n) × (n ≤ top)
field_is top Bad e = absurd (no-form e)
field_is top (Plus m) {n} e =
    by-test (leb m top)
    (λ t. let q : m ≡ n = ap cell_in (rw t at e) in (ap Plus q, rw q at (leb-true m top t)))
    (λ t. absurd (no-range (rw t at e)))
field_is top (Minus m) e = absurd (no-range e)
field_is top (Letter b) e = absurd (no-form e)
field_is top Dash e = absurd (no-form e)

stands : (d v : ℕ) → d ≤ 359 → v ≤ 1000 → StandsIn (Plus d ∷ Plus v ∷ []) (cell_number d v)
stands d v h k =
    record {
      direction = d;
      speed = v;
      sector = sector d;
      number = beaufort v;
      line = refl;
      degrees = h;
      tenths = k;
      reached = sector-in d h;
      row = row_in v k;
      cell = refl;
    }

module _ (d v : Field) {k : ℕ} where
  two-stand : (x y : Said) → field_says 359 d ≡ x → field_says 1000 v ≡ y → together x y ≡ Ok k
      → StandsIn (d ∷ v ∷ []) k
  two-stand (Err OutOfForm) y p q e = absurd (no-form e)
  two-stand (Err OutOfRange) (Err OutOfForm) p q e = absurd (no-form e)
  two-stand (Err OutOfRange) (Err OutOfRange) p q e = absurd (no-range e)
  two-stand (Err OutOfRange) (Ok b) p q e = absurd (no-range e)
  two-stand (Ok a) (Err OutOfForm) p q e = absurd (no-form e)
  two-stand (Ok a) (Err OutOfRange) p q e = absurd (no-range e)
  two-stand (Ok a) (Ok b) p q e =
      let f = field_is 359 d p in
      let g = field_is 1000 v q in
      let c : k ≡ cell_number a b = sym (ap cell_in e) in
      rw (f.0, g.0, c) (stands a b f.1 g.1)

-- WHAT A LINE SAYS IS WHERE IT STANDS
pub line-stands : (l : List Field) {k : ℕ} → line_says l ≡ Ok k → StandsIn l k
line-stands [] e = absurd (no-form e)
line-stands (d ∷ []) e = absurd (no-form e)
line-stands (d ∷ v ∷ []) e = two-stand d v (field_says 359 d) (field_says 1000 v) refl refl e
line-stands (d ∷ v ∷ f ∷ fs) e = absurd (no-form e)

-- and it stands nowhere else
pub stands-says : (l : List Field) {k : ℕ} → StandsIn l k → line_says l ≡ Ok k
stands-says l s =
    let d : s.sector ≡ sector s.direction =
    sector-only s.direction s.sector (sector s.direction) s.degrees s.reached
    (sector-in s.direction s.degrees) in
    let v : s.number ≡ beaufort s.speed = row-only s.speed s.number s.tenths s.row in
    rw (s.line, s.cell, d, v, le-leb s.direction 359 s.degrees, le-leb s.speed 1000 s.tenths)
