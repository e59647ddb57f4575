-- Item 6 of paper 02: square plans, from year 3.
use mathlib.Core.Path.{◌≡◌, refl, sym, ap, ◌∙◌}
use mathlib.Core.Bool.{Bool, true, false, cond, not, ◌||◌}
use mathlib.Core.List.{[]}
use Prim.Native.Nat.{ℕ, ◌-◌, ◌*◌, ◌≤◌}
use native.Mathlib.Omega.{arith}
use lib.Dec.{ltb, leb}
use lib.IntN.{ℤ, pos, nat_abs}
use lib.ListN.{get_or}
use borrow.Author.Tests.{le-leb, le-ltb}
use Rattle.std.specs.Prelude.{Ok, Err}
use Rattle.verdict.specs.Verdict.{refusal}
use Rattle.building.specs.declared.Building.{Building}
use Rattle.building.specs.Year.{is_year, has_heights, has_squares, building_line}
use Rattle.building.specs.Building.{out_of_range, out_of_walls, out_of_roof, sizes, building_fault}
use Rattle.building.proofs.Tested.{fault-tests}
use Rattle.entry_written.specs.Fields.{building_fields}
use Rattle.job.specs.Carried.{Carried}
use Rattle.job.specs.Lines.{entries_of, sheet_of, lines_of}
use Rattle.book.specs.Answer as book
use Rattle.book.specs.Answer.{values_of}
use Rattle.book.specs.Question.{outside_of, net_to, net_of}
use Rattle.book.proofs.Readings.{Apart, same, lines, readings-agree, readings-apart}
use Rattle.claims.specs.Contract.{Always}
use Rattle.claims.specs.Question.{InSheet}
use Rattle.claims.proofs.Contracts as of
use Rattle.claims.proofs.Question.{in-year}

-- ---- the statements

-- "what the two readings share": two years that have the building in order answer the same about it, in every
-- direction and at every place. a.1 is all of a question but its year and building.
pub record ReadingsShare : Type 0 where
  pub outside : Always of.outside.Post (λ κ a r s. Always of.outside.Post (λ κ' b q t.
      a.0.building ≡ b.0.building → a.1 ≡ b.1
      → InSheet a.0.year a.0.building → InSheet b.0.year b.0.building → r ≡ q))
  pub net : Always of.net.Post (λ κ a r s. Always of.net.Post (λ κ' b q t.
      a.0.building ≡ b.0.building → a.1 ≡ b.1
      → InSheet a.0.year a.0.building → InSheet b.0.year b.0.building → r ≡ q))

-- the number that an answer gives, 0 where it is not refused
abbrev pub number_in : book.Answer → ℕ
number_in (Ok c) = 0
number_in (Err v) = v.number

-- in two years: number and values are the same, and where both have the building on the same line, all is
pub record Alike (y z : ℤ) (r q : book.Answer) : Type 0 where
  pub number : number_in r ≡ number_in q
  pub values : values_of r ≡ values_of q
  pub all : building_line y ≡ building_line z → r ≡ q

-- "and that they differ only at a equal to b"
pub record ReadingsDiffer : Type 0 where
  pub outside : Always of.outside.Post (λ κ a r s. Always of.outside.Post (λ κ' b q t.
      a.0.building ≡ b.0.building → a.1 ≡ b.1 → is_year a.0.year ≡ true → is_year b.0.year ≡ true
      → (a.0.building.a ≡ a.0.building.b → ⊥) → Alike a.0.year b.0.year r q))
  pub net : Always of.net.Post (λ κ a r s. Always of.net.Post (λ κ' b q t.
      a.0.building ≡ b.0.building → a.1 ≡ b.1 → is_year a.0.year ≡ true → is_year b.0.year ≡ true
      → (a.0.building.a ≡ a.0.building.b → ⊥) → Alike a.0.year b.0.year r q))

-- "4 at a equal to b only for years 1 and 2": in year 3 a square plan is in order with any roof that is
abbrev pub SquaresFromYear3 : Type 0
SquaresFromYear3 = Always of.building-fault.Post (λ κ a r s. let g = a.0.building in
    out_of_range g ≡ false → g.a ≡ g.b
    → (a.0.year ≡ pos 1 → r ≡ 4) × (a.0.year ≡ pos 2 → r ≡ 4)
    × (a.0.year ≡ pos 3 → nat_abs g.h ≤ 6 * nat_abs g.b → out_of_roof (sizes g) ≡ false → r ≡ 0))

-- the line that a question's building is refused at is the one that it stands on in a sheet of its year
abbrev pub BuildingStandsThere : Type 0
BuildingStandsThere = (c : Carried) → get_or (lines_of c) (building_line c.year - 1) [] ≡ building_fields c.building

-- ---- the proofs

-- the answers in two years, said of whatever is made of them
module _ (y z : ℤ) (g : Building) (direction : ℤ) (place : ℕ) (of : book.Answer → book.Answer)
    (refusing : (v : _) → of (Err v) ≡ Err v) where
  shared : InSheet y g → InSheet z g → of (outside_of y g direction place) ≡ of (outside_of z g direction place)
  shared p q =
      ap of (readings-agree y z g direction place (in-year y g direction place p) (in-year z g direction place q))

  alike : is_year y ≡ true → is_year z ≡ true → (g.a ≡ g.b → ⊥)
      → Alike y z (of (outside_of y g direction place)) (of (outside_of z g direction place))
  alike p q h = by (readings-apart y z g direction place p q h)
    where
      by : Apart y z g direction place
          → Alike y z (of (outside_of y g direction place)) (of (outside_of z g direction place))
      by (same e) =
          record { number = ap (λ r. number_in (of r)) e; values = ap (λ r. values_of (of r)) e; all = λ l. ap of e }
      by (lines n e f) =
          let u = ap of e ∙ refusing (refusal n (building_line y)) in
          let v = ap of f ∙ refusing (refusal n (building_line z)) in
          record {
            number = ap number_in u ∙ sym (ap number_in v);
            values = ap values_of u ∙ sym (ap values_of v);
            all = λ l. u ∙ ap (λ m. Err (refusal n m)) l ∙ sym v;
          }

-- a question of one year, as one about the building and the rest of another
pub readings-share : ReadingsShare
unfolding net_of
readings-share =
    record {
      outside = λ κ a r s p κ' b q t p' g e u v.
          p ∙ shared a.0.year b.0.year a.0.building a.1.0 a.1.1.0 (λ r. r) (λ v. refl) u
          (rw g v)
          ∙ (λ i. outside_of b.0.year (g i) (e i).0 (e i).1.0) ∙ sym p';
      net = λ κ a r s p κ' b q t p' g e u v.
          let internal = a.1.1.1.0 in
          p ∙ shared a.0.year b.0.year a.0.building a.1.0 a.1.1.0 (λ r. net_to r internal)
          (λ v. refl) u (rw g v)
          ∙ (λ i. net_of b.0.year (g i) (e i).0 (e i).1.0 (e i).1.1.0) ∙ sym p';
    }

module _ {y z : ℤ} {r r' q q' : book.Answer} where
  between : r ≡ r' → q ≡ q' → Alike y z r' q' → Alike y z r q
  between p p' a = rw (p, p') a

pub readings-differ : ReadingsDiffer
unfolding net_of
readings-differ =
    record {
      outside = λ κ a r s p κ' b q t p' g e u v h.
          between p (p' ∙ sym (λ i. outside_of b.0.year (g i) (e i).0 (e i).1.0))
          (alike a.0.year b.0.year a.0.building a.1.0 a.1.1.0 (λ r. r) (λ v. refl) u v h);
      net = λ κ a r s p κ' b q t p' g e u v h.
          let internal = a.1.1.1.0 in
          between p (p' ∙ sym (λ i. net_of b.0.year (g i) (e i).0 (e i).1.0 (e i).1.1.0))
          (alike a.0.year b.0.year a.0.building a.1.0 a.1.1.0 (λ r. net_to r internal)
          (λ v. refl) u v h);
    }

-- a square plan in its ranges, by the year
before-it : (t u : Bool) (n : ℕ) → cond (t || (true || u)) 4 n ≡ 4
before-it true u n = refl
before-it false u n = refl

module _ (g : Building) (ranged : out_of_range g ≡ false) (square : g.a ≡ g.b) where
  abbrev side : ℕ
  side = nat_abs g.b

  not-over : ltb side (nat_abs g.a) ≡ false
  not-over = le-ltb side (nat_abs g.a) (omega (arith, ap nat_abs square))

  at_least : leb side (nat_abs g.a) ≡ true
  at_least = le-leb side (nat_abs g.a) (omega (arith, ap nat_abs square))

  refused : (year : ℤ) → has_squares year ≡ false → building_fault year g ≡ 4
  unfolding out_of_walls
  refused year y =
      rw (fault-tests year g, ranged, y, not-over)
      (before-it (not (leb (1 * nat_abs g.h) (6 * side))) (not (leb (1 * nat_abs g.a) (4 * side))) _)

  taken : nat_abs g.h ≤ 6 * side → out_of_roof (sizes g) ≡ false → building_fault (pos 3) g ≡ 0
  unfolding out_of_walls
  taken h roof =
      rw (
        fault-tests (pos 3) g,
        ranged,
        le-leb (1 * nat_abs g.h) (6 * side) (omega arith),
        at_least,
        le-leb (1 * nat_abs g.a) (4 * side) (omega (arith, ap nat_abs square)),
        roof,
      )

pub squares-from-year-3 : SquaresFromYear3
squares-from-year-3 κ a r s p ranged square =
    let g = a.0.building in (
      λ y. p ∙ refused g ranged square a.0.year (rw y),
      λ y. p ∙ refused g ranged square a.0.year (rw y),
      λ y h roof. p ∙ ap (λ z. building_fault z g) y ∙ taken g ranged square h roof,
    )

pub building-stands-there : BuildingStandsThere
unfolding lines_of
building-stands-there c = go (has_heights c.year)
  where
    go : (h : Bool) → get_or (sheet_of h (entries_of c)) (cond h 4 2 - 1) [] ≡ building_fields c.building
    go true = refl
    go false = refl
