-- Item 14 of paper 02: long sheds.
use mathlib.Core.Path.{◌≡◌, sym, ap, ◌∙◌}
use mathlib.Core.Logic.{⊎_elim, inr}
use mathlib.Core.List.{[], ◌∷◌, ◌++◌}
use Prim.Native.Nat.{◌≤◌, ◌<◌}
use native.Mathlib.Omega.{arith}
use borrow.Author.Tests.{lt-ltb}
use lib.IntN.{ℤ, pos, nat_abs, ◌+ℤ◌, ◌*ℤ◌}
use lib.Signed.{◌≤ℤ◌, ◌<ℤ◌, le_z_yes}
use lib.ListN.{length}
use Rattle.whole.specs.Digits.{digits, decimal}
use Rattle.whole.specs.Newton.{newton}
use Rattle.whole.proofs.Newton.{remainder-small}
use Rattle.whole.proofs.Order.{true-lt, false-lt}
use Rattle.pair.specs.declared.Pair.{Pair}
use Rattle.pair.specs.Total.{pair_of, units}
use Rattle.pair.proofs.Units.{units-pair_of, pair_of-units}
use Rattle.building.specs.Building.{building_fault, out_of_walls}
use Rattle.job.specs.Carried.{Carried, with_year}
use Rattle.job.specs.InOrder.{InOrder}
use Rattle.report.specs.Lines.{total_text}
use Rattle.report.proofs.Lines.{long-total, short-total}

-- ---- the statements

-- "From year 4 a total is a whole number of newtons, rounded down, with a remainder of 0 to 19,999,999,999 units": of
-- every total there is such a pair, and no other
pub record PairOf (total : ℤ) (p : Pair) : Type 0 where
  pub same : p.newtons *ℤ pos newton +ℤ pos p.remainder ≡ total
  pub rest : p.remainder < newton

abbrev pub TotalsArePairs : Type 0
TotalsArePairs = (total : ℤ) → PairOf total (pair_of total) × ((p : Pair) → PairOf total p → p ≡ pair_of total)

-- "and the report prints both, separated by a space." "Years 1 to 3 report as they did."
abbrev pub PrintsByYear : Type 0
PrintsByYear = (year : ℤ) (p : Pair)
    → (pos 3 <ℤ year → total_text year p ≡ (decimal p.newtons ++ (32 ∷ [])) ++ digits p.remainder)
    × (year ≤ℤ pos 3 → total_text year p ≡ decimal (units p))

-- "Year 4 has the year 3 form with 240 faces": a sheet of up to 24 faces is in order in year 4 where it is in year 3,
-- and the limit is 240
abbrev pub FormOfYear3 : Type 0
FormOfYear3 = (c : Carried) → c.year ≡ pos 3
    → (InOrder c → InOrder (with_year (pos 4) c))
    × (InOrder (with_year (pos 4) c) → length c.faces ≤ 24 → InOrder c)
    × (InOrder (with_year (pos 4) c) → length c.faces ≤ 240)

-- ---- the proofs

pub totals-are-pairs : TotalsArePairs
totals-are-pairs total = (
  record { same = units-pair_of total; rest = remainder-small total },
  λ p h. sym (pair_of-units p (lt-ltb p.remainder newton h.rest)) ∙ ap pair_of h.same,
)

pub prints-by-year : PrintsByYear
prints-by-year year p =
    (λ late. long-total year (true-lt late) p, λ early. short-total year (false-lt early) p)

-- both years have a profile, and the same building in order
module _ (c : Carried) (e : c.year ≡ pos 3) where
  to-year-4 : InOrder c → InOrder (with_year (pos 4) c)
  unfolding building_fault out_of_walls
  to-year-4 o =
      record {
        building = rw e at o.building;
        winds-counted = o.winds-counted;
        winds = o.winds;
        internals-counted = o.internals-counted;
        internals = o.internals;
        faces-counted =
            let few : length c.faces ≤ 24 = rw e at o.faces-counted.high in
            record { low = o.faces-counted.low; high = omega arith };
        faces = o.faces;
        form =
            ⊎_elim (λ y. absurd (omega (arith, ap nat_abs (sym e ∙ y.year))))
            (λ y. inr (record {
              year = record { low = le_z_yes tt; high = le_z_yes tt };
              counted = y.counted;
              profile = y.profile;
              rising = y.rising;
              heights = y.heights;
            }))
            o.form;
      }

  to-year-3 : InOrder (with_year (pos 4) c) → length c.faces ≤ 24 → InOrder c
  unfolding building_fault out_of_walls
  to-year-3 o few =
      record {
        building = rw e o.building;
        winds-counted = o.winds-counted;
        winds = o.winds;
        internals-counted = o.internals-counted;
        internals = o.internals;
        faces-counted = rw e (record { low = o.faces-counted.low; high = few });
        faces = o.faces;
        form =
            ⊎_elim (λ y. absurd (omega (arith, ap nat_abs y.year)))
            (λ y. inr (record {
              year = rw e (record { low = le_z_yes tt; high = le_z_yes tt });
              counted = y.counted;
              profile = y.profile;
              rising = y.rising;
              heights = y.heights;
            }))
            o.form;
      }

pub form-of-year-3 : FormOfYear3
form-of-year-3 c e = (to-year-4 c e, to-year-3 c e, λ o. o.faces-counted.high)
