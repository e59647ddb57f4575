-- Sums that are stored: for each wind, internal coefficient and axis the greatest and the least sum over the faces. And
-- the six extremes that stored sums tell, whatever they are.
use Rattle.std.specs.Prelude.{Bool, cond, ◌&&◌, List, [], map, ℕ, ◌+◌, ◌-◌, ◌*◌, ◌/◌, ◌%◌, ltb, ℤ, pos, length, get_or}
use Rattle.std.specs.Prelude.{Result, Ok, Err}
use Rattle.verdict.specs.declared.Verdict.{Verdict}
use Rattle.job.specs.Carried.{Carried}
use Rattle.job.specs.Walk.{Reading, Accepted, Refused}
use Rattle.worst.specs.declared.Side.{Side}
use Rattle.worst.specs.declared.Side.TheVariants.{Greatest, Least}
use Rattle.worst.specs.declared.Axis.{Axis}
use Rattle.worst.specs.declared.Axis.TheVariants.{X, Y, Z}
use Rattle.worst.specs.declared.Span.{Span}
use Rattle.worst.specs.declared.StoredCell.{StoredCell}
use Rattle.worst.specs.declared.Stored.{Stored}
use Rattle.worst.specs.declared.Extreme.{Extreme}
use Rattle.worst.specs.declared.Extremes.{Extremes}
use Rattle.worst.specs.declared.Six.{Six}
use Rattle.worst.specs.declared.Reckoning.{Reckoning}
use Rattle.worst.specs.Best.{Best, none, at, best}
use Rattle.whole.specs.Lists.{numbers}
use Rattle.worst.specs.Cases.{Loads, Case, each, choices, total}
use Rattle.worst.specs.Forces.{Given, loads}
use Rattle.pair.specs.Total.{pair_of, units, no_pair}
use Rattle.worst.specs.Shown.{shown}
use Rattle.worst.specs.Within.{most_newtons, all_within}
use Rattle.worst.specs.Worst.{given}

-- ---- a cell: one wind and one internal coefficient

module _ {W I F A : Type 0} where
  -- the choice of alternatives that goes furthest there, and its total
  abbrev pub best_choice : Side → Loads W I F A → W → I → Best (List A)
  best_choice s l w i = best s (total (l.force w i) l.faces) (choices (l.alternatives w) l.faces)

abbrev pub value_of : {A : Type 0} → Best A → ℤ
value_of none = pos 0
value_of (at v a) = v

-- the greatest and the least sum over the faces, on one axis and on all
abbrev pub span_of : Axis → Given → ℕ → ℕ → Span
span_of axis g w i =
    record {
      greatest = pair_of (value_of (best_choice Greatest (loads axis g) w i));
      least = pair_of (value_of (best_choice Least (loads axis g) w i));
    }

abbrev pub cell_of : Given → ℕ → ℕ → StoredCell
cell_of g w i = record { x = span_of X g w i; y = span_of Y g w i; z = span_of Z g w i }

-- ---- all cells: that of a wind and an internal coefficient, both from 0, stands at 4 × wind + internal

abbrev pub stored_cells : ℕ
stored_cells = 32

abbrev pub no_span : Span
no_span = record { greatest = no_pair; least = no_pair }

abbrev pub no_cell : StoredCell
no_cell = record { x = no_span; y = no_span; z = no_span }

abbrev pub cells_of : (ℕ → StoredCell) → Stored
cells_of h = record { cell = map h (numbers stored_cells 0) }

abbrev pub none_stored : Stored
none_stored = cells_of (λ k. no_cell)

-- a cell that counts, and zeros past the counts
abbrev pub counts : Given → ℕ → Bool
counts g k = ltb (k / 4) (length g.winds) && ltb (k % 4) (length g.internals)

abbrev pub sums_at : Given → ℕ → StoredCell
sums_at g k = cond (counts g k) (cell_of g (k / 4 + 1) (k % 4 + 1)) no_cell

-- those of what a sheet carries, and of a job: zeros where it is refused
unfoldable pub stored_of : Carried → Stored
stored_of c = cells_of (sums_at (given c))

abbrev pub stored_in : Reading → Stored
stored_in (Accepted c) = stored_of c
stored_in (Refused v) = none_stored

-- ---- the six extremes that stored sums tell

abbrev pub span_on : Axis → StoredCell → Span
span_on X t = t.x
span_on Y t = t.y
span_on Z t = t.z

abbrev pub span_side : Side → Span → ℤ
span_side Greatest p = units p.greatest
span_side Least p = units p.least

-- what is stored for a wind and an internal coefficient, both from 1
abbrev pub stored_at : Axis → Side → Stored → ℕ → ℕ → ℤ
stored_at axis s t w i = span_side s (span_on axis (get_or t.cell (4 * (w - 1) + (i - 1)) no_cell))

-- the case of a cell: the first of its choices that goes furthest
abbrev pub chosen_of : {A : Type 0} → Best (List A) → List A
chosen_of none = []
chosen_of (at v ks) = ks

module _ {W I F A : Type 0} where
  abbrev pub case_of : Side → Loads W I F A → W → I → Case W I A
  case_of s l w i = record { wind = w; internal = i; chosen = chosen_of (best_choice s l w i) }

  -- one for each wind and internal coefficient, in their order
  abbrev pub cell_cases : Side → Loads W I F A → List (Case W I A)
  cell_cases s l = each l.winds (λ w. map (case_of s l w) l.internals)

-- the furthest stored sum, and the case of the first cell that has it
abbrev pub extreme_by : Axis → Side → Stored → Carried → Extreme
extreme_by axis s t c =
    let stored : Case ℕ ℕ ℕ → ℤ = λ k. stored_at axis s t k.wind k.internal in
    shown (length c.faces) (best s stored (cell_cases s (loads axis (given c))))

abbrev pub extremes_by : Axis → Stored → Carried → Extremes
extremes_by axis t c = record { greatest = extreme_by axis Greatest t c; least = extreme_by axis Least t c }

unfoldable pub six_by : Stored → Carried → Six
six_by t c = record { x = extremes_by X t c; y = extremes_by Y t c; z = extremes_by Z t c }

-- those that a job of its year can have tell; in the place of others its own do
abbrev pub telling : Stored → Carried → Stored
telling t c = cond (all_within (most_newtons c.year) t.cell) t (stored_of c)

abbrev pub reckoned_by : Stored → Reading → Result Reckoning Verdict
reckoned_by t (Accepted c) = Ok (record { year = c.year; six = six_by (telling t c) c })
reckoned_by t (Refused v) = Err v
