-- What the engine's own records say. Only contracts of private functions cite it.
use Rattle.std.specs.Prelude.{◌≡◌, cond, List, map, ℕ, ◌-◌, ◌≤◌, ◌<◌, ℤ, pos, ◌+ℤ◌, ◌-ℤ◌, ◌*ℤ◌, length}
use Rattle.std.specs.Prelude.{get_or, set, eqb}
use Rattle.whole.specs.Lists.{first_of, numbers}
use Rattle.building.specs.declared.Building.{Building}
use Rattle.building.specs.Places.{F}
use Rattle.job.specs.declared.Job.{Job}
use Rattle.job.specs.declared.Winds.{Winds}
use Rattle.job.specs.declared.Internals.{Internals}
use Rattle.job.specs.declared.Faces.{Faces}
use Rattle.entry.specs.declared.Wind.{Wind}
use Rattle.entry.specs.declared.Step.{Step}
use Rattle.entry.specs.declared.Face.{Face}
use Rattle.job.specs.Carried.{most_faces, no_wind, no_face}
use Rattle.worst.specs.declared.Side.{Side}
use Rattle.worst.specs.declared.Side.TheVariants.{Greatest, Least}
use Rattle.worst.specs.declared.Axis.{Axis}
use Rattle.worst.specs.declared.Axis.TheVariants.{X, Y, Z}
use Rattle.worst.specs.declared.Span.{Span}
use Rattle.worst.specs.declared.StoredCell.{StoredCell}
use Rattle.worst.specs.declared.Stored.{Stored}
use Rattle.worst.specs.declared.Extreme.{Extreme}
use Rattle.worst.specs.declared.Extremes.{Extremes}
use Rattle.worst.specs.declared.Six.{Six}
use Rattle.worst.specs.declared.speeds.Factor.{Factor}
use Rattle.worst.specs.declared.outside.Outside.{Outside}
use Rattle.worst.specs.declared.tops.Top.{Top}
use Rattle.worst.specs.declared.tops.Tops.{Tops}
use Rattle.worst.specs.declared.tops.Ends.{Ends}
use Rattle.worst.specs.declared.winds.CaseWind.{CaseWind}
use Rattle.worst.specs.declared.winds.CaseWinds.{CaseWinds}
use Rattle.worst.specs.declared.winds.SixWinds.{SixWinds}
use Rattle.pair.specs.declared.Pair.{Pair}
use Rattle.pair.specs.Total.{pair_of, units}
use Rattle.worst.specs.Sums.{Sums, Axes}
use Rattle.worst.specs.Best.{short, Best, none, at}
use Rattle.worst.specs.Speed.{speed_at}
use Rattle.worst.specs.Forces.{acts, factor_of, pressure, area}
use Rattle.worst.specs.Factors.{profile_of}
use Rattle.worst.specs.Shown.{padded}
use Rattle.worst.specs.Stored.{no_cell, span_on, span_side, stored_at}
use Rattle.worst.specs.Quick.{over, sum}
use Rattle.worst.specs.Table.{outside_at}

-- ---- a face under a wind

-- pressure number × projected area, and 0 where it adds nothing
abbrev pub weight : Axis → Building → Wind → Factor → Face → ℤ
weight axis b w k f =
    cond (acts f w.direction) (pressure b.density (speed_at k w.speed) *ℤ area axis f) (pos 0)

-- the further out of two, the first where they are alike; and which it is
unfoldable pub further : Side → ℤ → ℤ → ℤ
further s a b = cond (short s a b) b a

unfoldable pub which : Side → ℤ → ℤ → ℕ
which s a b = cond (short s a b) 2 1

-- the further of two alternatives at a weight, as outside coefficient × weight; and which it is
abbrev pub reach : Side → Outside → ℤ → ℤ
reach s o weight = further s (o.first *ℤ weight) (o.last *ℤ weight)

abbrev pub pick : Side → Outside → ℤ → ℕ
pick s o weight = which s (o.first *ℤ weight) (o.last *ℤ weight)

-- and so for a face under a wind
abbrev pub reach_of : Side → Axis → Building → Wind → Factor → Face → ℤ
reach_of s axis b w k f = reach s (outside_at b w.direction f.zone) (weight axis b w k f)

abbrev pub pick_of : Side → Axis → Building → Wind → Factor → Face → ℕ
pick_of s axis b w k f = pick s (outside_at b w.direction f.zone) (weight axis b w k f)

-- ---- faces added up

abbrev pub faces_of : Faces → List Face
faces_of fs = first_of no_face fs.count fs.entry

-- each at the factor that a profile has at its height
abbrev pub sums_of : Axis → Building → List Step → Wind → List Face → Sums
sums_of axis b profile w fs =
    record {
      greatest = sum (λ f. reach_of Greatest axis b w (factor_of profile f) f) fs;
      least = sum (λ f. reach_of Least axis b w (factor_of profile f) f) fs;
      weight = sum (λ f. weight axis b w (factor_of profile f) f) fs;
    }

abbrev pub axes_of : Building → List Step → Wind → List Face → Axes
axes_of b profile w fs =
    record { x = sums_of X b profile w fs; y = sums_of Y b profile w fs; z = sums_of Z b profile w fs }

-- one face more: on one axis, at its weight there; on every axis, at its pressure number; and under a wind, at its
-- factor
abbrev pub with_weight : Outside → ℤ → Sums → Sums
with_weight o weight p =
    record {
      greatest = p.greatest +ℤ reach Greatest o weight;
      least = p.least +ℤ reach Least o weight;
      weight = p.weight +ℤ weight;
    }

abbrev pub with_pressure : Face → Outside → ℤ → Axes → Axes
with_pressure f o pressure p =
    record {
      x = with_weight o (pressure *ℤ f.x) p.x;
      y = with_weight o (pressure *ℤ f.y) p.y;
      z = with_weight o (pressure *ℤ f.z) p.z;
    }

abbrev pub with_face : Building → Wind → Factor → Face → Axes → Axes
with_face b w k f p =
    let o = outside_at b w.direction f.zone in
    record {
      x = with_weight o (weight X b w k f) p.x;
      y = with_weight o (weight Y b w k f) p.y;
      z = with_weight o (weight Z b w k f) p.z;
    }

-- ---- cells: a wind and an internal coefficient

abbrev pub sum_of : Side → Sums → ℤ
sum_of Greatest p = p.greatest
sum_of Least p = p.least

abbrev pub sums_on : Axis → Axes → Sums
sums_on X p = p.x
sums_on Y p = p.y
sums_on Z p = p.z

-- the total of one internal coefficient, which is in hundredths
abbrev pub cell_total : Side → Sums → ℤ → ℤ
cell_total s p internal = sum_of s p -ℤ internal *ℤ pos 10 *ℤ p.weight

-- where a cell stands: the numbers of its wind and its internal coefficient
pub record Cell : Type 0 where
  pub wind : ℕ
  pub internal : ℕ

abbrev pub cell : ℕ → ℕ → Cell
cell w i = record { wind = w; internal = i }

-- the best cell so far: on one side of one axis
abbrev pub top_with : ℤ → ℕ → ℕ → Best Cell
top_with total w i = cond (eqb w 0) none (at total (cell w i))

-- by the number that its total stands for: of a pair, and of a number of 64 bits
abbrev pub top_by : {T : Type 0} → (T → ℤ) → Top T → Best Cell
top_by number t = top_with (number t.total) t.wind t.internal

abbrev pub top_of : Top Pair → Best Cell
top_of = top_by units

abbrev pub few_top_of : Top ℤ → Best Cell
few_top_of = top_by (λ z. z)

-- none so far, on one side of one axis, on one axis and on all
abbrev pub no_top : {T : Type 0} → T → Top T
no_top zero = record { total = zero; wind = 0; internal = 0 }

abbrev pub no_tops : {T : Type 0} → T → Tops T
no_tops zero = record { greatest = no_top zero; least = no_top zero }

abbrev pub no_ends : {T : Type 0} → T → Ends T
no_ends zero = record { x = no_tops zero; y = no_tops zero; z = no_tops zero }

abbrev pub end_of : {T : Type 0} → Side → Tops T → Top T
end_of Greatest t = t.greatest
end_of Least t = t.least

abbrev pub tops_on : {T : Type 0} → Axis → Ends T → Tops T
tops_on X e = e.x
tops_on Y e = e.y
tops_on Z e = e.z

abbrev pub top_at : {T : Type 0} → Axis → Side → Ends T → Top T
top_at axis s e = end_of s (tops_on axis e)

-- what has a number, from 1
abbrev pub wind_numbered : Winds → ℕ → Wind
wind_numbered ws w = get_or ws.entry (w - 1) no_wind

abbrev pub internal_numbered : Internals → ℕ → ℤ
internal_numbered is i = get_or is.entry (i - 1) (pos 0)

-- the sums of a job's faces under a wind
abbrev pub axes_under : Job → Wind → Axes
axes_under j w = axes_of j.building (profile_of j) w (faces_of j.faces)

-- what is stored of a cell
abbrev pub span_with : Sums → ℤ → Span
span_with p internal =
    record { greatest = pair_of (cell_total Greatest p internal); least = pair_of (cell_total Least p internal) }

abbrev pub cell_with : Axes → ℤ → StoredCell
cell_with p internal =
    record { x = span_with p.x internal; y = span_with p.y internal; z = span_with p.z internal }

-- of so many cells n stand as h has them, and zeros behind them
pub record UpTo (size : ℕ) (h : ℕ → StoredCell) (n : ℕ) (l : List StoredCell) : Type 0 where
  pub all : length l ≡ size
  pub stand : (k : ℕ) → k < n → get_or l k no_cell ≡ h k
  pub rest : (k : ℕ) → n ≤ k → get_or l k no_cell ≡ no_cell

-- the best by what is stored: of one cell; of the cells of a wind with so many internal coefficients; and of those of
-- the first n winds
abbrev pub stored_best : Axis → Side → Stored → ℕ → ℕ → Best Cell
stored_best axis s t w i = at (stored_at axis s t w i) (cell w i)

abbrev pub wind_best : Axis → Side → Stored → ℕ → ℕ → Best Cell
wind_best axis s t internals w = over s (stored_best axis s t w) (numbers internals 1)

-- of four cells that stand by themselves
abbrev pub four_best : Axis → Side → List StoredCell → ℕ → ℕ → Best Cell
four_best axis s four internals w =
    over s (λ i. at (span_side s (span_on axis (get_or four (i - 1) no_cell))) (cell w i)) (numbers internals 1)

abbrev pub best_up_to : Axis → Side → Stored → ℕ → ℕ → Best Cell
best_up_to axis s t internals n = over s (wind_best axis s t internals) (numbers n 1)

-- ---- the winds of the cells that were found, each with the coefficients of zone F under it

abbrev pub case_wind : Building → Wind → CaseWind
case_wind b w = record { wind = w; outside = outside_at b w.direction F }

abbrev pub case_winds : Building → Winds → Tops Pair → CaseWinds
case_winds b ws t =
    record {
      greatest = case_wind b (wind_numbered ws t.greatest.wind);
      least = case_wind b (wind_numbered ws t.least.wind);
    }

abbrev pub six_winds : Building → Winds → Ends Pair → SixWinds
six_winds b ws e = record { x = case_winds b ws e.x; y = case_winds b ws e.y; z = case_winds b ws e.z }

-- ---- the cell that was found, as it is shown

abbrev pub alternatives_of : Axis → Side → Building → List Step → Wind → List Face → List ℕ
alternatives_of axis s b profile w fs = padded most_faces (map (λ f. pick_of s axis b w (factor_of profile f) f) fs)

abbrev pub extreme_with : Top Pair → ℕ → List ℕ → Extreme
extreme_with t faces chosen =
    record { total = t.total; wind = t.wind; internal = t.internal; faces = faces; alternative = chosen }

-- two tops with the alternatives of each
abbrev pub with_alternatives : Tops Pair → ℕ → List ℕ → List ℕ → Extremes
with_alternatives t faces high low =
    record { greatest = extreme_with t.greatest faces high; least = extreme_with t.least faces low }

abbrev pub six_with : Ends Pair → ℕ → (x_high x_low y_high y_low z_high z_low : List ℕ) → Six
six_with e faces x_high x_low y_high y_low z_high z_low =
    record {
      x = with_alternatives e.x faces x_high x_low;
      y = with_alternatives e.y faces y_high y_low;
      z = with_alternatives e.z faces z_high z_low;
    }

-- those of face i in the two cases of an axis, put there
abbrev pub put_at : ℕ → ℕ → ℕ → Extremes → Extremes
put_at i high low e =
    record {
      greatest = record e.greatest { alternative = set e.greatest.alternative i high };
      least = record e.least { alternative = set e.least.alternative i low };
    }

-- those of a job's faces, in the case of a top
abbrev pub alternatives_at : Axis → Side → Job → Top Pair → List ℕ
alternatives_at axis s j t =
    alternatives_of axis s j.building (profile_of j) (wind_numbered j.winds t.wind) (faces_of j.faces)

abbrev pub extremes_of : Axis → Job → Tops Pair → Extremes
extremes_of axis j t =
    with_alternatives t j.faces.count (alternatives_at axis Greatest j t.greatest)
    (alternatives_at axis Least j t.least)

abbrev pub six_of : Job → Ends Pair → Six
six_of j e = record { x = extremes_of X j e.x; y = extremes_of Y j e.y; z = extremes_of Z j e.z }
