-- The walk over every choice, as the code has it. Only contracts of private functions cite it.
use Rattle.std.specs.Prelude.{◌≡◌, Bool, cond, List, [], ◌∷◌, ℕ, ◌≤◌, ◌<◌, eqb, ℤ, nat_abs, length, get_or}
use Rattle.whole.specs.Lists.{Every}
use Rattle.pair.specs.declared.Pair.{Pair}
use Rattle.pair.specs.Total.{pair_of, pair_sum, lesser}
use Rattle.job.specs.declared.Job.{Job}
use Rattle.job.specs.Carried.{Carried, carried, most_faces, no_wind, no_face}
use Rattle.worst.specs.declared.Side.{Side}
use Rattle.worst.specs.declared.Side.TheVariants.{Greatest, Least}
use Rattle.worst.specs.declared.Axis.{Axis}
use Rattle.worst.specs.declared.Axis.TheVariants.{X, Y, Z}
use Rattle.worst.specs.declared.AxisForces.{AxisForces}
use Rattle.worst.specs.declared.FaceForces.{FaceForces}
use Rattle.worst.specs.declared.Extreme.{Extreme}
use Rattle.worst.specs.Best.{Best, none, at, better}
use Rattle.worst.specs.Cases.{Loads, Case, choices, total}
use Rattle.worst.specs.Quick.{over}
use Rattle.worst.specs.Forces.{alternatives, loads}
use Rattle.worst.specs.Worst.{given}
use Rattle.worst.specs.Shown.{padded, shown}
use Rattle.worst.specs.Rows.{force_in}
use Rattle.plain.specs.declared.add.Totals.{Totals}
use Rattle.plain.specs.Plain.{faces_with_two, most_with_two}
use Rattle.plain.specs.ByNumber.{most_ways, ways}

-- ---- the forces of a cell: each face with its alternatives

abbrev pub alternatives_in : FaceForces → List ℕ
alternatives_in f = cond (eqb f.count 2) (1 ∷ 2 ∷ []) (1 ∷ [])

-- a force added to the totals so far
abbrev pub plus : Totals → AxisForces → Totals
plus all f =
    record {
      x = pair_sum all.x (pair_of f.x);
      y = pair_sum all.y (pair_of f.y);
      z = pair_sum all.z (pair_of f.z);
    }

-- the totals of a choice
abbrev pub totals_of : List FaceForces → List ℕ → Totals
totals_of fs ks =
    record {
      x = pair_of (total (force_in X) fs ks);
      y = pair_of (total (force_in Y) fs ks);
      z = pair_of (total (force_in Z) fs ks);
    }

-- a force that a face can have
abbrev pub most_force : ℕ
most_force = 330000000000000000

pub record ForceSmall (f : AxisForces) : Type 0 where
  pub x : nat_abs f.x ≤ most_force
  pub y : nat_abs f.y ≤ most_force
  pub z : nat_abs f.z ≤ most_force

pub record RowSmall (f : FaceForces) : Type 0 where
  pub first : ForceSmall f.first
  pub last : ForceSmall f.last

-- ---- every choice

abbrev pub case_with : ℕ → ℕ → List ℕ → Case ℕ ℕ ℕ
case_with w i ks = record { wind = w; internal = i; chosen = ks }

-- a case with its total
abbrev pub valued : (List ℕ → ℤ) → ℕ → ℕ → List ℕ → Best (Case ℕ ℕ ℕ)
valued value w i ks = at (value ks) (case_with w i ks)

-- the best of the choices of these faces
unfoldable pub walked : Side → (List ℕ → ℤ) → ℕ → ℕ → List FaceForces → Best (Case ℕ ℕ ℕ)
walked s value w i fs = over s (valued value w i) (choices alternatives_in fs)

-- ---- what is kept

-- winds are numbered from 1
abbrev pub WindNamed : Best (Case ℕ ℕ ℕ) → Type 0
WindNamed none = Unit
WindNamed (at v c) = 0 < c.wind

-- an extreme that shows the best so far
pub record Keeps (n : ℕ) (e : Extreme) (b : Best (Case ℕ ℕ ℕ)) : Type 0 where
  pub is : e ≡ shown n b
  pub wind : WindNamed b

-- an earlier total as a pair falls short of a later one
abbrev pub short_of : Side → Pair → Pair → Bool
short_of Greatest earlier later = lesser earlier later
short_of Least earlier later = lesser later earlier

-- what is kept of an earlier extreme and a later total, which is that of v
abbrev pub KeepsWith : Side → Extreme → Extreme → Pair → List ℕ → ℕ → ℕ → Type 0
KeepsWith s earlier r later choice w i = (v : ℤ) (n : ℕ) (ks : List ℕ) (b : Best (Case ℕ ℕ ℕ)) → later ≡ pair_of v
    → choice ≡ padded most_faces ks → Keeps n earlier b → Keeps n r (better s b (at v (case_with w i ks)))

-- a cell that can be walked: the forces of its faces
pub record Underway (wind : ℕ) (fs : List FaceForces) : Type 0 where
  pub few : length fs ≤ most_faces
  pub some : 0 < wind
  pub small : Every RowSmall fs
  pub ways≤ : ways fs ≤ most_ways

-- ---- a job

-- the best of all choices of a cell, and of all cells of a wind
unfoldable pub cell_walked : {F : Type 0} → Side → Loads ℕ ℕ F ℕ → ℕ → ℕ → Best (Case ℕ ℕ ℕ)
cell_walked s l w i =
    over s (valued (total (l.force w i) l.faces) w i) (choices (l.alternatives w) l.faces)

abbrev pub wind_walked : Axis → Side → Carried → ℕ → Best (Case ℕ ℕ ℕ)
wind_walked axis s c w =
    let l = loads axis (given c) in
    over s (cell_walked s l w) l.internals

-- a job that is taken for its number of faces with two alternatives
abbrev pub FewTwos : Job → Type 0
FewTwos j = faces_with_two (given (carried j)) ≤ most_with_two

-- its face k has two under wind w, both from 0
abbrev pub two_under : Job → ℕ → ℕ → Bool
two_under j w k =
    let g = given (carried j) in
    eqb (length (alternatives g (get_or g.winds w no_wind) (get_or g.faces k no_face))) 2
