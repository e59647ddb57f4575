-- What may be shown for a job on one axis and one side, and how two jobs compare.
use Rattle.std.specs.Prelude.{◌≡◌, ◌⊎◌, ℕ, ◌<◌, ℤ, pos, ◌≤ℤ◌, ◌<ℤ◌, length}
use mathlib.Core.List.{List, [], ◌∷◌, Memᴰ}
use Rattle.whole.specs.Lists.{Every}
use Rattle.whole.specs.Newton.{newton}
use Rattle.page.specs.Writing.{Writing}
use Rattle.entry.specs.declared.Wind.{Wind}
use Rattle.job.specs.Carried.{Carried, most_faces}
use Rattle.worst.specs.declared.Side.{Side}
use Rattle.worst.specs.declared.Axis.{Axis}
use Rattle.worst.specs.declared.Extreme.{Extreme}
use Rattle.worst.specs.declared.Six.{Six}
use Rattle.worst.specs.Best.{IsBest}
use Rattle.worst.specs.Cases.{Case, cases, case_total}
use Rattle.worst.specs.Forces.{face_speed, loads}
use Rattle.worst.specs.Shown.{padded, total_in}
use Rattle.worst.specs.Worst.{given, shown_in}
use Rattle.report.specs.Lines.{six_text}
use Rattle.claims.specs.Written.{Written}

-- ---- one extreme

-- `case` is the one whose numbers are shown; its total is shown, bounds that of every case, and is reached by no
-- earlier case. The total is one number, newtons with "a remainder of 0 to 19,999,999,999 units".
pub record Shows (c : Carried) (axis : Axis) (side : Side) (e : Extreme) : Type 0 where
  pub case : Case ℕ ℕ ℕ
  pub best : IsBest side (case_total (loads axis (given c))) (cases (loads axis (given c))) (total_in e) case
  pub remainder : e.total.remainder < newton
  pub wind : e.wind ≡ case.wind
  pub internal : e.internal ≡ case.internal
  pub faces : e.faces ≡ length c.faces
  pub alternative : e.alternative ≡ padded most_faces case.chosen

-- ---- all six

abbrev pub ShowsSix : Carried → Six → Type 0
ShowsSix c six = (axis : Axis) (side : Side) → Shows c axis side (shown_in six axis side)

-- the six lines of such extremes, written
pub record Reported (c : Carried) (before after : List ℕ) (w : Writing) : Type 0 where
  pub six : Six
  pub shows : ShowsSix c six
  pub written : Written (six_text c.year six) before after w

-- ---- two jobs

-- every one of xs is one of ys
abbrev pub Includes : {X : Type 0} → List X → List X → Type 0
Includes {X} ys xs = (x : X) → Memᴰ x xs → Memᴰ x ys

-- the winds and internal coefficients of d include those of c, with the same building, profile and faces
pub record More (c d : Carried) : Type 0 where
  pub building : c.building ≡ d.building
  pub profile : c.profile ≡ d.profile
  pub faces : c.faces ≡ d.faces
  pub winds : Includes d.winds c.winds
  pub internals : Includes d.internals c.internals

-- in its own place each wind has its direction, and no lower speed
abbrev pub Raised : List Wind → List Wind → Type 0
Raised [] [] = Unit
Raised [] (v ∷ vs) = ⊥
Raised (w ∷ ws) [] = ⊥
Raised (w ∷ ws) (v ∷ vs) = (w.direction ≡ v.direction) × (w.speed ≤ℤ v.speed) × Raised ws vs

-- only speeds change from c to d, and none is lowered
pub record Faster (c d : Carried) : Type 0 where
  pub building : c.building ≡ d.building
  pub profile : c.profile ≡ d.profile
  pub faces : c.faces ≡ d.faces
  pub internals : c.internals ≡ d.internals
  pub winds : Raised c.winds d.winds

-- all faces stand at one height
abbrev pub OneHeight : Carried → Type 0
OneHeight c = (h : ℤ) × Every (λ f. f.height ≡ h) c.faces

-- every face's speed is above 0, under every wind
abbrev pub SomeSpeed : Carried → Type 0
SomeSpeed c = Every (λ w. Every (λ f. pos 0 <ℤ face_speed c.profile w f) c.faces) c.winds

-- what faster winds ask of a job from year 2 on
abbrev pub OneSpeed : Carried → Type 0
OneSpeed c = (c.year ≡ pos 1) ⊎ (OneHeight c × SomeSpeed c)
