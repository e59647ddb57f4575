-- The forces that are handed over for the case of an extreme, each at its alternative, are those of the faces.
use mathlib.Core.Path.{◌≡◌, sym, ap, ◌∙◌, subst}
use mathlib.Core.List.{List, ◌++◌, map}
use Prim.Native.Nat.{ℕ, ◌-◌, ◌≤◌}
use native.Mathlib.Omega.{arith}
use lib.IntN.{ℤ, pos}
use lib.ListN.{length, take, replicate}
use Rattle.whole.specs.Lists.{first_of}
use Rattle.whole.proofs.Lists.{first_of-length, first_of-take, first_of-fewer, first_of-all}
use Rattle.whole.proofs.Pieces.{first_of-front}
use Rattle.pair.specs.Total.{pair_of}
use Rattle.entry.specs.declared.Wind.{Wind}
use Rattle.entry.specs.declared.Face.{Face}
use Rattle.job.specs.declared.Job.{Job}
use Rattle.job.specs.Carried.{carried, most_faces}
use Rattle.job.specs.Walk.{judged}
use Rattle.worst.specs.declared.Side.{Side}
use Rattle.worst.specs.declared.Axis.{Axis}
use Rattle.worst.specs.declared.FaceForces.{FaceForces}
use Rattle.worst.specs.declared.CellForces.{CellForces}
use Rattle.worst.specs.declared.Extreme.{Extreme}
use Rattle.worst.specs.Cases.{Case, Permitted}
use Rattle.worst.specs.Forces.{Given, alternatives, force, wind_at, internal_at, loads}
use Rattle.worst.specs.Shown.{padded, total_in}
use Rattle.worst.specs.Worst.{given, extreme, six_extremes}
use Rattle.worst.specs.PerFace.{face_forces, forces_in}
use Rattle.worst.specs.Rows.{Taken, rows, force_in}
use Rattle.whole.proofs.Numbers.{numbers-member}
use Rattle.worst.proofs.Rows.{winds-counted, internals-counted, faces-counted, ready, cell-is, rows_are, sound-at}
use Rattle.worst.proofs.Rows.{force-same}
use Rattle.answers.specs.declared.Extreme as host
use Rattle.answers.specs.Answers.{host_extreme, host_line}
use Rattle.column.specs.Column.{at_choice, forces_shown, axis_of, forces_on}
use Rattle.column.proofs.ReportLines.{Told, one, none, line-told, axis-told, one-is}
use Rattle.column.proofs.OfCase as shows
use Rattle.column.proofs.AtChoice.{choice-length, choice-map}

module _ (j : Job) (t : Taken j) (axis : Axis) (side : Side) where
  abbrev g : Given
  g = given (carried j)

  abbrev e : Extreme
  e = extreme axis side (carried j)

  abbrev case : Case ℕ ℕ ℕ
  case = shows.case (carried j) t.order axis side

  abbrev u : Wind
  u = wind_at g case.wind

  abbrev n : ℤ
  n = internal_at g case.internal

  abbrev own : List ℤ
  own = shows.own (carried j) t.order axis side

  permitted : Permitted (loads axis g) case
  permitted = shows.permitted (carried j) t.order axis side

  named : e ≡ record {
    total = pair_of (total_in e);
    wind = case.wind;
    internal = case.internal;
    faces = length (carried j).faces;
    alternative = padded most_faces case.chosen;
  }
  named = shows.named (carried j) t.order axis side

  all-chosen : length g.faces ≡ length case.chosen
  all-chosen = shows.all-chosen (carried j) t.order axis side

  module _ (forces : CellForces) (is : forces ≡ forces_in e.wind e.internal (judged j)) where
    abbrev count : ℕ
    count = j.faces.count

    abbrev row : Face → FaceForces
    row = face_forces g u n

    few : count ≤ most_faces
    few = (ready j t).profiled.few

    wind-low : 1 ≤ case.wind
    wind-low = (numbers-member (length g.winds) 1 permitted.wind).low

    wind-high : case.wind ≤ j.winds.count
    wind-high = omega (arith, (numbers-member (length g.winds) 1 permitted.wind).high, winds-counted j t)

    internal-low : 1 ≤ case.internal
    internal-low = (numbers-member (length g.internals) 1 permitted.internal).low

    internal-high : case.internal ≤ j.internals.count
    internal-high =
        omega (arith, (numbers-member (length g.internals) 1 permitted.internal).high, internals-counted j t)

    rows-own : rows count forces ≡ map row g.faces
    rows-own =
        ap (rows count)
        (is ∙ (λ k. forces_in (named k).wind (named k).internal (judged j))
        ∙ cell-is j t case.wind case.internal wind-low wind-high internal-low internal-high)
        ∙ rows_are j t u n

    choice-own : first_of 0 count e.alternative ≡ case.chosen
    unfolding padded
    choice-own =
        let zeros : List ℕ = replicate (most_faces - length case.chosen) 0 in
        ap (λ (x : Extreme). first_of 0 count x.alternative) named
        ∙ ap (λ m. first_of 0 m (case.chosen ++ zeros)) (sym (faces-counted j t) ∙ all-chosen)
        ∙ first_of-front 0 case.chosen zeros

    handed-own : at_choice (force_in axis) (rows count forces) (first_of 0 count e.alternative) ≡ own
    handed-own =
        (λ k. at_choice (force_in axis) (rows-own k) (choice-own k))
        ∙ sym (choice-map row (alternatives g u) (force axis g u n) (force_in axis) g.faces
        (λ f mf k mk. force-same g u n f (sound-at j t case.wind wind-low wind-high f mf) axis k mk) case.chosen
        permitted.chosen)

    pub handed-shown : (l : List ℤ)
        → l ≡ first_of (pos 0) most_faces (at_choice (force_in axis) (rows count forces)
        (first_of 0 count e.alternative))
        → take count l ≡ forces_shown axis g (host_extreme (carried j).year e)
    handed-shown l h =
        let long : count ≡ length own =
        sym (choice-length (force axis g u n) g.faces case.chosen (omega
        (arith, all-chosen)) ∙ faces-counted j t)
        in
        ap (take count) (h ∙ ap (first_of (pos 0) most_faces) handed-own)
        ∙ sym (first_of-take (pos 0) count (first_of (pos 0) most_faces own)
        (omega (arith, few, first_of-length (pos 0) most_faces own)))
        ∙ first_of-fewer (pos 0) count most_faces own few
        ∙ ap (λ m. first_of (pos 0) m own) long
        ∙ first_of-all (pos 0) own
        ∙ sym (shows.shown-own (carried j) t.order axis side)

-- ---- the case of a report line

module _ (j : Job) (t : Taken j) (line : ℤ) where
  -- of the forces of its cell one for each face
  by-told : (x : host.Extreme) → Told (carried j).year (six_extremes (carried j)) line x
      → x.verdict.number ≡ 0 → (l : List ℤ) → (forces : CellForces)
      → forces ≡ forces_in x.wind x.internal (judged j)
      → l ≡ first_of (pos 0) most_faces
      (at_choice (force_in (axis_of line)) (rows j.faces.count forces) (first_of 0 j.faces.count x.alternative))
      → take j.faces.count l ≡ forces_shown (axis_of line) (given (carried j)) x
  by-told x (one axis side h) z l =
      let same = ap axis_of h ∙ axis-told axis side in
      subst
      (λ (x : Axis × Extreme). (forces : CellForces)
      → forces ≡ forces_in x.1.wind x.1.internal (judged j)
      → l ≡ first_of (pos 0) most_faces
      (at_choice (force_in x.0) (rows j.faces.count forces) (first_of 0 j.faces.count x.1.alternative))
      → take j.faces.count l ≡ forces_shown x.0 (given (carried j)) (host_extreme (carried j).year x.1))
      (λ i. (sym same i, sym (one-is (carried j) axis side) i))
      (λ forces is h. handed-shown j t axis side forces is l h)
  by-told x none z l = absurd (omega (arith, z))

  pub line-forces : (x : host.Extreme) → x ≡ host_line (carried j).year (six_extremes (carried j)) line
      → x.verdict.number ≡ 0 → (l : List ℤ)
      → (forces : CellForces)
      → forces ≡ forces_in x.wind x.internal (judged j)
      → l ≡ first_of (pos 0) most_faces
      (at_choice (force_in (axis_of line)) (rows j.faces.count forces) (first_of 0 j.faces.count x.alternative))
      → take j.faces.count l ≡ forces_on line (judged j)
  line-forces x told z l forces is h =
      by-told x (subst (Told (carried j).year (six_extremes (carried j)) line) (sym told)
      (line-told (carried j).year (six_extremes (carried j)) line)) z l forces
      is h
      ∙ ap (forces_shown (axis_of line) (given (carried j))) told
      ∙ ap (forces_on line) (sym t.accepted)
