-- The forces of the faces in the case that an extreme of a job shows; they add up to its total.
use mathlib.Core.Path.{◌≡◌, sym, ◌∙◌}
use mathlib.Core.List.{List}
use Prim.Native.Nat.{ℕ, ◌-◌}
use lib.IntN.{ℤ}
use lib.ListN.{length, replicate}
use Rattle.pair.specs.Total.{pair_of}
use Rattle.entry.specs.declared.Wind.{Wind}
use Rattle.job.specs.Carried.{Carried, most_faces}
use Rattle.job.specs.InOrder.{InOrder}
use Rattle.worst.specs.declared.Side.{Side}
use Rattle.worst.specs.declared.Axis.{Axis}
use Rattle.worst.specs.declared.Extreme.{Extreme}
use Rattle.worst.specs.Cases.{Case, case_total, Permitted}
use Rattle.worst.specs.Forces.{Given, alternatives, force, wind_at, internal_at, loads}
use Rattle.worst.specs.Shown.{padded, shown, total_in}
use Rattle.worst.specs.Worst.{given, extreme}
use Rattle.worst.proofs.Meaning.{is_best-member}
use Rattle.worst.proofs.Members.{case-permitted}
use Rattle.worst.proofs.Promises.{Shows, extreme-shows}
use Rattle.answers.specs.Answers.{host_extreme}
use Rattle.column.specs.Column.{at_choice, forces_shown}
use Rattle.sharing.specs.Column.{added_up}
use Rattle.column.proofs.AtChoice.{choice-past, chosen-length, total-added}

module _ (c : Carried) (o : InOrder c) (axis : Axis) (side : Side) where
  abbrev pub g : Given
  g = given c

  abbrev pub e : Extreme
  e = extreme axis side c

  abbrev pub s : Shows axis side c
  s = extreme-shows axis side c o

  abbrev pub case : Case ℕ ℕ ℕ
  case = s.case

  pub permitted : Permitted (loads axis g) case
  permitted = case-permitted (loads axis g) case (is_best-member side (case_total (loads axis g)) s.best)

  abbrev pub u : Wind
  u = wind_at g case.wind

  abbrev pub n : ℤ
  n = internal_at g case.internal

  -- the case's forces
  abbrev pub own : List ℤ
  own = at_choice (force axis g u n) g.faces case.chosen

  pub named : e ≡ record {
    total = pair_of (total_in e);
    wind = case.wind;
    internal = case.internal;
    faces = length c.faces;
    alternative = padded most_faces case.chosen;
  }
  unfolding shown
  named = s.named

  pub all-chosen : length g.faces ≡ length case.chosen
  all-chosen = chosen-length (alternatives g u) g.faces case.chosen permitted.chosen

  pub shown-own : forces_shown axis g (host_extreme c.year e) ≡ own
  unfolding padded
  shown-own =
      (λ k.
      let x = named k in
      at_choice (force axis g (wind_at g x.wind) (internal_at g x.internal)) g.faces x.alternative)
      ∙ choice-past (force axis g u n) g.faces case.chosen
      (replicate (most_faces - length case.chosen) 0) all-chosen

  -- they add up to the total that is shown
  pub own-total : added_up own ≡ total_in e
  unfolding case_total
  own-total = sym (total-added (force axis g u n) g.faces case.chosen) ∙ s.best.reached
