-- The line of a face in the sheet of a job, counted.
use mathlib.Core.Path.{◌≡◌, refl, ap, ◌∙◌}
use mathlib.Core.Bool.{Bool, true, false, cond}
use mathlib.Core.List.{List, [], ◌∷◌}
use Prim.Native.Nat.{ℕ, ◌+◌}
use native.Mathlib.Omega.{arith}
use lib.ListN.{length, length-append}
use Rattle.field.specs.declared.Field.{Field}
use Rattle.building.specs.Year.{has_heights}
use Rattle.rules.specs.declared.Section.{Section}
use Rattle.rules.specs.declared.Section.TheVariants.{P}
use Rattle.rules.specs.Sections.{sections}
use Rattle.job.specs.declared.Job.{Job}
use Rattle.job.specs.Carried.{Carried, carried, with_faces}
use Rattle.job.specs.Lines.{entries_of, section_of, sections_of, sheet_of, lines_of, face_line}
use Rattle.job.proofs.Alone.{winds-counted, internals-counted, steps-counted}
use Rattle.job.proofs.Judged.{year-is}

module _ (es : Section → List (List Field)) where
  -- how many lines so many sections have
  abbrev pub lines_in : List Section → ℕ
  lines_in [] = 0
  lines_in (s ∷ ss) = 1 + length (es s) + lines_in ss

  pub lines-counted : (ss : List Section) → length (sections_of es ss) ≡ lines_in ss
  lines-counted [] = refl
  lines-counted (s ∷ ss) =
      omega (arith, length-append (section_of s (es s)) (sections_of es ss), lines-counted ss)

module _ (j : Job) (k : ℕ) where
  abbrev plain : ℕ
  plain = 2 + 1 + j.winds.count + 1 + j.internals.count + 1 + k

  abbrev none : Carried
  none = with_faces [] (carried j)

  by-heights : (h : Bool) → has_heights j.year ≡ h → length (sheet_of h (entries_of none)) + k
      ≡ cond h (2 + plain + 1 + j.profile.count) plain
  by-heights true e =
      let steps : length (entries_of (carried j) P) ≡ j.profile.count = steps-counted j ∙ rw e in
      omega (arith, lines-counted (entries_of none) (sections true), winds-counted j, internals-counted j, steps)
  by-heights false e =
      omega (arith, lines-counted (entries_of none) (sections false), winds-counted j, internals-counted j)

  pub line-is : (h : Bool) → has_heights j.year ≡ h
      → face_line (carried j) k ≡ cond h (2 + plain + 1 + j.profile.count) plain
  unfolding lines_of
  line-is h e =
      ap (λ t. length (sheet_of t (entries_of none)) + k) (year-is j ∙ e) ∙ by-heights h e
