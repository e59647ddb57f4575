-- `spots::field_spot`: by the kind of the line.
-- a field of a line of its kind
use mathlib.Core.Path.{◌≡◌, refl, sym, ap, ◌∙◌}
use mathlib.Core.List.{List}
use lib.IntN.{ℤ}
use mir.Syntax.{w64}
use Rattle.whole.proofs.Size.{returned}
use Rattle.field.specs.declared.Field.{Field}
use Rattle.building.specs.Fault.{spot_of}
use Rattle.entry.specs.Says.{letter, number, at, building_of, wind_of, step_of, face_of}
use Rattle.building.specs.Year.{has_heights}
use Rattle.rules.specs.declared.Section.{Section}
use Rattle.rules.specs.declared.Section.TheVariants.{«V», B, W, I, P, F}
use Rattle.rules.specs.declared.Kind.{Kind}
use Rattle.rules.specs.declared.Kind.TheVariants.{Count, Entry}
use Rattle.rules.specs.Sections.{count_faults, faults_of}
use Rattle.rules.proofs.Spotted.{at-or}
use Rattle.rules.proofs.spots.field_spot.Goals.{After-ranged-none, In-Entry, Start}
use Rattle.rules.proofs.spots.field_spot.Goals as goal

as-kind : (s : Start) (fs : List Field) (k : Kind) → s.args.k ≡ k
    → spot_of s.args.field (faults_of k s.args.b fs) ≡ spot_of s.args.field
    (faults_of s.args.k s.args.b fs)
as-kind s fs k e = ap (λ (q : Kind). spot_of s.args.field (faults_of q s.args.b fs)) (sym e)

module _ (c : In-Entry) where
  abbrev ranged-at : After-ranged-none
  ranged-at = (goal.at.In-Entry c).After-ranged-none

  abbrev start : Start
  start = (goal.at.After-ranged-none ranged-at).Start

  as-entry : (fs : List Field) (s : Section) → c.in-Entry.s ≡ s
      → spot_of start.args.field (faults_of (Entry s) start.args.b fs)
      ≡ spot_of start.args.field (faults_of start.args.k start.args.b fs)
  as-entry fs s e = as-kind start fs (Entry s) (c.in-Entry.is ∙ ap Entry e)

pub returns-in-Count : goal.returns-in-Count
returns-in-Count c fs =
    let year = (returned w64 c.args.b.year c.struct_told-1.given.0.1).same in
    c.count_field.ensures (letter (at fs 0)) (number (at fs 1))
    ∙ ap (λ (y : ℤ). spot_of c.args.field (count_faults y c.in-Count.s (letter (at fs 0))
    (number (at fs 1)))) year
    ∙ as-kind (goal.at.returns-in-Count c).Start fs (Count c.in-Count.s) c.in-Count.is

pub returns-in-V : goal.returns-in-V
unfolding spot_of
returns-in-V c fs =
    at-or c.args.field 1 refl c.ranged-none.ensures c.at.ensures
    ∙ as-entry (goal.at.returns-in-V c).In-Entry fs «V» c.in-V.is

pub returns-in-B : goal.returns-in-B
returns-in-B c fs =
    let at_entry = (goal.at.returns-in-B c).In-Entry in
    c.field_spot.ensures c.args.b.year (building_of fs) ∙ as-entry at_entry fs B c.in-B.is

pub returns-in-W : goal.returns-in-W
returns-in-W c fs =
    let at_entry = (goal.at.returns-in-W c).In-Entry in
    c.wind_field.ensures c.args.b.building (wind_of fs) ∙ as-entry at_entry fs W c.in-W.is

pub returns-in-I : goal.returns-in-I
unfolding spot_of
returns-in-I c fs =
    at-or c.args.field 1 refl c.ranged-none.ensures c.at-in-I.ensures
    ∙ as-entry (goal.at.returns-in-I c).In-Entry fs I c.in-I.is

pub returns-in-P : goal.returns-in-P
returns-in-P c fs =
    let at_entry = (goal.at.returns-in-P c).In-Entry in
    c.step_field.ensures c.args.b.highest (step_of fs) ∙ as-entry at_entry fs P c.in-P.is

pub returns-in-F : goal.returns-in-F
returns-in-F c fs =
    let at_entry = (goal.at.returns-in-F c).In-Entry in
    c.face_field.ensures (face_of (has_heights c.args.b.year) fs) ∙ as-entry at_entry fs F c.in-F.is
