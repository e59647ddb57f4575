-- `spots::line_spot`: what each line says is read, and its entry looked at.
-- a line of its kind
use mathlib.Core.Path.{◌≡◌, sym, ap, ◌∙◌}
use mathlib.Core.Bool.{Bool}
use lib.IntN.{ℤ}
use mir.Syntax.{w64}
use Rattle.whole.proofs.Size.{said, returned}
use Rattle.lines.specs.Held.{held}
use Rattle.building.specs.Fault.{first_spot}
use Rattle.building.specs.Building.{faults}
use Rattle.entry.specs.declared.Wind.{Wind}
use Rattle.entry.specs.declared.Face.{Face}
use Rattle.building.specs.Year.{has_heights}
use Rattle.entry.specs.Says.{face_of, letter, number}
use Rattle.rules.specs.declared.Section.{Section}
use Rattle.rules.specs.declared.Section.TheVariants.{«V», B, W, I, P, F}
use Rattle.rules.specs.declared.Kind.{Kind}
use Rattle.rules.specs.declared.Kind.TheVariants.{Count, Entry}
use Rattle.rules.specs.Faults.{year_faults, wind_faults, internal_faults, step_faults, face_faults}
use Rattle.rules.specs.Sections.{count_faults, faults_of}
use Rattle.rules.proofs.spots.line_spot.Goals.{In-Entry, Start}
use Rattle.rules.proofs.spots.line_spot.Goals as goal

as-kind : (s : Start) (k : Kind) → s.args.k ≡ k
    → first_spot (faults_of k s.args.b (held s.args.x))
    ≡ first_spot (faults_of s.args.k s.args.b (held s.args.x))
as-kind s k e = ap (λ (q : Kind). first_spot (faults_of q s.args.b (held s.args.x))) (sym e)

module _ (c : In-Entry) where
  abbrev start : Start
  start = (goal.at.In-Entry c).Start

  as-entry : (s : Section) → c.in-Entry.s ≡ s
      → first_spot (faults_of (Entry s) start.args.b (held start.args.x))
      ≡ first_spot (faults_of start.args.k start.args.b (held start.args.x))
  as-entry s e = as-kind start (Entry s) (c.in-Entry.is ∙ ap Entry e)

pub returns-in-Count : goal.returns-in-Count
returns-in-Count c =
    let year = (returned w64 c.args.b.year c.struct_told-1.given.0.1).same in
    let field = c.letter_of.ensures ∙ ap letter c.field_at.ensures in
    let count = (returned w64 _ c.number_of.type_inv).same ∙ c.number_of.ensures
    ∙ ap number c.field_at-in-Count.ensures in
    c.count_spot.ensures
    ∙ (λ i. first_spot (count_faults (year i) c.in-Count.s (field i) (count i)))
    ∙ as-kind (goal.at.returns-in-Count c).Start (Count c.in-Count.s) c.in-Count.is

pub returns-in-V : goal.returns-in-V
returns-in-V c =
    let i = c.year_of in
    c.year_spot.ensures ∙ ap (λ (z : ℤ). first_spot (year_faults z)) ((returned w64 _ i.type_inv).same ∙ i.ensures)
    ∙ as-entry (goal.at.returns-in-V c).In-Entry «V» c.in-V.is

pub returns-in-B : goal.returns-in-B
returns-in-B c =
    let b = c.args.b in
    c.building_spot.ensures
    ∙ (λ i. first_spot (faults ((returned w64 b.year c.struct_told-in-B-1.given.0.1).same i)
    (c.building_of.ensures i)))
    ∙ as-entry (goal.at.returns-in-B c).In-Entry B c.in-B.is

pub returns-in-W : goal.returns-in-W
returns-in-W c =
    let g = c.args.b.building in
    c.wind_spot.ensures ∙ ap (λ (w : Wind). first_spot (wind_faults g w)) c.wind_of.ensures
    ∙ as-entry (goal.at.returns-in-W c).In-Entry W c.in-W.is

pub returns-in-I : goal.returns-in-I
returns-in-I c =
    let i = c.internal_of in
    c.internal_spot.ensures
    ∙ ap (λ (z : ℤ). first_spot (internal_faults z)) ((returned w64 _ i.type_inv).same ∙ i.ensures)
    ∙ as-entry (goal.at.returns-in-I c).In-Entry I c.in-I.is

pub returns-in-P : goal.returns-in-P
returns-in-P c =
    let z = c.args.b.highest in
    let high = (returned w64 z c.struct_told-in-P-1.given.1.1.1.0.1).same in
    c.step_spot.ensures ∙ (λ i. first_spot (step_faults (high i) (c.step_of.ensures i)))
    ∙ as-entry (goal.at.returns-in-P c).In-Entry P c.in-P.is

pub returns-in-F : goal.returns-in-F
returns-in-F c =
    let a = c.args in
    let tall = said has_heights a.b.year c.has_heights.ensures c.struct_told-in-F-1.given.0.1 in
    c.face_spot.ensures
    ∙ ap (λ (f' : Face). first_spot (face_faults a.b f'))
    (c.face_of.ensures ∙ ap (λ (h' : Bool). face_of h' (held a.x)) tall)
    ∙ as-entry (goal.at.returns-in-F c).In-Entry F c.in-F.is
