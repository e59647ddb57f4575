-- `line_fault` meets its contract: out of form it is 1, and in form the fault of its entry.
-- by the year
use mathlib.Core.Path.{◌≡◌, sym, ap, ◌∙◌}
use mathlib.Core.Bool.{Bool}
use lib.IntN.{ℤ}
use mir.Syntax.{w64}
use Rattle.whole.proofs.Size.{said, returned}
use Rattle.lines.specs.Held.{held}
use Rattle.building.specs.Fault.{first}
use Rattle.building.specs.declared.Building.{Building}
use Rattle.building.specs.Building.{faults}
use Rattle.entry.specs.declared.Wind.{Wind}
use Rattle.entry.specs.declared.Face.{Face}
use Rattle.building.specs.Year.{has_heights}
use Rattle.entry.specs.Says.{face_of}
use Rattle.rules.specs.declared.Section.{Section}
use Rattle.rules.specs.declared.Section.TheVariants.{«V», B, W, I, P, F}
use Rattle.rules.specs.declared.Kind.{Kind}
use Rattle.rules.specs.declared.Kind.TheVariants.{Count, Entry}
use Rattle.rules.specs.Form.{in_form}
use Rattle.rules.specs.Faults.{year_faults, wind_faults, internal_faults, step_faults, face_faults}
use Rattle.rules.specs.Sections.{forms, forms_by, faults_of, line_fault}
use Rattle.rules.proofs.Line.{fault-out, fault-in}
use Rattle.rules.proofs.faults.line_fault.Goals.{After-in_form, Else-not-in_form, In-Entry, Start}
use Rattle.rules.proofs.faults.line_fault.Goals as goal

module _ (c : After-in_form) where
  abbrev start : Start
  start = (goal.at.After-in_form c).Start

  heights-are : c.has_heights-heights.result ≡ has_heights start.args.b.year
  heights-are =
      said has_heights start.args.b.year c.has_heights-heights.ensures
      c.struct_told-1.given.0.1

  form-is : (t : Bool) → c.in_form.result ≡ t
      → in_form (forms_by start.args.b start.args.k) (held start.args.x) ≡ t
  form-is t e =
      ap (λ (h : Bool). in_form (forms h start.args.k) (held start.args.x)) (sym heights-are)
      ∙ sym c.in_form.ensures
      ∙ e

-- in form: it has the faults of a line of its kind
as-kind : (c : Else-not-in_form) (k : Kind) → c.args.k ≡ k → let a = c.args in
    first (faults_of k a.b (held a.x)) ≡ line_fault a.k a.b (held a.x)
as-kind c k e =
    let at_in_form = (goal.at.Else-not-in_form c).After-in_form in
    let a = c.args in
    ap (λ (q : Kind). first (faults_of q a.b (held a.x))) (sym e)
    ∙ sym (fault-in a.k a.b (held a.x) (form-is at_in_form _ (c.if-not-in_form.false)))

-- an entry
module _ (c : In-Entry) where
  abbrev begun : Else-not-in_form
  begun = (goal.at.In-Entry c).Else-not-in_form

  abbrev args : Start
  args = (goal.at.Else-not-in_form begun).Start

  as-entry : (s : Section) → c.in-Entry.s ≡ s
      → first (faults_of (Entry s) args.args.b (held args.args.x)) ≡ line_fault args.args.k args.args.b
      (held args.args.x)
  as-entry s e = as-kind begun (Entry s) (c.in-Entry.is ∙ ap Entry e)

pub returns-then-not-in_form : goal.returns-then-not-in_form
returns-then-not-in_form c =
    let at_in_form = (goal.at.returns-then-not-in_form c).After-in_form in
    let a = c.args in
    sym (fault-out a.k a.b (held a.x) (form-is at_in_form _ (c.if-not-in_form.true)))

pub returns-in-Count : goal.returns-in-Count
returns-in-Count c =
    c.count_fault.ensures
    ∙ as-kind (goal.at.returns-in-Count c).Else-not-in_form (Count c.in-Count.s) c.in-Count.is

pub returns-in-V : goal.returns-in-V
returns-in-V c =
    let i = c.year_of in
    c.year_fault.ensures ∙ ap (λ (z : ℤ). first (year_faults z)) ((returned w64 _ i.type_inv).same ∙ i.ensures)
    ∙ as-entry (goal.at.returns-in-V c).In-Entry «V» c.in-V.is

pub returns-in-B : goal.returns-in-B
returns-in-B c =
    let b = c.args.b in
    c.building_fault.ensures ∙ ap (λ (g : Building). first (faults b.year g)) c.building_of.ensures
    ∙ as-entry (goal.at.returns-in-B c).In-Entry B c.in-B.is

pub returns-in-W : goal.returns-in-W
returns-in-W c =
    let g = c.args.b.building in
    c.wind_fault.ensures ∙ ap (λ (w : Wind). first (wind_faults g w)) c.wind_of.ensures
    ∙ as-entry (goal.at.returns-in-W c).In-Entry W c.in-W.is

pub returns-in-I : goal.returns-in-I
returns-in-I c =
    let i = c.internal_of in
    c.internal_fault.ensures ∙ ap (λ (z : ℤ). first (internal_faults z)) ((returned w64 _ i.type_inv).same ∙ i.ensures)
    ∙ as-entry (goal.at.returns-in-I c).In-Entry I c.in-I.is

pub returns-in-P : goal.returns-in-P
returns-in-P c =
    let z = c.args.b.highest in
    let high = (returned w64 z c.struct_told-in-P-1.given.1.1.1.0.1).same in
    c.step_fault.ensures ∙ (λ i. first (step_faults (high i) (c.step_of.ensures i)))
    ∙ as-entry (goal.at.returns-in-P c).In-Entry P c.in-P.is

pub returns-in-F : goal.returns-in-F
returns-in-F c =
    let at_in_form = (goal.at.returns-in-F c).After-in_form in
    let a = c.args in
    c.face_fault.ensures
    ∙ ap (λ (f : Face). first (face_faults a.b f))
    (c.face_of.ensures ∙ ap (λ (h : Bool). face_of h (held a.x)) (heights-are at_in_form))
    ∙ as-entry (goal.at.returns-in-F c).In-Entry F c.in-F.is
