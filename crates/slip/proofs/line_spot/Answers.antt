-- `line_spot`: by the line as it is held where that is in form, and else by its bytes.
use Prim.Native.Nat.{ℕ}
use mathlib.Core.Path.{◌≡◌, sym, ap, ◌∙◌}
use mathlib.Core.Bool.{Bool, true, false}
use mathlib.Core.List.{List}
use native.Mathlib.Omega.{arith}
use Rattle.whole.proofs.Size.{said}
use Rattle.field.specs.declared.Field.{Field}
use Rattle.lines.specs.Held.{held}
use Rattle.building.specs.Year.{has_heights}
use Rattle.building.specs.Fault.{first_spot, spot_of}
use Rattle.rules.specs.Form.{in_form, first_out}
use Rattle.rules.specs.Sections.{forms, faults_of, line_spot}
use Rattle.slip.proofs.Held as line
use Rattle.slip.proofs.Held.{form-held, same-held}
use Rattle.slip.proofs.line_spot.Goals.{After-in_form, Start}
use Rattle.slip.proofs.line_spot.Goals as goal

module _ (c : After-in_form) where
  abbrev start : Start
  start = (goal.at.After-in_form c).Start

  abbrev from : ℕ
  from = start.args.line.from

  abbrev to : ℕ
  to = start.args.line.to

  abbrev text : List ℕ
  text = start.args.s.now

  abbrev fields : List Field
  fields =
      line.said text from to start.requires.0 start.requires.1 c.line_at-x.result c.line_at-x.ensures

  tall : c.has_heights-heights.result ≡ has_heights start.args.b.year
  tall =
      said has_heights start.args.b.year c.has_heights-heights.ensures
      c.struct_told-1.given.0.1

  form-is : (t : Bool) → c.in_form.result ≡ t
      → in_form (forms (has_heights start.args.b.year) start.args.k) fields ≡ t
  form-is t e =
      sym (form-held text from to start.requires.0 start.requires.1 c.line_at-x.result
      c.line_at-x.ensures
      (has_heights start.args.b.year) start.args.k)
      ∙ ap (λ (h : Bool). in_form (forms h start.args.k) (held c.line_at-x.result)) (sym tall)
      ∙ sym c.in_form.ensures
      ∙ e

pub returns-then-in_form : goal.returns-then-in_form
unfolding line_spot
returns-then-in_form c =
    let at_in_form = (goal.at.returns-then-in_form c).After-in_form in
    let a = c.args in
    let same =
    same-held (text at_in_form) (from at_in_form) (to at_in_form) c.requires.0 c.requires.1 c.line_at-x.result
    c.line_at-x.ensures c.has_heights-heights.result a.k
    (sym c.in_form.ensures ∙ c.if-in_form.true) in
    rw (form-is at_in_form true c.if-in_form.true)
    (c.line_spot.ensures ∙ ap (λ (fs : List Field). first_spot (faults_of a.k a.b fs)) same)

pub slice_bounds-first_out-count : goal.slice_bounds-first_out-count
slice_bounds-first_out-count c = omega (arith, c.requires.0)

pub slice_bounds-first_out-start : goal.slice_bounds-first_out-start
slice_bounds-first_out-start c = omega (arith, c.requires.0)

pub slice_bounds-first_out-end : goal.slice_bounds-first_out-end
slice_bounds-first_out-end c = omega (arith, c.requires.1)

pub returns : goal.returns
unfolding line_spot
returns c =
    let at_in_form = (goal.at.returns c).After-in_form in
    let a = c.args in
    rw (form-is at_in_form false c.if-in_form.false)
    (c.field_spot.ensures (fields at_in_form)
    ∙ ap (λ (i : ℕ). spot_of i (faults_of a.k a.b (fields at_in_form)))
    (c.first_out.ensures ∙ ap (λ (h : Bool). first_out (forms h a.k) (fields at_in_form)) (tall at_in_form)))
