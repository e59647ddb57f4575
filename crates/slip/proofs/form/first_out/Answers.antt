-- `form::first_out`: field by field, as long as they are in form.
use Prim.Native.Nat.{ℕ, ◌+◌, ◌-◌, ◌≤◌, ◌<◌}
use mathlib.Core.Path.{◌≡◌, sym, ap, ◌∙◌}
use mathlib.Core.Bool.{Bool}
use mathlib.Core.List.{List}
use native.Mathlib.Omega.{arith}
use lib.ListN.{length, get_or, take, drop}
use Rattle.field.specs.Field.{field_from}
use Rattle.lines.specs.Held.{until}
use Rattle.rules.specs.declared.FieldForm.{FieldForm}
use Rattle.rules.specs.declared.FieldForm.TheVariants.{Number}
use Rattle.rules.specs.Form.{has_form}
use Rattle.rules.specs.Sections.{forms}
use Rattle.sheet.proofs.OutOfForm.{fields}
use Rattle.slip.proofs.Out.{formed-none, formed-all, out-here, out-last, out-next}
use Rattle.slip.proofs.form.first_out.Goals.{After-formed_at, After-until-e, At-loop-i, Start}
use Rattle.slip.proofs.form.first_out.Goals as goal

-- the fields are few
module _ (c : At-loop-i) where
  abbrev start : Start
  start = (goal.at.At-loop-i c).Start

  abbrev called : List FieldForm
  called = forms start.args.heights start.args.k

  count : c.count_of-n.result ≡ length called
  count = c.count_of-n.ensures

  few : c.loop-i.i ≤ 6
  few = omega (arith, count, (fields start.args.heights start.args.k).1)

module _ (c : After-formed_at) where
  abbrev at-until : After-until-e
  at-until = (goal.at.After-formed_at c).After-until-e

  abbrev turn : At-loop-i
  turn = (goal.at.After-until-e at-until).At-loop-i

  more : turn.loop-i.i < length (called turn)
  more = omega (arith, count turn, at-until.loop-i-test.true)

  abbrev line : List ℕ
  line = turn.args.l.now

  end : at-until.until-e.result ≡ turn.loop-i.next + until 32 (drop turn.loop-i.next line)
  end = at-until.until-e.ensures.0

  field : (t : Bool) → c.formed_at.result ≡ t
      → has_form (get_or (called turn) turn.loop-i.i Number)
      (field_from (take (until 32 (drop turn.loop-i.next line)) (drop turn.loop-i.next line))) ≡ t
  field t e =
      let q : at-until.until-e.result - turn.loop-i.next ≡ until 32 (drop turn.loop-i.next line) =
      omega (arith, end) in
      ap (has_form (get_or (called turn) turn.loop-i.i Number))
      (ap (λ (n : ℕ). field_from (take n (drop turn.loop-i.next line))) (sym q) ∙ sym c.field_of.ensures)
      ∙ sym (c.formed_at.ensures turn.args.heights)
      ∙ e

low : (c : After-formed_at) → c.loop-i.i ≤ 6
low c = few (goal.at.After-formed_at c).At-loop-i

pub loop-i-init : goal.loop-i-init
loop-i-init c =
    let a = c.args in
    formed-none (forms a.heights a.k) a.l.now

pub until-e-requires : goal.until-e-requires
until-e-requires c = c.loop-i.invariant.within

pub slice_bounds-field_of-count : goal.slice_bounds-field_of-count
slice_bounds-field_of-count c = omega (arith, c.until-e.ensures.0)

pub slice_bounds-field_of-start : goal.slice_bounds-field_of-start
slice_bounds-field_of-start c = omega (arith, c.until-e.ensures.0)

pub slice_bounds-field_of-end : goal.slice_bounds-field_of-end
slice_bounds-field_of-end c = omega (arith, c.until-e.ensures.1)

pub overflow_add-result : goal.overflow_add-result
overflow_add-result c = omega (arith, low (goal.at.overflow_add-result c).After-formed_at)

pub overflow_cast-result : goal.overflow_cast-result
overflow_cast-result c = omega (arith, low (goal.at.overflow_cast-result c).After-formed_at)

pub returns-then-not-formed_at : goal.returns-then-not-formed_at
returns-then-not-formed_at c =
    let at_loop_i = (goal.at.returns-then-not-formed_at c).At-loop-i in
    let at_formed_at = (goal.at.returns-then-not-formed_at c).After-formed_at in
    sym (out-here (called at_loop_i) (line at_formed_at) c.loop-i.invariant (more at_formed_at)
    (field at_formed_at _ (c.if-not-formed_at.true)))

pub overflow_add-result-then-e-l : goal.overflow_add-result-then-e-l
overflow_add-result-then-e-l c = omega (arith, low (goal.at.overflow_add-result-then-e-l c).After-formed_at)

pub overflow_cast-result-then-e-l : goal.overflow_cast-result-then-e-l
overflow_cast-result-then-e-l c = omega (arith, low (goal.at.overflow_cast-result-then-e-l c).After-formed_at)

pub returns-then-e-l : goal.returns-then-e-l
returns-then-e-l c =
    let at_loop_i = (goal.at.returns-then-e-l c).At-loop-i in
    let at_formed_at = (goal.at.returns-then-e-l c).After-formed_at in
    omega (
      arith,
      out-last (called at_loop_i) (line at_formed_at) c.loop-i.invariant (more at_formed_at)
          (field at_formed_at _ (c.if-not-formed_at.false)) (omega (arith, end at_formed_at, c.if-e-l.true)),
    )

pub overflow_add-next : goal.overflow_add-next
overflow_add-next c = omega (arith, c.until-e.ensures.1, c.if-e-l.false)

pub loop-i-preserved : goal.loop-i-preserved
loop-i-preserved c =
    let at_loop_i = (goal.at.loop-i-preserved c).At-loop-i in
    let at_formed_at = (goal.at.loop-i-preserved c).After-formed_at in
    rw (end at_formed_at)
    (out-next (called at_loop_i) (line at_formed_at) c.loop-i.invariant (more at_formed_at)
    (field at_formed_at _ (c.if-not-formed_at.false))
    (omega (arith, end at_formed_at, c.until-e.ensures.1, c.if-e-l.false)))

pub overflow_add-result-2 : goal.overflow_add-result-2
overflow_add-result-2 c = omega (arith, few (goal.at.overflow_add-result-2 c).At-loop-i)

pub overflow_cast-result-2 : goal.overflow_cast-result-2
overflow_cast-result-2 c = omega (arith, few (goal.at.overflow_cast-result-2 c).At-loop-i)

pub returns : goal.returns
returns c =
    let at_loop_i = (goal.at.returns c).At-loop-i in
    let all = formed-all (called at_loop_i) c.args.l.now c.loop-i.invariant
    (omega (arith, count at_loop_i, c.loop-i-test.false)) in
    omega (arith, all)
