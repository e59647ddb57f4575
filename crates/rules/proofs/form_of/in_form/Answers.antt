-- `in_form` meets its contract: what is left is in form exactly if the whole line is.
use Prim.Native.Nat.{suc}
use mathlib.Core.Path.{◌≡◌, sym, ap, ap₂, ◌∙◌}
use mathlib.Core.Bool.{Bool, true, false, ◌&&◌}
use native.Mathlib.Omega.{arith}
use native.Mathlib.Numerals.{add-one}
use lib.ListN.{length, drop, drop_of_length-le}
use Rattle.lines.specs.Held.{held}
use Rattle.rules.specs.Form.{has_form, in_form}
use Rattle.rules.specs.Sections.{forms}
use Rattle.rules.proofs.Form.{uneven-out, form-on}
use Rattle.rules.proofs.form_of.in_form.Goals.{After-has_form, At-loop-i, Else-held_count-n, Start}
use Rattle.rules.proofs.form_of.in_form.Goals as goal

-- as many fields as forms
module _ (c : Else-held_count-n) where
  abbrev start : Start
  start = (goal.at.Else-held_count-n c).Start

  forms-there : c.count_of-n.result ≡ length (forms start.args.heights start.args.k)
  forms-there = c.count_of-n.ensures

  fields-there : c.count_of-n.result ≡ length (held start.args.x)
  fields-there = sym c.if-held_count-n.false ∙ c.held_count.ensures

-- field i
module _ (c : After-has_form) where
  abbrev loop : At-loop-i
  loop = (goal.at.After-has_form c).At-loop-i

  abbrev args : Start
  args = (goal.at.At-loop-i loop).Start

  -- the fields behind it
  abbrev rest : Bool
  rest =
      in_form (drop (suc loop.loop-i.i) (forms args.args.heights args.args.k))
      (drop (suc loop.loop-i.i) (held args.args.x))

  on : (t : Bool) → c.has_form.result ≡ t
      → in_form (forms args.args.heights args.args.k) (held args.args.x) ≡ t && rest
  on t e =
      let a = args.args in
      sym loop.loop-i.invariant
      ∙ form-on (forms a.heights a.k) (held a.x) loop.loop-i.i
      (omega (arith, forms-there (goal.at.At-loop-i loop).Else-held_count-n))
      (omega (arith, fields-there (goal.at.At-loop-i loop).Else-held_count-n))
      ∙ ap (λ (t : Bool). t && rest)
      (sym (c.has_form.ensures
      ∙ ap₂ has_form (c.form_at.ensures a.heights) c.field_at.ensures) ∙ e)

pub returns-then-held_count-n : goal.returns-then-held_count-n
returns-then-held_count-n c =
    let a = c.args in
    sym
    (uneven-out (forms a.heights a.k) (held a.x)
    (λ e. c.if-held_count-n.true (c.held_count.ensures ∙ e ∙ sym c.count_of-n.ensures)))

pub returns-then-not-has_form : goal.returns-then-not-has_form
returns-then-not-has_form c = sym (on (goal.at.returns-then-not-has_form c).After-has_form false
    (c.if-not-has_form.true))

pub loop-i-preserved : goal.loop-i-preserved
loop-i-preserved c =
    rw add-one (sym (on (goal.at.loop-i-preserved c).After-has_form true c.if-not-has_form.false))

pub returns : goal.returns
unfolding in_form
returns c =
    let at_held_count_n = (goal.at.returns c).Else-held_count-n in
    let a = c.args in
    let i = c.loop-i.i in
    let no-form = drop_of_length-le (forms a.heights a.k) {i = i} (omega (arith, forms-there at_held_count_n)) in
    let no_field = drop_of_length-le (held a.x) {i = i} (omega (arith, fields-there at_held_count_n)) in
    sym (sym c.loop-i.invariant ∙ rw (no-form, no_field))
