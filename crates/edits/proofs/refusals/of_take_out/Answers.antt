-- `refusals::of_take_out`: one check after the other.
use mathlib.Core.Path.{sym, ap, ap₂, ◌∙◌}
use lib.IntN.{ℤ}
use Rattle.whole.proofs.Size.{said}
use Rattle.verdict.specs.declared.Verdict.{Verdict}
use Rattle.verdict.specs.Verdict.{accepted, ◌or_then◌}
use Rattle.edits.specs.Edits.{no_such_face, edit_verdict}
use Rattle.edits.proofs.Checks.{held-refused, held-passed}
use Rattle.edits.proofs.refusals.of_take_out.Goals as goal

pub returns-then-held-ne0 : goal.returns-then-held-ne0
unfolding edit_verdict
returns-then-held-ne0 c = held-refused c.args.j _ c.judge-held.ensures c.if-held-ne0.true

pub returns : goal.returns
unfolding edit_verdict
returns c =
    let none =
    said (λ (k : ℤ). no_such_face k c.args.j) c.args.k c.no_such_face-none.ensures c.ranges.k.sfits in
    c.or_then-2.ensures
    ∙ ap₂ ◌or_then◌ none (c.or_then.ensures ∙ ap (λ (w : Verdict). w or_then accepted) c.only_face-only.ensures)
    ∙ sym (held-passed c.args.j _ c.judge-held.ensures c.if-held-ne0.false)
