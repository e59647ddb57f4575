-- `end` meets its contract.
use mathlib.Core.Path.{sym, ◌∙◌}
use borrow.Author.Tests.{eq-eqb, ne_eqb}
use Rattle.rose.proofs.Taken.{end-closed, end_whole, end-unended}
use Rattle.rose.proofs.end.Goals as goal

pub returns-then-rose-ne0 : goal.returns-then-rose-ne0
returns-then-rose-ne0 c = sym (end-closed c.args.rose (ne_eqb _ _ c.if-rose-ne0.true))

pub returns-then-has_bytes : goal.returns-then-has_bytes
returns-then-has_bytes c =
    let r = c.args.rose in
    c.unfinished.ensures
    ∙ sym (end-unended r (eq-eqb _ _ c.if-rose-ne0.false) (sym c.has_bytes.ensures ∙ c.if-has_bytes.true))

pub returns : goal.returns
returns c =
    let r = c.args.rose in
    cc (
      end_whole r (eq-eqb _ _ c.if-rose-ne0.false) (sym c.has_bytes.ensures ∙ c.if-has_bytes.false),
      c.no_bytes.ensures,
    )
