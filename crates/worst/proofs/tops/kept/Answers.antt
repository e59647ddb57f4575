-- `tops::kept` meets its contract: one law for each way to each return.
use mathlib.Core.Path.{sym, ◌∙◌}
use Rattle.worst.proofs.Kept.{kept-first, kept-later, kept-earlier}
use Rattle.worst.proofs.tops.kept.Goals.{then-top-eq0-via-then-top-eq0, then-top-eq0-via-else-top-eq0+then-falls_short}
use Rattle.worst.proofs.tops.kept.Goals as goal

pub returns-then-top-eq0 : goal.returns-then-top-eq0
returns-then-top-eq0 g c =
    let s = c.args in
    let n = g.T.Compared.number in (
      elim c.then-top-eq0.branch [
        | then-top-eq0-via-then-top-eq0 w ↦
            kept-first s.side (n s.top.total) s.top.wind s.top.internal (n s.total) s.wind s.internal c.requires.0
            w.if-top-eq0.true
        | then-top-eq0-via-else-top-eq0+then-falls_short w ↦
            kept-later s.side (n s.top.total) s.top.wind s.top.internal (n s.total) s.wind s.internal c.requires.0
            w.if-top-eq0.false (sym w.falls_short.ensures ∙ w.if-falls_short.true)
      ],
      c.requires.2,
    )

pub returns : goal.returns
returns g c =
    let s = c.args in
    let n = g.T.Compared.number in (
      kept-earlier s.side (n s.top.total) s.top.wind s.top.internal (n s.total) s.wind s.internal
          c.if-top-eq0.false (sym c.falls_short.ensures ∙ c.if-falls_short.false),
      c.requires.1,
    )
