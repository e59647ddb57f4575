-- `keep::kept` meets its contract: one law for each way.
use mathlib.Core.Path.{sym, ◌∙◌}
use Rattle.plain.proofs.Keeping.{kept-first, kept-later, kept-earlier}
use Rattle.plain.proofs.keep.kept.Goals.{then-e-eq0-via-then-e-eq0, then-e-eq0-via-else-e-eq0+then-further}
use Rattle.plain.proofs.keep.kept.Goals as goal

pub returns-then-e-eq0 : goal.returns-then-e-eq0
returns-then-e-eq0 c v n ks b is chosen h =
    let s = c.args in
    elim c.then-e-eq0.branch [
      | then-e-eq0-via-then-e-eq0 w ↦
          kept-first s.side n s.e s.total v s.wind s.internal ks s.choice c.requires is chosen w.if-e-eq0.true b h
      | then-e-eq0-via-else-e-eq0+then-further w ↦
          kept-later s.side n s.e s.total v s.wind s.internal ks s.choice c.requires is chosen w.if-e-eq0.false
          (sym w.further.ensures ∙ w.if-further.true) b h
    ]

pub returns : goal.returns
returns c v n ks b is chosen h =
    let s = c.args in
    kept-earlier s.side n s.e s.total v s.wind s.internal ks s.choice c.requires is chosen c.if-e-eq0.false
    (sym c.further.ensures ∙ c.if-further.false) b h
