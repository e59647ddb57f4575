-- `amounts::plus` meets its contract: each number is built as the code builds it.
use mir.Syntax.{w64}
use lib.IntN.{negsuc}
use Rattle.whole.proofs.Size.{Num, num, num≤, back, fit, lt_yes, lt_no, ◌⊕◌, ◌⊖◌, tight}
use Rattle.worst.proofs.MovedOver.{Grown, moved, moved_units, grown-as, grown-up, grown-down, grown-stay}
use Rattle.worst.proofs.amounts.plus.Goals.{Start, After-struct_told-then-units-1}
use Rattle.worst.proofs.amounts.plus.Goals.{After-struct_told-then-units-gt-MOVED_UNITS-1}
use Rattle.worst.proofs.amounts.plus.Goals as goal

module _ (s : Start) where
  abbrev newtons : Num
  newtons = back w64 (num≤ s.args.a.newtons s.requires.0.newtons) tt

  abbrev total : Num
  total = back w64 (num≤ s.args.a.units s.requires.0.units) tt ⊕ back w64 (num≤ s.args.part s.requires.1) tt

  abbrev units : Num
  units = back w64 total tt

abbrev least : Num
least = num (negsuc 4399999999999999999)

-- more than what moves over
module _ (c : After-struct_told-then-units-gt-MOVED_UNITS-1) where
  abbrev above : Start
  above = (goal.at.After-struct_told-then-units-gt-MOVED_UNITS-1 c).Start

  abbrev rises : Num
  rises = newtons above ⊕ num moved

  grown : Grown above.args.a above.args.part rises.is (units above ⊖ num moved_units).is
  grown =
      grown-up above.args.a above.args.part above.requires.1
      (lt_yes (num moved_units) (units above) c.if-units-gt-MOVED_UNITS.true)

  abbrev remains : Num
  remains = tight (units above ⊖ num moved_units) 4400000000000000000 (grown.1 239 above.requires.0).units

-- or as much below zero
module _ (c : After-struct_told-then-units-1) where
  abbrev below : Start
  below = (goal.at.After-struct_told-then-units-1 c).Start

  abbrev falls : Num
  falls = newtons below ⊖ num moved

  shrunk : Grown below.args.a below.args.part falls.is (units below ⊕ num moved_units).is
  shrunk =
      grown-down below.args.a below.args.part below.requires.1
      (lt_yes (units below) least c.if-units.true)

  abbrev left : Num
  left = tight (units below ⊕ num moved_units) 4400000000000000000 (shrunk.1 239 below.requires.0).units

pub overflow_add-units : goal.overflow_add-units
overflow_add-units c = fit {w = w64} (total (goal.at.overflow_add-units c).Start) tt

pub overflow_add-result : goal.overflow_add-result
overflow_add-result c = fit {w = w64} (rises c) tt

pub overflow_sub-result : goal.overflow_sub-result
overflow_sub-result c = fit {w = w64} (remains c) tt

pub returns-then-units-gt-MOVED_UNITS : goal.returns-then-units-gt-MOVED_UNITS
returns-then-units-gt-MOVED_UNITS c =
    grown-as c.args.a c.args.part (back w64 (rises c) tt) (back w64 (remains c) tt) (grown c)

pub overflow_sub-result-then-units : goal.overflow_sub-result-then-units
overflow_sub-result-then-units c = fit {w = w64} (falls c) tt

pub overflow_add-result-then-units : goal.overflow_add-result-then-units
overflow_add-result-then-units c = fit {w = w64} (left c) tt

pub returns-then-units : goal.returns-then-units
returns-then-units c =
    grown-as c.args.a c.args.part (back w64 (falls c) tt) (back w64 (left c) tt) (shrunk c)

pub returns : goal.returns
returns c =
    let at_start = (goal.at.returns c).Start in
    let a = c.args.a in
    let f = c.args.part in
    grown-as a f (newtons at_start) (units at_start)
    (grown-stay a f (lt_no (num moved_units) (units at_start) c.if-units-gt-MOVED_UNITS.false)
    (lt_no (units at_start) least c.if-units.false))
