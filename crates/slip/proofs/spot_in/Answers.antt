-- `spot_in`: where the line is ended and was called for, by that line.
use Prim.Native.Nat.{◌<◌}
use mathlib.Core.Path.{◌≡◌}
use mathlib.Core.Bool.{true}
use native.Mathlib.Omega.{arith}
use lib.Dec.{ltb}
use lib.ListN.{length}
use borrow.Author.Tests.{lt-ltb, le-ltb}
use Rattle.slip.specs.Slip.{spot_in}
use Rattle.slip.proofs.spot_in.Goals.{Else-line-s, Start}
use Rattle.slip.proofs.spot_in.Goals as goal

-- it is ended
module _ (c : Else-line-s) where
  abbrev start : Start
  start = (goal.at.Else-line-s c).Start

  ended : start.args.line.to < length start.args.s.now
  ended = omega (arith, start.requires.1, c.if-line-s.false)

  ends : ltb start.args.line.to (length start.args.s.now) ≡ true
  ends = lt-ltb _ _ ended

pub returns-then-line-s : goal.returns-then-line-s
unfolding spot_in
returns-then-line-s c =
    let a = c.args in
    rw (le-ltb a.line.to (length a.s.now) (omega (arith, c.if-line-s.true))) c.ranged.ensures

pub line_spot-requires : goal.line_spot-requires
line_spot-requires c = (c.requires.0, ended (goal.at.line_spot-requires c).Else-line-s)

pub returns-in-None : goal.returns-in-None
unfolding spot_in
returns-in-None c =
    rw (ends (goal.at.returns-in-None c).Else-line-s, c.in-None.is) c.ranged-in-None.ensures

pub returns-in-Some : goal.returns-in-Some
unfolding spot_in
returns-in-Some c =
    rw (ends (goal.at.returns-in-Some c).Else-line-s, c.in-Some.is) c.line_spot.ensures
