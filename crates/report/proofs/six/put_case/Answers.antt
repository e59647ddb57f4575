-- `put_case` meets its contract: wind, internal coefficient and alternatives, one after the other.
use Prim.Native.Nat.{suc}
use native.Mathlib.Omega.{arith}
use lib.ListN.{length-take}
use Rattle.page.proofs.Put.{put-length, then}
use Rattle.report.proofs.Lines.{spaced-case}
use Rattle.report.proofs.six.put_case.Goals as goal

pub put_digit-winded-requires : goal.put_digit-winded-requires
put_digit-winded-requires c = (c.requires.0 0, omega (arith, c.requires.2))

pub put_digit-inside-requires : goal.put_digit-inside-requires
put_digit-inside-requires c =
    let e = c.put_digit-winded.ensures in
    (c.requires.0 1, omega (arith, c.requires.2, e.1, put-length e.0))

pub put_numbers-cased-requires : goal.put_numbers-cased-requires
put_numbers-cased-requires c =
    let d = c.put_digit-winded.ensures in
    let e = c.put_digit-inside.ensures in
    let a = c.args.e.now in (
      λ k. c.requires.0 (suc (suc k)),
      omega (
        arith,
        c.requires.2,
        c.requires.1,
        d.1,
        e.1,
        put-length d.0,
        put-length e.0,
        length-take a.faces a.alternative,
      ),
    )

pub returns : goal.returns
returns c =
    rw spaced-case
    (then
    (then (then c.put_digit-winded.ensures.0 c.put_digit-inside.ensures.0) c.put_numbers-cased.ensures.0)
    c.put_byte.ensures)
