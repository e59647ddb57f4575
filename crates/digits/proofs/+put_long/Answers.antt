-- `put_long` meets its contract: the digits of a tenth of n are put, and then the last one.
use mathlib.Core.Path.{refl}
use native.Mathlib.Omega.{arith}
use Prim.Native.Nat.{ℕ, ◌<◌, ◌/◌}
use Rattle.page.proofs.Put.{put-length, then}
use Rattle.whole.proofs.Digits.{digits-small, digits_more, digits-length}
use Rattle.digits.proofs.+put_long.Goals.{After-put_long-end}
use Rattle.digits.proofs.+put_long.Goals as goal

-- a tenth of n has 19 digits at most
short : (t : ℕ) (c : After-put_long-end t) → c.put_long-end.result < 20
short t c =
    omega (arith, c.put_long-end.ensures.end, digits-length 18 (c.args.n / 10) (omega (arith, c.ranges.n.fits)))

pub returns-then-n-lt10 : goal.returns-then-n-lt10
returns-then-n-lt10 t c =
    rw (digits-small c.args.n c.if-n-lt10.true) (record { end = omega (arith, c.requires); bytes = refl })

pub bounds-text-end : goal.bounds-text-end
bounds-text-end t c = short t (goal.at.bounds-text-end t c).After-put_long-end

pub returns : goal.returns
returns t c =
    let g = c.put_long-end.ensures in
    let s = short t (goal.at.returns t c).After-put_long-end in
    rw (digits_more c.args.n c.if-n-lt10.false)
    (then g (record { end = omega (arith, s, put-length g, c.requires); bytes = refl }))
