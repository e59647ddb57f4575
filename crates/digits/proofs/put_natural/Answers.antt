-- `put_natural` meets its contract: what stands in 20 bytes whole is put.
use native.Mathlib.Omega.{arith}
use lib.ListN.{length, length-take}
use Prim.Native.Nat.{◌≤◌}
use Rattle.page.proofs.Put.{put-length, put_whole}
use Rattle.whole.specs.Digits.{digits}
use Rattle.whole.proofs.Digits.{digits-small, digits-length}
use Rattle.digits.proofs.put_natural.Goals as goal

pub returns-then-n-lt10 : goal.returns-then-n-lt10
returns-then-n-lt10 c =
    rw (digits-small c.args.n c.if-n-lt10.true) c.put_byte.ensures

pub slice_bounds-text-end : goal.slice_bounds-text-end
slice_bounds-text-end c =
    let g = c.put_long-end.ensures in omega (arith, g.end, put-length g)

pub slice_bounds-put_bytes-end : goal.slice_bounds-put_bytes-end
slice_bounds-put_bytes-end c =
    let g = c.put_long-end.ensures in simp length-take (omega (arith, g.end, put-length g))

pub returns : goal.returns
returns c =
    let short : length (digits c.args.n) ≤ 20 =
    digits-length 19 c.args.n (omega (arith, c.ranges.n.fits)) in
    rw (put_whole c.put_long-end.ensures short) at c.put_bytes.ensures
