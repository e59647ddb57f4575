-- `put_bytes` meets its contract: all of it is put, or what fills the room.
use Prim.Native.Nat.{◌-◌}
use native.Mathlib.Omega.{arith}
use lib.ListN.{length, length-take}
use Rattle.page.proofs.Put.{put-clipped, put_full}
use Rattle.page.proofs.put_bytes.Goals as goal

pub returns-then-s-room : goal.returns-then-s-room
returns-then-s-room c =
    put-clipped c.args.at c.min-start.ensures c.put_whole.ensures

pub slice_bounds-put_whole-end : goal.slice_bounds-put_whole-end
slice_bounds-put_whole-end c = simp length-take (omega arith)

pub put_whole-requires-2 : goal.put_whole-requires-2
put_whole-requires-2 c = simp length-take (omega (arith, c.min-start.ensures))

pub returns : goal.returns
returns c =
    let a = c.args in
    let room = length a.buf.now - c.min-start.result in
    put-clipped a.at c.min-start.ensures
    (put_full room a.s.now
    (omega (arith, c.put_whole-2.ensures.end, c.min-start.ensures, length-take room a.s.now))
    c.put_whole-2.ensures)
