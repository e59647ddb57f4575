-- `emit` meets its contract: the text that is asked for is put whole, or refused.
-- the size is that of the text that is asked for
use Prim.Native.Nat.{ℕ, ◌≤◌}
use mathlib.Core.Path.{◌≡◌, sym, ◌∙◌}
use mathlib.Core.List.{List}
use native.Mathlib.Omega.{arith}
use lib.ListN.{length, take, length-take}
use lib.Seq.{take_all, take-take}
use borrow.Author.Tests.{lt-leb, le-leb}
use Rattle.page.proofs.Put.{put-start, put-ends}
use Rattle.page.proofs.emit.Goals.{After-min-size}
use Rattle.page.proofs.emit.Goals as goal

abbrev asked : After-min-size → List ℕ
asked c = let a = c.args in take a.n a.text.now

sized : (c : After-min-size) → length (asked c) ≡ c.min-size.result
sized c = let a = c.args in length-take a.n a.text.now ∙ sym c.min-size.ensures

pub returns-then-buf-size : goal.returns-then-buf-size
returns-then-buf-size c =
    let at_lesser_size = (goal.at.returns-then-buf-size c).After-min-size in
    let t =
    lt-leb (length (asked at_lesser_size)) (length c.args.buf.now) (omega (arith, sized at_lesser_size)) in
    (simp t, simp t)

pub slice_bounds-put_whole-end : goal.slice_bounds-put_whole-end
slice_bounds-put_whole-end c = simp length-take (omega (arith, c.min-size.ensures))

pub put_whole-requires : goal.put_whole-requires
put_whole-requires c = simp length-take (omega (arith, c.min-size.ensures))

pub returns : goal.returns
returns c =
    let at_lesser_size = (goal.at.returns c).After-min-size in
    let a = c.args in
    let all : take c.min-size.result a.text.now ≡ asked at_lesser_size =
    sym (take-take c.min-size.result a.n a.text.now (omega (arith, c.min-size.ensures)))
    ∙ take_all c.min-size.result (asked at_lesser_size) (omega (arith, sized at_lesser_size)) in
    let room : length (asked at_lesser_size) ≤ length a.buf.now = omega (arith, sized at_lesser_size) in
    let p = rw all at c.put_whole.ensures in
    (simp (put-ends p room, le-leb _ _ room), simp (le-leb _ _ room) (put-start p room))
