-- `roofs::part_of`: by the definition's own tests.
use mathlib.Core.Path.{◌≡◌}
use Prim.Native.Nat.{◌+◌, ◌<◌}
use native.Mathlib.Omega.{arith}
use lib.Dec.{eqb}
use borrow.Author.Tests.{eq-eqb, ne_eqb, eqb-true, eqb-false}
use Rattle.whole.proofs.Tests.{by-test}
use Rattle.building.specs.declared.Sizes.{Sizes}
use Rattle.building.specs.Order.{SizesInOrder}
use Rattle.book.specs.Gable.{block_of}
use Rattle.book.specs.Roofs.{part_of}
use Rattle.book.proofs.Coded.{part, gable-among, flat-among}
use Rattle.book.proofs.Rows.{block_of-most}
use Rattle.book.proofs.roofs.part_of.Goals as goal

-- a flat roof's, or that of single slopes, which is the last
by_kind : (s : Sizes) → SizesInOrder s → 0 < s.kind → (s.kind ≡ 1 → ⊥) → part (s.kind + 1) ≡ part_of s
by_kind s o some one =
    let most = o.ranged.kind-most in
    by-test (eqb s.kind 6)
    (λ e. rw (ne_eqb s.kind 1 one, e, eqb-true s.kind 6 e))
    (λ e. let six = eqb-false s.kind 6 e in
    rw (ne_eqb s.kind 1 one, e) (flat-among s.kind (omega arith) (omega arith)))

pub returns-then-s-eq1 : goal.returns-then-s-eq1
returns-then-s-eq1 c =
    let z = c.args.s in
    let most = block_of-most z.h z.b c.requires.sizes_in_order.h-over-b in
    let gable = eq-eqb z.kind 1 c.if-s-eq1.true in
    rw (gable, c.block_of.ensures) (omega arith, gable-among (block_of z.h z.b) (omega arith))

pub returns : goal.returns
returns c =
    let z = c.args.s in
    let most = c.requires.sizes_in_order.ranged.kind-most in
    (omega arith, by_kind z c.requires.sizes_in_order c.requires.kind_nonzero c.if-s-eq1.false)
