-- `number_at` meets its contract: an i64 has room for seven digits on either side of zero.
use Prim.Native.Nat.{ℕ, ◌≤◌}
use mathlib.Core.Path.{◌∙◌}
use native.Mathlib.Omega.{arith}
use lib.IntN.{pos, neg_ℤ, +ℤ_idl}
use mir.Syntax.{w64}
use Rattle.whole.proofs.Size.{Num, nat, num, ◌⊖◌, back}
use Rattle.sheet.proofs.Plain.{minus-stands, plain-stands}
use Rattle.sheet.proofs.plainly.number_at.Goals as goal

abbrev short : (n : ℕ) → n ≤ 9999999 → Num
short n h = nat w64 9999999 h tt

abbrev below : (n : ℕ) → n ≤ 9999999 → Num
below n h = num (pos 0) ⊖ short n h

pub returns-then-s-at-ne45 : goal.returns-then-s-at-ne45
returns-then-s-at-ne45 c =
    let d = c.in_ok-d.d in
    let e = c.in_ok-d.ensures in
    rw (short d.n (omega (arith, e.0))).same (plain-stands c.args.s.now c.args.at d.n c.args.x d.end e.0 e.1)

pub returns : goal.returns
returns c =
    let d = c.in_ok-d-2.d in
    let e = c.in_ok-d-2.ensures in
    rw ((back w64 (below d.n (omega (arith, e.0))) tt).same ∙ +ℤ_idl (neg_ℤ (pos d.n)))
    (minus-stands c.args.s.now c.args.at d.n c.args.x d.end c.requires.1 c.if-s-at-ne45.false c.if-d-eq0.false e.0
    e.1)
