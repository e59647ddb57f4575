-- `line::round_away`: the size is rounded, and the sign put back.
use mathlib.Core.Path.{◌≡◌, sym, ap, ◌∙◌}
use Prim.Native.Nat.{ℕ, ◌≤◌}
use native.Mathlib.Omega.{arith}
use lib.IntN.{pos, nat_abs, ◌-ℤ◌}
use mir.Syntax.{w64}
use Rattle.whole.specs.Round.{half_up}
use Rattle.whole.proofs.Rounding.{round-below, round-above, half_up-le}
use Rattle.whole.proofs.Size.{Num, fit, param, nat, num, num≤, back, lt_yes, lt_no, ◌⊖◌, said}
use Rattle.book.proofs.line.round_away.Goals.{After-half_up-n, After-magnitude}
use Rattle.book.proofs.line.round_away.Goals as goal

size : (c : After-magnitude) → c.magnitude.result ≡ nat_abs c.args.z
size c = said nat_abs c.args.z c.magnitude.ensures c.ranges.z.sfits

rounded : (c : After-half_up-n)
    → c.half_up-n.result ≡ half_up (nat_abs c.args.z) c.args.d
unfolding half_up
rounded c = c.half_up-n.ensures ∙ ap (λ (n : ℕ). half_up n c.args.d) (size (goal.at.After-half_up-n c).After-magnitude)

most : (c : After-half_up-n) → c.half_up-n.result ≤ 10000000000000
most c =
    let a = c.args in
    omega (arith, rounded c, half_up-le (nat_abs a.z) a.d (omega arith))

abbrev it : After-half_up-n → Num
it c = nat w64 {n = c.half_up-n.result} 10000000000000 (most c) tt

abbrev minus-it : After-half_up-n → Num
minus-it c = num (pos 0) ⊖ it c

pub half_up-n-requires : goal.half_up-n-requires
half_up-n-requires c = (omega (arith, size c), omega arith, omega arith)

pub overflow_cast-n : goal.overflow_cast-n
overflow_cast-n c = fit (num≤ (pos c.half_up-n.result) (most c)) tt

pub overflow_sub-result : goal.overflow_sub-result
overflow_sub-result c = fit (minus-it (goal.at.overflow_sub-result c).After-half_up-n) tt

pub returns-then-z-lt0 : goal.returns-then-z-lt0
returns-then-z-lt0 c =
    let at_half_up_n = (goal.at.returns-then-z-lt0 c).After-half_up-n in
    (back w64 (minus-it at_half_up_n) tt).same
    ∙ ap (λ (n : ℕ). pos 0 -ℤ pos n) (rounded at_half_up_n)
    ∙ sym (round-below c.args.z c.args.d (lt_yes (param c.ranges.z) (num (pos 0)) c.if-z-lt0.true))

pub returns : goal.returns
returns c =
    let at_half_up_n = (goal.at.returns c).After-half_up-n in
    (it at_half_up_n).same
    ∙ ap pos (rounded at_half_up_n)
    ∙ sym (round-above c.args.z c.args.d (lt_no (param c.ranges.z) (num (pos 0)) c.if-z-lt0.false))
