-- `line::line_at`: the sum of the two parts fits, and what is rounded lies between the rows and so fits the narrower
-- type.
-- what the code makes, step by step
use mathlib.Core.Path.{◌≡◌, sym, ap, ◌∙◌, subst}
use Prim.Native.Nat.{◌≤◌}
use native.Mathlib.Omega.{arith}
use lib.IntN.{ℤ, pos, nat_abs}
use mir.Syntax.{w16, w32, w64}
use Rattle.whole.specs.Round.{round_away}
use Rattle.whole.proofs.Size.{Num, fit, param≤, nat, num, back, bound, ◌⊕◌, ◌⊖◌, ◌⊗◌}
use Rattle.book.specs.Line.{on_straight}
use Rattle.book.proofs.Between.{line_small}
use Rattle.book.proofs.line.line_at.Goals.{After-round_away, Start}
use Rattle.book.proofs.line.line_at.Goals as goal

abbrev from : Start → Num
from c = param≤ {w = w16} {z = c.args.v} {k = 250} c.ranges.v c.requires.0

abbrev to : Start → Num
to c = param≤ {w = w16} {z = c.args.w} {k = 250} c.ranges.w c.requires.1

abbrev left : Start → Num
left c = back w64 (from c) tt ⊗ nat w64 {n = c.args.whole} 100000000 (omega arith) tt

abbrev gap : Start → Num
gap c = back w64 (to c) tt ⊖ back w64 (from c) tt

abbrev right : Start → Num
right c = back w64 (gap c) tt ⊗ nat w64 {n = c.args.part} 100000000 (omega arith) tt

abbrev sum : Start → Num
sum c = back w64 (left c) tt ⊕ back w64 (right c) tt

abbrev tenfold : Start → Num
tenfold c = back w64 (sum c) tt ⊗ num (pos 10)

value : (c : After-round_away)
    → c.round_away.result ≡ on_straight c.args.v c.args.w c.args.part
    c.args.whole
unfolding on_straight
value c =
    c.round_away.ensures
    ∙ ap (λ (z : ℤ). round_away z c.args.whole) (back w64 (tenfold (goal.at.After-round_away c).Start) tt).same

abbrev answer : After-round_away → Num
answer c =
    let a = c.args in
    let p = c.requires in
    param≤ {w = w64} {z = c.round_away.result} {k = 2500} (record { sfits = c.round_away.type_inv })
    (subst (λ (z : ℤ). nat_abs z ≤ 2500) (sym (value c))
    (line_small a.v a.w a.part a.whole p.2 p.3 250 p.0 p.1))

pub overflow_cast-n : goal.overflow_cast-n
overflow_cast-n c = fit (from c) tt

pub overflow_mul-n : goal.overflow_mul-n
overflow_mul-n c = fit (left c) tt

pub overflow_cast-n-3 : goal.overflow_cast-n-3
overflow_cast-n-3 c = fit (to c) tt

pub overflow_cast-n-4 : goal.overflow_cast-n-4
overflow_cast-n-4 c = fit (from c) tt

pub overflow_sub-n : goal.overflow_sub-n
overflow_sub-n c = fit (gap c) tt

pub overflow_mul-n-2 : goal.overflow_mul-n-2
overflow_mul-n-2 c = fit (right c) tt

pub overflow_add-n : goal.overflow_add-n
overflow_add-n c = fit (sum c) tt

pub overflow_mul-n-3 : goal.overflow_mul-n-3
overflow_mul-n-3 c = fit (tenfold c) tt

pub round_away-requires : goal.round_away-requires
round_away-requires c = (omega (arith, bound (back w64 (tenfold c) tt)), omega arith, omega arith)

pub overflow_cast-result : goal.overflow_cast-result
overflow_cast-result c = fit (answer c) tt

pub returns : goal.returns
returns c = (back w32 (answer c) tt).same ∙ value c
