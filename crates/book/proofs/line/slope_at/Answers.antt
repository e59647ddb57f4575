-- `line::slope_at`: what is rounded is a natural number, and counted from 0 again it is the value.
-- a row's hundredths, counted from -250, and their part of the way
use mathlib.Core.Path.{◌≡◌, sym, ap, ap₂, ◌∙◌, subst}
use Prim.Native.Nat.{ℕ, ◌+◌, ◌-◌, ◌*◌, ◌≤◌}
use native.Mathlib.Nat.{mul-le-mul}
use native.Mathlib.Omega.{arith}
use lib.IntN.{ℤ, pos, nat_abs, ◌+ℤ◌, ◌-ℤ◌}
use mir.Syntax.{w16, w32}
use mir.Val.{SFits, to_z, of_z}
use mir.Facts.{to_z-of_z}
use Rattle.whole.specs.Round.{half_up}
use Rattle.whole.proofs.Size.{Num, fit, nat, num, num≤, back, ◌⊖◌}
use Rattle.book.specs.Line.{on_straight}
use Rattle.book.proofs.Between.{line_small}
use Rattle.book.proofs.Raised.{raised_line, raised-most, lowered-most, raised-rounds}
use Rattle.book.proofs.line.slope_at.Goals.{After-half_up, After-raised, After-raised-2, Start}
use Rattle.book.proofs.line.slope_at.Goals as goal

module _ {n : ℕ} (z : ℤ) (f : SFits w16 z) (small : nat_abs z ≤ 250)
    (e : n ≡ nat_abs (to_z w16 (of_z w16 z) +ℤ pos 250)) where
  counted : n ≡ nat_abs (z +ℤ pos 250)
  counted = e ∙ ap (λ (z : ℤ). nat_abs (z +ℤ pos 250)) (to_z-of_z f)

  few : (m : ℕ) → m ≤ 100000000 → n * m ≤ 500 * 100000000
  few m h = mul-le-mul (subst (λ (n : ℕ). n ≤ 500) (sym counted) (raised-most z 250 small)) h

left : (c : After-raised) → let a = c.args in c.raised.result * (a.whole - a.part) ≤ 500 * 100000000
left c =
    few c.args.v c.ranges.v c.requires.v_bound.0 c.raised.ensures _ (omega arith)

right : (c : After-raised-2) → c.raised-2.result * c.args.part ≤ 500 * 100000000
right c =
    few c.args.w c.ranges.w c.requires.v_bound.1 c.raised-2.ensures _ (omega arith)

-- the value, and so how large the quotient is
module _ (c : After-half_up) where
  abbrev start : Start
  start = (goal.at.After-half_up c).Start

  abbrev value : ℤ
  value = let a = start.args in on_straight a.v a.w a.part a.whole

  rounded : let a = start.args in
      c.half_up.result ≡ half_up (raised_line 250 a.v a.w a.part a.whole) a.whole
  unfolding half_up
  rounded =
      let a = start.args in
      c.half_up.ensures
      ∙ ap₂ (λ (m n : ℕ). half_up ((m * (a.whole - a.part) + n * a.part) * 10) a.whole)
      (counted a.v start.ranges.v start.requires.v_bound.0 c.raised.ensures)
      (counted a.w start.ranges.w start.requires.v_bound.1 c.raised-2.ensures)

  is-value : pos c.half_up.result -ℤ pos 2500 ≡ value
  is-value =
      let start = start in
      let a = start.args in
      let p = start.requires.v_bound in
      ap (λ (n : ℕ). pos n -ℤ pos 2500) rounded
      ∙ sym (raised-rounds 250 a.v a.w p.0 p.1 a.part a.whole p.2 p.3 start.requires.no_half)

  most : c.half_up.result ≤ 5000
  most =
      let a = start.args in
      let p = start.requires.v_bound in
      lowered-most c.half_up.result 2500
      (subst (λ (z : ℤ). nat_abs z ≤ 2500) (sym is-value)
      (line_small a.v a.w a.part a.whole p.2 p.3 250 p.0 p.1))

  abbrev lowered : Num
  lowered = nat w32 {n = c.half_up.result} 5000 most tt ⊖ num (pos 2500)

pub overflow_mul-n : goal.overflow_mul-n
overflow_mul-n c = omega (arith, left c)

pub overflow_mul-n-2 : goal.overflow_mul-n-2
overflow_mul-n-2 c = omega (arith, right c)

pub overflow_add-n : goal.overflow_add-n
overflow_add-n c = omega (arith, left (goal.at.overflow_add-n c).After-raised, right c)

pub overflow_mul-n-3 : goal.overflow_mul-n-3
overflow_mul-n-3 c = omega (arith, left (goal.at.overflow_mul-n-3 c).After-raised, right c)

pub half_up-requires : goal.half_up-requires
half_up-requires c = (omega (arith, left (goal.at.half_up-requires c).After-raised, right c), omega arith, omega arith)

pub overflow_cast-result : goal.overflow_cast-result
overflow_cast-result c = fit (num≤ (pos c.half_up.result) (most c)) tt

pub overflow_sub-result : goal.overflow_sub-result
overflow_sub-result c = fit (lowered c) tt

pub returns : goal.returns
returns c = (back w32 (lowered c) tt).same ∙ is-value c
