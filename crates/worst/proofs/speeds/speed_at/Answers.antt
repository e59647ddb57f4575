-- `speeds::speed_at` meets its contract: a factor of 1 leaves the speed as it is, and another is rounded as the
-- definition says.
use mathlib.Core.Path.{◌≡◌, sym, ap, ◌∙◌}
use Prim.Native.Nat.{◌*◌, ◌≤◌}
use native.Mathlib.Omega.{arith}
use lib.IntN.{pos, nat_abs}
use mir.Syntax.{w64}
use mir.Val.{to_z}
use Rattle.whole.specs.Round.{half_up}
use Rattle.whole.proofs.Size.{Num, nat, num≤, back, fit, nat_abs_mul, size, times-small, unsigned}
use Rattle.worst.specs.Speed.{speed_at}
use Rattle.worst.proofs.AtHeight.{speed-is, speed-stays, speed-no-larger}
use Rattle.worst.proofs.speeds.speed_at.Goals.{After-rounded, Start}
use Rattle.worst.proofs.speeds.speed_at.Goals as goal

module _ (a : Start) where
  abbrev speed : Num
  speed = back w64 (num≤ a.args.speed a.requires.2) tt

  abbrev part : Num
  part = back w64 (num≤ a.args.factor.part {k = 30000000} (omega (arith, a.requires.0.within, a.requires.0.small))) tt

  abbrev whole : Num
  whole = back w64 (num≤ a.args.factor.whole a.requires.0.small) tt

module _ (c : After-rounded) where
  abbrev a : Start
  a = (goal.at.After-rounded c).Start

  answered : pos c.rounded.result ≡ speed_at a.args.factor a.args.speed
  unfolding half_up
  answered =
      ap pos c.rounded.ensures
      ∙ (λ j. pos (half_up (size (speed a) j * size (part a) j) (size (whole a) j)))
      ∙ sym (speed-is a.args.factor a.args.speed)

  most : c.rounded.result ≤ 1000
  most = omega (arith, ap nat_abs answered, speed-no-larger a.args.factor a.args.speed a.requires.0, a.requires.2)

pub returns-then-factor : goal.returns-then-factor
returns-then-factor c =
    let at_start = (goal.at.returns-then-factor c).Start in
    (speed at_start).same
    ∙ sym (speed-stays c.args.factor c.args.speed c.requires.1 c.requires.0.some
    (sym (part at_start).same ∙ ap (to_z w64) c.if-factor.true ∙ (whole at_start).same))

pub overflow_cast-speed : goal.overflow_cast-speed
overflow_cast-speed c = unsigned {w = w64} (speed (goal.at.overflow_cast-speed c).Start) c.requires.1 tt

pub overflow_cast-factor : goal.overflow_cast-factor
overflow_cast-factor c = unsigned {w = w64} (part (goal.at.overflow_cast-factor c).Start) c.requires.0.part tt

pub overflow_cast-factor-2 : goal.overflow_cast-factor-2
overflow_cast-factor-2 c = unsigned {w = w64} (whole (goal.at.overflow_cast-factor-2 c).Start) c.requires.0.whole tt

pub rounded-requires : goal.rounded-requires
rounded-requires c =
    let at_start = (goal.at.rounded-requires c).Start in
    let f = c.requires.0 in
    let product =
    times-small c.args.speed c.args.factor.part {k = 1000} {l = 30000000} c.requires.2
    (omega (arith, f.within, f.small)) in
    let sizes = nat_abs_mul c.args.speed c.args.factor.part in
    rw (size (speed at_start), size (part at_start), size (whole at_start))
    (omega (arith, product, sizes), f.some, omega (arith, f.small))

pub overflow_cast-result : goal.overflow_cast-result
overflow_cast-result c = fit {w = w64} (num≤ (pos c.rounded.result) (most c)) tt

pub returns : goal.returns
returns c = (nat w64 {n = c.rounded.result} 1000 (most c) tt).same ∙ answered c
