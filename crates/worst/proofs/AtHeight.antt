-- The factor at a height, and a wind's speed there: what the walk up a profile finds, and that a speed is raised by no
-- factor and lowered by none that is 1.
use mathlib.Core.Path.{◌≡◌, sym, ap, ◌∙◌}
use mathlib.Core.Bool.{true, false}
use mathlib.Core.List.{List, [], ◌∷◌}
use Prim.Native.Nat.{ℕ, suc, ◌+◌, ◌*◌, ◌≤◌, ◌<◌}
use native.Mathlib.Nat.{mul-le-mul_left, mul-le-mul_right}
use native.Mathlib.Omega.{arith}
use lib.IntN.{ℤ, pos, nat_abs}
use lib.Signed.{le_z, ◌≤ℤ◌, yes_non_neg, pos-nat_abs}
use lib.ListN.{get_or, drop, drop_of_length-le}
use lib.Seq.{drop-cons}
use Rattle.whole.specs.Lists.{first_of}
use Rattle.whole.specs.Round.{half_up}
use Rattle.whole.proofs.Lists.{first_of-length, first_of-get_d}
use Rattle.whole.proofs.Size.{nat_abs_mul}
use Rattle.whole.proofs.Rounding.{half_up-mono, half_up-exact}
use Rattle.entry.specs.declared.Step.{Step}
use Rattle.job.specs.Carried.{no_step}
use Rattle.worst.specs.declared.speeds.Factor.{Factor}
use Rattle.worst.specs.Speed.{step_factor, factor_between, factor_at, speed_at}
use Rattle.worst.specs.Factors.{Fraction}

-- ---- the walk, from place i on, above line `lower`

module _ (n : ℕ) (entry : List Step) (h : ℤ) where
  abbrev steps : List Step
  steps = first_of no_step n entry

  abbrev pub walked : ℕ → Step → Factor
  walked i lower = factor_at (lower ∷ drop i steps) h

  here : (i : ℕ) → i < n → drop i steps ≡ get_or entry i no_step ∷ drop (i + 1) steps
  here i t =
      let more : suc i ≡ i + 1 = omega arith in
      drop-cons steps i no_step (omega (arith, first_of-length no_step n entry))
      ∙ (λ j. first_of-get_d no_step n i entry t j ∷ drop (more j) steps)

  pub walk_begins : 0 < n → factor_at steps h ≡ walked 1 (get_or entry 0 no_step)
  walk_begins t = ap (λ l. factor_at l h) (here 0 t)

  pub walk_ends : (i : ℕ) (lower : Step) → n ≤ i → step_factor lower ≡ walked i lower
  unfolding factor_at
  walk_ends i lower t =
      let none : drop i steps ≡ [] = drop_of_length-le steps {i = i} (omega (arith, first_of-length no_step n entry)) in
      sym (ap (λ l. factor_at (lower ∷ l) h) none)

  module _ (i : ℕ) (lower : Step) (t : i < n) where
    abbrev upper : Step
    upper = get_or entry i no_step

    pub walk-stops : le_z h upper.height ≡ true → factor_between lower upper h ≡ walked i lower
    unfolding factor_at
    walk-stops e = sym (ap (λ l. factor_at (lower ∷ l) h) (here i t) ∙ rw e)

    pub walk-goes-on : le_z h upper.height ≡ false → walked i lower ≡ walked (i + 1) upper
    unfolding factor_at
    walk-goes-on e = ap (λ l. factor_at (lower ∷ l) h) (here i t) ∙ rw e

-- ---- the speed at a factor

module _ (k : Factor) (v : ℤ) where
  pub speed-is : speed_at k v ≡ pos (half_up (nat_abs v * nat_abs k.part) (nat_abs k.whole))
  unfolding speed_at
  speed-is = ap (λ (n : ℕ). pos (half_up n (nat_abs k.whole))) (nat_abs_mul v k.part)

  size_is : nat_abs (speed_at k v) ≡ half_up (nat_abs v * nat_abs k.part) (nat_abs k.whole)
  size_is = ap nat_abs speed-is

  -- a factor of 1 leaves it as it is
  pub speed-stays : pos 0 ≤ℤ v → 0 < nat_abs k.whole → k.part ≡ k.whole → speed_at k v ≡ v
  speed-stays h some e =
      speed-is
      ∙ ap (λ (z : ℤ). pos (half_up (nat_abs v * nat_abs z) (nat_abs k.whole))) e
      ∙ ap pos (half_up-exact (nat_abs v) (nat_abs k.whole) some)
      ∙ pos-nat_abs v (yes_non_neg h)

  -- and none makes it larger
  pub speed-no-larger : Fraction k → nat_abs (speed_at k v) ≤ nat_abs v
  speed-no-larger f =
      let n = nat_abs k.whole in
      let most =
      half_up-mono n {m = nat_abs v * nat_abs k.part} {n = nat_abs v * n} (mul-le-mul_left (nat_abs v) f.within) in
      omega (arith, size_is, half_up-exact (nat_abs v) n f.some)

-- at one factor a faster wind is no slower
pub speed-rises : (k : Factor) (v w : ℤ) → nat_abs v ≤ nat_abs w → nat_abs (speed_at k v) ≤ nat_abs (speed_at k w)
speed-rises k v w h =
    let d = nat_abs k.part in
    let risen = half_up-mono (nat_abs k.whole) {m = nat_abs v * d} {n = nat_abs w * d} (mul-le-mul_right d h) in
    omega (arith, size_is k v, size_is k w)
