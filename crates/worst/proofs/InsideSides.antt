-- The cells of one wind at the internal coefficients: the furthest is that of the least or of the greatest of them, by
-- the sign of the weight.
use mathlib.Core.Path.{◌≡◌, refl, sym, ap, ◌∙◌}
use mathlib.Core.Bool.{Bool, true, false, cond}
use Prim.Native.Nat.{ℕ, zero, suc, ◌+◌}
use native.Mathlib.Nat.{mul-le-mul_right}
use native.Mathlib.Omega.{arith}
use lib.IntN.{ℤ, pos, negsuc, neg_ℤ, ◌-ℤ◌, ◌*ℤ◌, *ℤ-zero, zero-*ℤ}
use lib.Signed.{lt_z, ◌<ℤ◌, ◌≤ℤ◌}
use Rattle.whole.specs.Lists.{numbers}
use Rattle.whole.proofs.Parts.{lt_at, lt_by, le-at, le-by, up_neg, down-neg, sub-lawℤ, up-scale, down-scale}
use Rattle.whole.proofs.Order.{lt-true, lt-false, true-lt, false-lt}
use Rattle.whole.proofs.Tests.{by-test}
use Rattle.job.specs.declared.Internals.{Internals}
use Rattle.worst.specs.declared.Side.{Side}
use Rattle.worst.specs.declared.Side.TheVariants.{Greatest, Least}
use Rattle.worst.specs.declared.inside.Inside.{Inside}
use Rattle.worst.specs.declared.inside.Insides.{Insides}
use Rattle.worst.specs.Best.{short, better}
use Rattle.worst.specs.Quick.{over}
use Rattle.worst.specs.Inside.{inside_numbered, sides_of, side_in, cell_at, Furthest, InsideSmall, InsidesSmall}
use Rattle.worst.proofs.Sides.{within-refl, within-long}
use Rattle.worst.proofs.Better.{over-next}

-- ---- a sum less a part of the weight: where the part rises it falls, or rises, or stays

less-falls : (v a b : ℤ) (n : ℕ) → lt_z (v -ℤ a *ℤ pos (suc n)) (v -ℤ b *ℤ pos (suc n)) ≡ lt_z b a
less-falls v a b n = by-test (lt_z b a) (λ t. true-lt (falls t) ∙ sym t) (λ t. false-lt (rises t) ∙ sym t)
  where
    falls : lt_z b a ≡ true → (v -ℤ a *ℤ pos (suc n)) <ℤ (v -ℤ b *ℤ pos (suc n))
    falls t =
        lt_by _ _ (omega (
          arith,
          mul-le-mul_right (suc n) (lt_at b a (lt-true b a t)),
          sub-lawℤ v (a *ℤ pos (suc n)),
          sub-lawℤ v (b *ℤ pos (suc n)),
          up-scale a (suc n),
          down-scale a (suc n),
          up-scale b (suc n),
          down-scale b (suc n),
        ))

    rises : lt_z b a ≡ false → (v -ℤ b *ℤ pos (suc n)) ≤ℤ (v -ℤ a *ℤ pos (suc n))
    rises t =
        le-by _ _ (omega (
          arith,
          mul-le-mul_right (suc n) (le-at a b (lt-false b a t)),
          sub-lawℤ v (a *ℤ pos (suc n)),
          sub-lawℤ v (b *ℤ pos (suc n)),
          up-scale a (suc n),
          down-scale a (suc n),
          up-scale b (suc n),
          down-scale b (suc n),
        ))

-- a weight below zero is one above it with the part's sign turned
turned : (x : ℤ) (n : ℕ) → x *ℤ negsuc n ≡ neg_ℤ x *ℤ pos (suc n)
turned (pos zero) n = zero-*ℤ (negsuc n) ∙ sym (zero-*ℤ (pos (suc n)))
turned (pos (suc m)) n = refl
turned (negsuc m) n = refl

turned_lt : (a b : ℤ) → lt_z (neg_ℤ b) (neg_ℤ a) ≡ lt_z a b
turned_lt a b = by-test (lt_z a b) (λ t. true-lt (falls t) ∙ sym t) (λ t. false-lt (rises t) ∙ sym t)
  where
    falls : lt_z a b ≡ true → neg_ℤ b <ℤ neg_ℤ a
    falls t = lt_by _ _ (omega (arith, lt_at a b (lt-true a b t), up_neg a, down-neg a, up_neg b, down-neg b))

    rises : lt_z a b ≡ false → neg_ℤ a ≤ℤ neg_ℤ b
    rises t = le-by _ _ (omega (arith, le-at b a (lt-false a b t), up_neg a, down-neg a, up_neg b, down-neg b))

less-rises : (v a b : ℤ) (n : ℕ) → lt_z (v -ℤ a *ℤ negsuc n) (v -ℤ b *ℤ negsuc n) ≡ lt_z a b
less-rises v a b n =
    (λ j. lt_z (v -ℤ turned a n j) (v -ℤ turned b n j)) ∙ less-falls v (neg_ℤ a) (neg_ℤ b) n ∙ turned_lt a b

less-stays : (s : Side) (v a b : ℤ) → short s (v -ℤ a *ℤ pos 0) (v -ℤ b *ℤ pos 0) ≡ false
less-stays s v a b =
    (λ j. short s (v -ℤ (*ℤ-zero a ∙ sym (*ℤ-zero b)) j) (v -ℤ b *ℤ pos 0))
    ∙ within-long s _ _ (within-refl s (v -ℤ b *ℤ pos 0))

-- ---- one internal coefficient more

abbrev pub with_inside : Insides → Inside → Insides
with_inside t c =
    record {
      first = t.first;
      low = cond (lt_z c.part t.low.part) c t.low;
      high = cond (lt_z t.high.part c.part) c t.high;
    }

-- the later of two where a test says so, and the same of their cells
module _ (v z : ℤ) (w : ℕ) (a b : Inside) where
  picked : {s t : Bool} → s ≡ t → cell_at v z w (cond s b a) ≡ cond t (cell_at v z w b) (cell_at v z w a)
  picked {s} {t} e = apart s ∙ (λ j. cond (e j) (cell_at v z w b) (cell_at v z w a))
    where
      apart : (u : Bool) → cell_at v z w (cond u b a) ≡ cond u (cell_at v z w b) (cell_at v z w a)
      apart true = refl
      apart false = refl

above : (n : ℕ) → lt_z (pos 0) (pos (suc n)) ≡ true
above n = let h : pos 0 <ℤ pos (suc n) = lt_by (pos 0) (pos (suc n)) (omega arith) in true-lt h

inside-next : (s : Side) (v z : ℤ) (w : ℕ) (t : Insides) (c : Inside)
    → cell_at v z w (side_in s (sides_of (with_inside t c) z))
    ≡ better s (cell_at v z w (side_in s (sides_of t z))) (cell_at v z w c)
unfolding better
inside-next Greatest v (pos zero) w t c = rw (less-stays Greatest v t.first.part c.part)
inside-next Least v (pos zero) w t c = rw (less-stays Least v t.first.part c.part)
inside-next Greatest v (pos (suc n)) w t c =
    rw (above n) (picked v (pos (suc n)) w t.low c (sym (less-falls v t.low.part c.part n)))
inside-next Least v (pos (suc n)) w t c =
    rw (above n) (picked v (pos (suc n)) w t.high c (sym (less-falls v c.part t.high.part n)))
inside-next Greatest v (negsuc n) w t c =
    picked v (negsuc n) w t.high c (sym (less-rises v t.high.part c.part n))
inside-next Least v (negsuc n) w t c =
    picked v (negsuc n) w t.low c (sym (less-rises v c.part t.low.part n))

module _ (is : Internals) where
  -- of one alone
  abbrev pub alike : Inside → Insides
  alike c = record { first = c; low = c; high = c }

  side-alike : (s : Side) (z : ℤ) (c : Inside) → side_in s (sides_of (alike c) z) ≡ c
  side-alike Greatest (pos zero) c = refl
  side-alike Least (pos zero) c = refl
  side-alike Greatest (pos (suc n)) c = rw (above n)
  side-alike Least (pos (suc n)) c = rw (above n)
  side-alike Greatest (negsuc n) c = refl
  side-alike Least (negsuc n) c = refl

  pub furthest-one : Furthest is 1 (alike (inside_numbered is 1))
  unfolding over numbers better
  furthest-one s v z w = ap (cell_at v z w) (side-alike s z (inside_numbered is 1))

  pub furthest-next : (i : ℕ) (t : Insides) → Furthest is i t
      → Furthest is (i + 1) (with_inside t (inside_numbered is (i + 1)))
  furthest-next i t h s v z w =
      inside-next s v z w t (inside_numbered is (i + 1))
      ∙ ap (λ b. better s b (cell_at v z w (inside_numbered is (i + 1)))) (h s v z w)
      ∙ over-next s (λ k. cell_at v z w (inside_numbered is k)) i

-- ---- how large they are

pub sides-small : (t : Insides) (z : ℤ) → InsidesSmall t
    → InsideSmall (sides_of t z).up × InsideSmall (sides_of t z).down
sides-small t z h =
    by-test (lt_z (pos 0) z) (λ e. rw e (h.low, h.high))
    (λ e. by-test (lt_z z (pos 0)) (λ f. rw (e, f) (h.high, h.low)) (λ f. rw (e, f) (h.first, h.first)))

pub with-small : (t : Insides) (c : Inside) → InsidesSmall t → InsideSmall c → InsidesSmall (with_inside t c)
with-small t c h k =
    record {
      first = h.first;
      low = one (lt_z c.part t.low.part) t.low h.low;
      high = one (lt_z t.high.part c.part) t.high h.high;
    }
  where
    one : (u : Bool) (a : Inside) → InsideSmall a → InsideSmall (cond u c a)
    one true a s = k
    one false a s = s
