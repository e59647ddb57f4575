-- A pass over bytes, and what it leaves ahead of a place.
use Prim.Native.Nat.{ℕ}
use mathlib.Core.Path.{◌≡◌, refl, ap, ◌∙◌}
use mathlib.Core.Bool.{Bool, true, false, cond, ◌&&◌}
use mathlib.Core.Bool as bool
use mathlib.Core.List.{List, [], ◌∷◌, map}
use lib.Dec.{eqb}
use borrow.Author.Tests.{eqb-true}
use Rattle.whole.proofs.Tests.{by-test, and-true, or-false}
use Rattle.whole.specs.Digits.{is_digit}
use Rattle.mend.specs.Mended.{Fate, stays, goes, left, Slip, pass, last, next, parts_fields, spaces_on, digits_on}
use Rattle.mend.specs.Mended.{stray_return, needless_space, needless_plus}
use Rattle.mend.specs.OneWalk.{clean}

-- ---- a pass over bytes

-- what a pass leaves of a text
unfoldable pub sift : Slip → List ℕ → List ℕ → List ℕ
sift slip before [] = []
sift slip before (b ∷ s) = cond (slip before b s) (sift slip (b ∷ before) s) (b ∷ sift slip (b ∷ before) s)

pub left-pass : (k : ℕ) (slip : Slip) (before : List ℕ) (fs : List Fate)
    → left (pass k slip before fs) ≡ sift slip before (left fs)
unfolding left pass sift
left-pass k slip before [] = refl
left-pass k slip before (goes j b ∷ fs) = left-pass k slip before fs
left-pass k slip before (stays b ∷ fs) =
    by-test (slip before b (left fs)) (λ t. rw t (left-pass k slip (b ∷ before) fs))
    (λ t. rw t (ap (λ (l : List ℕ). b ∷ l) (left-pass k slip (b ∷ before) fs)))

pub left-stays : (s : List ℕ) → left (map stays s) ≡ s
unfolding left
left-stays [] = refl
left-stays (b ∷ s) = ap (λ (l : List ℕ). b ∷ l) (left-stays s)

pub sift-clean : (before s : List ℕ) → sift stray_return before s ≡ clean s
unfolding sift clean
sift-clean before [] = refl
sift-clean before (b ∷ s) =
    by-test (eqb b 13) (λ t. rw t (sift-clean (b ∷ before) s))
    (λ t. rw t (ap (λ (l : List ℕ). b ∷ l) (sift-clean (b ∷ before) s)))

-- ---- what a pass leaves ahead

-- nothing, or an LF first
data Closed : List ℕ → Type 0 where
  nil : Closed []
  lf : (s : List ℕ) → Closed (10 ∷ s)

closed-digit : {s : List ℕ} → Closed s → is_digit (next s) ≡ false
closed-digit nil = refl
closed-digit (lf s) = refl

closed-digits : {s : List ℕ} → Closed s → digits_on s ≡ true
unfolding digits_on
closed-digits nil = refl
closed-digits (lf s) = refl

closed-plus : (before : List ℕ) {s : List ℕ} → Closed s → Closed (sift needless_plus before s)
unfolding sift
closed-plus before nil = nil
closed-plus before (lf s) = lf _

-- spaces up to the line's end all go
spaces-closed : (before s : List ℕ) → spaces_on s ≡ true → Closed (sift needless_space before s)
unfolding sift spaces_on
spaces-closed before [] h = nil
spaces-closed before (b ∷ s) h =
    by-test (eqb b 10) (λ t. rw (eqb-true b 10 t) (lf _))
    (λ t.
    let e = and-true (eqb b 32) (spaces_on s) (rw t at h) in
    rw (e.0, e.1, bool.or-true (eqb (last before) 32)) (spaces-closed (b ∷ before) s e.1))

-- behind a byte that is no space, the space pass does not change whether a digit follows
pub space-next : (before s : List ℕ) → eqb (last before) 32 ≡ false
    → is_digit (next (sift needless_space before s)) ≡ is_digit (next s)
unfolding sift
space-next before [] h = refl
space-next before (b ∷ s) h =
    by-test (eqb b 32 && spaces_on s)
    (λ t.
    let e = and-true (eqb b 32) (spaces_on s) t in
    rw (h, t, eqb-true b 32 e.0) (closed-digit (spaces-closed (32 ∷ before) s e.1)))
    (λ t. rw (h, t))

-- behind a digit, neither the space pass nor the plus pass changes whether a digit follows, and whether digits do up
-- to the field's end
module _ (b2 b3 : List ℕ) (h : eqb (last b2) 32 ≡ false) (k : parts_fields (last b3) ≡ false) where
  pub plus-next : (s : List ℕ) → is_digit (next (sift needless_plus b3 s)) ≡ is_digit (next s)
  unfolding sift
  plus-next [] = refl
  plus-next (b ∷ s) = rw (k, bool.and-false (eqb b 43))

  pub both-next : (s : List ℕ) → is_digit (next (sift needless_plus b3 (sift needless_space b2 s))) ≡ is_digit (next s)
  both-next s = plus-next (sift needless_space b2 s) ∙ space-next b2 s h

pub both-digits : (b2 b3 s : List ℕ) → eqb (last b2) 32 ≡ false → parts_fields (last b3) ≡ false
    → digits_on (sift needless_plus b3 (sift needless_space b2 s)) ≡ digits_on s
unfolding sift digits_on
both-digits b2 b3 [] h k = refl
both-digits b2 b3 (b ∷ s) h k =
    by-test (eqb b 32 && spaces_on s)
    (λ t.
    let e = and-true (eqb b 32) (spaces_on s) t in
    rw (h, t, e.0) (closed-digits (closed-plus b3 (spaces-closed (b ∷ b2) s e.1))))
    (λ t. rw (h, t) (rw (k, bool.and-false (eqb b 43))
    (by-test (parts_fields b) (λ p. rw p)
    (λ p. rw p (ap (λ (x : Bool). is_digit b && x)
    (both-digits (b ∷ b2) (b ∷ b3) s (or-false (eqb b 32) (eqb b 10) p).0 p))))))
