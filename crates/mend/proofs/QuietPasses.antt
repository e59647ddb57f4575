-- Each pass finds no slip in what it has left, nor does any later pass bring one back.
use Prim.Native.Nat.{ℕ}
use mathlib.Core.Path.{◌≡◌, refl, sym, ◌∙◌}
use mathlib.Core.Logic.{◌⊎◌, inl, inr}
use mathlib.Core.Bool.{true, false, true≢false, ◌&&◌, ◌||◌}
use mathlib.Core.List.{List, [], ◌∷◌}
use lib.Dec.{eqb}
use borrow.Author.Tests.{eqb-true}
use Rattle.whole.proofs.Tests.{by-test, and-true, or-false}
use Rattle.whole.specs.Digits.{is_digit}
use Rattle.mend.specs.Mended.{Slip, last, next, parts_fields, spaces_on, digits_on, leads}
use Rattle.mend.specs.Mended.{stray_return, needless_space, needless_plus, needless_zero}
use Rattle.mend.proofs.Sifted.{sift, plus-next}
use Rattle.mend.proofs.Quiet.{Quiet, falls, quiet_through, quiet-own}

-- ---- the space pass

space-spaces : (b s : List ℕ) → spaces_on (sift needless_space b s) ≡ true → spaces_on s ≡ true
unfolding sift spaces_on
space-spaces b [] h = refl
space-spaces b (x ∷ s) h =
    by-test (needless_space b x s)
    (λ t.
    let e = and-true (eqb x 32) (eqb (last b) 32 || spaces_on s) t in
    let r : spaces_on s ≡ true = space-spaces (x ∷ b) s (rw t at h) in
    rw (eqb-true x 32 e.0, r))
    (λ t. by-test (eqb x 10) (λ u. rw u)
    (λ u.
    let e = and-true (eqb x 32) (spaces_on (sift needless_space (x ∷ b) s)) (rw u at (rw t at h)) in
    rw (u, e.0, space-spaces (x ∷ b) s e.1)))

pub space-own : (s : List ℕ) → Quiet needless_space [] (sift needless_space [] s)
space-own s =
    quiet-own needless_space (λ c b s. eqb (last c) 32 ≡ true → eqb (last b) 32 ≡ true) (λ c b x s a t e. e)
    (λ c b x s a t e. (and-true (eqb x 32) (eqb (last b) 32 || spaces_on s) t).0)
    (λ c b x s a t.
    by-test (eqb x 32)
    (λ u.
    let f = or-false (eqb (last b) 32) (spaces_on s) (rw u at t) in
    rw (
      u,
      falls (eqb (last c) 32) (eqb (last b) 32) a f.0,
      falls (spaces_on (sift needless_space (x ∷ b) s)) (spaces_on s) (space-spaces (x ∷ b) s) f.1,
    ))
    (λ u. rw u))
    [] [] s (λ e. e)

-- ---- the passes that take out only what stands before a digit

spaces-no-digit : (s : List ℕ) → spaces_on s ≡ true → is_digit (next s) ≡ false
unfolding spaces_on
spaces-no-digit [] h = refl
spaces-no-digit (b ∷ s) h =
    by-test (eqb b 10) (λ t. rw (eqb-true b 10 t))
    (λ t. let e = and-true (eqb b 32) (spaces_on s) (rw t at h) in rw (eqb-true b 32 e.0))

-- the byte before is the same, or a digit comes
abbrev Near : List ℕ → List ℕ → List ℕ → Type 0
Near c b s = (last c ≡ last b) ⊎ (is_digit (next s) ≡ true)

-- so a byte that is no digit has the same byte before it
near_before : (c b s : List ℕ) (x : ℕ) → is_digit x ≡ false → Near c b (x ∷ s) → last c ≡ last b
near_before c b s x e (inl h) = h
near_before c b s x e (inr d) = absurd (true≢false (sym d ∙ e))

module _ (slip : Slip)
    (before-digit : (b : List ℕ) (x : ℕ) (s : List ℕ) → slip b x s ≡ true → is_digit (next s) ≡ true) where
  digit-spaces : (b s : List ℕ) → spaces_on (sift slip b s) ≡ true → spaces_on s ≡ true
  unfolding sift spaces_on
  digit-spaces b [] h = refl
  digit-spaces b (x ∷ s) h =
      by-test (slip b x s)
      (λ t. absurd (true≢false (sym (before-digit b x s t) ∙ spaces-no-digit s (digit-spaces (x ∷ b) s (rw t at h)))))
      (λ t. by-test (eqb x 10) (λ u. rw u)
      (λ u.
      let e = and-true (eqb x 32) (spaces_on (sift slip (x ∷ b) s)) (rw u at (rw t at h)) in
      rw (u, e.0, digit-spaces (x ∷ b) s e.1)))

  pub spaces-through : (s : List ℕ) → Quiet needless_space [] s → Quiet needless_space [] (sift slip [] s)
  spaces-through s =
      quiet_through slip needless_space Near (λ c b x s a t. inl refl) (λ c b x s a t. inr (before-digit b x s t))
      (λ c b x s a t q.
      by-test (eqb x 32)
      (λ u.
      let f = or-false (eqb (last b) 32) (spaces_on s) (rw u at q) in
      let z : is_digit x ≡ false = rw (eqb-true x 32 u) in
      let n : last c ≡ last b = near_before c b s x z a in
      rw (u, n, f.0, falls (spaces_on (sift slip (x ∷ b) s)) (spaces_on s) (digit-spaces (x ∷ b) s) f.1))
      (λ u. rw u))
      [] [] s (inl refl)

  module _ (digit-next : (b s : List ℕ) → is_digit (next (sift slip (43 ∷ b) s)) ≡ true
      → is_digit (next s) ≡ true) where
    plus-calm : (c b : List ℕ) (x : ℕ) (s : List ℕ) → Near c b (x ∷ s) → needless_plus b x s ≡ false
        → needless_plus c x (sift slip (x ∷ b) s) ≡ false
    plus-calm c b x s a q =
        by-test (eqb x 43)
        (λ u.
        let e = eqb-true x 43 u in
        let z : is_digit x ≡ false = rw e in
        let n : last c ≡ last b = near_before c b s x z a in
        let d : is_digit (next (sift slip (x ∷ b) s)) ≡ true → is_digit (next s) ≡ true = rw e (digit-next b s) in
        rw (u, n)
        (falls (parts_fields (last b) && is_digit (next (sift slip (x ∷ b) s))) (parts_fields (last b) && is_digit
        (next s))
        (λ h. let f = and-true (parts_fields (last b)) (is_digit (next (sift slip (x ∷ b) s))) h in rw (f.0, d f.1))
        (rw u at q)))
        (λ u. rw u)

    pub pluses-through : (s : List ℕ) → Quiet needless_plus [] s → Quiet needless_plus [] (sift slip [] s)
    pluses-through s =
        quiet_through slip needless_plus Near (λ c b x s a t. inl refl) (λ c b x s a t. inr (before-digit b x s t))
        (λ c b x s a t q. plus-calm c b x s a q) [] [] s (inl refl)

-- ---- the plus pass

pub plus-digit : (b : List ℕ) (x : ℕ) (s : List ℕ) → needless_plus b x s ≡ true → is_digit (next s) ≡ true
plus-digit b x s t =
    (and-true (parts_fields (last b)) (is_digit (next s))
    (and-true (eqb x 43) (parts_fields (last b) && is_digit (next s)) t).1).1

plus-digit-next : (b s : List ℕ) → is_digit (next (sift needless_plus (43 ∷ b) s)) ≡ true → is_digit (next s) ≡ true
plus-digit-next b s h = sym (plus-next [] (43 ∷ b) refl refl s) ∙ h

pub plus-own : (s : List ℕ) → Quiet needless_plus [] (sift needless_plus [] s)
plus-own s =
    quiet-own needless_plus Near (λ c b x s a t. inl refl) (λ c b x s a t. inr (plus-digit b x s t))
    (λ c b x s a t. plus-calm needless_plus plus-digit plus-digit-next c b x s a t) [] [] s (inl refl)

-- ---- the zero pass

zero-parts : (b : List ℕ) (x : ℕ) (s : List ℕ) → needless_zero b x s ≡ true → (eqb x 48 ≡ true) × (leads b ≡ true)
    × (digits_on s ≡ true) × (is_digit (next s) ≡ true)
zero-parts b x s t =
    let e = and-true (eqb x 48) (leads b && (digits_on s && is_digit (next s))) t in
    let f = and-true (leads b) (digits_on s && is_digit (next s)) e.1 in
    let g = and-true (digits_on s) (is_digit (next s)) f.1 in
    (e.0, f.0, g.0, g.1)

pub zero-digit : (b : List ℕ) (x : ℕ) (s : List ℕ) → needless_zero b x s ≡ true → is_digit (next s) ≡ true
zero-digit b x s t = (zero-parts b x s t).3

pub zero-next : (b s : List ℕ) → is_digit (next (sift needless_zero b s)) ≡ true → is_digit (next s) ≡ true
unfolding sift
zero-next b [] h = h
zero-next b (x ∷ s) h =
    by-test (needless_zero b x s) (λ t. rw (eqb-true x 48 (zero-parts b x s t).0)) (λ t. rw t at h)

zero-digits : (b s : List ℕ) → digits_on (sift needless_zero b s) ≡ true → digits_on s ≡ true
unfolding sift digits_on
zero-digits b [] h = refl
zero-digits b (x ∷ s) h =
    by-test (needless_zero b x s) (λ t. let e = zero-parts b x s t in rw (eqb-true x 48 e.0) e.2)
    (λ t. by-test (parts_fields x) (λ u. rw u)
    (λ u.
    let e = and-true (is_digit x) (digits_on (sift needless_zero (x ∷ b) s)) (rw u at (rw t at h)) in
    rw (u, e.0) (zero-digits (x ∷ b) s e.1)))

-- the same is a leading zero
abbrev NearZero : List ℕ → List ℕ → List ℕ → Type 0
NearZero c b s = (leads c ≡ leads b) × Near c b s

near_on : (c b : List ℕ) (x : ℕ) (s : List ℕ) → NearZero c b (x ∷ s) → NearZero (x ∷ c) (x ∷ b) s
unfolding leads
near_on c b x s a = (
  by-test (eqb x 48) (λ u. rw u a.0)
      (λ u. by-test (eqb x 45)
      (λ v. let z : is_digit x ≡ false = rw (eqb-true x 45 v) in
      let n : last c ≡ last b = near_before c b s x z a.1 in rw (u, n))
      (λ v. rw (u, v))),
  inl refl,
)

near-past : (c b : List ℕ) (x : ℕ) (s : List ℕ) → NearZero c b (x ∷ s) → needless_zero b x s ≡ true
    → NearZero c (x ∷ b) s
unfolding leads
near-past c b x s a t = let e = zero-parts b x s t in (a.0 ∙ rw e.0, inr e.3)

pub zero-own : (s : List ℕ) → Quiet needless_zero [] (sift needless_zero [] s)
zero-own s =
    quiet-own needless_zero NearZero (λ c b x s a t. near_on c b x s a) near-past
    (λ c b x s a t.
    falls (needless_zero c x (sift needless_zero (x ∷ b) s)) (needless_zero b x s)
    (λ h.
    let e = zero-parts c x (sift needless_zero (x ∷ b) s) h in
    rw (e.0, sym a.0 ∙ e.1, zero-digits (x ∷ b) s e.2, zero-next (x ∷ b) s e.3)) t)
    [] [] s (refl, inl refl)

-- ---- the return pass

pub returns_through : (slip : Slip) (s : List ℕ) → Quiet stray_return [] s → Quiet stray_return [] (sift slip [] s)
returns_through slip s =
    quiet_through slip stray_return (λ c b s. Unit) (λ c b x s a t. tt) (λ c b x s a t. tt) (λ c b x s a t q. q) [] []
    s tt

pub return-own : (s : List ℕ) → Quiet stray_return [] (sift stray_return [] s)
return-own s =
    quiet-own stray_return (λ c b s. Unit) (λ c b x s a t. tt) (λ c b x s a t. tt) (λ c b x s a t. t) [] [] s tt
