-- A fraction has one form in lowest terms, and dividing by the greatest common divisor gives it.
use mathlib.Core.Path.{◌≡◌, refl, sym, ap, ◌∙◌, subst}
use mathlib.Core.Bool.{Bool, true, false, ◌&&◌}
use Prim.Native.Nat.{ℕ, zero, suc, ◌+◌, ◌-◌, ◌*◌, ◌/◌, ◌%◌, ◌≤◌, ◌<◌, ◌∣◌}
use native.Mathlib.Nat.{div-add-mod', mod-lt, mod-one, mul-le-mul_right, le_of_mul-le-mul_right}
use native.Mathlib.Nat.{eq_of_mul-eq-mul_right}
use native.Mathlib.Nat.{dvd_refl, dvd-zero, dvd-mul_right, le_of_dvd, pos_of_dvd_of_pos, dvd_antisymm, dvd-mod_iff}
use native.Mathlib.Nat.{mod-eq-zero_of_dvd, dvd_of_mod-eq-zero, div-mul_cancel, div-le_self, mul-dvd-mul_right}
use native.Mathlib.Omega.{arith}
use lib.Dec.{T, eqb, leb}
use borrow.Author.Tests.{eqb-true, eqb-false, eq-eqb, leb-true, leb-false}
use Rattle.whole.specs.Lowest.{LowestTerms, divisor_up_to, common_divisor}
use Rattle.whole.proofs.Tests.{by-test, and-true}

-- ---- no fraction of the same value has a smaller denominator

-- of two fractions of the same value, what is left of the larger after q of the smaller has that value too
module _ (part whole s r q t : ℕ) (e : s * whole ≡ part * r) (split : q * r + t ≡ whole) (some : 0 < whole) where
  left_over : (part - q * s) * whole ≡ part * t
  left_over =
      let scaled : q * (s * whole) ≡ q * (part * r) = ap (λ (n : ℕ). q * n) e in
      let spread : part * (q * r + t) ≡ part * whole = ap (λ (n : ℕ). part * n) split in
      let within : q * s ≤ part = le_of_mul-le-mul_right (omega arith) some in
      let u = part - q * s in
      let parts : u + q * s ≡ part = omega arith in
      let rest : (u + q * s) * whole ≡ part * whole = ap (λ (n : ℕ). n * whole) parts in
      omega arith

module _ (part whole : ℕ) (none : (n : ℕ) → 1 < n → n ∣ part → n ∣ whole → ⊥) where
  -- where nothing is left, q divides both
  no-multiple : (s r q : ℕ) → s * whole ≡ part * r → q * r ≡ whole → 0 < r → r < whole → ⊥
  no-multiple s r q e f some less =
      let whole-some : 0 < whole = omega arith in
      let scaled : q * (s * whole) ≡ q * (part * r) = ap (λ (n : ℕ). q * n) e in
      let spread : part * (q * r) ≡ part * whole = ap (λ (n : ℕ). part * n) f in
      let g : part ≡ q * s = eq_of_mul-eq-mul_right whole whole-some part (q * s) (omega arith) in
      none q (above q f) (subst (λ (n : ℕ). q ∣ n) (sym g) (dvd-mul_right q s))
      (subst (λ (n : ℕ). q ∣ n) f (dvd-mul_right q r))
    where
      above : (q : ℕ) → q * r ≡ whole → 1 < q
      above zero g = omega arith
      above (suc zero) g = omega arith
      above (suc (suc k)) g = omega arith

  no-smaller : (most s r : ℕ) → r ≤ most → s * whole ≡ part * r → 0 < r → r < whole → ⊥
  no-smaller zero s r h e some less = omega arith
  no-smaller (suc most) s r h e some less =
      let q = whole / r in
      let t = whole % r in
      let split : q * r + t ≡ whole = div-add-mod' whole r in
      let smaller : t < r = mod-lt whole some in
      by-test (eqb t 0)
      (λ z. let gone = eqb-true t 0 z in no-multiple s r q e (omega arith) some less)
      (λ z. let left = eqb-false t 0 z in
      let over = left_over part whole s r q t e split (omega arith) in
      no-smaller most (part - q * s) t (omega arith) over (omega arith) (omega arith))

  -- its own is above 0
  pub whole-some : (x y : ℕ) → 0 < y → part * y ≡ x * whole → 0 < whole
  whole-some x y some e = go whole refl
    where
      even : {n : ℕ} → n ≡ 0 → 2 ∣ n
      even e = rw e (dvd-zero 2)

      go : (n : ℕ) → whole ≡ n → 0 < whole
      go zero f =
          let gone : x * whole ≡ x * 0 = ap (λ (n : ℕ). x * n) f in
          let p : part ≡ 0 = eq_of_mul-eq-mul_right y some part 0 (omega arith) in
          absurd (none 2 (omega arith) (even p) (even f))
      go (suc n) f = omega arith

-- ---- so there is one form only

module _ (x y : ℕ) (some : 0 < y) {part whole part' whole' : ℕ} (v : LowestTerms x y part whole)
    (w : LowestTerms x y part' whole') where
  crossed : part * whole' ≡ part' * whole
  crossed =
      let a : (part * y) * whole' ≡ (x * whole) * whole' = ap (λ (n : ℕ). n * whole') v.same in
      let b : (part' * y) * whole ≡ (x * whole') * whole = ap (λ (n : ℕ). n * whole) w.same in
      eq_of_mul-eq-mul_right y some (part * whole') (part' * whole) (omega arith)

  pub lowest-unique : (part ≡ part') × (whole ≡ whole')
  lowest-unique =
      let p = whole-some part whole v.lowest x y some v.same in
      let q = whole-some part' whole' w.lowest x y some w.same in
      let e : whole ≡ whole' =
      by-test (leb whole whole')
      (λ h. let under = leb-true whole whole' h in
      by-test (leb whole' whole) (λ g. omega (arith, leb-true whole' whole g))
      (λ g. let less = leb-false whole' whole g in
      absurd (no-smaller part' whole' w.lowest whole part whole (omega arith) crossed p less)))
      (λ h. let less = leb-false whole whole' h in
      absurd (no-smaller part whole v.lowest whole' part' whole' (omega arith) (sym crossed) q less)) in
      let scaled : part * whole ≡ part * whole' = ap (λ (n : ℕ). part * n) e in
      (eq_of_mul-eq-mul_right whole p part part' (scaled ∙ crossed), e)

-- ---- the greatest common divisor

module _ (x y : ℕ) where
  abbrev both-divided : ℕ → Bool
  both-divided n = eqb (x % n) 0 && eqb (y % n) 0

  divided : (n : ℕ) → both-divided n ≡ true → (n ∣ x) × (n ∣ y)
  divided n e =
      let t = and-true (eqb (x % n) 0) (eqb (y % n) 0) e in
      (dvd_of_mod-eq-zero n (eqb-true (x % n) 0 t.0), dvd_of_mod-eq-zero n (eqb-true (y % n) 0 t.1))

  not-divided : (n : ℕ) → both-divided n ≡ false → n ∣ x → n ∣ y → ⊥
  not-divided n e p q =
      let t : both-divided n ≡ true =
      rw (eq-eqb (x % n) 0 (mod-eq-zero_of_dvd n p), eq-eqb (y % n) 0 (mod-eq-zero_of_dvd n q)) in
      let z : true ≡ false = sym t ∙ e in
      absurd (subst T z tt)

  up-to-divides : (n : ℕ) → 0 < n → (divisor_up_to n x y ∣ x) × (divisor_up_to n x y ∣ y)
  unfolding divisor_up_to
  up-to-divides zero h = absurd (omega arith)
  up-to-divides (suc zero) h =
      let t : both-divided 1 ≡ true = rw (eq-eqb (x % 1) 0 (mod-one x), eq-eqb (y % 1) 0 (mod-one y)) in
      rw t (divided 1 t)
  up-to-divides (suc (suc n)) h =
      by-test (both-divided (suc (suc n))) (λ t. rw t (divided (suc (suc n)) t))
      (λ t. rw t (up-to-divides (suc n) (omega arith)))

  up-to-most : (n k : ℕ) → k ≤ n → 0 < k → k ∣ x → k ∣ y → k ≤ divisor_up_to n x y
  unfolding divisor_up_to
  up-to-most zero k h some p q = absurd (omega arith)
  up-to-most (suc n) k h some p q =
      by-test (both-divided (suc n)) (λ t. rw t h)
      (λ t. rw t
      (by-test (eqb k (suc n))
      (λ e. let same = eqb-true k (suc n) e in
      absurd (not-divided (suc n) t (subst (λ (m : ℕ). m ∣ x) same p) (subst (λ (m : ℕ). m ∣ y) same q)))
      (λ e. let other = eqb-false k (suc n) e in up-to-most n k (omega arith) some p q)))

  module _ (x-some : 0 < x) where
    pub divisor-divides : (common_divisor x y ∣ x) × (common_divisor x y ∣ y)
    unfolding common_divisor
    divisor-divides = up-to-divides x x-some

    pub divisor-some : 0 < common_divisor x y
    divisor-some = pos_of_dvd_of_pos divisor-divides.0 x-some

    pub divisor-most : (k : ℕ) → k ∣ x → k ∣ y → k ≤ common_divisor x y
    unfolding common_divisor
    divisor-most k p q = up-to-most x k (le_of_dvd x-some p) (pos_of_dvd_of_pos p x-some) p q

    -- dividing by it gives the lowest terms
    pub lowest-terms : LowestTerms x y (x / common_divisor x y) (y / common_divisor x y)
    lowest-terms =
        let g = common_divisor x y in
        let a = div-mul_cancel g divisor-divides.0 in
        let b = div-mul_cancel g divisor-divides.1 in
        let left : x / g * (y / g * g) ≡ x / g * y = ap (λ (m : ℕ). x / g * m) b in
        let right : x / g * g * (y / g) ≡ x * (y / g) = ap (λ (m : ℕ). m * (y / g)) a in
        record {
          same = omega arith;
          lowest = λ n h p q.
              let times : n * g ≤ g =
              divisor-most (n * g) (subst (λ (m : ℕ). n * g ∣ m) a (mul-dvd-mul_right n p g))
              (subst (λ (m : ℕ). n * g ∣ m) b (mul-dvd-mul_right n q g)) in
              let twice : 2 * g ≤ n * g = mul-le-mul_right g h in
              let some = divisor-some in
              omega arith;
        }

    -- a fraction of the way stays one, and its terms become no larger
    pub lowest-within : x ≤ y → let g = common_divisor x y in (x / g ≤ y / g) × (0 < y / g) × (y / g ≤ y)
    lowest-within h =
        let g = common_divisor x y in
        let some = divisor-some in
        let a = div-mul_cancel g divisor-divides.0 in
        let b = div-mul_cancel g divisor-divides.1 in
        let y-some : 0 < y = omega arith in (
          le_of_mul-le-mul_right (omega arith) some,
          pos_of_dvd_of_pos (subst (λ (n : ℕ). y / g ∣ n) b (dvd-mul_right (y / g) g)) y-some,
          div-le_self y g,
        )

-- ---- Euclid's algorithm: of a and b, b and what a leaves over b

-- a and b have the divisors that x and y have in common
pub record Shared (x y a b : ℕ) : Type 0 where
  pub to : (n : ℕ) → n ∣ x → n ∣ y → (n ∣ a) × (n ∣ b)
  pub from : (n : ℕ) → n ∣ a → n ∣ b → (n ∣ x) × (n ∣ y)

pub shared-first : (x y : ℕ) → Shared x y x y
shared-first x y = record { to = λ n p q. (p, q); from = λ n p q. (p, q) }

pub shared-next : {x y a b : ℕ} → Shared x y a b → Shared x y b (a % b)
shared-next {x} {y} {a} {b} s =
    record {
      to = λ n p q. let d = s.to n p q in (d.1, (dvd-mod_iff n {m = a} d.1).1 d.0);
      from = λ n p q. s.from n ((dvd-mod_iff n {m = a} p).0 q) p;
    }

pub shared_last : (x y : ℕ) {a : ℕ} → Shared x y a 0 → a ≡ common_divisor x y
unfolding common_divisor divisor_up_to
shared_last zero y {a} s =
    dvd_antisymm (s.from a (dvd_refl a) (dvd-zero a)).1 (s.to y (dvd-zero y) (dvd_refl y)).0
shared_last (suc x) y {a} s =
    let d = s.from a (dvd_refl a) (dvd-zero a) in
    let g = divisor-divides (suc x) y (omega arith) in
    let some = pos_of_dvd_of_pos d.0 (omega arith) in
    let below = le_of_dvd some (s.to (common_divisor (suc x) y) g.0 g.1).0 in
    let above = divisor-most (suc x) y (omega arith) a d.0 d.1 in
    omega arith
