-- Faults that stand by rising number: the first that is found has the lowest number of those that are.
use mathlib.Core.Path.{◌≡◌, refl, sym, ap, ◌∙◌, subst}
use mathlib.Core.Logic.{⊎_elim}
use mathlib.Core.Bool.{Bool, true, false, cond}
use mathlib.Core.List.Memᴰ
use mathlib.Core.List.{List, [], ◌∷◌, Memᴰ}
use Prim.Native.Nat.{ℕ, ◌^◌, ◌≤◌, ◌<◌}
use native.Mathlib.Omega.{arith}
use lib.Dec.{T, leb, leb→le}
use lib.IntN.{ℤ}
use lib.Signed.{mag}
use mir.Syntax.{w64}
use mir.Val.{to_z, of_z}
use Rattle.whole.specs.Lists.{Every}
use Rattle.whole.proofs.Size.{returned}
use Rattle.whole.proofs.Table.{both, both_left, both_right}
use Rattle.whole.proofs.Tests.{by-test}
use Rattle.building.specs.Fault.{Fault, first}

-- what the code finds, by what it goes by
pub found-or : {m k : ℕ} {t u : Bool} (n : ℕ) {r : ℕ} → t ≡ u → m ≡ k → r ≡ cond t n m → r ≡ cond u n k
found-or n p q e = e ∙ (λ i. cond (p i) n (q i))

-- and of a number as the machine has it
pub said_or : (f : ℤ → Fault) (n : ℕ) (z : ℤ) {r m k : ℕ} → mag z < 2 ^ 63 → m ≡ k
    → r ≡ cond (f (to_z w64 (of_z w64 z))).found n m → r ≡ cond (f z).found n k
said_or f n z h q e = found-or n (ap (λ (y : ℤ). (f y).found) (returned w64 z h).same) q e

-- each number is at least the one before it, and the first at least m
abbrev pub rising : ℕ → List Fault → Bool
rising m [] = true
rising m (f ∷ fs) = both (leb m f.number) (rising f.number fs)

rising-member : (m : ℕ) (fs : List Fault) → T (rising m fs) → (f : Fault) → Memᴰ f fs → m ≤ f.number
rising-member m [] t f h = absurd (Memᴰ.not-nil h)
rising-member m (x ∷ fs) t f h =
    let l = leb→le m x.number (both_left (leb m x.number) (rising x.number fs) t) in
    ⊎_elim (λ e. omega (arith, l, ap (λ (g : Fault). g.number) e))
    (λ k.
    omega (arith, l, rising-member x.number fs (both_right (leb m x.number) (rising x.number fs) t) f k))
    (Memᴰ.cases_cons h)

pub first-least : (m : ℕ) (fs : List Fault) → T (rising m fs) → (f : Fault) → Memᴰ f fs → f.found ≡ true
    → (m ≤ first fs) × (first fs ≤ f.number)
first-least m [] t f h e = absurd (Memᴰ.not-nil h)
first-least m (x ∷ fs) t f h e =
    let l = leb→le m x.number (both_left (leb m x.number) (rising x.number fs) t) in
    let r = both_right (leb m x.number) (rising x.number fs) t in
    by-test x.found
    (λ q.
    rw q (
      l,
      ⊎_elim (λ s. omega (arith, ap (λ (g : Fault). g.number) s))
          (λ k. rising-member x.number fs r f k)
          (Memᴰ.cases_cons h),
    ))
    (λ q.
    rw q
    (⊎_elim (λ s. absurd (subst T (sym e ∙ ap (λ (g : Fault). g.found) s ∙ q) tt))
    (λ k. let y = first-least x.number fs r f k e in (omega (arith, l, y.0), y.1))
    (Memᴰ.cases_cons h)))

-- a number other than 0 is that of one that is found
pub record Found (fs : List Fault) (n : ℕ) : Type 0 where
  pub test : Fault
  pub there : Memᴰ test fs
  pub finds : test.found ≡ true
  pub same : test.number ≡ n

pub first_found : (fs : List Fault) → 0 < first fs → Found fs (first fs)
first_found [] h = absurd (omega arith)
first_found (x ∷ fs) h = go x.found refl h (first_found fs)
  where
    go : (t : Bool) → x.found ≡ t → 0 < cond t x.number (first fs) → (0 < first fs → Found fs (first fs))
        → Found (x ∷ fs) (cond t x.number (first fs))
    go true q k later = record { test = x; there = Memᴰ.head refl; finds = q; same = refl }
    go false q k later =
        let y = later k in
        record { test = y.test; there = Memᴰ.tail y.there; finds = y.finds; same = y.same }

-- number 0 says that none is found
pub none_found : (m : ℕ) (fs : List Fault) → 0 < m → T (rising m fs) → first fs ≡ 0 → Every (λ f. f.found ≡ false) fs
none_found m [] p t z = tt
none_found m (x ∷ fs) p t z =
    let l = leb→le m x.number (both_left (leb m x.number) (rising x.number fs) t) in
    let r = both_right (leb m x.number) (rising x.number fs) t in
    by-test x.found (λ q. absurd (let e : x.number ≡ 0 = rw q at z in omega arith))
    (λ q. (q, none_found x.number fs (omega arith) r (rw q at z)))

pub found_none : (fs : List Fault) → Every (λ f. f.found ≡ false) fs → first fs ≡ 0
found_none [] h = refl
found_none (x ∷ fs) h = rw h.0 (found_none fs h.1)
