-- Laws of what is said where no fault is, and of the fault where one is.
use Prim.Native.Nat.{ℕ, zero, suc}
use mathlib.Core.Path.{◌≡◌, refl, ap}
use Rattle.std.specs.Prelude.{Ok, Err}
use Rattle.sheet.specs.Said.{unless}

pub sound : {A : Type 0} {x : A} (n : ℕ) (y : A) → n ≡ 0 → x ≡ y → Ok x ≡ unless n y
sound zero y z e = ap Ok e
sound (suc n) y z e = cc

pub faulty : {A : Type 0} {m : ℕ} (n : ℕ) (y : A) → (m ≡ 0 → ⊥) → m ≡ n → Err m ≡ unless n y
faulty zero y some e = absurd (some e)
faulty (suc n) y some e = ap Err e

pub is-sound : {A : Type 0} {x : A} (n : ℕ) (y : A) → Ok x ≡ unless n y → (n ≡ 0) × (x ≡ y)
is-sound zero y e = (refl, cc)
is-sound (suc n) y e = let f : ⊥ = cc in absurd f

pub is-faulty : {A : Type 0} {m : ℕ} (n : ℕ) (y : A) → Err m ≡ unless n y → (m ≡ n) × (m ≡ 0 → ⊥)
is-faulty zero y e = let f : ⊥ = cc in absurd f
is-faulty (suc n) y e = (cc, λ z. let f : ⊥ = cc in f)
