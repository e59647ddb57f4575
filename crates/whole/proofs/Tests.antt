-- A test as an equation and as a fact, and the laws by which a branch of the code meets a definition that goes by
-- tests.
use mathlib.Core.Path.{◌≡◌, refl, sym, subst}
use mathlib.Core.Logic.{◌⊎◌, inl, inr}
use mathlib.Core.Bool.{Bool, true, false, not, ◌&&◌, ◌||◌}
use borrow.Author.Tests.{lt-ltb, le-ltb, le-leb, lt-leb, eq-eqb, ne_eqb}
use lib.Dec.{T}

pub holds : {t : Bool} → t ≡ true → T t
holds e = subst T (sym e) tt

pub fails : {t : Bool} → t ≡ false → T (not t)
fails e = subst (λ (t : Bool). T (not t)) (sym e) tt

pub is_true : (t : Bool) → T t → t ≡ true
is_true true h = refl
is_true false h = absurd h

pub is_false : (t : Bool) → (T t → ⊥) → t ≡ false
is_false true h = absurd (h tt)
is_false false h = refl

-- a fact by the two ways that a test can go
pub by-test : {P : Type 0} (t : Bool) → (t ≡ true → P) → (t ≡ false → P) → P
by-test true f g = f refl
by-test false f g = g refl

-- tests that hold of the same
pub same_flag : (s t : Bool) → (s ≡ true → t ≡ true) → (t ≡ true → s ≡ true) → s ≡ t
same_flag true t f g = sym (f refl)
same_flag false true f g = g refl
same_flag false false f g = refl

pub and-true : (s t : Bool) → s && t ≡ true → (s ≡ true) × (t ≡ true)
and-true true t e = (refl, e)
and-true false t e = absurd (subst T (sym e) tt)

pub or-true : (s t : Bool) → s || t ≡ true → (s ≡ true) ⊎ (t ≡ true)
or-true true t e = inl refl
or-true false t e = inr e

pub or-false : (s t : Bool) → s || t ≡ false → (s ≡ false) × (t ≡ false)
or-false true t e = absurd (subst T e tt)
or-false false t e = (refl, e)

pub or_left : (t : Bool) {u : Bool} → u ≡ false → (t || u) ≡ true → t ≡ true
or_left true e f = refl
or_left false {u} e f = rw e at f

pub or-none : (t : Bool) → t ≡ (t || false)
or-none true = refl
or-none false = refl

pub or_assoc : (s t u : Bool) → (s || (t || u)) ≡ ((s || t) || u)
or_assoc true t u = refl
or_assoc false t u = refl

-- what a branch knows of two numbers, said of the tests: `search tests` closes a return that goes by cases
pub ruleset tests = (lt-ltb, le-ltb, le-leb, lt-leb, eq-eqb, ne_eqb)
