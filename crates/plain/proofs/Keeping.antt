-- What is kept of an earlier case and a later one: the later only where there is no earlier one, or where it goes
-- further.
use mathlib.Core.Path.{◌≡◌, sym, ap, ◌∙◌}
use mathlib.Core.Bool.{Bool, true, false}
use mathlib.Core.List.{List}
use Prim.Native.Nat.{ℕ, ◌<◌}
use native.Mathlib.Omega.{arith}
use lib.IntN.{ℤ}
use Rattle.worst.specs.declared.Side.{Side}
use Rattle.worst.specs.declared.Side.TheVariants.{Greatest, Least}
use Rattle.worst.specs.declared.Extreme.{Extreme}
use Rattle.worst.specs.Best.{short, Best, none, at, better}
use Rattle.worst.specs.Cases.{Case}
use Rattle.worst.specs.Shown.{padded, shown}
use Rattle.pair.specs.declared.Pair.{Pair}
use Rattle.pair.specs.Total.{pair_of}
use Rattle.pair.proofs.Order.{lesser-pair_of}
use Rattle.job.specs.Carried.{most_faces}
use Rattle.plain.specs.Walked.{case_with, short_of, Keeps}

-- a later total falls short as its pair does
pub short-of : (s : Side) (u v : ℤ) → short_of s (pair_of u) (pair_of v) ≡ short s u v
short-of Greatest u v = lesser-pair_of u v
short-of Least u v = lesser-pair_of v u

-- the later case as the code makes it
abbrev pub later : Pair → ℕ → ℕ → ℕ → List ℕ → Extreme
later p w i n chosen = record { total = p; wind = w; internal = i; faces = n; alternative = chosen }

module _ (s : Side) (n : ℕ) (e : Extreme) (p : Pair) (v : ℤ) (w i : ℕ) (ks choice : List ℕ) (some : 0 < w)
    (is : p ≡ pair_of v) (chosen : choice ≡ padded most_faces ks) where
  abbrev next : Best (Case ℕ ℕ ℕ)
  next = at v (case_with w i ks)

  later-kept : e.faces ≡ n → Keeps n (later p w i e.faces choice) next
  unfolding shown
  later-kept f = record { is = λ j. later (is j) w i (f j) (chosen j); wind = some }

  -- the test of the pairs is that of the totals
  tested : (u : ℤ) {t : Bool} → e.total ≡ pair_of u → short_of s e.total p ≡ t → short s u v ≡ t
  tested u same h = sym (short-of s u v) ∙ (λ j. short_of s (sym same j) (sym is j)) ∙ h

  pub kept-first : e.wind ≡ 0 → (b : Best (Case ℕ ℕ ℕ)) → Keeps n e b
      → Keeps n (later p w i e.faces choice) (better s b next)
  unfolding better shown
  kept-first z none h = later-kept (ap (λ (x : Extreme). x.faces) h.is)
  kept-first z (at u c) h = absurd (omega (arith, z, ap (λ (x : Extreme). x.wind) h.is, h.wind))

  pub kept-later : (e.wind ≡ 0 → ⊥) → short_of s e.total p ≡ true → (b : Best (Case ℕ ℕ ℕ)) → Keeps n e b
      → Keeps n (later p w i e.faces choice) (better s b next)
  unfolding better shown
  kept-later z t none h = absurd (z (ap (λ (x : Extreme). x.wind) h.is))
  kept-later z t (at u c) h =
      let same = ap (λ (x : Extreme). x.total) h.is in
      rw (tested u same t) (later-kept (ap (λ (x : Extreme). x.faces) h.is))

  pub kept-earlier : (e.wind ≡ 0 → ⊥) → short_of s e.total p ≡ false → (b : Best (Case ℕ ℕ ℕ)) → Keeps n e b
      → Keeps n e (better s b next)
  unfolding better shown
  kept-earlier z t none h = absurd (z (ap (λ (x : Extreme). x.wind) h.is))
  kept-earlier z t (at u c) h =
      let same = ap (λ (x : Extreme). x.total) h.is in
      rw (tested u same t) h
