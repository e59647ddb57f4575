-- A job with a wind and an internal coefficient has a best cell, and its wind is one of the job's.
use mathlib.Core.Path.{◌≡◌, refl, sym, ap, ◌∙◌, subst}
use mathlib.Core.Bool.{Bool, true, false, cond}
use Prim.Native.Nat.{ℕ, zero, suc, ◌+◌, ◌≤◌, ◌<◌}
use native.Mathlib.Omega.{arith}
use lib.Dec.{eqb}
use Rattle.pair.specs.Total.{units}
use Rattle.job.specs.declared.Job.{Job}
use Rattle.pair.specs.declared.Pair.{Pair}
use Rattle.worst.specs.declared.Side.{Side}
use Rattle.worst.specs.declared.Axis.{Axis}
use Rattle.worst.specs.declared.Stored.{Stored}
use Rattle.worst.specs.declared.tops.Top.{Top}
use Rattle.worst.specs.Best.{short, Best, none, at, better}
use Rattle.whole.specs.Lists.{numbers}
use Rattle.worst.specs.Quick.{over}
use Rattle.worst.specs.Engine.{Cell, cell, top_of, wind_best, best_up_to}
use Rattle.worst.specs.Small.{Ready, OnJob}

-- something was found, and P holds of it
abbrev Found : {A : Type 0} → (A → Type 0) → Best A → Type 0
Found P none = ⊥
Found P (at v t) = P t

module _ {A : Type 0} (s : Side) (P : A → Type 0) where
  better-found : (a b : Best A) → Found P a → Found P b → Found P (better s a b)
  unfolding better
  better-found none b p q = absurd p
  better-found (at x a) none p q = p
  better-found (at x a) (at y b) p q = go (short s x y)
    where
      go : (k : Bool) → Found P (cond k (at y b) (at x a))
      go true = q
      go false = p

  found-alone : (a : Best A) → Found P a → Found P (better s a none)
  unfolding better
  found-alone none p = p
  found-alone (at x a) p = p

  over-found : (g : ℕ → Best A) (n k : ℕ) → 0 < n → ((x : ℕ) → k ≤ x → x < k + n → Found P (g x))
      → Found P (over s g (numbers n k))
  unfolding over numbers
  over-found g zero k h f = absurd (omega arith)
  over-found g (suc zero) k h f = found-alone (g k) (f k (omega arith) (omega arith))
  over-found g (suc (suc n)) k h f =
      better-found (g k) (over s g (numbers (suc n) (suc k))) (f k (omega arith) (omega arith))
      (over-found g (suc n) (suc k) (omega arith) (λ x l u. f x (omega arith) (omega arith)))

module _ (axis : Axis) (s : Side) (t : Stored) (j : Job) (h : Ready j) where
  -- a cell of one of the job's winds
  abbrev Counts : Cell → Type 0
  Counts t = (0 < t.wind) × (t.wind ≤ j.winds.count)

  abbrev best : Best Cell
  best = best_up_to axis s t j.internals.count j.winds.count

  best-found : Found Counts best
  best-found =
      over-found s Counts (wind_best axis s t j.internals.count) j.winds.count 1 h.some_wind
      (λ w low high.
      over-found s Counts _ j.internals.count 1 h.some_internal (λ i l u. (omega arith, omega arith)))

  -- the best cell, as a top has it
  pub record IsTop (e : Top Pair) : Type 0 where
    pub on_job : OnJob j e
    pub best : at (units e.total) (cell e.wind e.internal)
        ≡ best_up_to axis s t j.internals.count j.winds.count

  pub is-top : (e : Top Pair) → top_of e ≡ best → IsTop e
  is-top e q = go (eqb e.wind 0) refl (subst (Found Counts) (sym q) best-found)
    where
      go : (z : Bool) → eqb e.wind 0 ≡ z → Found Counts (top_of e) → IsTop e
      go true z f = absurd (rw z at f)
      go false z f =
          let counts = rw z at f in
          record {
            on_job = record { wind = counts.0; wind≤ = counts.1 };
            best = sym (ap (λ b. cond b none (at (units e.total) (cell e.wind e.internal))) z) ∙ q;
          }
