-- A wind that no extreme names can be dropped: the totals stay, and so does the rest of each named case, the later
-- winds' numbers going down by one.
use mathlib.Core.Path.{◌≡◌, refl, sym, ap, ◌∙◌}
use mathlib.Core.Logic.{inl, inr, ⊎_elim}
use mathlib.Core.List.Memᴰ
use mathlib.Core.List.{◌++◌, Memᴰ}
use Prim.Native.Nat.{ℕ, suc, ◌-◌, ◌≤◌}
use native.Mathlib.Omega.{arith}
use lib.ListN.{length}
use Rattle.whole.specs.Lists.{numbers, take_out, renumbered}
use Rattle.whole.proofs.Numbers.{numbers-member}
use Rattle.whole.proofs.TakenOut.{every-take_out, numbers-around, numbers-closed, take_out-length, take_out-at}
use Rattle.job.specs.Carried.{Carried, with_winds, no_wind}
use Rattle.job.specs.InOrder.{InOrder, WindInOrder}
use Rattle.worst.specs.declared.Side.{Side}
use Rattle.worst.specs.declared.Axis.{Axis}
use Rattle.worst.specs.declared.Extreme.{Extreme}
use Rattle.worst.specs.Forces.{alternatives, force, wind_at, internal_at, loads}
use Rattle.worst.specs.Shown.{shown}
use Rattle.worst.specs.Worst.{given, extreme}
use Rattle.worst.proofs.Promises.{extreme-shows}
use Rattle.worst.proofs.Without.{Without, dropped-worst}

-- an extreme with another number for its wind
abbrev pub numbered : (ℕ → ℕ) → Extreme → Extreme
numbered number e =
    record {
      total = e.total;
      wind = number e.wind;
      internal = e.internal;
      faces = e.faces;
      alternative = e.alternative;
    }

module _ (c : Carried) (k : ℕ) (low : 1 ≤ k) (high : k ≤ length c.winds) where
  abbrev fewer : Carried
  fewer = with_winds (take_out k c.winds) c

  same-wind : (w : ℕ) → Memᴰ w (numbers (k - 1) 1 ++ numbers (length c.winds - k) (suc k))
      → wind_at (given fewer) (renumbered k w) ≡ wind_at (given c) w
  same-wind w m =
      ⊎_elim
      (λ a.
      let b = numbers-member (k - 1) 1 a in
      take_out-at k c.winds low high w no_wind b.low (λ e. omega (arith, b.high)))
      (λ a.
      let b = numbers-member (length c.winds - k) (suc k) a in
      take_out-at k c.winds low high w no_wind (omega (arith, b.low)) (λ e. omega (arith, b.low)))
      (Memᴰ.append_cases (numbers (k - 1) 1) m)

  loads-without : (axis : Axis) → Without (loads axis (given c)) (loads axis (given fewer)) (renumbered k) k
  loads-without axis =
      record {
        before = numbers (k - 1) 1;
        after = numbers (length c.winds - k) (suc k);
        winds = numbers-around k (length c.winds) low high;
        others =
            ap (λ n. numbers n 1) (take_out-length k c.winds low high)
            ∙ numbers-closed k (length c.winds) low high;
        internals = refl;
        faces = refl;
        alternatives = λ w m j f. alternatives (given c) (same-wind w m j) f;
        force = λ w m j i f a. force axis (given c) (same-wind w m j) (internal_at (given c) i) f a;
      }

  -- an extreme of another wind stays, but for that wind's number
  pub dropped-extreme : (axis : Axis) (s : Side) → InOrder c → ((extreme axis s c).wind ≡ k → ⊥)
      → extreme axis s fewer ≡ numbered (renumbered k) (extreme axis s c)
  unfolding shown
  dropped-extreme axis s o n =
      let r = extreme-shows axis s c o in
      let name = ap (λ (x : Extreme). x.wind) r.named in
      ap (shown (length c.faces)) (dropped-worst s (loads-without axis) r.found (λ e. n (name ∙ e)))
      ∙ sym (ap (numbered (renumbered k)) r.named)

  -- and with a wind left the job is in order
  pub dropped-in-order : 2 ≤ length c.winds → InOrder c → InOrder fewer
  dropped-in-order two o =
      let left = take_out-length k c.winds low high in
      record {
        building = o.building;
        winds-counted = record { low = omega (arith, left); high = omega (arith, left, o.winds-counted.high) };
        winds = every-take_out (WindInOrder c.building) k c.winds o.winds;
        internals-counted = o.internals-counted;
        internals = o.internals;
        faces-counted = o.faces-counted;
        faces = o.faces;
        form =
            ⊎_elim (λ y. inl (record { year = y.year; profile = y.profile; heights = y.heights }))
            (λ y.
            inr
            (record {
              year = y.year;
              counted = y.counted;
              profile = y.profile;
              rising = y.rising;
              heights = y.heights;
            }))
            o.form;
      }
