-- The speed of a wind at a height: its speed × the factor that the profile has there.
use Rattle.std.specs.Prelude.{◌≡◌, cond, ℤ, pos, nat_abs, ◌+ℤ◌, ◌-ℤ◌, ◌*ℤ◌, ◌<ℤ◌}
use mathlib.Core.List.{List, [], ◌∷◌, ◌++◌, Memᴰ}
use Rattle.std.specs.Int.Signed.{le_z}
use Rattle.whole.specs.Round.{half_up}
use Rattle.entry.specs.declared.Step.{Step}
use Rattle.worst.specs.declared.speeds.Factor.{Factor}

-- a factor is a fraction: part / whole; that of a step of the profile is in thousandths
abbrev pub unchanged : Factor
unchanged = record { part = pos 1; whole = pos 1 }

abbrev pub step_factor : Step → Factor
step_factor s = record { part = s.factor; whole = pos 1000 }

-- on the straight line from one step of the profile to the next
abbrev pub factor_between : Step → Step → ℤ → Factor
factor_between s t h =
    record {
      part = s.factor *ℤ (t.height -ℤ h) +ℤ t.factor *ℤ (h -ℤ s.height);
      whole = pos 1000 *ℤ (t.height -ℤ s.height);
    }

-- the factor at a height: a walk up the profile; where there is none the speed stays as it is
unfoldable pub factor_at : List Step → ℤ → Factor
factor_at [] h = unchanged
factor_at (s ∷ []) h = step_factor s
factor_at (s ∷ t ∷ steps) h = cond (le_z h t.height) (factor_between s t h) (factor_at (t ∷ steps) h)

-- speed × factor, rounded once to a tenth of m/s, a half going up
unfoldable pub speed_at : Factor → ℤ → ℤ
speed_at k speed = pos (half_up (nat_abs (speed *ℤ k.part)) (nat_abs k.whole))

-- what the factor at a height is, said of the profile's steps and not of how they are found: on a step, that step's;
-- between two that follow each other, on the straight line from one to the other
pub data FactorLies (profile : List Step) (h : ℤ) (k : Factor) : Type 0 where
  on_step : (s : Step) → Memᴰ s profile → h ≡ s.height → k.part *ℤ pos 1000 ≡ s.factor *ℤ k.whole
      → FactorLies profile h k
  between_steps : (s t : Step) (before after : List Step) → profile ≡ before ++ (s ∷ t ∷ after) → s.height <ℤ h
      → h <ℤ t.height
      → k.part *ℤ (pos 1000 *ℤ (t.height -ℤ s.height))
      ≡ (s.factor *ℤ (t.height -ℤ h) +ℤ t.factor *ℤ (h -ℤ s.height)) *ℤ k.whole
      → FactorLies profile h k

pub record FactorIs (profile : List Step) (h : ℤ) (k : Factor) : Type 0 where
  pub some : pos 0 <ℤ k.whole
  pub lies : FactorLies profile h k
