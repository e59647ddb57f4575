-- Accepted is number 0 and line 0; a refusal has a number of paper 01's table, and the line at fault or, where no
-- line is, 0.
use Rattle.std.specs.Prelude.{◌≡◌, cond, ℕ, eqb}
use Rattle.verdict.specs.declared.Verdict.{Verdict}

abbrev pub accepted : Verdict
accepted = record { number = 0; line = 0 }

abbrev pub refusal : ℕ → ℕ → Verdict
refusal number line = record { number = number; line = line }

-- the earlier of two; then, where that accepts, the later
infixr 40 ◌or_then◌
abbrev pub ◌or_then◌ : Verdict → Verdict → Verdict
v or_then w = cond (eqb v.number 0) w v

abbrev pub Refuses : Verdict → Type 0
Refuses v = v.number ≡ 0 → ⊥
