-- What the readings of the walls' table share: two years that have a building in order answer the same about it, and
-- where a is not b all years answer the same but for the line of a refused building.
use mathlib.Core.Path.{◌≡◌, refl, sym, ap, ◌∙◌}
use Prim.Native.Nat.{ℕ}
use lib.IntN.{ℤ, pos}
use mathlib.Core.Bool.{true, false, true≢false}
use Rattle.std.specs.Prelude.{Err}
use Rattle.whole.proofs.Tests.{by-test}
use Rattle.verdict.specs.Verdict.{refusal}
use Rattle.building.specs.declared.Building.{Building}
use Rattle.building.specs.Test.{beyond}
use Rattle.building.specs.Year.{last_year, is_year, building_line}
use Rattle.building.specs.Building.{given_fault}
use Rattle.building.specs.Places.{knows, place_on}
use Rattle.building.proofs.Judged.{InYear, first-checks, bad-building, bad-direction, bad-place}
use Rattle.building.proofs.Readings.{in-order-last, fault-apart, given-apart}
use Rattle.book.specs.Question.{outside_of}
use Rattle.book.proofs.Answers.{answered}

module _ (y z : ℤ) (g : Building) (direction : ℤ) (place : ℕ) where
  pub readings-agree : InYear y g → InYear z g → outside_of y g direction place ≡ outside_of z g direction place
  unfolding outside_of
  readings-agree e l =
      by-test (knows g.kind direction)
      (λ f. by-test (place_on g.kind direction place)
      (λ p. answered y g direction place e f p ∙ sym (answered z g direction place l f p))
      (λ p. rw (bad-place y g direction place e f p, bad-place z g direction place l f p)))
      (λ f. rw (bad-direction y g direction place e f, bad-direction z g direction place l f))

  -- the same answer, or the same number of a refused building at its line in each year
  pub data Apart : Type 0 where
    same : outside_of y g direction place ≡ outside_of z g direction place → Apart
    lines : (n : ℕ) → outside_of y g direction place ≡ Err (refusal n (building_line y))
        → outside_of z g direction place ≡ Err (refusal n (building_line z)) → Apart

  pub readings-apart : is_year y ≡ true → is_year z ≡ true → (g.a ≡ g.b → ⊥) → Apart
  unfolding outside_of
  readings-apart p q h =
      first-checks y g direction place (λ e. absurd (clash e))
      (λ e f.
      let n = given-apart y z g h in
      lines (given_fault y g) (rw (bad-building y g direction place p f))
      (rw (bad-building z g direction place q (λ k. f (n ∙ k)))
      (ap (λ m. Err (refusal m (building_line z))) (sym n))))
      (λ e. same (readings-agree e (record { is = q; none = sym (fault-apart y z g h) ∙ e.none })))
    where
      clash : is_year y ≡ false → ⊥
      clash e = true≢false (sym p ∙ e)

-- a building in order by a year is so by the last
pub last-year : (year : ℤ) (g : Building) → InYear year g → InYear (pos last_year) g
unfolding beyond
last-year year g e = record { is = refl; none = in-order-last year g e.none }
