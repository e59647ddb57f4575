-- `Table::fill` meets its contract: the coefficients of four zones are kept one after another.
use mathlib.Core.Path.{◌≡◌, refl, ap, ◌∙◌, subst}
use Prim.Native.Nat.{ℕ, ◌+◌}
use lib.Dec.{lit<}
use lib.IntN.{ℤ, pos}
use Rattle.whole.proofs.Size.{said}
use Rattle.building.specs.declared.Building.{Building}
use Rattle.building.specs.Year.{last_year}
use Rattle.book.specs.declared.Four.{Four}
use Rattle.book.specs.Zones.{four_from}
use Rattle.worst.specs.Table.{place_of, Stands}
use Rattle.worst.proofs.Table.{Kept, kept, place-on, half-placed, four-stand}
use Rattle.worst.proofs.outside.Table.fill.Goals.{After-keep-4}
use Rattle.worst.proofs.outside.Table.fill.Goals as goal

module _ (c : After-keep-4) where
  abbrev b : Building
  b = c.args.self.now.building

  abbrev k : ℕ
  k = c.place_of-k.result

  -- what was looked up, and where the four places begin
  four : c.looked_up-four.result ≡ four_from (pos last_year) b c.args.direction c.args.from
  four =
      said (λ (z : ℤ). four_from (pos last_year) b z c.args.from) c.args.direction c.looked_up-four.ensures
      c.ranges.direction.sfits

  place : k ≡ place_of c.args.direction c.args.from
  place =
      said (λ (z : ℤ). place_of z c.args.from) c.args.direction c.place_of-k.ensures.0 c.ranges.direction.sfits

  next : (j : ℕ) → k + j ≡ place_of c.args.direction (c.args.from + j)
  next j = ap (λ (n : ℕ). n + j) place ∙ place-on c.args.direction c.args.from j c.requires.1.from

  -- each after the one before
  kept₁ : Kept b c.args.self.now.place c.keep.new.place k
  kept₁ =
      kept b c.args.direction c.args.from c.requires.1 _ _ k _ c.args.self.now.filled place
      (ap (λ (f : Four). f.first) four) c.keep.ensures

  kept₂ : Kept b c.keep.new.place c.keep-2.new.place (k + 1)
  kept₂ =
      kept b c.args.direction (c.args.from + 1)
      (half-placed c.args.direction c.args.from 1 c.requires.1 c.requires.0 (lit< tt)) _ _ (k + 1) _
      kept₁.filled (next 1) (ap (λ (f : Four). f.second) four) c.keep-2.ensures

  kept₃ : Kept b c.keep-2.new.place c.keep-3.new.place (k + 2)
  kept₃ =
      kept b c.args.direction (c.args.from + 2)
      (half-placed c.args.direction c.args.from 2 c.requires.1 c.requires.0 (lit< tt)) _ _ (k + 2) _
      kept₂.filled (next 2) (ap (λ (f : Four). f.third) four) c.keep-3.ensures

  kept₄ : Kept b c.keep-3.new.place c.keep-4.new.place (k + 3)
  kept₄ =
      kept b c.args.direction (c.args.from + 3)
      (half-placed c.args.direction c.args.from 3 c.requires.1 c.requires.0 (lit< tt)) _ _ (k + 3) _
      kept₃.filled (next 3) (ap (λ (f : Four). f.fourth) four) c.keep-4.ensures

pub invariant_of-self : goal.invariant_of-self
invariant_of-self c = record { filled = (kept₄ c).filled }

pub returns : goal.returns
returns c = (
  refl,
  λ j h.
      let a = (goal.at.returns c).After-keep-4 in
      subst (λ (n : ℕ). Stands (b a) a.keep-4.new.place (n + j)) (place a)
      (four-stand (b a) (k a) _ _ _ _ (kept₁ a).here (kept₂ a).stay (kept₂ a).here (kept₃ a).stay (kept₃ a).here
      (kept₄ a).stay (kept₄ a).here j h),
)
