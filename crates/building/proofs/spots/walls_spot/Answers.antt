-- `spots::walls_spot`: by the definition's own tests.
-- a range from one number to so many times b, as the calls give it
use Prim.Native.Nat.{ℕ, ◌*◌, ◌/◌, ◌^◌, ◌<◌, min}
use mathlib.Core.Path.{◌≡◌, refl, ap, sym, ◌∙◌}
use mathlib.Core.Bool.{true}
use native.Mathlib.Nat.{div-one}
use native.Mathlib.Omega.{arith}
use lib.IntN.{ℤ, pos}
use lib.Signed.{mag}
use mir.Syntax.{w64}
use mir.Val.{to_z, of_z}
use mir.Facts.{to_z_pos}
use Rattle.whole.proofs.Size.{said}
use Rattle.building.specs.declared.Spot.{Spot}
use Rattle.building.specs.Fault.{ranged}
use Rattle.building.specs.Year.{has_squares}
use Rattle.building.specs.Building.{most_length, most_slender, walls_spot}
use Rattle.building.specs.Ratio.{up_to}
use Rattle.building.proofs.spots.walls_spot.Goals.{After-has_squares, Start}
use Rattle.building.proofs.spots.walls_spot.Goals as goal

to-most : (field times b : ℕ) (least : ℤ) {z : ℤ} {r : Spot} → r ≡ ranged field least (to_z w64 (of_z w64 z))
    → mag z < 2 ^ 63 → z ≡ pos (min most_length (times * b))
    → r ≡ ranged field least (pos (min most_length (times * b / 1)))
to-most field times b least {z} e h g =
    said (ranged field least) z e h
    ∙ ap (ranged field least) (g ∙ ap (λ (n : ℕ). pos (min most_length n)) (sym (div-one (times * b))))

-- the range of a, from this least
long : (b n : ℕ) {m : ℕ} {z : ℤ} {r : Spot} → r ≡ ranged 2 (to_z w64 m) (to_z w64 (of_z w64 z)) → m < 2 ^ 63 → m ≡ n
    → mag z < 2 ^ 63 → z ≡ pos (min most_length (4 * b)) → r ≡ ranged 2 (pos n) (pos (min most_length (4 * b / 1)))
long b n {m} {z} e f q h g =
    to-most 2 4 b (pos n) (e ∙ ap (λ (l : ℤ). ranged 2 l (to_z w64 (of_z w64 z))) (to_z_pos w64 f ∙ ap pos q)) h g

module _ (c : After-has_squares) where
  abbrev start : Start
  start = (goal.at.After-has_squares c).Start

  slender : up_to start.args.s.h start.args.s.b most_slender ≡ true
  slender = sym c.up_to.ensures ∙ c.if-not-up_to.false

  squares : c.has_squares.result ≡ has_squares start.args.year
  squares = said has_squares start.args.year c.has_squares.ensures start.ranges.year.sfits

pub returns-then-not-up_to : goal.returns-then-not-up_to
unfolding walls_spot
returns-then-not-up_to c =
    let s = c.args.s in
    rw (sym c.up_to.ensures ∙ c.if-not-up_to.true)
    (to-most 1 6 s.b (pos 100) c.ranged.ensures c.length_to.type_inv c.length_to.ensures)

pub returns-then-has_squares : goal.returns-then-has_squares
unfolding walls_spot
returns-then-has_squares c =
    let at_has_squares = (goal.at.returns-then-has_squares c).After-has_squares in
    rw (slender at_has_squares, sym (squares at_has_squares) ∙ c.if-has_squares.true)
    (long c.args.s.b _ c.ranged-then-has_squares.ensures (omega
    (arith, c.struct_known-1.given)) refl c.length_to-then-has_squares.type_inv
    c.length_to-then-has_squares.ensures)

pub returns : goal.returns
unfolding walls_spot
returns c =
    let at_has_squares = (goal.at.returns c).After-has_squares in
    rw (slender at_has_squares, sym (squares at_has_squares) ∙ c.if-has_squares.false)
    (long c.args.s.b _ c.ranged-2.ensures (omega (arith, c.struct_known-2-1.given)) refl
    c.length_to-2.type_inv
    c.length_to-2.ensures)
