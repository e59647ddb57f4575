-- `Table::found` meets its contract: what was asked for stands, and else it stands after its half is filled.
use mathlib.Core.Path.{◌≡◌, refl, ap, ◌∙◌, subst}
use Prim.Native.Nat.{ℕ, ◌+◌, ◌<◌}
use lib.IntN.{ℤ}
use lib.ListN.{get_or}
use mir.Syntax.{w64}
use mir.Val.{SFits, to_z, of_z}
use mir.ValLaws.{to_z-of_z}
use borrow.Author.Rules.{rules}
use Rattle.std.specs.Prelude.{None}
use Rattle.worst.specs.Table.{outside_at, place_of, direction_at, zone_at, Stands}
use Rattle.worst.proofs.Table.{place-back, stands-for, half-stands}
use Rattle.worst.proofs.outside.Table.found.Goals.{After-place_of-k}
use Rattle.worst.proofs.outside.Table.found.Goals as goal

-- the direction is read back as it is
direction : (c : After-place_of-k) → to_z w64 (of_z w64 c.args.w.direction) ≡ c.args.w.direction
direction c = let fits : SFits w64 c.args.w.direction = search rules in to_z-of_z w64 _ fits

place : (c : After-place_of-k) → c.place_of-k.result ≡ place_of c.args.w.direction c.args.zone
place c = c.place_of-k.ensures.0 ∙ ap (λ (z : ℤ). place_of z c.args.zone) (direction c)

pub returns-in-Some : goal.returns-in-Some
returns-in-Some c =
    let a = c.args in
    let t = a.self.now in
    let p = place (goal.at.returns-in-Some c).After-place_of-k in
    let right = t.filled.right c.place_of-k.result c.in-Some.o c.in-Some.is in (
      right
          ∙ ap (λ n. outside_at t.building (direction_at n) (zone_at n)) p
          ∙ place-back t.building a.w.direction a.zone c.requires,
      refl,
    )

pub returns : goal.returns
returns c =
    let a = c.args in
    let at_place = (goal.at.returns c).After-place_of-k in
    let b = a.self.now.building in
    let t = c.fill.new.self.place in
    let from = c.half_of.result in
    let half = c.half_of.ensures in
    let four = subst (λ (z : ℤ). (j : ℕ) → j < 4 → Stands b t (place_of z from + j)) (direction at_place)
    c.fill.ensures.1 in
    let stands = half-stands b t a.w.direction from a.zone half.1 half.2 half.3 four in
    let e = ap (λ n. get_or t n None) (place at_place) in
    (cc (c.unwrap.ensures, e, stands-for b t a.w.direction a.zone c.requires stands), c.fill.ensures.0)
