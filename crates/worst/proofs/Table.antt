-- The table of coefficients: a place tells its direction and zone, what is stored at a place stands there, and all
-- else stands as before.
use Rattle.std.specs.Prelude.{Option, None, Some}
use mathlib.Core.Path.{◌≡◌, refl, sym, ap, ap₂, ◌∙◌, subst}
use mathlib.Core.List.{List}
use Prim.Native.Nat.{ℕ, zero, suc, ◌+◌, ◌-◌, ◌*◌, ◌/◌, ◌%◌, ◌≤◌, ◌<◌}
use native.Mathlib.Omega.{arith}
use borrow.Author.Tests.{eqb-true, eqb-false}
use lib.Dec.{eqb}
use lib.IntN.{ℤ, pos, nat_abs}
use lib.ListN.{get_or, set, replicate, length-set}
use lib.Seq.{get_or-set_same, get_or-set_other}
use Rattle.whole.proofs.Tests.{by-test}
use Rattle.building.specs.declared.Building.{Building}
use Rattle.building.specs.Places.{A, E, H}
use Rattle.building.specs.Year.{last_year}
use Rattle.book.specs.declared.Ends.{Ends}
use Rattle.book.specs.Zones.{ends_at}
use Rattle.worst.specs.declared.outside.Outside.{Outside}
use Rattle.worst.specs.Table.{outside_at, places, place_of, Placed, direction_at, zone_at, ends_kept, Stands}
use Rattle.worst.specs.Table.{Filled, Begins, walls, roof}

-- ---- places

pub place-below : (d : ℤ) (z : ℕ) → Placed d z → place_of d z < places
place-below d z h =
    let turn = h.turn in
    let few = h.few in
    rw h.way (omega (arith, h.to))

-- the direction and the zone of the place of a direction and a zone
pub place-back : (b : Building) (d : ℤ) (z : ℕ) → Placed d z
    → outside_at b (direction_at (place_of d z)) (zone_at (place_of d z)) ≡ outside_at b d z
place-back b d z h =
    let k = h.turn * 45 / 45 * 8 + (z - A) in
    let direction : k / 8 * 45 ≡ h.turn * 45 = omega (arith, h.from, h.to) in
    let zone : A + k % 8 ≡ z = omega (arith, h.from, h.to) in
    rw h.way (ap₂ (λ (n m : ℕ). outside_at b (pos n) m) direction zone)

-- another zone under the same direction, and its place
pub placed_at : (d : ℤ) (z y : ℕ) → Placed d z → A ≤ y → y ≤ H → Placed d y
placed_at d z y h from to = record { turn = h.turn; few = h.few; way = h.way; from = from; to = to }

pub place-on : (d : ℤ) (z j : ℕ) → A ≤ z → place_of d z + j ≡ place_of d (z + j)
place-on d z j h = let turn = nat_abs d / 45 in omega arith

-- the four zones of a half
half-most : (z : ℕ) → Begins z → z ≤ E
half-most z (walls e) = omega arith
half-most z (roof e) = omega arith

module _ (d : ℤ) (z j : ℕ) (h : Placed d z) (b : Begins z) (k : j < 4) where
  pub half-placed : Placed d (z + j)
  half-placed =
      placed_at d z (z + j) h (omega (arith, h.from)) (omega (arith, half-most z b))

  pub half-below : place_of d z + j < places
  half-below = subst (λ (n : ℕ). n < places) (sym (place-on d z j h.from)) (place-below d (z + j) half-placed)

pub half-stands : (b : Building) (t : List (Option Outside)) (d : ℤ) (from zone : ℕ) → A ≤ from → from ≤ zone
    → zone < from + 4 → ((j : ℕ) → j < 4 → Stands b t (place_of d from + j)) → Stands b t (place_of d zone)
half-stands b t d from zone g h k s =
    let e : from + (zone - from) ≡ zone = omega arith in
    subst (Stands b t) (place-on d from (zone - from) g ∙ ap (place_of d) e) (s (zone - from) (omega arith))

-- what stands at the place of a direction and a zone are their coefficients
pub stands-for : (b : Building) (t : List (Option Outside)) (d : ℤ) (z : ℕ) → Placed d z → Stands b t (place_of d z)
    → get_or t (place_of d z) None ≡ Some (outside_at b d z)
stands-for b t d z h s = s ∙ ap Some (place-back b d z h)

-- ---- at first nothing stands

none-stands : (n k : ℕ) → get_or (replicate {A = Option Outside} n None) k None ≡ None
none-stands zero k = refl
none-stands (suc n) zero = refl
none-stands (suc n) (suc k) = none-stands n k

pub nothing-filled : (b : Building) → Filled b (replicate places None)
nothing-filled b =
    record { all = refl; right = λ k o e. absurd (cc (none-stands places k)) }

-- ---- the coefficients of one zone kept at their place

-- what was there before, and what is there after
pub record Kept (b : Building) (t t' : List (Option Outside)) (k : ℕ) : Type 0 where
  pub filled : Filled b t'
  pub here : Stands b t' k
  pub stay : (n : ℕ) → Stands b t n → Stands b t' n

module _ (b : Building) (t : List (Option Outside)) (was : Filled b t) (k : ℕ) (room : k < places) where
  abbrev Here : Outside
  Here = outside_at b (direction_at k) (zone_at k)

  abbrev After : List (Option Outside)
  After = set t k (Some Here)

  here : get_or After k None ≡ Some Here
  here = get_or-set_same t k _ None (omega (arith, was.all))

  there : (n : ℕ) → (n ≡ k → ⊥) → get_or After n None ≡ get_or t n None
  there n other = get_or-set_other t k n _ None other

  stored : Kept b t After k
  stored =
      record {
        filled = record {
          all = length-set t k _ ∙ was.all;
          right = λ n o e. by-test (eqb n k)
              (λ q. let same = eqb-true n k q in
              rw same (cc (here, rw same at e)))
              (λ q. was.right n o (sym (there n (eqb-false n k q)) ∙ e));
        };
        here = here;
        stay = λ n s. by-test (eqb n k) (λ q. rw (eqb-true n k q) here) (λ q. there n (eqb-false n k q) ∙ s);
      }

module _ (b : Building) (d : ℤ) (z : ℕ) (h : Placed d z) where
  pub kept : (t t' : List (Option Outside)) (k : ℕ) (o : Ends) → Filled b t → k ≡ place_of d z
      → o ≡ ends_at (pos last_year) b d z → t' ≡ set t k (Some (ends_kept o)) → Kept b t t' k
  kept t t' k o was q e s =
      let room : k < places = omega (arith, place-below d z h) in
      let same : ends_kept o ≡ outside_at b (direction_at k) (zone_at k) =
      ap ends_kept e ∙ sym (place-back b d z h) ∙ ap (λ n. outside_at b (direction_at n) (zone_at n)) (sym q) in
      subst (λ u. Kept b t u k) (sym (s ∙ ap (λ v. set t k (Some v)) same)) (stored b t was k room)

-- those of four, one after another, stand at four places
pub four-stand : (b : Building) (k : ℕ) (t₁ t₂ t₃ t₄ : List (Option Outside)) → Stands b t₁ k
    → ((n : ℕ) → Stands b t₁ n → Stands b t₂ n) → Stands b t₂ (k + 1)
    → ((n : ℕ) → Stands b t₂ n → Stands b t₃ n) → Stands b t₃ (k + 2)
    → ((n : ℕ) → Stands b t₃ n → Stands b t₄ n) → Stands b t₄ (k + 3) → (j : ℕ) → j < 4 → Stands b t₄ (k + j)
four-stand b k t₁ t₂ t₃ t₄ s₁ r₂ s₂ r₃ s₃ r₄ s₄ zero h =
    r₄ _ (r₃ _ (r₂ _ (subst (Stands b t₁) (omega arith) s₁)))
four-stand b k t₁ t₂ t₃ t₄ s₁ r₂ s₂ r₃ s₃ r₄ s₄ (suc zero) h = r₄ _ (r₃ _ s₂)
four-stand b k t₁ t₂ t₃ t₄ s₁ r₂ s₂ r₃ s₃ r₄ s₄ (suc (suc zero)) h = r₄ _ s₃
four-stand b k t₁ t₂ t₃ t₄ s₁ r₂ s₂ r₃ s₃ r₄ s₄ (suc (suc (suc zero))) h = s₄
four-stand b k t₁ t₂ t₃ t₄ s₁ r₂ s₂ r₃ s₃ r₄ s₄ (suc (suc (suc (suc j)))) h = absurd (omega arith)
