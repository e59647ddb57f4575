-- Zones and locals: a place that is not on the walls needs a roof. And what the directions are that a roof knows.
use mathlib.Core.Path.{◌≡◌, refl, sym, ap, ◌∙◌, subst}
use mathlib.Core.Logic.{⊎_elim}
use mathlib.Core.List.{List, [], ◌∷◌, ◌++◌}
use mathlib.Core.Bool.{Bool, true, false, cond, not, ◌&&◌, ◌||◌, true≢false, false≢true}
use Prim.Native.Nat.{ℕ, zero, suc, ◌≤◌, ◌<◌}
use native.Mathlib.Omega.{arith}
use lib.Dec.{leb, eqb}
use lib.IntN.{ℤ, pos, negsuc, nat_abs}
use borrow.Author.Tests.{leb-true, le-leb, not-true}
use Rattle.whole.specs.Lists.{Every}
use Rattle.whole.proofs.Tests.{by-test, or-true, or-false, or_assoc, and-true}
use Rattle.building.specs.Test.{among, is, one_of, beyond}
use Rattle.building.specs.Places.{A, D, E, F, H, wall_local, gable, single, flat, zone_on, local_on}
use Rattle.building.specs.Places.{wall_place, wall_directions, slope_directions, knows, place_on}
use Rattle.building.proofs.Accepted.{Within, within}
use Rattle.building.proofs.Machine.{is_same}

pub among-yes : (least greatest n : ℕ) → among least greatest n ≡ true → (least ≤ n) × (n ≤ greatest)
among-yes least greatest n e =
    let r = and-true (leb least n) (leb n greatest) e in
    (leb-true least n r.0, leb-true n greatest r.1)

pub among-is : {least greatest n : ℕ} → least ≤ n → n ≤ greatest → among least greatest n ≡ true
among-is {least} {greatest} {n} h k = rw (le-leb least n h, le-leb n greatest k)

nowhere : (t u : Bool) → (t || u) ≡ false → ((t || (false || false)) || (u || false)) ≡ true → ⊥
nowhere true u e f = true≢false e
nowhere false true e f = true≢false e
nowhere false false e f = false≢true f

pub needs-roof : (kind : ℤ) (place : ℕ) → wall_place place ≡ false → (zone_on kind place || local_on kind place) ≡ true
    → 0 < nat_abs kind
unfolding zone_on local_on beyond
needs-roof (pos zero) place e f = absurd (nowhere (among A D place) (eqb place wall_local) e f)
needs-roof (pos (suc n)) place e f = omega arith
needs-roof (negsuc n) place e f = omega arith

-- ---- the zones of roofs

is-gable : (kind : ℤ) → gable kind ≡ true → nat_abs kind ≡ 1
is-gable kind e = ap nat_abs (is_same (pos 1) kind e)

is-single : (kind : ℤ) → single kind ≡ true → nat_abs kind ≡ 6
is-single kind e = ap nat_abs (is_same (pos 6) kind e)

is-flat : (kind : ℤ) → flat kind ≡ true → Within 2 5 kind
is-flat kind e = within 2 5 kind (not-true (beyond (pos 2) (pos 5) kind) e)

-- a zone that is not on the walls is a gable's, a single slope's, or E or F of a flat roof
pub data RoofZone (kind : ℤ) (zone : ℕ) : Type 0 where
  of-gable : nat_abs kind ≡ 1 → RoofZone kind zone
  of-single : nat_abs kind ≡ 6 → RoofZone kind zone
  of-flat : Within 2 5 kind → E ≤ zone → zone ≤ F → RoofZone kind zone

pub roof-zone : (kind : ℤ) (zone : ℕ) → zone_on kind zone ≡ true → wall_place zone ≡ false → RoofZone kind zone
unfolding zone_on
roof-zone kind zone e f =
    let off = (or-false (among A D zone) (eqb zone wall_local) f).0 in
    let sloped = gable kind || single kind in
    ⊎_elim
    (λ g. ⊎_elim (λ h. of-gable (is-gable kind h)) (λ h. of-single (is-single kind h))
    (or-true (gable kind) (single kind) (and-true sloped (among E H zone) g).0))
    (λ g. let r = and-true (flat kind) (among E F zone) g in
    let z = among-yes E F zone r.1 in
    of-flat (is-flat kind r.0) z.0 z.1)
    (or-true (sloped && among E H zone) (flat kind && among E F zone) (rw off at e))

-- ---- directions

-- a test that each of these numbers passes is passed by one of them
pub one-of : (P : ℤ → Type 0) (ns : List ℤ) → Every P ns → (z : ℤ) → one_of ns z ≡ true → P z
one-of P [] hs z e = absurd (true≢false (sym e))
one-of P (n ∷ ns) hs z e =
    ⊎_elim (λ q. subst P (sym (is_same n z q)) hs.0) (λ q. one-of P ns hs.1 z q) (or-true (is n z) (one_of ns z) e)

-- one of two lists
one-of-both : (ns ms : List ℤ) (z : ℤ) → one_of (ns ++ ms) z ≡ (one_of ns z || one_of ms z)
one-of-both [] ms z = refl
one-of-both (n ∷ ns) ms z = ap (λ (t : Bool). is n z || t) (one-of-both ns ms z) ∙ or_assoc (is n z) (one_of ns z) _

one-of-if : (t : Bool) (ns : List ℤ) (z : ℤ) → one_of (cond t ns []) z ≡ (t && one_of ns z)
one-of-if true ns z = refl
one-of-if false ns z = refl

-- a direction is known from the walls' table, or on a single slope
pub knows-by : (kind direction : ℤ)
    → knows kind direction ≡ (one_of wall_directions direction || single kind && one_of slope_directions direction)
unfolding knows
knows-by kind direction =
    one-of-both wall_directions (cond (single kind) slope_directions []) direction
    ∙ ap (λ (t : Bool). one_of wall_directions direction || t) (one-of-if (single kind) slope_directions direction)

-- what holds of each direction that there is holds of one that a roof knows
pub known : (P : ℤ → Type 0) (kind direction : ℤ) → Every P (wall_directions ++ slope_directions)
    → knows kind direction ≡ true → P direction
known P kind direction h e =
    one-of P (wall_directions ++ slope_directions) h direction
    (one-of-both wall_directions slope_directions direction
    ∙ weaker (one_of wall_directions direction) (single kind) (one_of slope_directions direction)
    (sym (knows-by kind direction) ∙ e))
  where
    weaker : (t u v : Bool) → (t || u && v) ≡ true → (t || v) ≡ true
    weaker true u v e = refl
    weaker false true v e = e
    weaker false false v e = absurd (true≢false (sym e))

at_most : (n : ℕ) → n ≤ 180 → Within 0 180 (pos n)
at_most n h = record { from = omega arith; to = h; plain = refl }

pub known-within : (kind direction : ℤ) → knows kind direction ≡ true → Within 0 180 direction
known-within kind direction =
    known (Within 0 180) kind direction (
      at_most 0 (omega arith),
      (
        at_most 90 (omega arith),
        (at_most 45 (omega arith), (at_most 135 (omega arith), (at_most 180 (omega arith), tt))),
      ),
    )

-- a place that is asked for is on the building
pub place-there : (kind direction : ℤ) (place : ℕ) → place_on kind direction place ≡ true
    → (zone_on kind place || local_on kind place) ≡ true
unfolding place_on
place-there kind direction place e =
    (and-true (zone_on kind place || local_on kind place) (not
    (wall_place place) || one_of wall_directions direction) e).0

-- a zone on the building is, if it is on no wall of a single slope that the direction misses
pub zone-there : (kind direction : ℤ) (zone : ℕ) → zone_on kind zone ≡ true → knows kind direction ≡ true
    → (single kind ≡ true → wall_place zone ≡ true → one_of wall_directions direction ≡ true)
    → place_on kind direction zone ≡ true
unfolding place_on
zone-there kind direction zone e f h =
    rw e
    (by-test (wall_place zone)
    (λ w. rw w (by-test (single kind) (λ s. h s w)
    (λ s. left (one_of wall_directions direction) (one_of slope_directions direction)
    (rw s at (sym (knows-by kind direction) ∙ f)))))
    (λ w. rw w))
  where
    left : (t u : Bool) → (t || (false && u)) ≡ true → t ≡ true
    left true u e = refl
    left false u e = e
