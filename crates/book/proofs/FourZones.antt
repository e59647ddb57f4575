-- Four zones at once: their cells and columns, and that each has what the question about it answers.
use mathlib.Core.Path.{◌≡◌, refl, sym, ap, ◌∙◌, subst}
use mathlib.Core.Bool.{Bool, true, false, cond, ◌&&◌, true≢false}
use mathlib.Core.Logic.{◌⊎◌, inl, inr}
use Prim.Native.Nat.{ℕ, zero, suc, ◌+◌, ◌-◌, ◌≤◌, ◌<◌}
use native.Mathlib.Omega.{arith}
use lib.Dec.{eqb, lit<}
use lib.IntN.{ℤ, pos, nat_abs, neg_ℤ, ◌*ℤ◌}
use lib.ListN.{get_or, drop}
use lib.Seq.{get_or-take, get_or-drop}
use borrow.Author.Tests.{eq-eqb, ne_eqb, eqb-true, eqb-false, not-true, not-false}
use Rattle.std.specs.Prelude.{Err}
use Rattle.whole.proofs.Tests.{by-test, and-true}
use Rattle.building.specs.declared.Building.{Building}
use Rattle.building.specs.declared.Sizes.{Sizes}
use Rattle.verdict.specs.declared.Verdict.{Verdict}
use Rattle.building.specs.Test.{beyond, one_of}
use Rattle.building.specs.Order.{SizesInOrder}
use Rattle.building.specs.Building.{sizes}
use Rattle.building.specs.Places.{A, D, E, F, G, H, wall_local, wall_place, wall_directions, zone_on, local_on}
use Rattle.building.specs.Places.{knows, place_on}
use Rattle.building.specs.Question.{Question, sized_of}
use Rattle.building.proofs.Places.{among-yes, among-is, knows-by}
use Rattle.building.proofs.Accepted.{good-fields}
use Rattle.building.proofs.Judged.{InYear, bad-direction, bad-place, onward, asked-onward}
use Rattle.book.specs.declared.Cited.{Cited}
use Rattle.book.specs.declared.Ends.{Ends}
use Rattle.book.specs.declared.Four.{Four}
use Rattle.book.specs.Row.{Row, hundredths}
use Rattle.book.specs.Line.{value_at}
use Rattle.book.specs.Walls.{wall_row}
use Rattle.book.specs.Roofs.{flat_roof, width, roof_way}
use Rattle.book.specs.Held.{wall_cells}
use Rattle.book.specs.Answer.{Answer, values_in, values_of}
use Rattle.book.specs.Question.{wall_column, gable_column, single_column, flat_column, roof_column, two_signs}
use Rattle.book.specs.Question.{answer_to, outside_of}
use Rattle.book.specs.Zones.{ends_of, ends_at, four_from, both_ends, no_ends, no_four, ends_on, four_on, wall_half}
use Rattle.book.specs.Zones.{by_flanks, roof_on, roof_half}
use Rattle.book.proofs.Between.{value_on}
use Rattle.book.proofs.Roofed.{flat-f}
use Rattle.book.proofs.Answers.{on-wall, on-f, on_one, answered}

-- ---- the walls' zones

-- a cell of A to D is that of its column
module _ (r : Row) (wind k : ℕ) (h : k < 4) where
  cell_at : get_or (wall_cells r wind) k (pos 0) ≡ hundredths r (cond (eqb wind 0) k (4 + k))
  cell_at =
      by-test (eqb wind 0) (λ e. rw e (get_or-take 4 r.cells k (pos 0) h))
      (λ e. rw e (get_or-take 4 (drop 4 r.cells) k (pos 0) h ∙ get_or-drop 4 r.cells k (pos 0)))

  column-at : wall_column wind (A + k) ≡ cond (eqb wind 0) k (4 + k)
  unfolding wall_column
  column-at =
      let off = ne_eqb (A + k) wall_local (λ e. omega arith) in
      let from : A + k - A ≡ k = omega arith in
      rw (off, from)

wall-zone : (k : ℕ) → k < 4 → wall_place (A + k) ≡ true
wall-zone k h = rw (among-is {least = A} {greatest = D} {n = A + k} (omega arith) (omega arith))

-- zone k has its cell, in thousandths
pub wall-ends : (s : Sizes) (wind k : ℕ) → k < 4 → (z : ℤ)
    → z ≡ get_or (wall_cells (wall_row s.h s.a s.b) wind) k (pos 0)
    → both_ends (z *ℤ pos 10) ≡ ends_on s wind (A + k)
wall-ends s wind k h z e =
    let r = wall_row s.h s.a s.b in
    let cell = e ∙ cell_at r wind k h ∙ ap (hundredths r) (sym (column-at r wind k h)) in
    ap both_ends (ap (λ (y : ℤ). y *ℤ pos 10) cell ∙ sym (value_on r (wall_column wind (A + k))))
    ∙ sym (ap (λ (c : Cited). ends_of (values_in c.values)) (on-wall s wind (A + k) (wall-zone k h)))

-- ---- the roof's zones

flat-signs : (kind : ℕ) → two_signs kind F ≡ true → (flat_roof kind && true) ≡ true
unfolding two_signs
flat-signs kind e = e

f-column : (kind wind : ℕ) → flat_roof kind ≡ true → roof_column kind wind F ≡ 1
unfolding roof_column flat_column
f-column kind wind f =
    let k = among-yes 2 5 kind f in
    rw (ne_eqb kind 1 (λ p. omega arith), ne_eqb kind 6 (λ p. omega arith))

module _ (s : Sizes) (wind : ℕ) where
  abbrev column : ℕ → ℕ
  column = roof_column s.kind wind

  -- zone F of a flat roof has both signs
  pub f-ends : SizesInOrder s → 0 < s.kind → two_signs s.kind F ≡ true
      → ◌≡◌ {A = Ends} (record { first = pos 200; last = neg_ℤ (pos 200) }) (ends_on s wind F)
  f-ends o roofed two =
      let flat = (and-true (flat_roof s.kind) true (flat-signs s.kind two)).0 in
      let v = ap (value_at (roof_way s)) (f-column s.kind wind flat) ∙ flat-f s o roofed flat in
      sym (ap (λ (c : Cited). ends_of (values_in c.values)) (on-f s wind F refl two)
      ∙ (λ j. record { first = v j; last = neg_ℤ (v j) }))

  -- and any other zone one
  pub one-ends : (zone : ℕ) → wall_place zone ≡ false → two_signs s.kind zone ≡ false
      → both_ends (value_at (roof_way s) (column zone)) ≡ ends_on s wind zone
  one-ends zone e f = sym (ap (λ (c : Cited). ends_of (values_in c.values)) (on_one s wind zone e f))

-- zone E has one sign, and so has every zone of a roof that is not flat
and_no : (t : Bool) → (t && false) ≡ false
and_no true = refl
and_no false = refl

pub e-one : (kind : ℕ) → two_signs kind E ≡ false
unfolding two_signs
e-one kind = and_no (flat_roof kind)

pub one-sign : (kind zone : ℕ) → two_signs kind F ≡ false → two_signs kind zone ≡ false
unfolding two_signs
one-sign kind zone e = go (flat_roof kind) (eqb zone F) e
  where
    go : (t u : Bool) → (t && true) ≡ false → (t && u) ≡ false
    go true u e = absurd (true≢false e)
    go false u e = refl

-- E and F of a flat roof are the first two of four columns
pub flat-wide : (kind col : ℕ) → two_signs kind F ≡ true → col < 4 → col < width kind
flat-wide kind col e h =
    let k = among-yes 2 5 kind (and-true (flat_roof kind) true (flat-signs kind e)).0 in
    rw (ne_eqb kind 6 (λ p. omega arith)) h

e-column : (kind wind : ℕ) → flat_roof kind ≡ true → roof_column kind wind E ≡ 0
unfolding roof_column flat_column
e-column kind wind f =
    let k = among-yes 2 5 kind f in
    rw (ne_eqb kind 1 (λ p. omega arith), ne_eqb kind 6 (λ p. omega arith))

pub flat-e : (s : Sizes) (wind : ℕ) → two_signs s.kind F ≡ true
    → both_ends (value_at (roof_way s) 0) ≡ ends_on s wind E
flat-e s wind e =
    let flat = (and-true (flat_roof s.kind) true (flat-signs s.kind e)).0 in
    ap (λ (n : ℕ). both_ends (value_at (roof_way s) n)) (sym (e-column s.kind wind flat))
    ∙ one-ends s wind E refl (e-one s.kind)

-- a roof that is not flat is a gable or a single slope
sloped : (kind : ℕ) → 0 < kind → kind ≤ 6 → two_signs kind F ≡ false → (kind ≡ 1) ⊎ (kind ≡ 6)
unfolding two_signs
sloped kind some most e =
    by-test (eqb kind 1) (λ one. inl (eqb-true kind 1 one))
    (λ one. by-test (eqb kind 6) (λ six. inr (eqb-true kind 6 six))
    (λ six. let p = eqb-false kind 1 one in
    let q = eqb-false kind 6 six in
    let flat = among-is {least = 2} {greatest = 5} {n = kind} (omega arith) (omega arith) in
    absurd (true≢false (rw flat at e))))

-- its columns: by flanks G has E's and F has H's, and else F has E's and G has H's
flanks-of : (kind wind : ℕ) → (kind ≡ 1) ⊎ (kind ≡ 6) → by_flanks kind wind ≡ true
    → (roof_column kind wind E ≡ roof_column kind wind G) × (roof_column kind wind H ≡ roof_column kind wind F)
unfolding roof_column gable_column single_column
flanks-of kind wind (inl k) e =
    let one = eq-eqb kind 1 k in
    let some : eqb wind 0 ≡ false = not-true (eqb wind 0) (rw one at e) in
    rw (one, some) (refl, refl)
flanks-of kind wind (inr k) e =
    let one = ne_eqb kind 1 (λ p. omega arith) in
    let w = eqb-true wind 90 (rw one at e) in
    rw (one, eq-eqb kind 6 k, w) (refl, refl)

halves_of : (kind wind : ℕ) → (kind ≡ 1) ⊎ (kind ≡ 6) → by_flanks kind wind ≡ false
    → (roof_column kind wind E ≡ roof_column kind wind F) × (roof_column kind wind H ≡ roof_column kind wind G)
unfolding roof_column gable_column single_column
halves_of kind wind (inl k) e =
    let one = eq-eqb kind 1 k in
    let none : eqb wind 0 ≡ true = not-false (eqb wind 0) (rw one at e) in
    rw (one, none) (refl, refl)
halves_of kind wind (inr k) e =
    let one = ne_eqb kind 1 (λ p. omega arith) in
    let other : eqb wind 90 ≡ false = rw one at e in
    rw (one, eq-eqb kind 6 k, other) (refl, refl)

module _ (s : Sizes) (o : SizesInOrder s) (some : 0 < s.kind) (one : two_signs s.kind F ≡ false) (wind : ℕ) where
  abbrev pub valued : ℕ → Ends
  valued zone = both_ends (value_at (roof_way s) (roof_column s.kind wind zone))

  zone-ends : (zone : ℕ) → wall_place zone ≡ false → valued zone ≡ ends_on s wind zone
  zone-ends zone off = one-ends s wind zone off (one-sign s.kind zone one)

  by-column : (c d : ℕ) → roof_column s.kind wind c ≡ roof_column s.kind wind d → valued c ≡ valued d
  by-column c d e = ap (λ (n : ℕ). both_ends (value_at (roof_way s) n)) e

  kinds : (s.kind ≡ 1) ⊎ (s.kind ≡ 6)
  kinds = sloped s.kind some o.ranged.kind-most one

  pub by-flanks : by_flanks s.kind wind ≡ true
      → record { first = valued E; second = valued H; third = valued E; fourth = valued H } ≡ four_on s wind E
  by-flanks f =
      let c = flanks-of s.kind wind kinds f in
      λ j. record {
        first = zone-ends E refl j;
        second = (by-column H F c.1 ∙ zone-ends F refl) j;
        third = (by-column E G c.0 ∙ zone-ends G refl) j;
        fourth = zone-ends H refl j;
      }

  pub by-halves : by_flanks s.kind wind ≡ false
      → record { first = valued E; second = valued E; third = valued H; fourth = valued H } ≡ four_on s wind E
  by-halves f =
      let c = halves_of s.kind wind kinds f in
      λ j. record {
        first = zone-ends E refl j;
        second = (by-column E F c.0 ∙ zone-ends F refl) j;
        third = (by-column H G c.1 ∙ zone-ends G refl) j;
        fourth = zone-ends H refl j;
      }

-- ---- what the question about a zone answers

module _ (year : ℤ) (g : Building) (direction : ℤ) where
  -- a zone of a building in order, that is on it, or not, or under a direction that it does not know
  module _ (i : InYear year g) (zone : ℕ) where
    on-it : knows g.kind direction ≡ true → place_on g.kind direction zone ≡ true
        → ends_on (sizes g) (nat_abs direction) zone ≡ ends_at year g direction zone
    on-it k p = sym (ap (λ (a : Answer). ends_of (values_of a)) (answered year g direction zone i k p))

    unknown : knows g.kind direction ≡ false → no_ends ≡ ends_at year g direction zone
    unfolding outside_of
    unknown k = rw (bad-direction year g direction zone i k)

    not-on-it : place_on g.kind direction zone ≡ false → no_ends ≡ ends_at year g direction zone
    unfolding outside_of
    not-on-it p =
        by-test (knows g.kind direction) (λ k. rw (bad-place year g direction zone i k p)) unknown

  -- the walls' zones are on it under the directions of their table
  walls-on : (k : ℕ) → k < 4 → place_on g.kind direction (A + k) ≡ one_of wall_directions direction
  unfolding place_on zone_on
  walls-on k h = rw (among-is {least = A} {greatest = D} {n = A + k} (omega arith) (omega arith))

  pub walls-asked : InYear year g → wall_half (sizes g) direction ≡ four_from year g direction A
  walls-asked i =
      by-test (one_of wall_directions direction)
      (λ e.
      let k : knows g.kind direction ≡ true = knows-by g.kind direction ∙ rw e in
      rw e
      (λ j. record {
        first = on-it i A k (walls-on 0 (lit< tt) ∙ e) j;
        second = on-it i (A + 1) k (walls-on 1 (lit< tt) ∙ e) j;
        third = on-it i (A + 2) k (walls-on 2 (lit< tt) ∙ e) j;
        fourth = on-it i (A + 3) k (walls-on 3 (lit< tt) ∙ e) j;
      }))
      (λ e.
      rw e
      (λ j. record {
        first = not-on-it i A (walls-on 0 (lit< tt) ∙ e) j;
        second = not-on-it i (A + 1) (walls-on 1 (lit< tt) ∙ e) j;
        third = not-on-it i (A + 2) (walls-on 2 (lit< tt) ∙ e) j;
        fourth = not-on-it i (A + 3) (walls-on 3 (lit< tt) ∙ e) j;
      }))

  -- a refused building has none
  pub none-asked : (v : Verdict) (zone : ℕ) → sized_of year g ≡ Err v
      → no_four ≡ four_from year g direction zone
  unfolding outside_of
  none-asked v zone e =
      λ j. record {
        first = none zone j;
        second = none (zone + 1) j;
        third = none (zone + 2) j;
        fourth = none (zone + 3) j;
      }
    where
      none : (z : ℕ) → no_ends ≡ ends_at year g direction z
      none z =
          ap (λ (q : Question). ends_of (values_of (answer_to q (nat_abs direction) z)))
          (ap (onward year g direction z) (sym e) ∙ asked-onward year g direction z)

-- which of the roof's zones a roof of a kind has: none; E and F; or all four
abbrev On : ℤ → ℤ → ℕ → Bool → Type 0
On kind direction zone t = place_on kind direction zone ≡ t

data RoofPlaces (kind direction : ℤ) : Type 0 where
  no-roof : eqb (nat_abs kind) 0 ≡ true → On kind direction E false → On kind direction F false
      → On kind direction G false → On kind direction H false → RoofPlaces kind direction
  flat-roof : eqb (nat_abs kind) 0 ≡ false → two_signs (nat_abs kind) F ≡ true → On kind direction E true
      → On kind direction F true → On kind direction G false → On kind direction H false → RoofPlaces kind direction
  slopes : eqb (nat_abs kind) 0 ≡ false → two_signs (nat_abs kind) F ≡ false → On kind direction E true
      → On kind direction F true → On kind direction G true → On kind direction H true → RoofPlaces kind direction

roof-places : (n : ℕ) (direction : ℤ) → n ≤ 6 → RoofPlaces (pos n) direction
unfolding place_on zone_on local_on two_signs beyond
roof-places zero d h = no-roof refl refl refl refl refl
roof-places (suc zero) d h = slopes refl refl refl refl refl refl
roof-places (suc (suc zero)) d h = flat-roof refl refl refl refl refl refl
roof-places (suc (suc (suc zero))) d h = flat-roof refl refl refl refl refl refl
roof-places (suc (suc (suc (suc zero)))) d h = flat-roof refl refl refl refl refl refl
roof-places (suc (suc (suc (suc (suc zero))))) d h = flat-roof refl refl refl refl refl refl
roof-places (suc (suc (suc (suc (suc (suc zero)))))) d h = slopes refl refl refl refl refl refl
roof-places (suc (suc (suc (suc (suc (suc (suc n))))))) d h = absurd (omega arith)

module _ (year : ℤ) (g : Building) (direction : ℤ) (i : InYear year g) where
  abbrev Asked : Four → Type 0
  Asked f = f ≡ four_from year g direction E

  places : RoofPlaces g.kind direction
  places =
      let k = (good-fields year g i.none).kind in
      subst (λ (z : ℤ). RoofPlaces z direction) k.plain (roof-places (nat_abs g.kind) direction k.to)

  -- under a direction that the roof knows
  roof-on : knows g.kind direction ≡ true → RoofPlaces g.kind direction
      → Asked (cond (eqb (nat_abs g.kind) 0) no_four (roof_on (sizes g) (nat_abs direction)))
  roof-on k (no-roof z e f h l) =
      rw z
      (λ j. record {
        first = not-on-it year g direction i E e j;
        second = not-on-it year g direction i F f j;
        third = not-on-it year g direction i G h j;
        fourth = not-on-it year g direction i H l j;
      })
  roof-on k (flat-roof z t e f h l) =
      rw (z, t)
      (λ j. record {
        first = on-it year g direction i E k e j;
        second = on-it year g direction i F k f j;
        third = not-on-it year g direction i G h j;
        fourth = not-on-it year g direction i H l j;
      })
  roof-on k (slopes z t e f h l) =
      rw (z, t)
      (λ j. record {
        first = on-it year g direction i E k e j;
        second = on-it year g direction i F k f j;
        third = on-it year g direction i G k h j;
        fourth = on-it year g direction i H k l j;
      })

  either-none : (t : Bool) → cond t no_four no_four ≡ no_four
  either-none true = refl
  either-none false = refl

  pub roof-asked : Asked (roof_half (sizes g) g.kind direction)
  roof-asked =
      by-test (knows g.kind direction) (λ k. rw k (roof-on k places))
      (λ k. rw k
      (either-none (eqb (nat_abs g.kind) 0)
      ∙ (λ j. record {
        first = unknown year g direction i E k j;
        second = unknown year g direction i F k j;
        third = unknown year g direction i G k j;
        fourth = unknown year g direction i H k j;
      })))
