-- The answers: which case a place comes to, and how large its alternatives can be.
use mathlib.Core.Path.{◌≡◌, refl, sym, ◌∙◌, subst}
use mathlib.Core.Bool.{true, false}
use mathlib.Core.List.{List}
use Prim.Native.Nat.{ℕ, zero, suc, ◌≤◌, ◌<◌}
use native.Mathlib.Omega.{arith}
use lib.Dec.{eqb, lit<, lit≤}
use lib.IntN.{ℤ, pos, nat_abs}
use lib.ListN.{get_or}
use borrow.Author.Tests.{eq-eqb, ne_eqb, eqb-true, eqb-false}
use Rattle.std.specs.Prelude.{Ok, Err}
use Rattle.whole.specs.Lists.{Every}
use Rattle.whole.proofs.Size.{nat_abs-neg}
use Rattle.whole.proofs.Tests.{by-test, and-true}
use Rattle.building.specs.declared.Building.{Building}
use Rattle.building.specs.declared.Sizes.{Sizes}
use Rattle.building.specs.Order.{SizesInOrder}
use Rattle.building.specs.Building.{sizes}
use Rattle.building.specs.Places.{E, F, wall_place, zone_on, knows, place_on}
use Rattle.building.specs.Question.{Question, asked_of}
use Rattle.building.proofs.Places.{among-yes, among-is, needs-roof, place-there, RoofZone, of-gable}
use Rattle.building.proofs.Places.{of-single, of-flat, roof-zone}
use Rattle.building.proofs.Judged.{InYear, FitIn, question-fits, bad-direction, bad-place, in-question}
use Rattle.building.proofs.Accepted.{in_order}
use Rattle.book.specs.declared.Cited.{Cited}
use Rattle.book.specs.Row.{hundredths}
use Rattle.book.specs.Line.{value_at}
use Rattle.book.specs.Walls.{wall_row, wall_way}
use Rattle.book.specs.Roofs.{flat_roof, roof_way}
use Rattle.book.specs.Answer.{values_in, values_of, Alternatives, one, two}
use Rattle.book.specs.Question.{wall_column, flat_column, roof_column, two_signs, one_at, both_signs}
use Rattle.book.specs.Question.{coefficient_of, answer_to, outside_of}
use Rattle.book.proofs.Between.{line_small}
use Rattle.book.proofs.Rows.{wall_row-small}
use Rattle.book.proofs.Roofed.{roof_value-small, gable_value-small, single_value-small, flat_value-small}

-- ---- the three cases of a coefficient

module _ (s : Sizes) (wind place : ℕ) where
  pub on-wall : wall_place place ≡ true → coefficient_of s wind place ≡ one_at (wall_way s) (wall_column wind place)
  unfolding coefficient_of
  on-wall e = rw e

  pub on-f : wall_place place ≡ false → two_signs s.kind place ≡ true
      → coefficient_of s wind place ≡ both_signs (roof_way s) (roof_column s.kind wind place)
  unfolding coefficient_of
  on-f e f = rw (e, f)

  pub on_one : wall_place place ≡ false → two_signs s.kind place ≡ false
      → coefficient_of s wind place ≡ one_at (roof_way s) (roof_column s.kind wind place)
  unfolding coefficient_of
  on_one e f = rw (e, f)

-- both signs are had in zone F of a flat roof
signs-where : (kind place : ℕ) → two_signs kind place ≡ true → (flat_roof kind ≡ true) × (place ≡ F)
unfolding two_signs
signs-where kind place e =
    let r = and-true (flat_roof kind) (eqb place F) e in
    (r.0, eqb-true place F r.1)

-- the columns of E and F there
flat-columns : (kind wind place : ℕ) → flat_roof kind ≡ true → E ≤ place → place ≤ F → roof_column kind wind place < 2
unfolding roof_column flat_column
flat-columns kind wind place f from to =
    let k = among-yes 2 5 kind f in
    let one = ne_eqb kind 1 (λ p. omega arith) in
    let six = ne_eqb kind 6 (λ p. omega arith) in
    by-test (eqb place E) (λ e. rw (one, six, e) (lit< tt))
    (λ e. let n = eqb-false place E e in rw (one, six, e, eq-eqb place F (omega arith)) (lit< tt))

-- ---- how large they can be

wall_value-small : (s : Sizes) (col : ℕ) → nat_abs (value_at (wall_way s) col) ≤ 1200
wall_value-small s col =
    let r = wall_row s.h s.a s.b in
    let c = hundredths r col in
    let small = (wall_row-small s.h s.a s.b).at col in
    line_small c c 0 1 (lit≤ tt) (lit< tt) 120 small small

module _ (s : Sizes) (o : SizesInOrder s) (wind place k : ℕ) (enough : 1200 ≤ k)
    (roofed : wall_place place ≡ false → 0 < s.kind)
    (small : wall_place place ≡ false → two_signs s.kind place ≡ false
    → nat_abs (value_at (roof_way s) (roof_column s.kind wind place)) ≤ k) where
  abbrev Alternatives-of : Cited → Type 0
  Alternatives-of c = Alternatives k s.kind place (values_in c.values)

  off-wall : wall_place place ≡ false → Alternatives-of (coefficient_of s wind place)
  off-wall e =
      by-test (two_signs s.kind place)
      (λ p. let f = signs-where s.kind place p in
      let z = f.1 in
      let col = roof_column s.kind wind place in
      let below = flat-columns s.kind wind place f.0 (omega arith) (omega arith) in
      let v = flat_value-small s o (roofed e) f.0 col below in
      subst Alternatives-of (sym (on-f s wind place e p))
      (two (omega arith) (omega (arith, nat_abs-neg (value_at (roof_way s) col))) f.1 f.0))
      (λ p. subst Alternatives-of (sym (on_one s wind place e p)) (one (small e p)))

  alternatives : Alternatives-of (coefficient_of s wind place)
  alternatives =
      by-test (wall_place place)
      (λ e.
      subst Alternatives-of (sym (on-wall s wind place e))
      (one (omega (arith, wall_value-small s (wall_column wind place)))))
      off-wall

-- that of a zone on a roof is 1.200 at most
small-zone : (s : Sizes) → SizesInOrder s → (kind : ℤ) → s.kind ≡ nat_abs kind → (wind zone : ℕ) → 0 < s.kind
    → RoofZone kind zone → nat_abs (value_at (roof_way s) (roof_column s.kind wind zone)) ≤ 1200
small-zone s o kind e wind zone roofed (of-gable k) =
    gable_value-small s o roofed (e ∙ k) (roof_column s.kind wind zone)
small-zone s o kind e wind zone roofed (of-single k) =
    single_value-small s o roofed (e ∙ k) (roof_column s.kind wind zone)
small-zone s o kind e wind zone roofed (of-flat k from to) =
    let flat : flat_roof s.kind ≡ true = rw e (among-is k.from k.to) in
    flat_value-small s o roofed flat (roof_column s.kind wind zone) (flat-columns s.kind wind zone flat from to)

-- ---- the question

values-small : {k kind place : ℕ} {values : List ℤ} → Alternatives k kind place values → (i : ℕ)
    → nat_abs (get_or values i (pos 0)) ≤ k
values-small (one h) zero = h
values-small (one h) (suc i) = omega arith
values-small (two h k e f) zero = h
values-small (two h k e f) (suc zero) = k
values-small (two h k e f) (suc (suc i)) = omega arith

-- each alternative is 2.500 in size at most
abbrev pub Small : List ℤ → Type 0
Small values = Every (λ z. nat_abs z ≤ 2500) values

small_of : {kind place : ℕ} {values : List ℤ} → Alternatives 2500 kind place values → Small values
small_of (one h) = (h, tt)
small_of (two h k e f) = (h, (k, tt))

module _ (year : ℤ) (g : Building) (direction : ℤ) (place : ℕ) where
  pub answered : InYear year g → knows g.kind direction ≡ true → place_on g.kind direction place ≡ true
      → outside_of year g direction place ≡ Ok (coefficient_of (sizes g) (nat_abs direction) place)
  unfolding outside_of
  answered e f k = rw (in-question year g direction place e f k)

  -- a zone that is on the building, under a direction that it knows, has its alternatives, and none is above 1.200
  pub zone-answered : InYear year g → knows g.kind direction ≡ true
      → place_on g.kind direction place ≡ true → zone_on g.kind place ≡ true
      → Alternatives 1200 (nat_abs g.kind) place (values_of (outside_of year g direction place))
  zone-answered e f p z =
      let o = in_order year g e.none in
      let kind = nat_abs g.kind in
      let col = roof_column kind (nat_abs direction) place in
      let roofed : wall_place place ≡ false → 0 < kind =
      λ w. needs-roof g.kind place w (place-there g.kind direction place p) in
      rw (answered e f p)
      (alternatives (sizes g) o (nat_abs direction) place 1200 (lit≤ tt) roofed
      (λ w h. small-zone (sizes g) o g.kind refl (nat_abs direction) place (roofed w) (roof-zone
      g.kind place z w)))

  -- nor is any under whatever direction: where it is refused there is none
  pub zone-small : InYear year g → zone_on g.kind place ≡ true → (i : ℕ)
      → nat_abs (get_or (values_of (outside_of year g direction place)) i (pos 0)) ≤ 1200
  unfolding outside_of
  zone-small e z i =
      by-test (knows g.kind direction)
      (λ f. by-test (place_on g.kind direction place)
      (λ p. values-small (zone-answered e f p z) i)
      (λ p. rw (bad-place year g direction place e f p) (omega arith)))
      (λ f. rw (bad-direction year g direction place e f) (omega arith))

  -- any answer: no alternative is above 2.500
  small-answer : (q : Question) → FitIn year g direction place q
      → Small (values_of (answer_to q (nat_abs direction) place))
  small-answer (Ok s) f =
      let o = f.order in
      small_of
      (alternatives s o (nat_abs direction) place 2500 (lit≤ tt) f.roofed
      (λ w h. roof_value-small s o (f.roofed w) (roof_column s.kind (nat_abs direction) place)))
  small-answer (Err v) f = tt

  pub answer-small : Small (values_of (outside_of year g direction place))
  unfolding outside_of
  answer-small = small-answer (asked_of year g direction place) (question-fits year g direction place)
