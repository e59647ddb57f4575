-- A question's five outcomes, in the order of its checks; and that the sizes of one in order are those of a building
-- in order, with a roof where its place needs one.
use mathlib.Core.Path.{◌≡◌, refl, sym, ap, ◌∙◌, subst}
use mathlib.Core.Bool.{Bool, true, false}
use Prim.Native.Nat.{ℕ, zero, suc, ◌<◌}
use lib.Dec.{eqb}
use native.Mathlib.Omega.{arith}
use lib.IntN.{ℤ, pos}
use borrow.Author.Tests.{eqb-true, eqb-false}
use Rattle.std.specs.Prelude.{Result, Ok, Err}
use Rattle.std.specs.Result.{IsErrAnd}
use Rattle.whole.proofs.Tests.{by-test}
use Rattle.verdict.specs.declared.Verdict.{Verdict}
use Rattle.verdict.specs.Verdict.{refusal, ◌or_then◌, Refuses}
use Rattle.building.specs.declared.Building.{Building}
use Rattle.building.specs.declared.Sizes.{Sizes}
use Rattle.building.specs.Test.{unless}
use Rattle.building.specs.Year.{is_year, building_line}
use Rattle.building.specs.Order.{SizesInOrder}
use Rattle.building.specs.Building.{building_fault, given_fault, sizes}
use Rattle.building.specs.Places.{knows, wall_place, place_on}
use Rattle.building.specs.Question.{Question, refuse, sized_of, placed_of, asked_of}
use Rattle.building.proofs.Accepted.{in_order, given-none, none-given}
use Rattle.building.proofs.Places.{needs-roof, place-there}

-- the refusal that a `?` hands on is the one that it met
pub passed_on : {A : Type 0} {v : Verdict} (r : Result A Verdict) → IsErrAnd r (λ w. w ≡ v) → r ≡ Err v
passed_on (Ok x) h = absurd h
passed_on (Err w) h = ap Err h

refuse-some : (n line : ℕ) (a : Question) → (n ≡ 0 → ⊥) → refuse n line a ≡ Err (refusal n line)
refuse-some zero line a h = absurd (h refl)
refuse-some (suc n) line a h = refl

-- a year, and a building that is in order in it
pub record InYear (year : ℤ) (g : Building) : Type 0 where
  pub is : is_year year ≡ true
  pub none : building_fault year g ≡ 0

-- the refusal of the year, then that of the building
abbrev pub first_refusal : ℤ → Building → Verdict
first_refusal year g =
    refusal (unless 3 (is_year year)) 0 or_then refusal (given_fault year g) (building_line year)

module _ (year : ℤ) (g : Building) (direction : ℤ) (place : ℕ) where
  abbrev pub On : Bool → Type 0
  On t = place_on g.kind direction place ≡ t

  pub bad-year : is_year year ≡ false → asked_of year g direction place ≡ Err (refusal 3 0)
  unfolding asked_of
  bad-year y = rw y

  pub bad-building : is_year year ≡ true → (given_fault year g ≡ 0 → ⊥)
      → asked_of year g direction place ≡ Err (refusal (given_fault year g) (building_line year))
  unfolding asked_of
  bad-building y h = rw y (refuse-some (given_fault year g) (building_line year) _ h)

  pub bad-direction : InYear year g → knows g.kind direction ≡ false
      → asked_of year g direction place ≡ Err (refusal 3 0)
  unfolding asked_of
  bad-direction e f = rw (e.is, given-none year g e.none, f)

  pub bad-place : InYear year g → knows g.kind direction ≡ true → On false
      → asked_of year g direction place ≡ Err (refusal 6 0)
  unfolding asked_of
  bad-place e f k = rw (e.is, given-none year g e.none, f, k)

  pub in-question : InYear year g → knows g.kind direction ≡ true → On true
      → asked_of year g direction place ≡ Ok (sizes g)
  unfolding asked_of
  in-question e f k = rw (e.is, given-none year g e.none, f, k)

  -- the first two checks: their refusal, or a building in order
  pub first-checks : {P : Type 0} → (is_year year ≡ false → P)
      → (is_year year ≡ true → (given_fault year g ≡ 0 → ⊥) → P) → (InYear year g → P) → P
  first-checks not-a-year faulty fine =
      by-test (is_year year)
      (λ y. by-test (eqb (given_fault year g) 0)
      (λ e. fine (record { is = y; none = none-given year g (eqb-true (given_fault year g) 0 e) }))
      (λ e. faulty y (eqb-false (given_fault year g) 0 e)))
      not-a-year

  -- what a question in order tells of its sizes
  pub record Fit (s : Sizes) : Type 0 where
    pub order : SizesInOrder s
    pub roofed : wall_place place ≡ false → 0 < s.kind

  abbrev pub FitIn : Question → Type 0
  FitIn (Ok s) = Fit s
  FitIn (Err v) = Unit {0}

  fits-in-year : InYear year g → FitIn (asked_of year g direction place)
  fits-in-year e =
      by-test (knows g.kind direction)
      (λ f. by-test (place_on g.kind direction place)
      (λ k.
      let on = place-there g.kind direction place k in
      subst FitIn (sym (in-question e f k))
      (record { order = in_order year g e.none; roofed = λ w. needs-roof g.kind place w on }))
      (λ k. subst FitIn (sym (bad-place e f k)) tt))
      (λ f. subst FitIn (sym (bad-direction e f)) tt)

  pub question-fits : FitIn (asked_of year g direction place)
  question-fits =
      first-checks (λ y. subst FitIn (sym (bad-year y)) tt) (λ y h. subst FitIn (sym (bad-building y h)) tt)
      fits-in-year

pub first-passed : (year : ℤ) (g : Building) → (first_refusal year g).number ≡ 0 → InYear year g
first-passed year g e =
    first-checks year g (pos 0) 0
    (λ y. let three : 3 ≡ 0 = rw y at e in absurd (omega arith))
    (λ y h. let some : given_fault year g ≡ 0 = rw y at e in absurd (h some)) (λ i. i)

-- ---- the year and the building alone

module _ (year : ℤ) (g : Building) where
  -- what they came to: a building in order in its year
  abbrev pub SizedIn : Question → Type 0
  SizedIn (Ok s) = InYear year g × (s ≡ sizes g)
  SizedIn (Err v) = Unit {0}

  pub sized-good : InYear year g → sized_of year g ≡ Ok (sizes g)
  unfolding sized_of
  sized-good e = rw (e.is, given-none year g e.none)

  pub sized-refused : Refuses (first_refusal year g) → sized_of year g ≡ Err (first_refusal year g)
  unfolding sized_of
  sized-refused r =
      first-checks year g (pos 0) 0 (λ y. rw y)
      (λ y h. rw y (refuse-some (given_fault year g) (building_line year) _ h))
      (λ e. absurd (r (rw (e.is, given-none year g e.none))))

  pub sized-in : SizedIn (sized_of year g)
  unfolding sized_of
  sized-in =
      first-checks year g (pos 0) 0 (λ y. rw y tt)
      (λ y h. rw y (subst SizedIn (sym (refuse-some (given_fault year g) (building_line year) _ h)) tt))
      (λ e. subst SizedIn (sym (sized-good e)) (e, refl))

  module _ {s : Sizes} (e : sized_of year g ≡ Ok s) where
    pub sized-by : InYear year g × (s ≡ sizes g)
    sized-by = subst SizedIn e sized-in

    pub sized-order : SizesInOrder s
    sized-order = subst SizesInOrder (sym sized-by.1) (in_order year g sized-by.0.none)

  module _ (direction : ℤ) (place : ℕ) where
    -- and where they are in order the direction and the place decide
    abbrev pub onward : Question → Question
    onward (Ok s) = placed_of s g.kind direction place
    onward (Err v) = Err v

    refuse-onward : (n line : ℕ) (q : Question) → onward (refuse n line q) ≡ refuse n line (onward q)
    refuse-onward zero line q = refl
    refuse-onward (suc n) line q = refl

    pub asked-onward : onward (sized_of year g) ≡ asked_of year g direction place
    unfolding sized_of asked_of
    asked-onward =
        refuse-onward (unless 3 (is_year year)) 0 (refuse (given_fault year g) (building_line year) (Ok (sizes g)))
        ∙ ap (refuse (unless 3 (is_year year)) 0)
        (refuse-onward (given_fault year g) (building_line year) (Ok (sizes g)))
