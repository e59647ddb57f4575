-- What the definitions answer to a question is what it gets, and nothing else is.
use mathlib.Core.Path.{◌≡◌, refl, sym, ap, subst, ◌∙◌}
use mathlib.Core.Bool.{Bool, true, false}
use mathlib.Core.List.{map}
use Prim.Native.Nat.{ℕ}
use native.Mathlib.Omega.{arith}
use lib.Dec.{T}
use lib.IntN.{ℤ, nat_abs}
use Rattle.std.specs.Prelude.{Ok, Err}
use Rattle.whole.proofs.Tests.{by-test}
use Rattle.verdict.specs.declared.Verdict.{Verdict}
use Rattle.verdict.specs.Verdict.{refusal}
use Rattle.building.specs.declared.Building.{Building}
use Rattle.building.specs.Question.{Question, asked_of}
use Rattle.building.specs.Building.{given_fault, sizes}
use Rattle.building.specs.Places.{knows, place_on}
use Rattle.building.proofs.Accepted.{in_order, given-none, none-given}
use Rattle.building.proofs.Judged as judged
use Rattle.building.proofs.Judged.{InYear}
use Rattle.building.specs.Year.{building_line}
use Rattle.job.proofs.Written.{building-given}
use Rattle.book.specs.Answer as book
use Rattle.book.specs.declared.Cited.{Cited}
use Rattle.book.specs.declared.Values.{Values}
use Rattle.book.specs.declared.Values.TheVariants.{One, Two}
use Rattle.book.specs.Answer.{values_in}
use Rattle.book.specs.Coefficient.{IsCoefficient}
use Rattle.book.specs.Question.{outside_of, net, minus, net_cited, too_great, net_of}
use Rattle.book.proofs.Coefficients.{coefficient-unique, outside-is}
use Rattle.claims.specs.Question.{Judged, not-asked, asked-of}
use Rattle.job.specs.Carried.{nothing, with_year, before}
use Rattle.claims.specs.Question.{InSheet, Refusal, bad-year, bad-building, bad-direction, bad-place, InQuestion}
use Rattle.claims.specs.Question.{Outside, refused, answered, SameRows, Net, as-outside, bad-internal}
use Rattle.claims.specs.Question.{less-internal, sheet_fault}

-- no test both holds and fails
pub clash : {A : Type 0} {t : Bool} → t ≡ true → t ≡ false → A
clash e f = absurd (subst T (sym e ∙ f) tt)

-- the alternatives less the internal coefficient, one by one
pub minus-values : (internal : ℤ) (v : Values) → values_in (minus v internal) ≡ map (λ z. net z internal) (values_in v)
minus-values internal (One v) = refl
minus-values internal (Two v w) = refl

-- the values and the rows make the answer
same-values : (v w : Values) → values_in v ≡ values_in w → v ≡ w
same-values (One v) (One w) e = cc
same-values (One v) (Two w y) e = cc
same-values (Two v x) (One w) e = cc
same-values (Two v x) (Two w y) e = cc

same-cited : {c d : Cited} → values_in c.values ≡ values_in d.values → SameRows c d → c ≡ d
same-cited {c} {d} e r =
    λ i.
    record {
      values = same-values c.values d.values e i;
      lower = r.lower i;
      upper = r.upper i;
      part = r.part i;
      whole = r.whole i;
    }

module _ (year : ℤ) (g : Building) (direction : ℤ) (place : ℕ) where
  sheet-fault : given_fault year g ≡ sheet_fault year g
  sheet-fault = building-given g (before (with_year year nothing))

  pub in-year : InSheet year g → InYear year g
  in-year q = record { is = q.year-is; none = none-given year g (sheet-fault ∙ q.in_order) }

  -- a building in question has no fault
  pub faultless : InQuestion year g direction place → InYear year g
  faultless q = in-year q.in-sheet

  -- ---- the refusals come in one order, and not where the question is in order

  refusal-unique : {v w : Verdict} → Refusal year g direction place v → Refusal year g direction place w → v ≡ w
  refusal-unique (bad-year y) (bad-year z) = refl
  refusal-unique (bad-year y) (bad-building z q f) = clash z y
  refusal-unique (bad-year y) (bad-direction f h) = refl
  refusal-unique (bad-year y) (bad-place f h i) = clash f.year-is y
  refusal-unique (bad-building y p e) (bad-year z) = clash y z
  refusal-unique (bad-building y p e) (bad-building z q f) = ap (λ n. refusal n (building_line year)) (sym e ∙ f)
  refusal-unique (bad-building y p e) (bad-direction f h) = absurd (omega (arith, f.in_order))
  refusal-unique (bad-building y p e) (bad-place f h i) = absurd (omega (arith, f.in_order))
  refusal-unique (bad-direction e h) (bad-year z) = refl
  refusal-unique (bad-direction e h) (bad-building z q f) = absurd (omega (arith, e.in_order))
  refusal-unique (bad-direction e h) (bad-direction f i) = refl
  refusal-unique (bad-direction e h) (bad-place f i j) = clash i h
  refusal-unique (bad-place e h i) (bad-year z) = clash e.year-is z
  refusal-unique (bad-place e h i) (bad-building z q f) = absurd (omega (arith, e.in_order))
  refusal-unique (bad-place e h i) (bad-direction f j) = clash h j
  refusal-unique (bad-place e h i) (bad-place f j k) = refl

  not-both : {A : Type 0} {v : Verdict} → Refusal year g direction place v → InQuestion year g direction place → A
  not-both (bad-year y) q = clash q.in-sheet.year-is y
  not-both (bad-building y p e) q = absurd (omega (arith, q.in-sheet.in_order))
  not-both (bad-direction e h) q = clash q.known h
  not-both (bad-place e h i) q = clash q.there i

  -- ---- the question judged

  in-sheet : InYear year g → InSheet year g
  in-sheet e = record { year-is = e.is; in_order = sym sheet-fault ∙ given-none year g e.none }

  -- the refusal, or that there is none
  judged-so : {P : Type 0}
      → ((v : Verdict) → Refusal year g direction place v → asked_of year g direction place ≡ Err v → P)
      → (InQuestion year g direction place → asked_of year g direction place ≡ Ok (sizes g) → P) → P
  judged-so bad good =
      judged.first-checks year g direction place
      (λ y. bad _ (bad-year y) (judged.bad-year year g direction place y))
      (λ y faulty. bad _ (bad-building y (omega arith) (sym sheet-fault))
      (judged.bad-building year g direction place y faulty))
      (λ fine. by-test (knows g.kind direction)
      (λ f. by-test (place_on g.kind direction place)
      (λ h. good (record { in-sheet = in-sheet fine; known = f; there = h })
      (judged.in-question year g direction place fine f h))
      (λ h. bad _ (bad-place (in-sheet fine) f h) (judged.bad-place year g direction place fine f h)))
      (λ f. bad _ (bad-direction (in-sheet fine) f) (judged.bad-direction year g direction place fine f)))

  pub question-judged : Judged year g direction place (asked_of year g direction place)
  question-judged = judged-so (λ v f e. rw e (not-asked f)) (λ q e. rw e (asked-of q))

  pub judged-unique : {r r' : Question} → Judged year g direction place r → Judged year g direction place r' → r ≡ r'
  judged-unique (not-asked f) (not-asked h) = ap Err (refusal-unique f h)
  judged-unique (not-asked f) (asked-of q) = not-both f q
  judged-unique (asked-of q) (not-asked f) = not-both f q
  judged-unique (asked-of q) (asked-of q') = refl

  -- ---- the coefficient

  outside-by : {P : Type 0}
      → ((v : Verdict) → Refusal year g direction place v → outside_of year g direction place ≡ Err v → P)
      → (InQuestion year g direction place → (c : Cited) → outside_of year g direction place ≡ Ok c
      → IsCoefficient (sizes g) (nat_abs direction) place c → P) → P
  unfolding outside_of
  outside-by bad good =
      judged-so (λ v f e. bad v f (rw e))
      (λ q e.
      let is = outside-is year g direction place (faultless q) q.known q.there in
      good q is.0 is.1 is.2)

  pub outside-got : Outside year g direction place (outside_of year g direction place)
  outside-got =
      outside-by (λ v f e. subst (Outside year g direction place) (sym e) (refused f))
      (λ q c e i. subst (Outside year g direction place) (sym e) (answered q i))

  -- what is answered is the coefficient, and the question was in order
  pub answered-so : {c : Cited} → outside_of year g direction place ≡ Ok c
      → InQuestion year g direction place × IsCoefficient (sizes g) (nat_abs direction) place c
  answered-so {c} h =
      outside-by (λ v f e. let z : ◌≡◌ {A = ℕ} 0 1 = cc in absurd (omega arith))
      (λ q d e i. let same : d ≡ c = cc in (q, subst (IsCoefficient (sizes g) (nat_abs direction) place) same i))

  -- the coefficient of a question in order is one
  coefficient-one : {c d : Cited} → InQuestion year g direction place
      → IsCoefficient (sizes g) (nat_abs direction) place c
      → IsCoefficient (sizes g) (nat_abs direction) place d → c ≡ d
  coefficient-one q = coefficient-unique (sizes g) (in_order year g (faultless q).none) (nat_abs direction) place

  pub outside-unique : {r r' : book.Answer} → Outside year g direction place r → Outside year g direction place r'
      → r ≡ r'
  outside-unique (refused f) (refused h) = ap Err (refusal-unique f h)
  outside-unique (refused f) (answered q i) = not-both f q
  outside-unique (answered q i) (refused f) = not-both f q
  outside-unique (answered q i) (answered q' i') = ap Ok (coefficient-one q i i')

  -- ---- the net coefficient

  module _ (internal : ℤ) where
    pub net-got : Net year g direction place internal (net_of year g direction place internal)
    unfolding net_of
    net-got =
        outside-by (λ v f e. rw e (as-outside f))
        (λ q c e i. by-test (too_great internal)
        (λ t. rw (e, t) (bad-internal q t))
        (λ t.
        let same : SameRows c (net_cited c internal) =
        record { lower = refl; upper = refl; part = refl; whole = refl } in
        rw (e, t) (less-internal q t i (minus-values internal c.values) same)))

    pub net-unique : {r r' : book.Answer} → Net year g direction place internal r
        → Net year g direction place internal r' → r ≡ r'
    net-unique (as-outside f) (as-outside h) = ap Err (refusal-unique f h)
    net-unique (as-outside f) (bad-internal q e) = not-both f q
    net-unique (as-outside f) (less-internal q e o v r) = not-both f q
    net-unique (bad-internal q e) (as-outside f) = not-both f q
    net-unique (bad-internal q e) (bad-internal q' e') = refl
    net-unique (bad-internal q e) (less-internal q' e' o v r) = clash e e'
    net-unique (less-internal q e o v r) (as-outside f) = not-both f q
    net-unique (less-internal q e o v r) (bad-internal q' e') = clash e' e
    net-unique (less-internal q e o v r) (less-internal q' e' o' v' r') =
        let outside = coefficient-one q o o' in
        let values = v ∙ ap (λ c. map (λ y. net y internal) (values_in c.values)) outside ∙ sym v' in
        ap Ok
        (same-cited values
        (record {
          lower = sym r.lower ∙ ap (λ c. c.lower) outside ∙ r'.lower;
          upper = sym r.upper ∙ ap (λ c. c.upper) outside ∙ r'.upper;
          part = sym r.part ∙ ap (λ c. c.part) outside ∙ r'.part;
          whole = sym r.whole ∙ ap (λ c. c.whole) outside ∙ r'.whole;
        }))
