-- `few::with_weight` meets its contract: what the face reaches is added on each side, and its weight.
use mathlib.Core.Path.{◌≡◌, ◌∙◌}
use mathlib.Core.Bool.{cond}
use native.Mathlib.Omega.{arith}
use lib.IntN.{ℤ}
use mir.Syntax.{w64}
use Rattle.whole.proofs.Size.{Num, num≤, back, fit, nat_abs-add, ◌⊕◌}
use Rattle.worst.specs.declared.Side.{Side}
use Rattle.worst.specs.declared.Side.TheVariants.{Greatest, Least}
use Rattle.worst.specs.Few.{FewAxisSmall}
use Rattle.worst.specs.Best.{short}
use Rattle.worst.specs.Engine.{further, reach}
use Rattle.worst.proofs.ReadBack.{read_back, product}
use Rattle.worst.proofs.Ranges.{reach-small}
use Rattle.worst.proofs.few.with_weight.Goals.{After-the_further-fewest, After-the_further-most, Start}
use Rattle.worst.proofs.few.with_weight.Goals as goal

module _ (a : Start) where
  abbrev first : Num
  first = product a.args.o.first a.args.weight a.requires.1.first a.requires.2

  abbrev last : Num
  last = product a.args.o.last a.args.weight a.requires.1.last a.requires.2

  -- what a call of `the_further` gave
  abbrev Gained : Side → ℤ → Type 0
  Gained s r =
      let a = (back w64 first tt).has in
      let b = (back w64 last tt).has in
      r ≡ cond (short s a b) b a

  gained : (s : Side) (r : ℤ) → Gained s r → r ≡ reach s a.args.o a.args.weight
  unfolding further
  gained s r e = e ∙ (λ j. further s ((back w64 first tt).same j) ((back w64 last tt).same j))

  abbrev reached : (s : Side) (r : ℤ) → Gained s r → Num
  reached s r e =
      read_back r (reach s a.args.o a.args.weight) (gained s r e)
      (reach-small s a.args.o a.args.weight a.requires.1 a.requires.2) tt

  abbrev weights : Num
  weights =
      back w64 (num≤ a.args.sums.weight a.requires.0.weight) tt ⊕ back w64 (num≤ a.args.weight a.requires.2) tt

abbrev greatest : After-the_further-most → Num
greatest c =
    reached (goal.at.After-the_further-most c).Start Greatest c.the_further-most.result c.the_further-most.ensures

abbrev least : After-the_further-fewest → Num
least c =
    let at_start = (goal.at.After-the_further-fewest c).Start in
    reached at_start Least c.the_further-fewest.result c.the_further-fewest.ensures

-- the sums, as the code makes them
module _ (c : After-the_further-fewest) where
  abbrev a : Start
  a = (goal.at.After-the_further-fewest c).Start

  abbrev most : Num
  most =
      back w64 (num≤ a.args.sums.greatest a.requires.0.greatest) tt
      ⊕ greatest (goal.at.After-the_further-fewest c).After-the_further-most

  abbrev fewest : Num
  fewest = back w64 (num≤ a.args.sums.least a.requires.0.least) tt ⊕ least c

pub overflow_mul-first : goal.overflow_mul-first
overflow_mul-first c = fit {w = w64} (first (goal.at.overflow_mul-first c).Start) tt

pub overflow_mul-last : goal.overflow_mul-last
overflow_mul-last c = fit {w = w64} (last (goal.at.overflow_mul-last c).Start) tt

pub overflow_add-result : goal.overflow_add-result
overflow_add-result c = fit {w = w64} (most (goal.at.overflow_add-result c).After-the_further-fewest) tt

pub overflow_add-result-2 : goal.overflow_add-result-2
overflow_add-result-2 c = fit {w = w64} (fewest (goal.at.overflow_add-result-2 c).After-the_further-fewest) tt

pub overflow_add-result-3 : goal.overflow_add-result-3
overflow_add-result-3 c = fit {w = w64} (weights (goal.at.overflow_add-result-3 c).Start) tt

pub returns : goal.returns
returns c =
    let at_the_further_most = (goal.at.returns c).After-the_further-most in
    let at_the_further_fewest = (goal.at.returns c).After-the_further-fewest in
    let s = c.args.sums in
    let up = (back w64 (most at_the_further_fewest) tt).same in
    let down = (back w64 (fewest at_the_further_fewest) tt).same in
    let heavy = (back w64 (weights (goal.at.returns c).Start) tt).same in (
      (λ j. record { greatest = up j; least = down j; weight = heavy j }),
      λ n (h : FewAxisSmall n s). record {
        greatest =
            rw up
            (omega (
              arith,
              nat_abs-add s.greatest (greatest at_the_further_most).is,
              h.greatest,
              (greatest at_the_further_most).small,
            ));
        least =
            rw down (omega (
              arith,
              nat_abs-add s.least (least at_the_further_fewest).is,
              h.least,
              (least at_the_further_fewest).small,
            ));
        weight = rw heavy (omega (arith, nat_abs-add s.weight c.args.weight, h.weight, c.requires.2));
      },
    )
