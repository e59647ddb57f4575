-- `cells::span_of` meets its contract: each sum less the internal coefficient's part, as a pair.
use mathlib.Core.Path.{◌≡◌, ap, ◌∙◌}
use lib.IntN.{pos, ◌-ℤ◌, ◌*ℤ◌}
use mir.Syntax.{w64}
use Rattle.whole.proofs.Size.{Num, num, num≤, back, bound, fit, ◌⊗◌}
use Rattle.pair.specs.declared.Pair.{Pair}
use Rattle.pair.specs.Total.{pair_of}
use Rattle.worst.specs.declared.amounts.Amount.{Amount}
use Rattle.worst.specs.Amounts.{amount_in}
use Rattle.worst.proofs.cells.span_of.Goals.{Start}
use Rattle.worst.proofs.cells.span_of.Goals as goal

module _ (a : Start) where
  abbrev tenfold : Num
  tenfold = back w64 (num≤ a.args.internal a.requires.1) tt ⊗ num (pos 10)

  abbrev weight : Num
  weight = back w64 (num≤ a.args.sums.weight a.requires.0.weight) tt

  -- an amount less the part, settled
  spanned : {p : Pair} (r s : Amount) → p ≡ pair_of (amount_in r)
      → amount_in r ≡ amount_in s -ℤ (back w64 tenfold tt).has *ℤ weight.has
      → p ≡ pair_of (amount_in s -ℤ a.args.internal *ℤ pos 10 *ℤ a.args.sums.weight)
  spanned r s e q = e ∙ ap pair_of (q ∙ (λ i. amount_in s -ℤ (back w64 tenfold tt).same i *ℤ weight.same i))

pub overflow_mul-tenfold : goal.overflow_mul-tenfold
overflow_mul-tenfold c = fit {w = w64} (tenfold c) tt

pub less_times-requires : goal.less_times-requires
less_times-requires c =
    let at_start = (goal.at.less_times-requires c).Start in
    (c.requires.0.greatest, bound (back w64 (tenfold at_start) tt), bound (weight at_start))

pub settled-greatest-requires : goal.settled-greatest-requires
settled-greatest-requires c = c.less_times.ensures.1

pub less_times-requires-2 : goal.less_times-requires-2
less_times-requires-2 c =
    let at_start = (goal.at.less_times-requires-2 c).Start in
    (c.requires.0.least, bound (back w64 (tenfold at_start) tt), bound (weight at_start))

pub settled-least-requires : goal.settled-least-requires
settled-least-requires c = c.less_times-2.ensures.1

pub returns : goal.returns
returns c =
    let at_start = (goal.at.returns c).Start in
    λ j. record {
      greatest = spanned at_start c.less_times.result c.args.sums.greatest c.settled-greatest.ensures
          c.less_times.ensures.0 j;
      least = spanned at_start c.less_times-2.result c.args.sums.least c.settled-least.ensures
          c.less_times-2.ensures.0 j;
    }
