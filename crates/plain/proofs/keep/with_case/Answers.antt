-- `keep::with_case` meets its contract: a call for each axis.
use mathlib.Core.Path.{ap}
use Rattle.worst.proofs.Kept.{every-axis}
use Rattle.plain.specs.declared.add.Totals.{Totals}
use Rattle.plain.proofs.keep.with_case.Goals as goal

pub total-t-requires : goal.total-t-requires
total-t-requires c = (c.requires.few, c.requires.small)

pub both_kept-x-requires : goal.both_kept-x-requires
both_kept-x-requires c = c.requires.some

pub both_kept-y-requires : goal.both_kept-y-requires
both_kept-y-requires c = c.requires.some

pub both_kept-z-requires : goal.both_kept-z-requires
both_kept-z-requires c = c.requires.some

pub returns : goal.returns
returns c =
    let e = c.total-t.ensures in
    every-axis _
    (λ s n ks b chosen h.
    c.both_kept-x.ensures s _ n ks b (ap (λ (r : Totals). r.x) e) chosen h)
    (λ s n ks b chosen h.
    c.both_kept-y.ensures s _ n ks b (ap (λ (r : Totals). r.y) e) chosen h)
    (λ s n ks b chosen h.
    c.both_kept-z.ensures s _ n ks b (ap (λ (r : Totals). r.z) e) chosen h)
