-- `few_tops::settled_top` meets its contract: the pair of a total is worth it.
use mathlib.Core.Path.{◌≡◌, sym, ap, ◌∙◌, subst}
use Rattle.whole.proofs.Size.{said}
use Rattle.pair.specs.Total.{pair_of, units}
use Rattle.pair.proofs.Units.{units-pair_of, proper-pair_of}
use Rattle.worst.specs.Engine.{top_with}
use Rattle.worst.specs.Proper.{Proper}
use Rattle.worst.proofs.few_tops.settled_top.Goals as goal

pub returns : goal.returns
returns c =
    let top = c.args.top in
    let total : c.of_units-total.result ≡ pair_of top.total =
    said pair_of top.total c.of_units-total.ensures c.struct_told-1.given.0.1 in (
      ap (λ z. top_with z top.wind top.internal) (ap units total ∙ units-pair_of top.total),
      subst Proper (sym total) (proper-pair_of top.total),
    )
