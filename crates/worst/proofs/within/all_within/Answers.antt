-- `within::all_within` meets its contract: what holds by the newtons of the code holds by those of the year.
use Rattle.std.proofs.Common.{◌∙◌, ap, rules, ◌*◌, tests}
use Rattle.std.proofs.lemmas.Iterator.{YieldsList-from_slice}
use Rattle.std.proofs.lemmas.Iterator.Search.{all_from_yields_List}
use Rattle.building.specs.Year.{face_limit}
use Rattle.whole.proofs.Size.{said}
use Rattle.worst.specs.Within.{cell_within, all_within}
use Rattle.worst.proofs.InBounds.{each-within}
use Rattle.worst.proofs.within.all_within.Goals as goal

pub returns : goal.returns
returns c =
    let cells = c.args.t.cell in
    let n = 16500000 * c.face_limit.result in
    let limit = said face_limit c.args.year c.face_limit.ensures c.ranges.year.sfits in
    all_from_yields_List (cell_within n) _ _ _ c.all.ensures.ran (YieldsList-from_slice cells cc)
    (λ x b q k. search (rules, tests))
    ∙ each-within n cells
    ∙ ap (λ k. all_within (16500000 * k) cells) limit
