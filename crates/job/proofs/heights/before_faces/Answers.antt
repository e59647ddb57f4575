-- `before_faces`: each number is read back as it is.
use mathlib.Core.Path.{◌∙◌, ap}
use mir.Syntax.{w64}
use Rattle.whole.proofs.Size.{returned}
use Rattle.job.specs.Carried.{lowest_of, highest_of, carried}
use Rattle.job.proofs.Alone.{steps_first}
use Rattle.job.proofs.heights.before_faces.Goals as goal

pub returns : goal.returns
unfolding carried
returns c =
    let j = c.args.j in
    let steps = steps_first j c.entry_count-n.ensures in
    λ i. record {
      year = (returned w64 j.year c.struct_told-1.given.0.1).same i;
      building = j.building;
      lowest = ((returned w64 _ c.lowest_of.type_inv).same ∙ c.lowest_of.ensures ∙ ap lowest_of steps) i;
      highest = ((returned w64 _ c.highest_of.type_inv).same ∙ c.highest_of.ensures ∙ ap highest_of steps) i;
    }
