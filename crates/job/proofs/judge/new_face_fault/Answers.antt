-- `judge::new_face_fault`: by all that the job's sheet carries.
use mathlib.Core.Path.{ap, ◌∙◌}
use Rattle.rules.specs.declared.Before.{Before}
use Rattle.rules.specs.declared.Section.TheVariants.{F}
use Rattle.rules.specs.declared.Kind.TheVariants.{Entry}
use Rattle.rules.specs.Sections.{line_fault}
use Rattle.building.specs.Year.{has_heights}
use Rattle.entry_written.specs.Fields.{face_fields}
use Rattle.job.specs.Carried.{carried}
use Rattle.job.proofs.judge.new_face_fault.Goals as goal

pub returns : goal.returns
unfolding carried
returns c =
    c.face_fault.ensures
    ∙ ap (λ (d : Before). line_fault (Entry F) d (face_fields (has_heights d.year) c.args.f))
    c.before_faces.ensures
