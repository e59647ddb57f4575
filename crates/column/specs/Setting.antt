-- A job whose faces come as a list: all else of it is its setting.
use Rattle.std.specs.Prelude.{List, [], map}
use Rattle.building.specs.Year.{has_heights}
use Rattle.entry.specs.declared.Face.{Face}
use Rattle.entry.specs.Says.{carried_face}
use Rattle.job.specs.Carried.{Carried, with_faces, carried}
use Rattle.job.specs.Lines.{lines_of}
use Rattle.job.specs.Walk.{Reading, read_lines}
use Rattle.job.specs.declared.Setting.{Setting}
use Rattle.job.specs.Setting.{record_with}
use Rattle.column.specs.Listed.{listed}

-- all that the sheet of a setting with these faces carries: what it carries without a face, and the faces
abbrev pub carried_with : Setting → List Face → Carried
carried_with s fs = with_faces (map (carried_face (has_heights s.year)) fs) (carried (record_with s (listed [])))

-- it gets the number and line that its sheet would get
unfoldable pub judged_with : Setting → List Face → Reading
judged_with s fs = read_lines (lines_of (carried_with s fs))
