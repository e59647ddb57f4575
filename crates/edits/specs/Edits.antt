-- An edit of a job: its refusals in their order, and the job after it.
use Rattle.std.specs.Prelude.{cond, ℕ, ◌+◌, eqb, ltb, ℤ, pos, nat_abs}
use Rattle.verdict.specs.declared.Verdict.{Verdict}
use Rattle.verdict.specs.Verdict.{accepted, refusal, ◌or_then◌}
use Rattle.building.specs.Test.{within, unless}
use Rattle.building.specs.Year.{has_heights, face_limit}
use Rattle.entry.specs.declared.Face.{Face}
use Rattle.entry.specs.Says.{carried_face}
use Rattle.entry_written.specs.Fields.{face_fields}
use Rattle.rules.specs.declared.Section.TheVariants.{F}
use Rattle.rules.specs.declared.Kind.TheVariants.{Entry}
use Rattle.rules.specs.Sections.{line_fault}
use Rattle.job.specs.declared.Job.{Job}
use Rattle.job.specs.declared.Faces.{Faces}
use Rattle.job.specs.Carried.{before, carried}
use Rattle.job.specs.Lines.{face_line}
use Rattle.job.specs.Walk.{verdict, judged}
use Rattle.edits.specs.declared.EditedJob.{EditedJob}
use Rattle.edits.specs.Faces.{added, replaced, taken_out}

-- faces count from 1, and any number may be asked for
pub data Edit : Type 0 where
  Add : Face → Edit
  Replace : ℤ → Face → Edit
  TakeOut : ℤ → Edit

-- ---- what an edit is refused for

-- "the held job's own as in 01"
abbrev pub held_job : Job → Verdict
held_job j = verdict (judged j)

-- "no such face 9"
abbrev pub no_such_face : ℤ → Job → Verdict
no_such_face k j = refusal (unless 9 (within (pos 1) (pos j.faces.count) k)) 0

-- "a full worksheet on add, or taking out the only face, 2": full by what a sheet of its year may have
abbrev pub full : Job → Verdict
full j = refusal (unless 2 (ltb j.faces.count (face_limit j.year))) 0

abbrev pub only_face : Job → Verdict
only_face j = refusal (unless 2 (ltb 1 j.faces.count)) 0

-- "the new face's own faults as in 01, with the line it would have in the sheet", as face k
abbrev pub new_face : ℕ → Face → Job → Verdict
new_face k f j =
    refusal (line_fault (Entry F) (before (carried j)) (face_fields (has_heights j.year) f)) (face_line (carried j) k)

unfoldable pub edit_verdict : Edit → Job → Verdict
edit_verdict (Add f) j = held_job j or_then full j or_then new_face (j.faces.count + 1) f j or_then accepted
edit_verdict (Replace k f) j = held_job j or_then no_such_face k j or_then new_face (nat_abs k) f j or_then accepted
edit_verdict (TakeOut k) j = held_job j or_then no_such_face k j or_then only_face j or_then accepted

-- ---- the job after it

-- a new face is held as the sheet of that year carries it
unfoldable pub edit_faces : Edit → Job → Faces
edit_faces (Add f) j = added (carried_face (has_heights j.year) f) j.faces
edit_faces (Replace k f) j = replaced (nat_abs k) (carried_face (has_heights j.year) f) j.faces
edit_faces (TakeOut k) j = taken_out (nat_abs k) j.faces

-- the same job with other faces
abbrev pub job_with : Faces → Job → Job
job_with r j =
    record {
      year = j.year;
      building = j.building;
      winds = j.winds;
      internals = j.internals;
      profile = j.profile;
      faces = r;
    }

-- a refused edit leaves the job the same
unfoldable pub edited_job : Edit → Job → EditedJob
edited_job e j =
    let v = edit_verdict e j in
    record { verdict = v; job = cond (eqb v.number 0) (job_with (edit_faces e j) j) j }
