-- A sheet opened as a worksheet, and the worksheet after an edit.
use Rattle.std.specs.Prelude.{cond, eqb}
use Rattle.verdict.specs.Verdict.{accepted}
use Rattle.job.specs.Carried.{recorded, no_job}
use Rattle.job.specs.Walk.{Reading, Accepted, Refused}
use Rattle.worst.specs.Stored.{stored_of, none_stored}
use Rattle.edits.specs.Edits.{Edit, edit_verdict, edit_faces, job_with}
use Rattle.worksheet.specs.declared.Worksheet.{Worksheet}
use Rattle.worksheet.specs.declared.Edited.{Edited}
use Rattle.worksheet.specs.Kept.{sums_after}

-- its sums reckoned from its faces; all zero where the sheet is refused
abbrev pub opened : Reading → Edited
opened (Accepted c) =
    record { verdict = accepted; worksheet = record { job = recorded c; sums = stored_of c } }
opened (Refused v) = record { verdict = v; worksheet = record { job = no_job; sums = none_stored } }

-- after an edit that is not refused
abbrev pub after : Edit → Worksheet → Worksheet
after e w = record { job = job_with (edit_faces e w.job) w.job; sums = sums_after e w }

-- a refused edit leaves the worksheet the same
unfoldable pub edited : Edit → Worksheet → Edited
edited e w =
    let v = edit_verdict e w.job in
    record { verdict = v; worksheet = cond (eqb v.number 0) (after e w) w }
