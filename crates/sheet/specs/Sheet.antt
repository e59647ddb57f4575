-- What the text of a sheet says, and the text of a job: from bytes to lines of fields, from there to what the sheet
-- carries, and the same way back.
use Rattle.std.specs.Prelude.{ℕ, List, Err}
use Rattle.verdict.specs.Verdict.{accepted}
use Rattle.lines.specs.Lines.{lines_in, text_of_lines}
use Rattle.page.specs.Writing.{Writing, writing, buffer_after}
use Rattle.job.specs.Carried.{Carried, no_job, recorded}
use Rattle.job.specs.Lines.{lines_of}
use Rattle.job.specs.Walk.{Reading, Accepted, Refused, read_lines}
use Rattle.sheet.specs.declared.read.Read.{Read}

-- ---- read

-- what a text says, whatever its bytes
unfoldable pub reading : List ℕ → Reading
reading s = read_lines (lines_in s)

-- as an answer: a refusal with a record that is all zero, or the record of what was read
abbrev pub answer : Reading → Read
answer (Accepted c) = record { verdict = accepted; job = recorded c }
answer (Refused v) = record { verdict = v; job = no_job }

-- ---- written

unfoldable pub sheet_text : Carried → List ℕ
sheet_text c = text_of_lines (lines_of c)

-- a text about a job put into a buffer: the job's own refusal first, and then 7
abbrev pub job_writing : (Carried → List ℕ) → Reading → List ℕ → Writing
job_writing text (Accepted c) buf = writing (text c) buf
job_writing text (Refused v) buf = Err v

abbrev pub job_buffer : (Carried → List ℕ) → Reading → List ℕ → List ℕ
job_buffer text (Accepted c) buf = buffer_after (text c) buf
job_buffer text (Refused v) buf = buf
