-- A sheet read without a record: all of its job but the faces, and these as plain numbers in a lent list.
use Rattle.std.specs.Prelude.{List, [], ℤ, pos, length, Result, Ok, Err}
use Rattle.whole.specs.Lists.{first_of}
use Rattle.verdict.specs.declared.Verdict.{Verdict}
use Rattle.entry.specs.declared.Face.{Face}
use Rattle.entry.specs.Flat.{flat_faces}
use Rattle.job.specs.Carried.{Carried, recorded}
use Rattle.job.specs.Setting.{setting_in}
use Rattle.job.specs.Walk.{Reading, Accepted, Refused}
use Rattle.sheet.specs.declared.read.Head.{Head}

-- the setting of what was read, and how many faces it has
abbrev pub head_in : Carried → Head
head_in c = record { setting = setting_in (recorded c); faces = length c.faces }

-- the same of a reading, or its refusal
abbrev pub head_of : Reading → Result Head Verdict
head_of (Accepted c) = Ok (head_in c)
head_of (Refused v) = Err v

abbrev pub faces_read : Reading → List Face
faces_read (Accepted c) = c.faces
faces_read (Refused v) = []

-- the lent list then: the faces' numbers in order, as far as there is room, and zeros behind them
abbrev pub flat_after : Reading → List ℤ → List ℤ
flat_after r lent = first_of (pos 0) (length lent) (flat_faces (faces_read r))
