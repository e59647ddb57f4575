-- The account of one face in the case of one report line: every step from the printed rows to the face's force, and
-- its newtons in the column.
use Rattle.std.specs.Prelude.{Ok, Err}
use Rattle.std.specs.Prelude.{cond, ℕ, ◌-◌, eqb, ℤ, pos, nat_abs, length, get_or}
use Rattle.verdict.specs.declared.Verdict.{Verdict}
use Rattle.verdict.specs.Verdict.{accepted, refusal}
use Rattle.building.specs.Test.{beyond}
use Rattle.book.specs.Answer.{Answer}
use Rattle.book.specs.Question.{outside_of, net}
use Rattle.entry.specs.declared.Wind.{Wind}
use Rattle.entry.specs.declared.Face.{Face}
use Rattle.job.specs.Carried.{Carried}
use Rattle.job.specs.Walk as walk
use Rattle.worst.specs.Forces.{Given, acts, outsides, face_speed, pressure, area, force, wind_at, internal_at, face_at}
use Rattle.worst.specs.Worst.{given, six_extremes}
use Rattle.answers.specs.declared.Extreme.{Extreme}
use Rattle.answers.specs.Answers.{host_line}
use Rattle.sharing.specs.Column.{column}
use Rattle.column.specs.Column.{axis_of, forces_shown}
use Rattle.account.specs.declared.Rows.{Rows}
use Rattle.account.specs.declared.Account.{Account}

-- ---- the coefficients of a face under a wind, all zero where it takes no part

abbrev pub no_rows : Rows
no_rows = record { lower = 0; upper = 0; part = 0; whole = 0 }

abbrev pub cited_rows : Answer → Rows
cited_rows (Ok c) = record { lower = c.lower; upper = c.upper; part = c.part; whole = c.whole }
cited_rows (Err v) = no_rows

abbrev pub rows_under : Carried → Wind → Face → Rows
rows_under c w f =
    cond (acts f w.direction) (cited_rows (outside_of c.year c.building w.direction f.zone)) no_rows

-- at its alternative k
abbrev pub outside_under : Given → Wind → Face → ℕ → ℤ
outside_under g w f k = cond (acts f w.direction) (get_or (outsides g w f) (k - 1) (pos 0)) (pos 0)

abbrev pub net_under : Given → Wind → ℤ → Face → ℕ → ℤ
net_under g w internal f k =
    cond (acts f w.direction) (net (get_or (outsides g w f) (k - 1) (pos 0)) internal) (pos 0)

-- ---- the account

-- of face k, from 1, in the case that a report line shows
unfoldable pub face_account : Carried → ℤ → Extreme → ℕ → Account
face_account c line e k =
    let g = given c in
    let w = wind_at g e.wind in
    let internal = internal_at g e.internal in
    let f = face_at g k in
    let a = get_or e.alternative (k - 1) 0 in
    let v = face_speed g.profile w f in
    record {
      verdict = accepted;
      zone = f.zone;
      alternative = a;
      rows = rows_under c w f;
      outside = outside_under g w f a;
      net = net_under g w internal f a;
      speed = v;
      pressure = pressure g.density v;
      area = area (axis_of line) f;
      force = force (axis_of line) g w internal f a;
      newtons = get_or (column (forces_shown (axis_of line) g e)) (k - 1) (pos 0);
    }

abbrev pub no_account : Verdict → Account
no_account v =
    record {
      verdict = v;
      zone = 0;
      alternative = 0;
      rows = no_rows;
      outside = pos 0;
      net = pos 0;
      speed = pos 0;
      pressure = pos 0;
      area = pos 0;
      force = pos 0;
      newtons = pos 0;
    }

-- 9 for no such face
abbrev pub account_on : Carried → ℤ → Extreme → ℤ → Account
account_on c line e face =
    cond (beyond (pos 1) (pos (length c.faces)) face) (no_account (refusal 9 0)) (face_account c line e (nat_abs face))

-- the job's own refusal, then 3 for a report line other than 1 to 6, then 9
unfoldable pub account_of : walk.Reading → ℤ → ℤ → Account
account_of (walk.Accepted c) line face =
    let e = host_line c.year (six_extremes c) line in
    cond (eqb e.verdict.number 0) (account_on c line e face) (no_account e.verdict)
account_of (walk.Refused v) line face = no_account v
