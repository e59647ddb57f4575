-- Where the first fault of a sheet lies, and what may stand there.
use Rattle.std.specs.Prelude.{ℕ, zero, suc, ◌+◌, ◌-◌, min, cond, List, [], ◌∷◌, ◌++◌, ltb, eqb, pos, length, get_or}
use Rattle.std.specs.Prelude.{Option, None, Some, take, drop}
use Rattle.verdict.specs.declared.Verdict.{Verdict}
use Rattle.field.specs.declared.Field.{Field}
use Rattle.lines.specs.Lines.{split, fields_of, lines_in}
use Rattle.building.specs.declared.Spot.{Spot}
use Rattle.building.specs.Fault.{spot}
use Rattle.rules.specs.declared.Before.{Before}
use Rattle.rules.specs.declared.Kind.{Kind}
use Rattle.rules.specs.declared.Kind.TheVariants.{Count, Entry}
use Rattle.rules.specs.Sections.{about, line_spot}
use Rattle.job.specs.Carried.{Carried, nothing, before}
use Rattle.job.specs.Walk.{calls, learn, verdict, opening, sheet}
use Rattle.sheet.specs.Sheet.{reading}
use Rattle.slip.specs.declared.parts.Part.{Part}
use Rattle.slip.specs.declared.reach.Reached.{Reached}
use Rattle.slip.specs.declared.Slip.{Slip}

-- ---- the parts of a text, a byte between them

-- where part i begins, from 0: behind those before it
unfoldable pub start_of : ℕ → List (List ℕ) → ℕ
start_of zero ps = 0
start_of (suc i) [] = 0
start_of (suc i) (p ∷ ps) = suc (length p) + start_of i ps

-- from its first byte up to that behind its last; at the end of the text where there is no such part
unfoldable pub part_of : ℕ → ℕ → List ℕ → Part
part_of b i s =
    record {
      from = min (start_of i (split b s)) (length s);
      to = min (start_of i (split b s)) (length s) + length (get_or (split b s) i []);
    }

abbrev pub bytes_of : Part → List ℕ → List ℕ
bytes_of p s = take (p.to - p.from) (drop p.from s)

-- ---- what was called for

abbrev pub called : List Kind → Option Kind
called [] = None
called (k ∷ ks) = Some k

-- so many entries of a section were read, with this line
abbrev pub read_with : Kind → ℕ → ℕ
read_with (Count s) n = 0
read_with (Entry s) n = n + 1

-- behind the first n lines: the line that is called for, what it is judged by, and how many entries of its section
-- were read
unfoldable pub behind : ℕ → List Kind → Carried → ℕ → List (List Field) → Reached
behind zero ks c read xs = record { called = called ks; before = before c; read = read }
behind (suc n) [] c read xs = record { called = None; before = before c; read = read }
behind (suc n) (k ∷ ks) c read [] = record { called = Some k; before = before c; read = read }
behind (suc n) (k ∷ ks) c read (x ∷ xs) = behind n (calls k x ++ ks) (learn k x c) (read_with k read) xs

abbrev pub reached_in : ℕ → List ℕ → Reached
reached_in n s = behind n (sheet (opening (lines_in s))) nothing 0 (lines_in s)

-- the letter of its section, and its number there
abbrev pub section_of : Option Kind → ℕ
section_of None = 0
section_of (Some (Count s)) = (about s).letter
section_of (Some (Entry s)) = (about s).letter

abbrev pub entry_of : Option Kind → ℕ → ℕ
entry_of None read = 0
entry_of (Some (Count s)) read = 0
entry_of (Some (Entry s)) read = read + 1

-- ---- where the line has its fault

-- a line that was called for, by its bytes
abbrev pub called_spot : Option Kind → Before → List ℕ → Spot
called_spot None b l = spot 0
called_spot (Some k) b l = line_spot k b (fields_of l)

-- a line that no LF ends is at fault as a whole
unfoldable pub spot_in : Reached → Part → List ℕ → Spot
spot_in r line s = cond (ltb line.to (length s)) (called_spot r.called r.before (bytes_of line s)) (spot 0)

-- the bytes of a field of it, from 1; of the line as a whole with 0
unfoldable pub bytes_at : ℕ → Part → List ℕ → Part
bytes_at zero line l = line
bytes_at (suc i) line l =
    record { from = line.from + (part_of 32 i l).from; to = line.from + (part_of 32 i l).to }

-- ---- the whole of it

abbrev pub no_slip : Slip
no_slip =
    record {
      number = 0;
      line = 0;
      section = 0;
      entry = 0;
      field = 0;
      from = 0;
      to = 0;
      least = pos 0;
      greatest = pos 0;
    }

abbrev pub told : Verdict → Reached → Spot → Part → Slip
told v r p bytes =
    record {
      number = v.number;
      line = v.line;
      section = section_of r.called;
      entry = entry_of r.called r.read;
      field = p.field;
      from = bytes.from;
      to = bytes.to;
      least = p.least;
      greatest = p.greatest;
    }

-- on this line of a text
unfoldable pub slip_on : Verdict → Reached → Part → List ℕ → Slip
slip_on v r line s =
    told v r (spot_in r line s) (bytes_at (spot_in r line s).field line (bytes_of line s))

-- of a text with this verdict
unfoldable pub slip_with : Verdict → List ℕ → Slip
slip_with v s =
    cond (eqb v.number 0) no_slip (slip_on v (reached_in (v.line - 1) s) (part_of 10 (v.line - 1) s) s)

unfoldable pub slip_of : List ℕ → Slip
slip_of s = slip_with (verdict (reading s)) s
