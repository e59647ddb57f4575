-- The rose of a file: its lines counted by cell up to the first that is refused.
use Rattle.std.specs.Prelude.{ℕ, ◌+◌, cond, List, [], ◌∷◌, ltb, eqb, get_or, set, replicate}
use Rattle.verdict.specs.Verdict.{accepted, refusal}
use Rattle.field.specs.declared.Field.{Field}
use Rattle.lines.specs.Lines.{lines_in}
use Rattle.rose.specs.Observation.{Said}
use Rattle.std.specs.Prelude.{Ok, Err}
use Rattle.rose.specs.declared.Misread.TheVariants.{OutOfForm, OutOfRange}
use Rattle.rose.specs.declared.Pending.{Pending}
use Rattle.rose.specs.declared.Rose.{Rose}
use Rattle.rose.specs.Observation.{line_says, cell_in}

-- how many lines a rose accepts
abbrev pub most_lines : ℕ
most_lines = 1000000

-- no byte of a line that is not ended
abbrev pub no_bytes : Pending
no_bytes = record { stage = 0; direction = 0; last = record { kind = 0; value = 0 } }

-- a new rose
abbrev pub no_lines : Rose
no_lines = record { verdict = accepted; accepted = 0; cell = replicate 208 0; closed = 0; pending = no_bytes }

-- One more. The greatest number that the record can hold stays; no file comes to it.
abbrev pub one_more : ℕ → ℕ
one_more x = cond (ltb x 4294967295) (x + 1) x

-- a line counted in cell k
abbrev pub counted_in : Rose → ℕ → Rose
counted_in r k =
    record {
      verdict = r.verdict;
      accepted = one_more r.accepted;
      cell = set r.cell k (one_more (get_or r.cell k 0));
      closed = 0;
      pending = no_bytes;
    }

-- the line after the accepted ones refused with number n
abbrev pub refused_at : List ℕ → ℕ → ℕ → Rose
refused_at cell count n =
    record {
      verdict = refusal n (one_more count);
      accepted = count;
      cell = cell;
      closed = 1;
      pending = no_bytes;
    }

-- "form 1, then range 3, then 11 for a good line after 1,000,000 accepted ones"; 0 where the line is accepted
abbrev pub fault_in : Said → ℕ
fault_in (Err OutOfForm) = 1
fault_in (Err OutOfRange) = 3
fault_in (Ok k) = 0

abbrev pub fault_after : ℕ → Said → ℕ
fault_after count x = cond (eqb (fault_in x) 0) (cond (ltb count most_lines) 0 11) (fault_in x)

-- a line, by what it says
abbrev pub line_judged : Rose → Said → Rose
line_judged r x =
    cond (eqb (fault_after r.accepted x) 0) (counted_in r (cell_in x))
    (refused_at r.cell r.accepted (fault_after r.accepted x))

-- nothing is taken by a rose that is closed
abbrev pub while_open : Rose → Rose → Rose
while_open r next = cond (eqb r.closed 0) next r

-- lines in order
unfoldable pub lines_judged : Rose → List (List Field) → Rose
lines_judged r [] = r
lines_judged r (l ∷ ls) = lines_judged (while_open r (line_judged r (line_says l))) ls

-- the end
abbrev pub shut : Rose → Rose
shut r = record { verdict = r.verdict; accepted = r.accepted; cell = r.cell; closed = 1; pending = no_bytes }

-- The rose of a file as a whole; `lines_in` has a line that is not ended as one out of form.
unfoldable pub rose_of : List ℕ → Rose
rose_of file = shut (lines_judged no_lines (lines_in file))
