-- What comes of mending a text into two lent buffers, one for the mended text and one for the numbers of the list.
use Rattle.std.specs.Prelude.{ℕ, Bool, cond, ◌&&◌, List, ◌++◌, leb, length, drop}
use Rattle.verdict.specs.Verdict.{accepted, refusal}
use Rattle.job.specs.Walk.{verdict}
use Rattle.sheet.specs.Sheet.{reading}
use Rattle.mend.specs.declared.Mending.{Mending}
use Rattle.mend.specs.Mended.{mended}
use Rattle.mend.specs.Changes.{changes, as_numbers}

-- there is room for the text and for the list
abbrev pub room_for : (s out list : List ℕ) → Bool
room_for s out list = leb (length (mended s)) (length out) && leb (length (as_numbers (changes s))) (length list)

-- the text's length, how many changes there are, and what the mended text is told as a sheet
abbrev pub has_room : List ℕ → Mending
has_room s =
    record {
      verdict = accepted;
      length = length (mended s);
      changes = length (changes s);
      refused = verdict (reading (mended s));
    }

-- or else 7 with line 0
abbrev pub no_room : Mending
no_room = record { verdict = refusal 7 0; length = 0; changes = 0; refused = accepted }

abbrev pub mending_of : (s out list : List ℕ) → Mending
mending_of s out list = cond (room_for s out list) (has_room s) no_room

-- at the start of a buffer, and what is after it as it was; where it is refused, all as it was
abbrev pub filled : Bool → List ℕ → List ℕ → List ℕ
filled fits new old = cond fits (new ++ drop (length new) old) old

abbrev pub text_after : (s out list : List ℕ) → List ℕ
text_after s out list = filled (room_for s out list) (mended s) out

abbrev pub list_after : (s out list : List ℕ) → List ℕ
list_after s out list = filled (room_for s out list) (as_numbers (changes s)) list
