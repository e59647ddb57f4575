-- What it is for a text to be written into a lent buffer: "refused with 7, line 0, exactly if .. the text is longer
-- than the buffer. Otherwise the text stands at the buffer's start, its length is the answer, and the bytes after it
-- stay as they were."
use Rattle.std.specs.Prelude.{◌≡◌, List, ◌++◌, ℕ, ◌≤◌, ◌<◌, length, drop, Ok, Err}
use Rattle.verdict.specs.Verdict.{refusal}
use Rattle.page.specs.Writing.{Writing}

pub data Written (text before after : List ℕ) : Writing → Type 0 where
  put : length text ≤ length before → after ≡ text ++ drop (length text) before
      → Written text before after (Ok (length text))
  longer : length before < length text → after ≡ before → Written text before after (Err (refusal 7 0))
