-- A text put into a lent buffer: what the answer is, and what the buffer then holds.
use Rattle.std.specs.Prelude.{◌≡◌, ℕ, ◌+◌, min, cond, List, ◌++◌, leb, length, drop, Result, Ok, Err}
use Rattle.std.proofs.lemmas.List.Edits.{sets}
use Rattle.verdict.specs.declared.Verdict.{Verdict}
use Rattle.verdict.specs.Verdict.{refusal}

-- the text's length, or a refusal
abbrev pub Writing : Type 0
Writing = Result ℕ Verdict

-- 7 with line 0 exactly if the text is longer than the buffer
abbrev pub writing : List ℕ → List ℕ → Writing
writing text buf = cond (leb (length text) (length buf)) (Ok (length text)) (Err (refusal 7 0))

-- the text (or list) at the start, and what stood after it as it was; where it is refused, all as it was
abbrev pub buffer_after : {A : Type 0} → List A → List A → List A
buffer_after text buf = cond (leb (length text) (length buf)) (text ++ drop (length text) buf) buf

-- A text put into the bytes `before` from the place `at` on, as far as there is room: `after` is what they are then,
-- and `next` the
-- place after it. What finds no room is dropped.
pub record Put (before : List ℕ) (at : ℕ) (text : List ℕ) (after : List ℕ) (next : ℕ) : Type 0 where
  pub end : next ≡ min (at + length text) (length before)
  pub bytes : after ≡ sets before at text
