-- `put_fields` meets its contract: after i fields their text is put, with a space before each but the first.
use Prim.Native.Nat.{ℕ}
use mathlib.Core.Path.{◌≡◌}
use mathlib.Core.List.{List}
use lib.ListN.{length, take}
use Rattle.lines.specs.Lines.{line_text}
use Rattle.lines.specs.Held.{held}
use Rattle.page.specs.Writing.{Put}
use Rattle.lines_written.proofs.put_fields.Given as goal

-- the loop begins with the second field: whatever the first was put into, the first i fields now stand there
abbrev pub invariant-loop-i : goal.invariant-loop-i
invariant-loop-i l =
    (l.n ≡ length (held l.x))
    × ((b : List ℕ) (a : ℕ) → Put b a (line_text (take 1 (held l.x))) l.initial.buf l.initial.next
    → Put b a (line_text (take l.i (held l.x))) l.buf l.next)
