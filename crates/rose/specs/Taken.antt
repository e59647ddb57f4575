-- A rose under way: what any record comes to with a byte, a part or the end of a file.
use Rattle.std.specs.Prelude.{ℕ, cond, List, [], ◌∷◌, eqb}
use Rattle.rose.specs.declared.Pending.{Pending}
use Rattle.rose.specs.declared.Rose.{Rose}
use Rattle.rose.specs.Rose.{refused_at, line_judged, while_open, shut}
use Rattle.rose.specs.Pending.{line_more, pending_says, has_bytes}

abbrev pub pending_in : Rose → Pending → Rose
pending_in r p =
    record { verdict = r.verdict; accepted = r.accepted; cell = r.cell; closed = r.closed; pending = p }

-- a line is judged at its LF
abbrev pub byte_taken : Rose → ℕ → Rose
byte_taken r b =
    while_open r
    (cond (eqb b 10) (line_judged r (pending_says r.pending)) (pending_in r (line_more r.pending b)))

unfoldable pub part_taken : Rose → List ℕ → Rose
part_taken r [] = r
part_taken r (b ∷ s) = part_taken (byte_taken r b) s

-- a line that is not ended counts for nothing and is out of form
unfoldable pub end_taken : Rose → Rose
end_taken r = while_open r (cond (has_bytes r.pending) (refused_at r.cell r.accepted 1) (shut r))
