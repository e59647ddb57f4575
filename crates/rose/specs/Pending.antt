-- A line that is not ended, byte by byte: what any record comes to, whether a file came to it or not.
use Rattle.std.specs.Prelude.{ℕ, ◌+◌, ◌-◌, ◌*◌, Bool, cond, not, ◌&&◌, ltb, leb, eqb}
use Rattle.whole.specs.Digits.{is_digit}
use Rattle.rose.specs.Observation.{Said}
use Rattle.std.specs.Prelude.{Ok, Err}
use Rattle.rose.specs.declared.Misread.TheVariants.{OutOfForm, OutOfRange}
use Rattle.rose.specs.declared.Started.{Started}
use Rattle.rose.specs.declared.Pending.{Pending}
use Rattle.rose.specs.Observation.{together}

-- ---- a number that is not ended, by its kind: 0 nothing, 1 a minus sign, 2 digits, 3 both, 4 no number any more

abbrev pub started : ℕ → ℕ → Started
started kind value = record { kind = kind; value = value }

-- one digit more: there is none behind 0, nor behind seven digits
abbrev pub digit_more : Started → ℕ → Started
digit_more n d =
    cond (leb 1 n.value)
    (cond (ltb n.value 1000000) (started n.kind (n.value * 10 + d)) (started 4 0))
    (cond (eqb n.kind 0) (started 2 d)
    (cond (eqb n.kind 1) (cond (eqb d 0) (started 4 0) (started 3 d)) (started 4 0)))

-- a minus sign comes first
abbrev pub sign_more : Started → Started
sign_more n = cond (eqb n.kind 0) (started 1 0) (started 4 0)

abbrev pub number_more : Started → ℕ → Started
number_more n b = cond (is_digit b) (digit_more n (b - 48)) (cond (eqb b 45) (sign_more n) (started 4 0))

-- what it says if it ends here
abbrev pub number_says : ℕ → Started → Said
number_says top n =
    cond (eqb n.kind 2) (cond (leb n.value top) (Ok n.value) (Err OutOfRange))
    (cond (eqb n.kind 3) (Err OutOfRange) (Err OutOfForm))

-- ---- a line that is not ended, by its stage: 0 before its first space; behind it 1 with a direction, 2 with one out
-- of range, 3 with one out of form

abbrev pub pending_at : ℕ → ℕ → Started → Pending
pending_at stage direction last = record { stage = stage; direction = direction; last = last }

abbrev pub directed : Said → Pending
directed (Err OutOfForm) = pending_at 3 0 (started 0 0)
directed (Err OutOfRange) = pending_at 2 0 (started 0 0)
directed (Ok d) = pending_at 1 d (started 0 0)

-- one byte more, which is no LF
abbrev pub line_more : Pending → ℕ → Pending
line_more p b =
    cond (eqb b 32)
    (cond (eqb p.stage 0) (directed (number_says 359 p.last)) (pending_at p.stage p.direction (started 4 0)))
    (pending_at p.stage p.direction (number_more p.last b))

-- what it says if it ends here
abbrev pub first_says : ℕ → ℕ → Said
first_says stage direction = cond (eqb stage 1) (Ok direction) (cond (eqb stage 2) (Err OutOfRange) (Err OutOfForm))

abbrev pub pending_says : Pending → Said
pending_says p = together (first_says p.stage p.direction) (number_says 1000 p.last)

abbrev pub has_bytes : Pending → Bool
has_bytes p = not (eqb p.stage 0 && eqb p.last.kind 0)
